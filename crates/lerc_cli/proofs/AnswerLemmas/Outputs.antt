-- What a command leaves of its source and its output, by how it ends.
use Rattle.std.proofs.Common.{◌≡◌, ℕ, ◌≤◌, List, [], Option, Ok, Err, refl, sym, ap, subst, arith}
use Rattle.std.specs.Prelude.{◌≢◌, IsTrue, IsFalse, OnOk}
use Rattle.outside_io.specs.streams.Faults.{FailedBetween, IsCause}
use Rattle.outside_io.specs.streams.Sink.{Holds, HoldsPrefix}
use Rattle.outside_io.specs.streams.Source.{IsAtEnd}
use Rattle.outside_io.proofs.StreamLemmas.Gives.{Holds_none}
use Rattle.program_ends.specs.Moves.{Change, SinkMove, SourceMove, sink_move}
use Rattle.lerc_cli.specs.declared.words.Command.{Command}
use Rattle.lerc_cli.specs.declared.words.Command.TheVariants.{Encode, Decode, Info, Build, Put, Get, GetRaw, List as ListAll, Check, Recover, Sample}
use Rattle.opened_bundle.specs.declared.refusal.StoreRefusal.{StoreRefusal}
use Rattle.lerc_cli.specs.declared.refusal.StreamRefusal.{StreamRefusal}
use Rattle.program_ends.specs.declared.stop.Stop.{Stop}
use Rattle.lerc_cli.specs.declared.refusal.Refusal.{Refusal}
use Rattle.program_ends.specs.declared.stop.Stop.TheVariants.{Usage, Refused, Source, Output, Volume, OutOfMemory}
use Rattle.lerc_cli.specs.declared.refusal.Refusal.TheVariants.{Input, Store, Stream}
use Rattle.lerc_cli.specs.words.Commands.{reads_source, calls_volume}
use Rattle.lerc_cli.specs.answers.Names.{End, status_at}
use Rattle.lerc_cli.specs.inputs.Given.{Given}
use Rattle.lerc_cli.specs.answers.Table.{Answers, IsRefusal}
use Rattle.program_ends.specs.Stop.{Gained}
use Rattle.lerc_cli.specs.run.Run.{OfOutput, OfSource, TakesFor}

-- ---- the output

gained_none : (stop : Stop Refusal) (held : Change (Option (List ℕ))) → (stop ≡ Output → ⊥) → Holds held.old held.new [] → Gained {R = Refusal} (Err stop) held []
gained_none Usage held other none = none
gained_none Source held other none = none
gained_none Output held other none = absurd (other refl)
gained_none Volume held other none = none
gained_none OutOfMemory held other none = none
gained_none (Refused r) held other none = none

gained : (stop : Stop Refusal) (held : Change (Option (List ℕ))) → (stop ≡ Output → ⊥) → held.new ≡ held.old → Gained {R = Refusal} (Err stop) held []
gained stop held other same = gained_none stop held other (subst (λ (x : Option (List ℕ)). Holds held.old x []) (sym same) (Holds_none held.old))

-- it stopped before the output
pub stopped : (c : Command) (g : Given) (K : Type 0) (held : K → Option (List ℕ)) (faults : K → ℕ) (out out_new : K) (stop : Stop Refusal)
    → Answers c g 0 (Err stop) [] → out_new ≡ out → (stop ≡ Output → ⊥) → OfOutput c g 0 (Err stop) (sink_move held faults out out_new)
stopped c g K held faults out out_new stop ends same other = record {
  cause = record {
    counts = (let e : faults out_new ≡ faults out = ap faults same in omega arith);
    failed = λ is. absurd (other (let e : stop ≡ Output = cc in e));
    rose = λ rose. (let e : faults out_new ≡ faults out = ap faults same in absurd (omega arith));
  };
  gave = ([], (ends, gained stop (record { old = held out; new = held out_new }) other (ap held same)));
  idle = λ _. same;
}

-- it has given all
pub gave : (c : Command) (g : Given) (output : List ℕ) (sink : SinkMove)
    → Answers c g 0 (Ok tt) output → Holds sink.held.old sink.held.new output → sink.faults.new ≡ sink.faults.old → OfOutput c g 0 (Ok tt) sink
gave c g output sink ends holds count = record {
  cause = record { counts = omega (arith, count); failed = λ e. absurd cc; rose = λ rose. absurd (omega (arith, count, rose)) };
  gave = (output, (ends, holds));
  idle = λ never. absurd never;
}

-- the output failed
pub cut : (c : Command) (g : Given) (output : List ℕ) (sink : SinkMove)
    → Answers c g 0 (Err Output) output → HoldsPrefix sink.held.old sink.held.new output → sink.faults.old ≤ sink.faults.new → FailedBetween sink.faults.old sink.faults.new → OfOutput c g 0 (Err Output) sink
cut c g output sink ends holds counts failed = record {
  cause = record { counts = counts; failed = λ e. failed; rose = λ rose. refl };
  gave = (output, (ends, holds));
  idle = λ never. absurd never;
}

-- ---- the source

-- it was read to its end, and did not fail
pub source_read : (c : Command) (P : Type 0) (end : End) (src : SourceMove) → IsTrue (reads_source c) → (P → ⊥) → (end ≡ Err Source → ⊥)
    → IsCause P src.faults.old src.faults.new → TakesFor c src.left.old src.left.new → IsAtEnd src.left.new → OfSource c end src
source_read c P end src reads never other cause taken ends = record {
  cause = record { counts = cause.counts; failed = λ e. absurd (other e); rose = λ rose. absurd (never (cause.rose rose)) };
  taken = taken;
  whole = λ _ _. ends;
  idle = λ none. absurd cc;
}

-- it was read, and the command ends as the reader stopped
pub source_stopped : (c : Command) (stop : Stop Refusal) (src : SourceMove) → IsTrue (reads_source c)
    → IsCause (stop ≡ Source) src.faults.old src.faults.new → TakesFor c src.left.old src.left.new → OfSource c (Err stop) src
source_stopped c stop src reads cause taken = record {
  cause = record { counts = cause.counts; failed = λ e. cause.failed (let is : stop ≡ Source = cc in is); rose = λ rose. ap (λ s. Err s) (cause.rose rose) };
  taken = taken;
  whole = λ _ is. absurd cc;
  idle = λ none. absurd cc;
}

-- ---- a run that gave nothing

-- the store refuses no command that does not call the volume
no_store : (c : Command) (g : Given) (n : ℕ) (r : StoreRefusal) → IsFalse (calls_volume c) → IsRefusal c g n (Refused (Store r)) → ⊥
no_store (Encode version error) g n r calls is = is
no_store Decode g n r calls is = is
no_store Info g n r calls is = is
no_store (Build version error workers) g n r calls is = cc
no_store (Put version error workers) g n r calls is = cc
no_store (Get slot) g n r calls is = cc
no_store (GetRaw slot) g n r calls is = cc
no_store ListAll g n r calls is = cc
no_store Check g n r calls is = cc
no_store Recover g n r calls is = cc
no_store (Sample first count) g n r calls is = is

-- nor does its input have too many tiles, or one too large
no_stream : (c : Command) (g : Given) (n : ℕ) (r : StreamRefusal) → IsFalse (calls_volume c) → IsRefusal c g n (Refused (Stream r)) → ⊥
no_stream (Encode version error) g n r calls is = is
no_stream Decode g n r calls is = is
no_stream Info g n r calls is = is
no_stream (Build version error workers) g n r calls is = cc
no_stream (Put version error workers) g n r calls is = cc
no_stream (Get slot) g n r calls is = cc
no_stream (GetRaw slot) g n r calls is = cc
no_stream ListAll g n r calls is = cc
no_stream Check g n r calls is = cc
no_stream Recover g n r calls is = cc
no_stream (Sample first count) g n r calls is = is

pub nothing_given : (c : Command) (g : Given) (n status : ℕ) (end : End) (sink : SinkMove)
    → IsFalse (calls_volume c) → status ≡ status_at end → status ≢ 0 → status ≢ 4 → OfOutput c g n end sink → sink.same
nothing_given c g n status (Ok x) sink calls is zero four out = absurd (zero is)
nothing_given c g n status (Err Usage) sink calls is zero four out = out.idle tt
nothing_given c g n status (Err (Refused (Input r))) sink calls is zero four out = out.idle tt
nothing_given c g n status (Err Source) sink calls is zero four out = out.idle tt
nothing_given c g n status (Err Output) sink calls is zero four out = absurd (four is)
nothing_given c g n status (Err Volume) sink calls is zero four out = absurd (let never = out.gave.1.0.0 in cc)
nothing_given c g n status (Err OutOfMemory) sink calls is zero four out = out.idle tt
nothing_given c g n status (Err (Refused (Store r))) sink calls is zero four out = absurd (no_store c g n r calls out.gave.1.0.0)
nothing_given c g n status (Err (Refused (Stream r))) sink calls is zero four out = absurd (no_stream c g n r calls out.gave.1.0.0)

pub on_ok : {P : Type 0} (end : End) → end ≡ Ok tt → OnOk end P → P
on_ok {P} end is said = let here : OnOk {T = Unit {0}} {E = Stop Refusal} (Ok tt) P = subst (λ (e : End). OnOk e P) is said in here
