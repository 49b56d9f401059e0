-- What a command leaves of its source and its output, by how it ends, and what follows.
use Rattle.std.proofs.Common.{◌≡◌, ◌⊎◌, ◌↔◌, ℕ, ◌≤◌, List, [], Option, Some, None, Result, Ok, Err, refl, sym, ap, subst, ◌∙◌, arith, inl, inr}
use Rattle.std.specs.Prelude.{IfErr, IfSome}
use Rattle.outside_io.specs.streams.Faults.{FailedBetween}
use Rattle.outside_io.specs.streams.Sink.{Holds, HoldsPrefix}
use Rattle.outside_io.proofs.StreamLemmas.Gives.{Holds_none}
use Rattle.raster_cells.specs.declared.kind.PixelType.{PixelType}
use Rattle.raster_values.specs.Raster.{IsRaster}
use Rattle.program_ends.specs.Moves.{Change, SinkMove, SourceMove, sink_move}
use Rattle.program_ends.specs.Stop.{Gained}
use Rattle.program_ends.specs.declared.stop.Stop.{Stop}
use Rattle.program_ends.specs.declared.stop.Stop.TheVariants.{Usage, Refused, Source, Output, Volume, OutOfMemory}
use Rattle.ascii_grid.specs.declared.fault.AsciiStop.{AsciiStop}
use Rattle.ascii_grid.specs.declared.fault.AsciiStop.TheVariants.{Fault, Source as SourceOf, OutOfMemory as MemoryOf}
use Rattle.ascii_grid.specs.declared.grid.AsciiGrid.{AsciiGrid}
use Rattle.ascii_grid.specs.Canon.{IsLawful, canon}
use Rattle.ascii_grid.specs.Lga.{IsLga, lga_of}
use Rattle.ascii_grid.specs.Stopping.{CountsStop}
use Rattle.ascii_grid.specs.Text.{AsciiRead, IsAscii}
use Rattle.ascii_grid.proofs.CanonSteps.{canon_is}
use Rattle.ascii_grid.proofs.LgaLaws.{lga_has_no_fault, lga_is_lawful, lga_stands, one_lga}
use Rattle.ascii_grid.proofs.OneFault.{no_fault}
use Rattle.ascii_grid.proofs.OneText.{one_grid}
use Rattle.ascii_cli.specs.declared.refusal.Refusal.{Refusal}
use Rattle.ascii_cli.specs.declared.words.Command.{Command}
use Rattle.ascii_cli.specs.declared.words.Command.TheVariants.{Split, Join}
use Rattle.ascii_cli.specs.Names.{End, GivesLineOf, status_at, stop_of}
use Rattle.ascii_cli.specs.Run.{Answers, IsStopFor, OfOutput, OfSource, Reads, SplitsToJoin, TellsFirst, first_fault, gives}
use Rattle.ascii_cli.proofs.Ended.{ok_at, refused_at}

-- ---- the output

gained_none : (stop : Stop Refusal) (held : Change (Option (List ℕ))) → (stop ≡ Output → ⊥) → Holds held.old held.new [] → Gained {R = Refusal} (Err stop) held []
gained_none Usage held other none = none
gained_none Source held other none = none
gained_none Output held other none = absurd (other refl)
gained_none Volume held other none = none
gained_none OutOfMemory held other none = none
gained_none (Refused r) held other none = none

gained : (stop : Stop Refusal) (held : Change (Option (List ℕ))) → (stop ≡ Output → ⊥) → held.new ≡ held.old → Gained {R = Refusal} (Err stop) held []
gained stop held other same = gained_none stop held other (subst (λ (x : Option (List ℕ)). Holds held.old x []) (sym same) (Holds_none held.old))

-- no grid was read
pub unread : (c : Command) (input : Option (List ℕ)) (K : Type 0) (held : K → Option (List ℕ)) (faults : K → ℕ) (out : K) (e : AsciiStop) → IsStopFor c input e → OfOutput c input (Err (stop_of e)) (sink_move held faults out out)
unread c input K held faults out e stops = record {
  cause = record {
    counts = (let same : faults out ≤ faults out = omega arith in same);
    failed = λ is. absurd (other e (let s : stop_of e ≡ Output = cc in s));
    rose = λ rose. absurd (omega (arith, rose));
  };
  gave = ([], (answers e stops, gained (stop_of e) (record { old = held out; new = held out }) (other e) refl));
  idle = λ _. refl;
}
  where
    other : (x : AsciiStop) → stop_of x ≡ Output → ⊥
    other (Fault f) is = cc
    other SourceOf is = cc
    other MemoryOf is = cc

    answers : (x : AsciiStop) → IsStopFor c input x → Answers c input (Err (stop_of x)) []
    answers (Fault f) first = (first, refl)
    answers SourceOf first = refl
    answers MemoryOf first = refl

-- a text that is none
pub text_refused : (result : Result AsciiGrid AsciiStop) (left : Option (List ℕ)) (kind : PixelType) → IfSome left (λ text. AsciiRead result kind text) → IfErr result (λ e. IsStopFor (Split kind) left e)
text_refused (Ok g) left kind h = tt
text_refused (Err (Fault f)) None kind h = tt
text_refused (Err (Fault f)) (Some text) kind h = h
text_refused (Err SourceOf) left kind h = tt
text_refused (Err MemoryOf) left kind h = tt

-- it has given all
pub gave : (c : Command) (input : Option (List ℕ)) (g : AsciiGrid) (sink : SinkMove) → IsLawful g → IsRaster g.raster → Reads c input g → Holds sink.held.old sink.held.new (gives c g) → sink.faults.new ≡ sink.faults.old → OfOutput c input (Ok tt) sink
gave c input g sink lawful raster reads holds count = record {
  cause = record { counts = omega (arith, count); failed = λ e. absurd cc; rose = λ rose. absurd (omega (arith, count, rose)) };
  gave = (gives c g, ((g, (lawful, (raster, (reads, refl)))), holds));
  idle = λ never. absurd never;
}

-- the output failed
pub cut : (c : Command) (input : Option (List ℕ)) (g : AsciiGrid) (sink : SinkMove) → IsLawful g → IsRaster g.raster → Reads c input g → HoldsPrefix sink.held.old sink.held.new (gives c g) → (sink.faults.old ≤ sink.faults.new) × FailedBetween sink.faults.old sink.faults.new
    → OfOutput c input (Err Output) sink
cut c input g sink lawful raster reads holds failed = record {
  cause = record { counts = failed.0; failed = λ e. failed.1; rose = λ rose. refl };
  gave = (gives c g, ((g, (lawful, (raster, (reads, refl)))), holds));
  idle = λ never. absurd never;
}

-- ---- the source

pub source_stopped : (e : AsciiStop) (src : SourceMove) → CountsStop {X = AsciiGrid} (Err e) src.faults.old src.faults.new → OfSource (Err (stop_of e)) src
source_stopped (Fault f) src same = record { cause = record { counts = omega (arith, same); failed = λ e. absurd cc; rose = λ rose. absurd (omega (arith, same, rose)) } }
source_stopped SourceOf src failed = record { cause = record { counts = failed.0; failed = λ e. failed.1; rose = λ rose. refl } }
source_stopped MemoryOf src same = record { cause = record { counts = omega (arith, same); failed = λ e. absurd cc; rose = λ rose. absurd (omega (arith, same, rose)) } }

pub source_whole : (end : End) (src : SourceMove) → (end ≡ Err Source → ⊥) → src.faults.new ≡ src.faults.old → OfSource end src
source_whole end src other same = record { cause = record { counts = omega (arith, same); failed = λ e. absurd (other e); rose = λ rose. absurd (omega (arith, same, rose)) } }

-- ---- what follows of an end

pub never_usage : (c : Command) (input : Option (List ℕ)) (end : End) (sink : SinkMove) → OfOutput c input end sink → end ≡ Err Usage → ⊥
never_usage c input end sink out is =
    let none : Answers c input (Err Usage) out.gave.0 = subst (λ (x : End). Answers c input x out.gave.0) is out.gave.1.0 in none

pub well : (c : Command) (input : Option (List ℕ)) (end : End) (status : ℕ) (sink : SinkMove) → status ≡ status_at end → status ≡ 0 → OfOutput c input end sink → (g : AsciiGrid) × (Reads c input g × (Holds sink.held.old sink.held.new (gives c g) × (IsLawful g × IsRaster g.raster)))
well c input end status sink is zero out =
    let same : end ≡ Ok tt = ok_at end (sym is ∙ zero) in
    let answers : Answers c input (Ok tt) out.gave.0 = subst (λ (x : End). Answers c input x out.gave.0) same out.gave.1.0 in
    let gained_ : Gained {R = Refusal} (Ok tt) sink.held out.gave.0 = subst (λ (x : End). Gained x sink.held out.gave.0) same out.gave.1.1 in
    let holds = subst (λ (u : List ℕ). Holds sink.held.old sink.held.new u) answers.1.1.1.1 gained_ in
    (answers.0, (answers.1.1.1.0, (holds, (answers.1.0, answers.1.1.0))))

pub refused : (c : Command) (input : List ℕ) (end : End) (status : ℕ) (sink err : SinkMove) → status ≡ status_at end → status ≡ 2 → OfOutput c (Some input) end sink → GivesLineOf end err → sink.same × TellsFirst (first_fault c input) err
refused c input end status sink err is two out line =
    let r = refused_at end (sym is ∙ two) in
    let answers : Answers c (Some input) (Err (Refused r.0)) out.gave.0 = subst (λ (x : End). Answers c (Some input) x out.gave.0) r.1 out.gave.1.0 in
    let said : GivesLineOf (Err (Refused r.0)) err = subst (λ (x : End). GivesLineOf x err) r.1 line in
    (idle_of (subst (λ (x : End). OfOutput c (Some input) x sink) r.1 out), (r.0.fault, (answers.0, said)))
  where
    idle_of : {r : Refusal} → OfOutput c (Some input) (Err (Refused r)) sink → sink.same
    idle_of o = o.idle tt

pub text_exactly : (kind : PixelType) (text : List ℕ) (end : End) (status : ℕ) (sink : SinkMove) → status ≡ status_at end → OfOutput (Split kind) (Some text) end sink → (status ≡ 0) ⊎ (status ≡ 2) → (status ≡ 0) ↔ ((g : AsciiGrid) × IsAscii text kind g)
text_exactly kind text end status sink is out (inl zero) = (λ z. let w = well (Split kind) (Some text) end status sink is zero out in (w.0, w.1.0), λ h. zero)
text_exactly kind text end status sink is out (inr two) =
    let r = refused_at end (sym is ∙ two) in
    let answers : Answers (Split kind) (Some text) (Err (Refused r.0)) out.gave.0 = subst (λ (x : End). Answers (Split kind) (Some text) x out.gave.0) r.1 out.gave.1.0 in
    (λ z. absurd (omega (arith, z, two)), λ h. absurd (no_fault kind text h.0 r.0.fault.place r.0.fault.reason h.1 answers.0))

pub lga_exactly : (bytes : List ℕ) (end : End) (status : ℕ) (sink : SinkMove) → status ≡ status_at end → OfOutput Join (Some bytes) end sink → (status ≡ 0) ⊎ (status ≡ 2) → (status ≡ 0) ↔ ((g : AsciiGrid) × IsLga bytes g)
lga_exactly bytes end status sink is out (inl zero) = (λ z. let w = well Join (Some bytes) end status sink is zero out in (w.0, w.1.0), λ h. zero)
lga_exactly bytes end status sink is out (inr two) =
    let r = refused_at end (sym is ∙ two) in
    let answers : Answers Join (Some bytes) (Err (Refused r.0)) out.gave.0 = subst (λ (x : End). Answers Join (Some bytes) x out.gave.0) r.1 out.gave.1.0 in
    (λ z. absurd (omega (arith, z, two)), λ h. absurd (lga_has_no_fault bytes h.0 r.0.fault.place r.0.fault.reason h.1 answers.0))

pub text_gave : (kind : PixelType) (text : List ℕ) (g : AsciiGrid) (end : End) (status : ℕ) (sink : SinkMove) → status ≡ status_at end → status ≡ 0 → OfOutput (Split kind) (Some text) end sink → IsAscii text kind g
    → Holds sink.held.old sink.held.new (lga_of g)
text_gave kind text g end status sink is zero out stands =
    let w = well (Split kind) (Some text) end status sink is zero out in
    subst (λ (x : AsciiGrid). Holds sink.held.old sink.held.new (lga_of x)) (one_grid text kind w.0 g w.1.0 stands) w.1.1.0

pub lga_gave : (bytes : List ℕ) (g : AsciiGrid) (end : End) (status : ℕ) (sink : SinkMove) → status ≡ status_at end → status ≡ 0 → OfOutput Join (Some bytes) end sink → IsLga bytes g
    → Holds sink.held.old sink.held.new (canon g) × IsAscii (canon g) g.raster.kind g
lga_gave bytes g end status sink is zero out stands =
    let w = well Join (Some bytes) end status sink is zero out in (
      subst (λ (x : AsciiGrid). Holds sink.held.old sink.held.new (canon x)) (one_lga bytes w.0 g w.1.0 stands) w.1.1.0,
      canon_is g (lga_is_lawful bytes g stands) stands.grid_is.raster,
    )

pub split_joins : (kind : PixelType) (text : List ℕ) (end : End) (status : ℕ) (sink : SinkMove) → status ≡ status_at end → status ≡ 0 → OfOutput (Split kind) (Some text) end sink → SplitsToJoin kind text sink
split_joins kind text end status sink is zero out =
    let w = well (Split kind) (Some text) end status sink is zero out in
    let lawful = w.1.1.1.0 in
    let raster = w.1.1.1.1 in
    let file = lga_stands w.0 lawful raster in
    record {
      grid = w.0;
      read = w.1.0;
      lawful = lawful;
      gave = w.1.1.0;
      file = file;
      joins = λ output is_output. is_output.1.1.1.1 ∙ ap canon (one_lga (lga_of w.0) is_output.0 w.0 is_output.1.1.1.0 file);
      again = subst (λ (k : PixelType). IsAscii (canon w.0) k w.0) w.1.0.kind_is (canon_is w.0 lawful raster);
    }
