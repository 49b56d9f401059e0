-- How a run ends, by what its command left.
use Rattle.std.proofs.Common.{◌≡◌, ◌≢◌, ◌⊎◌, inl, inr, ℕ, ◌+◌, ◌==◌, if◌then◌else◌, Bool, true, false, List, [], ◌∷◌, All, length, Ok, Err, refl, sym, ap, subst, ◌∙◌, arith}
use Rattle.std.specs.Prelude.{IsTrue, cond, count_by}
use Rattle.std.proofs.lemmas.Bool.{cases_eq}
use Rattle.std.proofs.lemmas.Bool.Decides.{nat_tests}
use Rattle.std.proofs.lemmas.List.Elements.{All-cons, All-nil}
use Rattle.std.proofs.lemmas.List.Sums.{sum_by-cons}
use Rattle.outside_io.specs.declared.volume.VolFile.TheVariants.{Bundle}
use Rattle.outside_io.specs.program.Line.{GivesLine}
use Rattle.outside_io.specs.volume.History.{contents}
use Rattle.opened_bundle.specs.Files.{files_of}
use Rattle.program_ends.specs.Moves.{SinkMove, VolumeMove}
use Rattle.program_ends.specs.Stop.{IsRefusalStatus}
use Rattle.program_ends.specs.declared.stop.Stop.TheVariants.{Usage, Source, Output, Volume, OutOfMemory, Refused}
use Rattle.tile_audit.specs.declared.told.AuditedTile.{AuditedTile}
use Rattle.tile_audit.specs.Audit.{is_damaged}
use Rattle.tile_audit.specs.Laws.{IsClean}
use Rattle.tile_audit.proofs.Audits.{clean_audit}
use Rattle.audit_cli.specs.Names.{End, GivesLineOf, audited_end, end_of_counts, line_of, refusal_status, status_at}
use Rattle.audit_cli.specs.Opening.{Refuses}
use Rattle.audit_cli.specs.Run.{AuditsAll, EndsEarly, GaveLines, GavePrefix, OfAudit, OfEnd}
use Rattle.audit_cli.specs.declared.command.Command.{Command}
use Rattle.audit_cli.specs.declared.refusal.Refusal.{Refusal}
use Rattle.audit_cli.specs.declared.refusal.Refusal.TheVariants.{Damaged, JournalOpen, NoBundle, Store}

pub own : (r : Refusal) → IsRefusalStatus (refusal_status r)
own (Damaged damaged tiles) = inr (omega arith)
own JournalOpen = inr (omega arith)
own NoBundle = inr (omega arith)
own (Store refusal) = inr (omega arith)

-- a command ends in neither of these
pub never_usage : (c : Command) (end : End) (vol : VolumeMove) (out : SinkMove) → OfEnd c end vol out → end ≡ Err Usage → ⊥
never_usage c end vol out did is = let here : OfEnd c (Err Usage) vol out = subst (λ (e : End). OfEnd c e vol out) is did in here

-- ---- an audit that went through

audits_so : (c : Command) (end : End) (n : ℕ) (vol : VolumeMove) (out err : SinkMove) → n ≡ status_at end → AuditsAll c end vol out → GivesLineOf end err → OfAudit c n vol out err
audits_so c end n vol out err is did line = record {
  may = did.may;
  tiles = did.tiles;
  tells = did.tells;
  gave = did.gave;
  status_is = is ∙ ap status_at did.ends;
  line = subst (λ (e : End). GivesLineOf e err) did.ends line;
}

other_status : (n m : ℕ) → n ≡ m → m ≢ 0 → m ≢ 9 → (n ≡ 0) ⊎ (n ≡ 9) → ⊥
other_status n m is not nor (inl first) = not (sym is ∙ first)
other_status n m is not nor (inr last) = nor (sym is ∙ last)

pub audited_so : (c : Command) (end : End) (n : ℕ) (vol : VolumeMove) (out err : SinkMove) → n ≡ status_at end → OfEnd c end vol out → GivesLineOf end err → (n ≡ 0) ⊎ (n ≡ 9) → OfAudit c n vol out err
audited_so c (Ok u) n vol out err is did line which = audits_so c (Ok u) n vol out err is did line
audited_so c (Err (Refused (Damaged damaged tiles))) n vol out err is did line which = audits_so c (Err (Refused (Damaged damaged tiles))) n vol out err is did line
audited_so c (Err (Refused JournalOpen)) n vol out err is did line which = absurd (other_status n 7 is (λ e. omega (arith, e)) (λ e. omega (arith, e)) which)
audited_so c (Err (Refused NoBundle)) n vol out err is did line which = absurd (other_status n 7 is (λ e. omega (arith, e)) (λ e. omega (arith, e)) which)
audited_so c (Err (Refused (Store refusal))) n vol out err is did line which = absurd (other_status n 7 is (λ e. omega (arith, e)) (λ e. omega (arith, e)) which)
audited_so c (Err Output) n vol out err is did line which = absurd (other_status n 4 is (λ e. omega (arith, e)) (λ e. omega (arith, e)) which)
audited_so c (Err Volume) n vol out err is did line which = absurd (other_status n 5 is (λ e. omega (arith, e)) (λ e. omega (arith, e)) which)
audited_so c (Err OutOfMemory) n vol out err is did line which = absurd (other_status n 6 is (λ e. omega (arith, e)) (λ e. omega (arith, e)) which)
audited_so c (Err Usage) n vol out err is did line which = absurd did
audited_so c (Err Source) n vol out err is did line which = absurd did

-- ---- a clean one

none_damaged : (damaged tiles : ℕ) → ◌≡◌ {A = End} (Ok tt) (end_of_counts damaged tiles) → damaged ≡ 0
none_damaged damaged tiles is = by (cases_eq damaged 0)
  where
    by : (damaged ≡ 0) ⊎ (damaged ≢ 0) → damaged ≡ 0
    by (inl none) = none
    by (inr some) =
        let test : (damaged == 0) ≡ false = grind (arith, nat_tests) in
        let bad : ◌≡◌ {A = End} (Ok tt) (Err (Refused (Damaged damaged tiles))) = is ∙ ap (λ (b : Bool). if b then Ok tt else Err (Refused (Damaged damaged tiles))) test in
        absurd cc

none_first : (b : Bool) (n m : ℕ) → n ≡ cond b 1 0 + m → n ≡ 0 → (b ≡ false) × (m ≡ 0)
none_first true n m is none = absurd (omega (arith, is, none))
none_first false n m is none = (refl, omega (arith, is, none))

all_good : (p : AuditedTile → Bool) (tiles : List AuditedTile) → count_by p tiles ≡ 0 → All (λ t. p t ≡ false) tiles
all_good p [] none = All-nil (λ t. p t ≡ false)
all_good p (t ∷ ts) none =
    let first = none_first (p t) (count_by p (t ∷ ts)) (count_by p ts) (sum_by-cons (λ (u : AuditedTile). cond (p u) 1 0) t ts) none in
    All-cons (λ u. p u ≡ false) t ts first.0 (all_good p ts first.1)

pub clean_so : (c : Command) (vol : VolumeMove) (out : SinkMove) (u : Unit {0}) → AuditsAll c (Ok u) vol out → IsTrue vol.told.old → c.strict ≡ true → IsClean (contents Bundle vol.history.old)
clean_so c vol out u did tells strict =
    let ends : ◌≡◌ {A = End} (Ok tt) (audited_end true did.tiles) = subst (λ (b : Bool). ◌≡◌ {A = End} (Ok tt) (audited_end b did.tiles)) strict did.ends in
    let none = none_damaged (count_by (λ (t : AuditedTile). is_damaged true t.finding) did.tiles) (length did.tiles) ends in
    clean_audit (contents Bundle vol.history.old) did.tiles (did.may tells).index (did.tells.audit.audit tells) (all_good (λ t. is_damaged true t.finding) did.tiles none)

-- ---- refusals

-- the line of an end that is a refusal
pub said : (end : End) (err : SinkMove) (r : Refusal) → end ≡ Err (Refused r) → GivesLineOf end err → GivesLine err.held.old err.held.new err.faults.old err.faults.new (line_of (Refused r))
said end err r is line = let here : GivesLineOf (Err (Refused r)) err = subst (λ (e : End). GivesLineOf e err) is line in here

-- what status 7 tells
pub record Told (end : End) (vol : VolumeMove) (out : SinkMove) : Type 0 where
  pub refusal : Refusal
  pub is : end ≡ Err (Refused refusal)
  pub holds : Refuses (files_of vol.told.old vol.history.old) refusal
  pub output : out.same

pub seven : (c : Command) (end : End) (n : ℕ) (vol : VolumeMove) (out : SinkMove) → n ≡ status_at end → OfEnd c end vol out → n ≡ 7 → Told end vol out
seven c (Err (Refused JournalOpen)) n vol out is did which = record { refusal = JournalOpen; is = refl; holds = did.0; output = did.1 }
seven c (Err (Refused NoBundle)) n vol out is did which = record { refusal = NoBundle; is = refl; holds = did.0; output = did.1 }
seven c (Err (Refused (Store refusal))) n vol out is did which = record { refusal = Store refusal; is = refl; holds = did.0; output = did.1 }
seven c (Ok u) n vol out is did which = absurd (omega (arith, is, which))
seven c (Err (Refused (Damaged damaged tiles))) n vol out is did which = absurd (omega (arith, is, which))
seven c (Err Output) n vol out is did which = absurd (omega (arith, is, which))
seven c (Err Volume) n vol out is did which = absurd (omega (arith, is, which))
seven c (Err OutOfMemory) n vol out is did which = absurd (omega (arith, is, which))
seven c (Err Usage) n vol out is did which = absurd did
seven c (Err Source) n vol out is did which = absurd did

-- ---- none

pub granted : (c : Command) (end : End) (n : ℕ) (vol : VolumeMove) (out : SinkMove) → n ≡ status_at end → OfEnd c end vol out → ((r : Refusal) → Refuses (files_of vol.told.old vol.history.old) r → ⊥) → n ≢ 4 → n ≢ 5 → n ≢ 6 → (n ≡ 0) ⊎ (n ≡ 9)
granted c (Ok u) n vol out is did none four five six = inl is
granted c (Err (Refused (Damaged damaged tiles))) n vol out is did none four five six = inr is
granted c (Err (Refused JournalOpen)) n vol out is did none four five six = absurd (none JournalOpen did.0)
granted c (Err (Refused NoBundle)) n vol out is did none four five six = absurd (none NoBundle did.0)
granted c (Err (Refused (Store refusal))) n vol out is did none four five six = absurd (none (Store refusal) did.0)
granted c (Err Output) n vol out is did none four five six = absurd (four is)
granted c (Err Volume) n vol out is did none four five six = absurd (five is)
granted c (Err OutOfMemory) n vol out is did none four five six = absurd (six is)
granted c (Err Usage) n vol out is did none four five six = absurd did
granted c (Err Source) n vol out is did none four five six = absurd did

-- ---- what an end leaves

pub clean_at : (c : Command) (end : End) (vol : VolumeMove) (out : SinkMove) → end ≡ Ok tt → OfEnd c end vol out → IsTrue vol.told.old → c.strict ≡ true → IsClean (contents Bundle vol.history.old)
clean_at c end vol out is did tells strict = let here : OfEnd c (Ok tt) vol out = subst (λ (e : End). OfEnd c e vol out) is did in clean_so c vol out tt here tells strict

pub early_at : (c : Command) (end : End) (vol : VolumeMove) (out : SinkMove) → end ≡ Err Volume → OfEnd c end vol out → EndsEarly vol out
early_at c end vol out is did = let here : OfEnd c (Err Volume) vol out = subst (λ (e : End). OfEnd c e vol out) is did in here

pub cut_at : (c : Command) (end : End) (vol : VolumeMove) (out : SinkMove) → end ≡ Err Output → OfEnd c end vol out → GavePrefix c vol out
cut_at c end vol out is did = let here : OfEnd c (Err Output) vol out = subst (λ (e : End). OfEnd c e vol out) is did in here.1

pub wanted_at : (c : Command) (end : End) (vol : VolumeMove) (out : SinkMove) → end ≡ Err OutOfMemory → OfEnd c end vol out → GaveLines c vol out
wanted_at c end vol out is did = let here : OfEnd c (Err OutOfMemory) vol out = subst (λ (e : End). OfEnd c e vol out) is did in here.1
