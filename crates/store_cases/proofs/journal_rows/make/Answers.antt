use Rattle.std.proofs.Common.{◌≡◌, inr, ℕ, suc, List, ◌∷◌, length, drop, ap, sym, ◌∙◌, arith}
use Rattle.std.proofs.lemmas.List.{length-drop}
use Rattle.outside_io.specs.volume.Disk.{Disk}
use Rattle.outside_io.specs.volume.History.{contents}
use Rattle.outside_io.specs.declared.volume.VolFile.TheVariants.{Journal}
use Rattle.side_journal.proofs.Spells.{length-body_bytes}
use Rattle.store_cases.proofs.journal_rows.make.Goals as goal

-- the gate of a journal set
gated : (gate : ℕ) (j : List ℕ) → length j ≡ 1112 → length (gate ∷ drop 1 j) ≡ 1112
gated gate j whole = omega (arith, length-drop 1 j, whole)

pub open_gate-requires-clause-whole : goal.open_gate-requires-clause-whole
open_gate-requires-clause-whole g c = λ told.
    let told_1 = sym c.arm.ensures.told ∙ told in
    inr (ap (λ (d : Disk). length d.journal.now) (c.in_ok-arm.ensures.done told_1)
    ∙ ap (λ (n : ℕ). suc n) (length-body_bytes c.args.body.now c.requires))

pub close_gate-requires-clause-whole : goal.close_gate-requires-clause-whole
close_gate-requires-clause-whole g c = λ told.
    let told_1 = sym c.open_gate.ensures.told ∙ told in
    let told_2 = sym c.arm.ensures.told ∙ told_1 in
    let armed : length (contents Journal (g.V.Volume.history c.arm.new.vol)) ≡ 1112 =
    ap (λ (d : Disk). length d.journal.now) (c.in_ok-arm.ensures.done told_2)
    ∙ ap (λ (n : ℕ). suc n) (length-body_bytes c.args.body.now c.requires) in
    inr (ap (λ (d : Disk). length d.journal.now) (c.in_ok-open_gate.ensures.done told_1)
    ∙ gated 1 (contents Journal (g.V.Volume.history c.arm.new.vol)) armed)
