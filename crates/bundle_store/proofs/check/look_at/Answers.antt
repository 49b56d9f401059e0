use Rattle.std.proofs.Common.{◌≡◌, sym, ap, ◌∙◌, arith}
use Rattle.outside_io.specs.declared.volume.VolFile.TheVariants.{Bundle}
use Rattle.outside_io.specs.volume.History.{contents}
use Rattle.bundle_index.specs.Entry.{entry_at}
use Rattle.bundle_index.specs.declared.entry.Entry.{Entry}
use Rattle.bundle_store.specs.Check.{is_bad}
use Rattle.bundle_store.proofs.Counting.{no_tile_is_good, size_told}
use Rattle.bundle_store.proofs.check.look_at.Goals as goal

pub returns-then-size-eq0-clause-sees : goal.returns-then-size-eq0-clause-sees
returns-then-size-eq0-clause-sees g c = λ told.
    let b = contents Bundle (g.V.Volume.history c.args.vol.now) in
    let e = c.entry_of_number-entry.result in
    let entry : e ≡ entry_at b c.args.number = c.entry_of_number-entry.ensures.value b (c.requires.keeps told) in
    record {
      size = ap (λ (x : Entry). x.size) entry;
      bad = sym (no_tile_is_good b e c.if-size-eq0.true) ∙ ap (is_bad b) entry;
    }

pub returns-clause-sees : goal.returns-clause-sees
returns-clause-sees g c = λ told.
    let b = contents Bundle (g.V.Volume.history c.args.vol.now) in
    let e = c.entry_of_number-entry.result in
    let entry : e ≡ entry_at b c.args.number = c.entry_of_number-entry.ensures.value b (c.requires.keeps told) in
    record {
      size = ap (λ (x : Entry). x.size) entry;
      bad = size_told b e c.in_ok-stored.stored c.if-size-eq0.false (omega arith) (omega (arith, c.requires.len told)) (c.in_ok-stored.ensures.value told) ∙ ap (is_bad b) entry;
    }
