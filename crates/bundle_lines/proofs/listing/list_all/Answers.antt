use Rattle.std.proofs.Common.{◌≡◌, refl, subst, ◌∙◌, IsTrue}
use Rattle.outside_io.specs.declared.volume.VolFile.TheVariants.{Bundle}
use Rattle.outside_io.specs.volume.History.{contents}
use Rattle.bundle_lines.specs.inside.Rows.{row_lines}
use Rattle.bundle_lines.proofs.Listed.{gave_cut, listed_cut, listed_next, listed_none}
use Rattle.bundle_lines.proofs.listing.list_all.Goals as goal

pub loop-row-init : goal.loop-row-init
loop-row-init g c = record {
  lines = listed_none _ _ _;
  same = refl;
  output = refl;
}

pub returns-in_err-give_all-clause-gave : goal.returns-in_err-give_all-clause-gave
returns-in_err-give_all-clause-gave g c =
    let inv = c.loop-row.invariant in
    let row = c.loop-row.row in
    let spelled = subst (λ v. IsTrue (g.V.Volume.told v) → c.spell_row.new.lines.items ≡ row_lines (contents Bundle (g.V.Volume.history v)) row 128) inv.same c.spell_row.ensures.lines in
    gave_cut _ _ c.from_residual.result _ _ c.from_residual.ensures.0 (listed_cut _ _ row c.as_slice.result.now _ _ _ inv.lines (λ told. c.as_slice.ensures.value ∙ spelled told) c.loop-row-test.true c.in_err-give_all.ensures.err)

pub loop-row-preserved : goal.loop-row-preserved
loop-row-preserved g c =
    let inv = c.loop-row.invariant in
    let row = c.loop-row.row in
    let spelled = subst (λ v. IsTrue (g.V.Volume.told v) → c.spell_row.new.lines.items ≡ row_lines (contents Bundle (g.V.Volume.history v)) row 128) inv.same c.spell_row.ensures.lines in
    record {
      lines = listed_next _ _ row c.as_slice.result.now _ _ _ inv.lines (λ told. c.as_slice.ensures.value ∙ spelled told) c.in_ok-give_all.ensures.ok;
      same = c.spell_row.ensures.same ∙ inv.same;
      output = c.in_ok-give_all.ensures.counted ∙ inv.output;
    }
