use Rattle.std.proofs.Common.{◌≡◌, ◌+◌, ◌*◌, ◌++◌, length, refl, sym, ap, subst, ◌∙◌, arith, IsTrue}
use Rattle.outside_io.specs.declared.volume.VolFile.TheVariants.{Bundle}
use Rattle.outside_io.specs.volume.History.{contents}
use Rattle.bundle_index.specs.Entry.{entry_at}
use Rattle.bundle_lines.specs.Lines.{list_line}
use Rattle.bundle_lines.specs.inside.Rows.{row_lines}
use Rattle.bundle_lines.proofs.Listed.{row_next, row_none}
use Rattle.bundle_lines.proofs.listing.spell_row.Goals as goal

pub loop-col-init : goal.loop-col-init
loop-col-init g c = record {
  lines = λ told. c.clear.ensures ∙ sym (row_none _ c.args.row);
  short = (let e : length c.clear.new.self.items ≡ 0 = ap length c.clear.ensures in omega (arith, e));
  same = refl;
}

pub loop-col-preserved : goal.loop-col-preserved
loop-col-preserved g c =
    let inv = c.loop-col.invariant in
    let at = 128 * c.args.row + c.loop-col.col in
    let entry = subst (λ v. IsTrue (g.V.Volume.told v) → c.entry_of-entry.result ≡ entry_at (contents Bundle (g.V.Volume.history v)) at) inv.same c.entry_of-entry.ensures.value in
    record {
      lines = λ told.
          let b = contents Bundle (g.V.Volume.history c.args.vol.now) in
          c.add_line.ensures.bytes ∙ ap (λ l. l ++ c.as_slice.result.now) (inv.lines told)
          ∙ ap (λ l. row_lines b c.args.row c.loop-col.col ++ l) (c.as_slice.ensures ∙ c.slot_line.ensures.text ∙ ap (list_line at) (entry told))
          ∙ sym (row_next b c.args.row c.loop-col.col (c.loop-col.col + 1) (omega arith));
      short = (let e : length c.as_slice.result.now ≡ length c.slot_line.result = ap length c.as_slice.ensures in omega (arith, e, c.add_line.ensures.longer, c.slot_line.ensures.short, inv.short));
      same = c.entry_of-entry.ensures.same ∙ inv.same;
    }
