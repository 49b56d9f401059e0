use Rattle.std.proofs.Common.{◌≡◌, ◌∙◌, ap, cond, get_or, sym, subst}
use Rattle.std.specs.Prelude.{nat_eq, pos}
use Rattle.raster_cells.specs.PixelType.{InRange}
use Rattle.raster_cells.specs.CellList.{CellList}
use Rattle.raster_cells.proofs.ValueBits.{same_bits}
use Rattle.raster_cells.proofs.GivenRuns.{one_fits, fits_either, put_either}
use Rattle.raster_cells.proofs.values.cell_store.put_marked_as.Goals as goal

pub put_all_as-requires-clause-in_range : goal.put_all_as-requires-clause-in_range
put_all_as-requires-clause-in_range g c =
    let kind = (g.V.CellStore.cells c.args.cells.now).kind in
    let old = (g.V.CellStore.cells c.args.cells.now).values in
    let put = c.one_of-put.result in
    let stood : InRange kind c.get_as-stood.result = c.get_as-stood.ensures.in_range in
    let first = same_bits kind c.args.value c.requires.in_range in
    let second = same_bits kind c.get_as-stood.result stood ∙ c.get_as-stood.ensures.value in
    let is : put ≡ cond (nat_eq c.args.mark 1) c.args.value (get_or old c.args.at (pos 0)) = c.one_of-put.ensures ∙ (λ i. cond (nat_eq c.args.mark 1) (first i) (second i)) in
    let fits = fits_either kind old c.args.at (nat_eq c.args.mark 1) c.args.value put c.requires.in_range (subst (InRange kind) c.get_as-stood.ensures.value stood) is in
    one_fits kind _ (subst (InRange kind) (sym (same_bits kind put fits)) fits)

pub returns-clause-put : goal.returns-clause-put
returns-clause-put g c =
    let kind = (g.V.CellStore.cells c.args.cells.now).kind in
    let old = (g.V.CellStore.cells c.args.cells.now).values in
    let put = c.one_of-put.result in
    let stood : InRange kind c.get_as-stood.result = c.get_as-stood.ensures.in_range in
    let first = same_bits kind c.args.value c.requires.in_range in
    let second = same_bits kind c.get_as-stood.result stood ∙ c.get_as-stood.ensures.value in
    let is : put ≡ cond (nat_eq c.args.mark 1) c.args.value (get_or old c.args.at (pos 0)) = c.one_of-put.ensures ∙ (λ i. cond (nat_eq c.args.mark 1) (first i) (second i)) in
    let fits = fits_either kind old c.args.at (nat_eq c.args.mark 1) c.args.value put c.requires.in_range (subst (InRange kind) c.get_as-stood.ensures.value stood) is in
    ap (λ (l : CellList). l.values) c.put_all_as.ensures.put ∙ put_either old c.args.at (nat_eq c.args.mark 1) c.args.value put _ c.requires.within (same_bits kind put fits) is
