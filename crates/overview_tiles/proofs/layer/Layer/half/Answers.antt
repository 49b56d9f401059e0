use Rattle.std.proofs.Common.{◌≡◌, ap, sym, subst, ◌∙◌}
use Rattle.raster_cells.specs.declared.kind.PixelType.{PixelType}
use Rattle.raster_values.specs.Raster.{blank}
use Rattle.overview_tiles.specs.Sums.{Sums}
use Rattle.overview_tiles.specs.inside.Layers.{listed}
use Rattle.overview_tiles.specs.inside.Means.{Counted}
use Rattle.overview_tiles.specs.inside.Numbers.{Numbers}
use Rattle.overview_tiles.proofs.Layers.{means_of}
use Rattle.overview_tiles.proofs.layer.Layer.half.Goals as goal
use Rattle.overview_tiles.proofs.layer.Layer.half.Goals.{in-Narrow, in-Wide}

pub returns : goal.returns
returns c =
    let s : Sums = c.args.self.now.sums in
    let kind : PixelType = c.args.self.now.kind in
    let counts = c.as_slice-counts.result.now in
    let r1 = c.in_ok-raster.raster in
    let cs : s.counts ≡ counts = sym (ap (λ (n : Numbers). n.sums.counts) c.self.view_is) ∙ sym c.as_slice-counts.ensures.value in
    let same : c.self.inside.kind ≡ kind = ap (λ (n : Numbers). n.kind) c.self.view_is in
    let counted : Counted counts (blank kind c.args.rows c.args.cols c.args.depth) r1 = subst (λ (k : PixelType). Counted counts (blank k c.args.rows c.args.cols c.args.depth) r1) same c.in_ok-raster.ensures in
    elim c.match-self.branch [
      | in-Narrow w ↦
          (let ss : s.sums ≡ w.as_slice.result.now = sym (ap (λ (n : Numbers). n.sums.sums) c.self.view_is) ∙ ap listed w.in-Narrow.is ∙ sym w.as_slice.ensures.value in
          means_of kind c.args.rows c.args.cols c.args.depth s counts w.as_slice.result.now r1 w.fill.new.raster c.match-self.raster cs ss w.raster-is c.requires.shape.cols_above w.fill.ensures.sound c.requires.means.count_size counted w.fill.ensures.fills)
      | in-Wide w ↦
          (let ss : s.sums ≡ w.as_slice-in-Wide.result.now = sym (ap (λ (n : Numbers). n.sums.sums) c.self.view_is) ∙ ap listed w.in-Wide.is ∙ sym w.as_slice-in-Wide.ensures.value in
          means_of kind c.args.rows c.args.cols c.args.depth s counts w.as_slice-in-Wide.result.now r1 w.fill-in-Wide.new.raster c.match-self.raster cs ss w.raster-is c.requires.shape.cols_above w.fill-in-Wide.ensures.sound c.requires.means.count_size counted w.fill-in-Wide.ensures.fills)
    ]
