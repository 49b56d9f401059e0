use Rattle.std.proofs.Common.{◌≡◌, ◌<◌, List, Some, length, get_or, true, false, ap, sym, subst, ◌∙◌, arith}
use Rattle.std.specs.Prelude.{replicate, slice_get}
use Rattle.std.proofs.lemmas.Option.{slice_get_within}
use Rattle.std.specs.Vec.{with_items}
use Rattle.std.proofs.lemmas.List.{length-map, with_items_is}
use Rattle.overview_tiles.specs.Sums.{AreSums, HasShape, IsTileOf, Kept, no_sums}
use Rattle.overview_tiles.specs.Tiles.{with_tile}
use Rattle.overview_tiles.specs.inside.Lays.{CanLay}
use Rattle.overview_tiles.specs.inside.Numbers.{Numbers, kinds_of, sums_of}
use Rattle.overview_tiles.specs.inside.View.{seen}
use Rattle.overview_tiles.proofs.Bands.{kinds_at}
use Rattle.overview_tiles.proofs.Whole.{IsFrame}
use Rattle.overview_tiles.proofs.Tiled.{all_at, can_lay, lay_more}
use Rattle.overview_tiles.proofs.mosaic.Mosaic.lay.Goals as goal

pub lay_bands-requires-clause-each : goal.lay_bands-requires-clause-each
lay_bands-requires-clause-each c b r e =
    let m : Kept = seen c.self.inside in
    let q = c.args.quarter in
    let f = c.frame_of-frame.result in
    let frame : IsFrame f m.rows m.cols m.depth q = record { cols_is = c.frame_of-frame.ensures.cols; depth_is = c.frame_of-frame.ensures.depth; top_is = c.frame_of-frame.ensures.top; left_is = c.frame_of-frame.ensures.left } in
    let free : get_or m.laid q true ≡ false = ap (λ (k : Kept). get_or k.laid q true) c.self.view_is ∙ c.requires.free in
    let takes : IsTileOf m c.args.tile.now = subst (λ (k : Kept). IsTileOf k c.args.tile.now) (sym c.self.view_is) c.requires.takes in
    subst (λ (xs : List Numbers). CanLay f r (get_or (sums_of xs) b no_sums)) (sym c.as_mut_slice.ensures.value)
    (can_lay m c.self.invariant.tiles q b c.args.tile.now r f c.requires.quarter c.self.invariant.room c.self.invariant.sums free c.len-count.ensures.sound takes frame e)

pub lay_bands-requires-clause-kinds : goal.lay_bands-requires-clause-kinds
lay_bands-requires-clause-kinds c b r e =
    let m : Kept = seen c.self.inside in
    let bands = c.self.inside.bands.items in
    let takes : IsTileOf m c.args.tile.now = subst (λ (k : Kept). IsTileOf k c.args.tile.now) (sym c.self.view_is) c.requires.takes in
    let like = all_at (HasShape m) c.args.tile.now b r takes.each e in
    let inside : b < length bands = (let w = slice_get_within c.args.tile.now b r e in omega (arith, w, takes.count, length-map bands (λ (n : Numbers). n.sums))) in
    ap (λ (xs : List Numbers). slice_get (kinds_of xs) b) c.as_mut_slice.ensures.value ∙ kinds_at bands m.kind b c.self.invariant.kinds inside ∙ ap Some (sym like.kind)

pub invariant_of-self : goal.invariant_of-self
invariant_of-self c =
    let m : Kept = seen c.self.inside in
    let q = c.args.quarter in
    let f = c.frame_of-frame.result in
    let frame : IsFrame f m.rows m.cols m.depth q = record { cols_is = c.frame_of-frame.ensures.cols; depth_is = c.frame_of-frame.ensures.depth; top_is = c.frame_of-frame.ensures.top; left_is = c.frame_of-frame.ensures.left } in
    let free : get_or m.laid q true ≡ false = ap (λ (k : Kept). get_or k.laid q true) c.self.view_is ∙ c.requires.free in
    let takes : IsTileOf m c.args.tile.now = subst (λ (k : Kept). IsTileOf k c.args.tile.now) (sym c.self.view_is) c.requires.takes in
    let after = c.lay_bands.new.layers in
    let size : length (sums_of after) ≡ length (sums_of c.as_mut_slice.result.now) = length-map after (λ (n : Numbers). n.sums) ∙ c.lay_bands.auto.layers ∙ sym (length-map c.as_mut_slice.result.now (λ (n : Numbers). n.sums)) in
    let items : (with_items c.self.inside.bands after).items ≡ after = with_items_is c.self.inside.bands after (omega (arith, c.lay_bands.auto.layers, c.as_mut_slice.ensures.len)) in
    let laid = lay_more m c.self.invariant.tiles q c.args.tile.now f (sums_of c.as_mut_slice.result.now) (sums_of after) (sums_of (with_items c.self.inside.bands after).items) c.requires.quarter c.self.invariant.room c.self.invariant.sums free c.len-count.ensures.sound takes frame (ap sums_of c.as_mut_slice.ensures.value) (ap sums_of items) size c.lay_bands.ensures.each in
    let was : kinds_of c.as_mut_slice.result.now ≡ replicate (length c.self.inside.bands.items) c.self.inside.kind = ap kinds_of c.as_mut_slice.ensures.value ∙ c.self.invariant.kinds in
    let count : length c.self.inside.bands.items ≡ length (with_items c.self.inside.bands after).items = sym (ap length items ∙ c.lay_bands.auto.layers ∙ ap length c.as_mut_slice.ensures.value) in
    record { kinds = ap kinds_of items ∙ c.lay_bands.ensures.kinds ∙ was ∙ ap (λ n. replicate n c.self.inside.kind) count; room = laid.room; tiles = with_tile q c.args.tile.now c.self.invariant.tiles; sums = laid.sums }

pub returns-clause-sums : goal.returns-clause-sums
returns-clause-sums c tiles h =
    let m : Kept = seen c.self.inside in
    let q = c.args.quarter in
    let f = c.frame_of-frame.result in
    let frame : IsFrame f m.rows m.cols m.depth q = record { cols_is = c.frame_of-frame.ensures.cols; depth_is = c.frame_of-frame.ensures.depth; top_is = c.frame_of-frame.ensures.top; left_is = c.frame_of-frame.ensures.left } in
    let free : get_or m.laid q true ≡ false = ap (λ (k : Kept). get_or k.laid q true) c.self.view_is ∙ c.requires.free in
    let takes : IsTileOf m c.args.tile.now = subst (λ (k : Kept). IsTileOf k c.args.tile.now) (sym c.self.view_is) c.requires.takes in
    let sums : AreSums m tiles = subst (λ (k : Kept). AreSums k tiles) (sym c.self.view_is) h in
    let after = c.lay_bands.new.layers in
    let size : length (sums_of after) ≡ length (sums_of c.as_mut_slice.result.now) = length-map after (λ (n : Numbers). n.sums) ∙ c.lay_bands.auto.layers ∙ sym (length-map c.as_mut_slice.result.now (λ (n : Numbers). n.sums)) in
    let items : (with_items c.self.inside.bands after).items ≡ after = with_items_is c.self.inside.bands after (omega (arith, c.lay_bands.auto.layers, c.as_mut_slice.ensures.len)) in
    let laid = lay_more m tiles q c.args.tile.now f (sums_of c.as_mut_slice.result.now) (sums_of after) (sums_of (with_items c.self.inside.bands after).items) c.requires.quarter c.self.invariant.room sums free c.len-count.ensures.sound takes frame (ap sums_of c.as_mut_slice.ensures.value) (ap sums_of items) size c.lay_bands.ensures.each in
    laid.sums
