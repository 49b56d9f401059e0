use Rattle.std.proofs.Common.{◌≡◌, ℤ, pos, ◌-ℤ◌, ◌≤ℤ◌, map, sym, ap, ◌∙◌, subst, refl, arith}
use Rattle.std.specs.Prelude.{unsigned_abs}
use Rattle.std.proofs.lemmas.Int.{ints, to_z-of_z}
use Rattle.std.proofs.lemmas.List.Elements.{All-map}
use Rattle.std.proofs.lemmas.Simd.{map-map}
use mir.Syntax.{w64}
use Rattle.raster_cells.specs.declared.kind.PixelType.{PixelType}
use Rattle.raster_cells.specs.PixelType.{InRange, type_least}
use Rattle.raster_cells.proofs.Distances.{difference_fits}
use Rattle.micro_block.specs.inside.Products.{AreUpTo}
use Rattle.micro_block.proofs.distances.distances_of.Goals as goal

-- a value less the least of its type
up_to : (kind : PixelType) (v : ℤ) → InRange kind v → (pos 0 ≤ℤ (v -ℤ type_least kind)) × ((v -ℤ type_least kind) ≤ℤ pos 4294967295)
up_to kind v h = let fits = difference_fits kind v h (v -ℤ type_least kind) refl in (fits.0, omega (arith, ints, fits.0, fits.1))

pub narrow_each-requires-clause-fit : goal.narrow_each-requires-clause-fit
narrow_each-requires-clause-fit c =
    let values = c.args.values.now in
    let m = type_least c.args.kind in
    let less : c.minus.new.out ≡ map (λ v. v -ℤ m) values = c.minus.ensures ∙ ap (λ (x : ℤ). map (λ v. v -ℤ x) values) (to_z-of_z w64 c.least.result (record { sfits = c.least.type_inv }) ∙ c.least.ensures) in
    subst (AreUpTo 4294967295) (sym less)
    (All-map (λ d. (pos 0 ≤ℤ d) × (d ≤ℤ pos 4294967295)) (λ v. v -ℤ m) values (λ k d lt. up_to c.args.kind _ (c.requires.in_range k d lt)))

pub returns : goal.returns
returns c =
    let values = c.args.values.now in
    let m = type_least c.args.kind in
    let less : c.minus.new.out ≡ map (λ v. v -ℤ m) values = c.minus.ensures ∙ ap (λ (x : ℤ). map (λ v. v -ℤ x) values) (to_z-of_z w64 c.least.result (record { sfits = c.least.type_inv }) ∙ c.least.ensures) in
    c.narrow_each.ensures ∙ ap (map unsigned_abs) less ∙ map-map unsigned_abs (λ v. v -ℤ m) values
