use Rattle.std.proofs.Common.{◌≡◌, ℕ, ℤ, ◌-ℤ◌, ◌+◌, ◌<◌, List, ◌∷◌, ◌++◌, set, length, take, drop, to_z, of_z, sym, ap, ◌∙◌, subst, arith}
use Rattle.std.specs.Prelude.{unsigned_abs}
use Rattle.std.proofs.lemmas.Grind.{take-set_at}
use Rattle.std.proofs.lemmas.Int.{ints}
use Rattle.std.proofs.lemmas.List.{append_assoc}
use mir.Syntax.{w64}
use Rattle.raster_cells.specs.declared.kind.PixelType.{PixelType}
use Rattle.raster_cells.specs.Distance.{distance_of}
use Rattle.raster_cells.specs.PixelType.{InRange, type_least}
use Rattle.raster_cells.proofs.Distances.{difference_fits, difference_is}
use Rattle.delta_mode.specs.Symbols.{IsByteType}
use Rattle.delta_mode.specs.Deltas.{is_valid}
use Rattle.delta_mode.proofs.Gathered.{distance_small, distances, numbers_long}
use Rattle.delta_mode.proofs.Kernels.{small_bits}
use Rattle.delta_mode.proofs.Numbers.{by_byte}
use Rattle.delta_mode.proofs.StartPieces.{has_last, last_bytes, last_in_range}
use Rattle.delta_mode.proofs.marked_piece.gather.Goals as goal

least_in_range : (kind : PixelType) → IsByteType kind → InRange kind (type_least kind)
least_in_range kind byte = by_byte (λ k. InRange k (type_least k)) (omega arith, omega arith) (omega arith, omega arith) kind byte

-- the distance that is put in front
abbrev first : ℤ → ℤ → ℤ
first last least = to_z w64 (of_z w64 (to_z w64 (of_z w64 last) -ℤ to_z w64 (of_z w64 least)))

first_is : (kind : PixelType) (last least : ℤ) → InRange kind last → least ≡ type_least kind → unsigned_abs (first last least) ≡ distance_of kind last
first_is kind last least fits e = ap unsigned_abs (difference_is kind last least fits e)

-- what stands behind it
laid : (x m : ℕ) (old out ds tail rest : List ℕ) → 0 < length old → out ≡ ds ++ drop m tail → take 1 (set old 0 x) ++ (out ++ rest) ≡ x ∷ (ds ++ (drop m tail ++ rest))
laid x m old out ds tail rest some is =
    ap (λ (xs : List ℕ). xs ++ (out ++ rest)) (take-set_at old 0 1 x (let e : 1 ≡ 0 + 1 = omega arith in e) some)
    ∙ ap (λ (xs : List ℕ). x ∷ (xs ++ rest)) is ∙ ap (λ (xs : List ℕ). x ∷ xs) (append_assoc ds (drop m tail) rest)

pub overflow_sub-distances : goal.overflow_sub-distances
overflow_sub-distances g c =
    let r = g.V.View.pixels c.args.plane.now.raster.now in
    let fits = subst (InRange r.kind) (sym c.requires.last) (last_in_range r c.args.plane.now.d c.args.place c.kind.ensures.sound) in
    let least : InRange r.kind c.least.result = subst (InRange r.kind) (sym (c.least.ensures ∙ ap type_least c.kind.ensures.value)) (least_in_range r.kind c.args.plane.now.byte) in
    let a = small_bits r.kind c.args.last c.args.plane.now.byte fits in
    let b = small_bits r.kind c.least.result c.args.plane.now.byte least in
    omega (arith, ints, a.0, a.1, b.0, b.1)

pub overflow_cast-distances : goal.overflow_cast-distances
overflow_cast-distances g c =
    let r = g.V.View.pixels c.args.plane.now.raster.now in
    let fits = subst (InRange r.kind) (sym c.requires.last) (last_in_range r c.args.plane.now.d c.args.place c.kind.ensures.sound) in
    let e = difference_is r.kind c.args.last c.least.result fits (c.least.ensures ∙ ap type_least c.kind.ensures.value) in
    let h = difference_fits r.kind c.args.last fits _ e in
    (omega (arith, ints, h.0), omega (arith, ints, h.1))

pub returns-clause-count : goal.returns-clause-count
returns-clause-count g c = c.gather_from.ensures.count ∙ numbers_long (is_valid (g.V.View.pixels c.args.plane.now.raster.now)) c.args.place c.args.count

pub returns-clause-last : goal.returns-clause-last
returns-clause-last g c =
    let r = g.V.View.pixels c.args.plane.now.raster.now in
    let old = c.args.distances.now in
    let x = unsigned_abs (first c.args.last c.least.result) in
    let fits = subst (InRange r.kind) (sym c.requires.last) (last_in_range r c.args.plane.now.d c.args.place c.kind.ensures.sound) in
    let front = first_is r.kind c.args.last c.least.result fits (c.least.ensures ∙ ap type_least c.kind.ensures.value) ∙ ap (distance_of r.kind) c.requires.last in
    let room : 0 < length old = omega (arith, c.requires.room) in
    has_last r c.args.plane.now.d c.args.place c.args.count x _ _ front (laid x c.gather_from.result old c.gather_from.new.out (distances r c.args.plane.now.d c.args.place c.args.count) _ _ room c.gather_from.ensures.distances)

pub returns-clause-bytes : goal.returns-clause-bytes
returns-clause-bytes g c = λ j le.
    let r = g.V.View.pixels c.args.plane.now.raster.now in
    let old = c.args.distances.now in
    let x = unsigned_abs (first c.args.last c.least.result) in
    let sound = c.kind.ensures.sound in
    let fits = subst (InRange r.kind) (sym c.requires.last) (last_in_range r c.args.plane.now.d c.args.place sound) in
    let front = first_is r.kind c.args.last c.least.result fits (c.least.ensures ∙ ap type_least c.kind.ensures.value) in
    let low : x < 256 = subst (λ n. n < 256) (sym front) (distance_small r.kind c.args.last c.args.plane.now.byte fits) in
    let room : 0 < length old = omega (arith, c.requires.room) in
    let count = c.gather_from.ensures.count ∙ numbers_long (is_valid r) c.args.place c.args.count in
    last_bytes r c.args.plane.now.d c.args.place c.args.count x _ _ sound c.args.plane.now.byte low (laid x c.gather_from.result old c.gather_from.new.out (distances r c.args.plane.now.d c.args.place c.args.count) _ _ room c.gather_from.ensures.distances) j (omega (arith, le, count))
