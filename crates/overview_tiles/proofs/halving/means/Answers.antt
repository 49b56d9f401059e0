use Rattle.std.proofs.Common.{◌≡◌, ℕ, List, ◌<◌, ◌≤◌, ◌+◌, ◌*◌, ◌-◌, cond, length, get_or, take, drop, ap, sym, subst, ◌∙◌, arith, map}
use Rattle.std.specs.Prelude.{pos, nat_lt, ◌*ℤ◌, ◌≤ℤ◌}
use Rattle.std.proofs.lemmas.List.{get_or-drop, get_or-take, get_or_default, length-drop, length-take-le}
use Rattle.raster_cells.specs.PixelType.{InRange, type_least, type_greatest}
use Rattle.overview_tiles.specs.Half.{mean_of}
use Rattle.overview_tiles.specs.inside.Comes.{IsWithin}
use Rattle.overview_tiles.proofs.Steps.{place_few}
use Rattle.overview_tiles.proofs.Tiled.{sum_bound}
use Rattle.overview_tiles.proofs.halving.means.Goals as goal

-- where all of a piece are four, each is
four : (counts : List ℕ) (place n i : ℕ) → i < n → place + n ≤ length counts
    → ((k : ℕ) → k < length (take (place + n - place) (drop place counts)) → get_or (take (place + n - place) (drop place counts)) k 0 ≡ 4) → get_or counts (place + i) 0 ≡ 4
four counts place n i less few all =
    let behind : length (drop place counts) ≡ length counts - place = length-drop place counts in
    let size : length (take (place + n - place) (drop place counts)) ≡ place + n - place = length-take-le (place + n - place) (drop place counts) (omega (arith, behind, few)) in
    sym (get_or-take (place + n - place) (drop place counts) i 0 (omega (arith, less)) ∙ get_or-drop place counts i 0) ∙ all i (omega (arith, less, size))

pub means_of_four-requires-clause-room : goal.means_of_four-requires-clause-room
means_of_four-requires-clause-room g c i less =
    place_few (c.args.place + i) c.args.d (length c.args.counts.now) c.args.depth (length c.args.sums.now) (omega (arith, less, c.requires.within)) c.requires.depth c.requires.sums

pub means_of_four-requires-clause-within : goal.means_of_four-requires-clause-within
means_of_four-requires-clause-within g c i less =
    let kind = c.requires.bounded.0 in
    let counts = c.args.counts.now in
    let sums = (map g.S.Sum.number c.args.sums.now) in
    let k = c.args.place + i in
    let four_is = four counts c.args.place (length c.args.out.now) i less c.requires.within (c.are_four.ensures c.if-are_four.true) in
    let small = sum_bound kind (length counts) c.args.depth k c.args.d counts sums c.requires.bounded.1.1 (omega (arith, less, c.requires.within)) c.requires.depth (omega (arith, four_is)) in
    subst (λ n. IsWithin (4 * n) (get_or sums (k * c.args.depth + c.args.d) (pos 0))) (sym c.requires.bounded.1.0) small

pub returns-then-are_four-clause-values : goal.returns-then-are_four-clause-values
returns-then-are_four-clause-values g c i less =
    let x = get_or (map g.S.Sum.number c.args.sums.now) ((c.args.place + i) * c.args.depth + c.args.d) (pos 0) in
    c.means_of_four.ensures.values i less ∙ ap (λ n. cond (nat_lt 0 n) (mean_of x (pos n)) (pos 0)) (sym (four c.args.counts.now c.args.place (length c.args.out.now) i less c.requires.within (c.are_four.ensures c.if-are_four.true)))

pub returns-then-are_four-clause-in_range : goal.returns-then-are_four-clause-in_range
returns-then-are_four-clause-in_range g c kind h k d less =
    let out = c.means_of_four.new.out in
    let inside : k < length c.args.out.now = omega (arith, less, c.means_of_four.auto.out) in
    let place = c.args.place + k in
    let four_is = four c.args.counts.now c.args.place (length c.args.out.now) k inside c.requires.within (c.are_four.ensures c.if-are_four.true) in
    let under : place < length c.args.counts.now = omega (arith, inside, c.requires.within) in
    let x = get_or (map g.S.Sum.number c.args.sums.now) (place * c.args.depth + c.args.d) (pos 0) in
    let low : (pos 4 *ℤ type_least kind) ≤ℤ x = subst (λ n. (pos n *ℤ type_least kind) ≤ℤ x) four_is (h.least place c.args.d under c.requires.depth (omega (arith, four_is))) in
    let high : x ≤ℤ (pos 4 *ℤ type_greatest kind) = subst (λ n. x ≤ℤ (pos n *ℤ type_greatest kind)) four_is (h.greatest place c.args.d under c.requires.depth (omega (arith, four_is))) in
    subst (InRange kind) (get_or_default out k (pos 0) d less) (c.means_of_four.ensures.least k (type_least kind) inside low, c.means_of_four.ensures.greatest k (type_greatest kind) inside high)
