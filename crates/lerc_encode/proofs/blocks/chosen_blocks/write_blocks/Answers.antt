use Rattle.std.proofs.Common.{◌≡◌, ◌<◌, ◌+◌, ◌∙◌, ◌++◌, ℕ, ap, refl, sym, length, length-append, length-drop, [], drop, subst, arith}
use Rattle.std.proofs.lemmas.List.{append-nil, drop_all, take_rest}
use Rattle.raster_values.specs.Raster.{Pixels}
use Rattle.lerc_header.specs.declared.header.Header.{Header}
use Rattle.lerc_grammar.specs.Blocks.{coded_blocks}
use Rattle.std.specs.List.{flat_map, range_with_len}
use Rattle.lerc_encode.specs.Images.{blocks_bytes, coded_bytes}
use Rattle.lerc_encode.specs.inside.Blocked.{bytes_at}
use Rattle.lerc_encode.proofs.Runs.{one_more, part_fits}
use Rattle.lerc_encode.proofs.Blocking.{part_written}
use Rattle.lerc_encode.proofs.BlocksAt.{bytes_there, first_spot, form_there, spot_within}
use Rattle.lerc_encode.proofs.blocks.chosen_blocks.write_blocks.Goals as goal

pub loop-k-init : goal.loop-k-init
loop-k-init g c = (refl, (refl, first_spot c.args.blocks.now.header.now (g.V.View.pixels c.args.blocks.now.raster.now) c.args.blocks.now.blocked _ refl refl refl))

all_room : (h : Header) (r : Pixels) (n : ℕ) → n ≡ length (blocks_bytes h r) → n ≡ length (flat_map (coded_bytes h r) (range_with_len 0 (coded_blocks h)))
unfolding blocks_bytes
all_room h r n e = e

pub is_marked-is_set-requires : goal.is_marked-is_set-requires
is_marked-is_set-requires g c =
    let low = c.loop-k-test.true in
    let value = c.count-k-end.ensures.value in
    let room = c.requires.tables.room in
    omega (arith, low, value, room)

pub write_at-at-requires-clause-within : goal.write_at-at-requires-clause-within
write_at-at-requires-clause-within g c =
    let h = c.args.blocks.now.header.now in
    spot_within h (g.V.View.pixels c.args.blocks.now.raster.now) c.args.blocks.now.blocked c.loop-k.k (subst (λ n. c.loop-k.k < n) c.count-k-end.ensures.value c.loop-k-test.true) c.loop-k.spot c.loop-k.invariant.1.1

pub write_at-at-requires-clause-flag : goal.write_at-at-requires-clause-flag
write_at-at-requires-clause-flag g c =
    let h = c.args.blocks.now.header.now in
    let k = c.loop-k.k in
    let low : k < coded_blocks h = subst (λ n. k < n) c.count-k-end.ensures.value c.loop-k-test.true in
    let there = form_there h (g.V.View.pixels c.args.blocks.now.raster.now) k c.loop-k.spot c.loop-k.invariant.1.1 in
    λ has. c.is_marked-is_set.ensures.1 (c.requires.tables.each k low (sym there ∙ has))

pub write_at-at-requires-clause-alone : goal.write_at-at-requires-clause-alone
write_at-at-requires-clause-alone g c =
    let h = c.args.blocks.now.header.now in
    let k = c.loop-k.k in
    let low : k < coded_blocks h = subst (λ n. k < n) c.count-k-end.ensures.value c.loop-k-test.true in
    let there = form_there h (g.V.View.pixels c.args.blocks.now.raster.now) k c.loop-k.spot c.loop-k.invariant.1.1 in
    λ one set. there ∙ c.requires.tables.sound (c.are_single-is_alone.ensures.0 one) k low (c.is_marked-is_set.ensures.0 set)

pub write_at-at-requires-clause-fits : goal.write_at-at-requires-clause-fits
write_at-at-requires-clause-fits g c =
    let h = c.args.blocks.now.header.now in
    let r = (g.V.View.pixels c.args.blocks.now.raster.now) in
    let f = coded_bytes h r in
    let k = c.loop-k.k in
    let low : k < coded_blocks h = subst (λ n. k < n) c.count-k-end.ensures.value c.loop-k-test.true in
    let there = ap length (bytes_there h r k c.loop-k.spot c.loop-k.invariant.1.1) in
    let part = part_fits f k (coded_blocks h) low in
    let room = all_room h r (length c.args.out.now) c.requires.room in
    let kept : length c.loop-k.out ≡ length c.args.out.now = c.loop-k.auto.out in
    let so_far = c.loop-k.invariant.0 in
    let rest = ap length (take_rest c.loop-k.out c.loop-k.at) ∙ length-drop c.loop-k.at c.loop-k.out in
    omega (arith, part, room, kept, so_far, rest, there)

pub next_block-spot-requires : goal.next_block-spot-requires
next_block-spot-requires g c =
    let h = c.args.blocks.now.header.now in
    let there = spot_within h (g.V.View.pixels c.args.blocks.now.raster.now) c.args.blocks.now.blocked c.loop-k.k (subst (λ n. c.loop-k.k < n) c.count-k-end.ensures.value c.loop-k-test.true) c.loop-k.spot c.loop-k.invariant.1.1 in
    record { within = there }

pub loop-k-preserved : goal.loop-k-preserved
loop-k-preserved g c =
    let h = c.args.blocks.now.header.now in
    let r = (g.V.View.pixels c.args.blocks.now.raster.now) in
    let f = coded_bytes h r in
    let k = c.loop-k.k in
    let at = c.loop-k.invariant.1.1 in
    let joined = flat_map f (range_with_len 0 k) in
    let there = bytes_there h r k c.loop-k.spot at in
    let whole : flat_map f (range_with_len 0 (k + 1)) ≡ joined ++ bytes_at h r c.loop-k.spot = one_more f 0 k k (omega arith) ∙ ap (λ xs. joined ++ xs) (sym there) in
    let sizes = length-append joined (bytes_at h r c.loop-k.spot) in
    let long : length (flat_map f (range_with_len 0 (k + 1))) ≡ length (joined ++ bytes_at h r c.loop-k.spot) = ap length whole in
    let count = c.write_at-at.ensures.count in
    let so_far = c.loop-k.invariant.0 in (
      omega (arith, sizes, long, count, so_far),
      (
        part_written joined c.loop-k.out c.args.out.now c.write_at-at.new.out (bytes_at h r c.loop-k.spot) (flat_map f (range_with_len 0 (k + 1))) c.loop-k.at c.write_at-at.result so_far c.loop-k.invariant.1.0 count c.write_at-at.ensures.bytes whole,
        c.next_block-spot.ensures k at,
      ),
    )

pub returns : goal.returns
unfolding blocks_bytes
returns g c =
    let h = c.args.blocks.now.header.now in
    let f = coded_bytes h (g.V.View.pixels c.args.blocks.now.raster.now) in
    let n : c.loop-k.k ≡ coded_blocks h = (let e : c.loop-k.k ≡ c.count-k-end.result = omega arith in e) ∙ c.count-k-end.ensures.value in
    let all : flat_map f (range_with_len 0 c.loop-k.k) ≡ flat_map f (range_with_len 0 (coded_blocks h)) = ap (λ k. flat_map f (range_with_len 0 k)) n in
    let so_far = c.loop-k.invariant.0 in
    let room : length c.args.out.now ≡ length (flat_map f (range_with_len 0 (coded_blocks h))) = c.requires.room in
    let end : drop c.loop-k.at c.args.out.now ≡ [] = drop_all c.loop-k.at c.args.out.now (let e = ap length all in omega (arith, so_far, room, e)) in
    c.loop-k.invariant.1.0 ∙ (λ t. all t ++ end t) ∙ append-nil (flat_map f (range_with_len 0 (coded_blocks h)))
