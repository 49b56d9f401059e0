use Rattle.std.proofs.Common.{◌≡◌, ◌+◌, ◌-◌, ◌*◌, ◌≤◌, ◌++◌, drop, length, take, sym, ap, ◌∙◌, subst, arith, rules}
use Rattle.std.proofs.Math.Nat.{mul-le-mul_right}
use Rattle.lerc_decode.specs.OverBands.{band_bytes, mask_bytes}
use Rattle.lerc_decode.specs.inside.OverNext.{MayFollow}
use Rattle.lerc_decode.specs.inside.OverWalk.{last_part}
use Rattle.lerc_decode.proofs.OverWalk.{laid_is, repeated, repeated_front, repeated_rest}
use Rattle.lerc_decode.proofs.over_bands.band_over.Goals as goal

pub returns-in-Ok-clause-ok : goal.returns-in-Ok-clause-ok
returns-in-Ok-clause-ok c =
    let first = c.args.first.now in
    let count = c.args.count in
    let values = c.args.values.now in
    let masks = c.args.masks.now in
    let laid = c.repeat_last.new.masks in
    let size = c.values_len-size.result in
    let mask = c.mask_len-mask.result in
    let at = count * size in
    let to = count * mask in
    let at_is : at ≡ count * band_bytes first = ap (λ k. count * k) c.values_len-size.ensures.size in
    let to_is : to ≡ count * mask_bytes first = ap (λ k. count * k) c.mask_len-mask.ensures.size in
    let least : 1 * mask ≤ count * mask = mul-le-mul_right mask c.requires.count.0 in
    let there : mask ≤ to = omega (arith, least) in
    let within : to + mask ≤ length masks = omega (arith, c.requires.masks, to_is, c.mask_len-mask.ensures.size) in
    let part : take (to + mask - to) (drop to laid) ≡ last_part (mask_bytes first) (count * mask_bytes first) masks =
    ap (λ n. take n (drop to laid)) (let e : to + mask - to ≡ mask = omega arith in e)
    ∙ repeated masks laid to mask there within c.repeat_last.ensures
    ∙ (λ i. last_part (c.mask_len-mask.ensures.size i) (to_is i) masks) in
    let front : take to laid ≡ take (count * mask_bytes first) masks = repeated_front masks laid _ to mask (omega (arith, within)) c.repeat_last.ensures ∙ ap (λ n. take n masks) to_is in
    let rest : drop (to + mask) laid ≡ drop (count * mask_bytes first + mask_bytes first) masks =
    repeated_rest masks laid to mask there within c.repeat_last.ensures ∙ (λ i. drop (to_is i + c.mask_len-mask.ensures.size i) masks) in
    λ bands may. record {
      own = c.next_over.new.values;
      mask = c.next_over.new.mask;
      next = c.in-Ok.ensures.ok bands (subst (MayFollow bands first) (sym part) may);
      own_size = search rules;
      mask_size = search rules;
      values = laid_is values c.next_over.new.values at size ∙ (λ i. take (at_is i) values ++ (c.next_over.new.values ++ drop (at_is i + c.values_len-size.ensures.size i) values));
      masks = laid_is laid c.next_over.new.mask to mask ∙ (λ i. front i ++ (c.next_over.new.mask ++ rest i));
    }

pub returns-in-Err-clause-fault : goal.returns-in-Err-clause-fault
returns-in-Err-clause-fault c =
    let first = c.args.first.now in
    let count = c.args.count in
    let masks = c.args.masks.now in
    let laid = c.repeat_last.new.masks in
    let mask = c.mask_len-mask.result in
    let to = count * mask in
    let to_is : to ≡ count * mask_bytes first = ap (λ k. count * k) c.mask_len-mask.ensures.size in
    let least : 1 * mask ≤ count * mask = mul-le-mul_right mask c.requires.count.0 in
    let within : to + mask ≤ length masks = omega (arith, c.requires.masks, to_is, c.mask_len-mask.ensures.size) in
    let part : take (to + mask - to) (drop to laid) ≡ last_part (mask_bytes first) (count * mask_bytes first) masks =
    ap (λ n. take n (drop to laid)) (let e : to + mask - to ≡ mask = omega arith in e)
    ∙ repeated masks laid to mask (omega (arith, least)) within c.repeat_last.ensures
    ∙ (λ i. last_part (c.mask_len-mask.ensures.size i) (to_is i) masks) in
    λ bands may. c.in-Err.ensures.fault bands (subst (MayFollow bands first) (sym part) may)
