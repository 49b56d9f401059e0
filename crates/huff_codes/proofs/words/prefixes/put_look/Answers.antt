use Rattle.std.proofs.Common.{◌≡◌, ◌+◌, ◌-◌, ◌*◌, ◌/◌, ◌%◌, ◌^◌, ◌<◌, ◌≤◌, ◌∙◌, ℕ, get_or, length, take, drop, subst, sym, ap, arith}
use Rattle.std.specs.Prelude.{replicate}
use Rattle.std.proofs.lemmas.List.{get_or-set_same, get_or-set_other, length-take-le, length-drop}
use Rattle.std.specs.Prelude.{set, List}
use borrow.Rule.Slice.PartMut.{put_mid}
use Rattle.huff_codes.specs.inside.Noted.{IsNoted}
use Rattle.huff_codes.specs.declared.words.prefixes.Look.{Look}
use Rattle.huff_codes.specs.declared.words.prefixes.Look.TheVariants.{Symbol, Longer, Nothing}
use Rattle.huff_codes.proofs.Noted.{first_below, long_noted, none_noted, run_at, run_beside, run_within, short_noted}
use Rattle.huff_codes.proofs.words.prefixes.put_look.Goals as goal

pub returns-then-code-eq0-clause-told : goal.returns-then-code-eq0-clause-told
returns-then-code-eq0-clause-told c codes free is b lt = none_noted codes c.args.code c.args.symbol b _ c.requires.laid c.if-code-eq0.true is

pub returns-then-code-gt8-clause-told : goal.returns-then-code-gt8-clause-told
returns-then-code-gt8-clause-told c codes free is b lt =
    let looks = c.args.looks.now in
    let from = c.args.code.bits / 16777216 in
    let below = first_below c.args.code c.requires.laid in
    long_noted codes c.args.code c.args.symbol b _ _ c.requires.laid (omega arith) free is lt
    (λ same. subst (λ (k : ℕ). get_or (set looks from Longer) k Nothing ≡ Longer) (sym same) (get_or-set_same looks from Longer Nothing (omega (arith, below, c.requires.room))))
    (λ other. get_or-set_other looks from b Longer Nothing other)

pub slice_bounds-fill-end : goal.slice_bounds-fill-end
slice_bounds-fill-end c = omega (arith, run_within c.args.code c.requires.laid (omega arith) (omega arith))

pub returns-clause-told : goal.returns-clause-told
returns-clause-told c codes free is b lt =
    let looks = c.args.looks.now in
    let l = c.args.code.length in
    let from = c.args.code.bits / 16777216 in
    let n = 2 ^ (8 - l) in
    let look = Symbol c.args.symbol l in
    let some : 0 < l = omega arith in
    let low : l ≤ 8 = omega arith in
    let within = run_within c.args.code c.requires.laid some low in
    let count : from + 1 * 2 ^ (8 - l) % 18446744073709551616 - from ≡ n = omega (arith, within) in
    let m = from + 1 * 2 ^ (8 - l) % 18446744073709551616 - from in
    let size : length (take m (drop from looks)) ≡ n = length-take-le m (drop from looks) (omega (arith, length-drop from looks, count, within, c.requires.room)) ∙ count in
    let filled : c.fill.new.self ≡ replicate n look = c.fill.ensures.after (λ y clone. clone) ∙ ap (λ (m : ℕ). replicate m look) size in
    let new = put_mid from n looks (replicate n look) in
    let is_new : put_mid from (from + 1 * 2 ^ (8 - l) % 18446744073709551616 - from) looks c.fill.new.self ≡ new = (λ i. put_mid from (count i) looks (filled i)) in
    subst (λ (xs : List Look). IsNoted codes c.args.symbol b (get_or looks b Nothing) (get_or xs b Nothing)) (sym is_new)
    (short_noted codes c.args.code c.args.symbol b _ _ c.requires.laid some low free is lt
    (λ le under. run_at looks from n b look (omega (arith, within, c.requires.room)) le under)
    (λ out. run_beside looks from n b look (omega (arith, within, c.requires.room)) out))
