use Rattle.std.proofs.Common.{◌≡◌, ℕ, pos, ◌+◌, ◌-◌, ◌<◌, ◌≤◌, ◌<ℤ◌, ◌≤ℤ◌, List, length, take, drop, replicate, slice_index, ap, sym, ◌∙◌, subst, arith}
use Rattle.std.proofs.lemmas.Int.{ints}
use Rattle.std.proofs.lemmas.List.{take_rest}
use Rattle.mask_runs.specs.inside.Steps.{TakesRun}
use Rattle.mask_runs.proofs.Reading.{bytes_below, literal_first, repeat_first}
use Rattle.mask_runs.proofs.read.read_body.Goals as goal

pub returns-then-copy_literal : goal.returns-then-copy_literal
returns-then-copy_literal c =
    let bytes = c.args.bytes.now in
    let n = length c.args.part.now in
    let above : pos 0 <ℤ c.args.count = grind (arith, ints) in
    let tail : take (length bytes - 2) (drop 2 bytes) ≡ drop 2 bytes = take_rest bytes 2 in
    let most : n ≤ 32767 = omega (arith, ints, c.requires.length, c.ranges.count) in
    let enough : n ≤ length (drop 2 bytes) = omega (arith, c.if-copy_literal.ensures.0, ap length tail) in
    let run : TakesRun bytes (take n (drop 2 bytes)) (2 + n) n =
    literal_first bytes c.args.count n (bytes_below bytes c.type_inv.bytes) c.requires.count above c.requires.length c.requires.some most enough in
    let same : take n (drop 2 bytes) ≡ c.copy_literal.new.part = ap (take n) (sym tail) ∙ sym c.if-copy_literal.ensures.1 in
    subst (λ (xs : List ℕ). TakesRun bytes xs (2 + n) n) same run

pub returns-then-fill_repeat : goal.returns-then-fill_repeat
returns-then-fill_repeat c =
    let bytes = c.args.bytes.now in
    let n = length c.args.part.now in
    let above : c.args.count ≤ℤ pos 0 = grind (arith, ints) in
    let tail : take (length bytes - 2) (drop 2 bytes) ≡ drop 2 bytes = take_rest bytes 2 in
    let most : n ≤ 32767 = omega (arith, ints, c.requires.length, c.requires.not_end, c.ranges.count) in
    let enough : 0 < length (drop 2 bytes) = omega (arith, c.if-fill_repeat.ensures.0, ap length tail) in
    let run : TakesRun bytes (replicate n (slice_index (drop 2 bytes) 0)) 3 n =
    repeat_first bytes c.args.count n (bytes_below bytes c.type_inv.bytes) c.requires.count above c.requires.length c.requires.some most enough in
    let same : replicate n (slice_index (drop 2 bytes) 0) ≡ c.fill_repeat.new.part = ap (λ (xs : List ℕ). replicate n (slice_index xs 0)) (sym tail) ∙ sym c.if-fill_repeat.ensures.1 in
    subst (λ (xs : List ℕ). TakesRun bytes xs 3 n) same run
