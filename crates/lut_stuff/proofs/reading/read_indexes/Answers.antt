use Rattle.std.proofs.Common.{◌≡◌, ◌+◌, ◌-◌, ◌<◌, ℕ, length, subst, refl, arith}
use Rattle.std.specs.Prelude.{All}
use Rattle.bit_stuff.specs.declared.heads.ListReason.TheVariants.{BadIndex}
use Rattle.lut_stuff.specs.Faults.{index_faults}
use Rattle.lut_stuff.specs.inside.Indexes.{HasIndexes}
use Rattle.lut_stuff.proofs.ReadSteps.{missing_index, told}
use Rattle.lut_stuff.proofs.reading.read_indexes.Goals as goal

pub read_numbers-requires-clause-width : goal.read_numbers-requires-clause-width
read_numbers-requires-clause-width c = omega (arith, c.digit_count.ensures.least 8 (omega arith))

pub returns-else-look_up : goal.returns-else-look_up
returns-else-look_up c =
    let n = length c.args.out.now in
    let table = c.args.table.now in
    let bytes = c.args.bytes.now in
    let read = c.in_ok-used.ensures in
    let most : length table ≡ length table - 1 + 1 = omega (arith, c.requires.some) in
    let missing : ¬ All (λ i. i < length table - 1 + 1) c.read_numbers.new.out = subst (λ (k : ℕ). ¬ All (λ i. i < k) c.read_numbers.new.out) most (c.if-look_up.ensures.missing refl) in
    let fault : index_faults n (length table - 1) bytes 0 BadIndex =
    missing_index n (length table - 1) bytes c.in_ok-used.used c.digit_count.result c.read_numbers.new.out c.digit_count.ensures.value read.0 read.1 c.read_numbers.auto.out missing 0 BadIndex refl refl in
    told c.refuse.result (λ used. HasIndexes table (length table - 1) bytes used c.look_up.new.out) (λ f. (f.at ≡ 0) × index_faults n (length table - 1) bytes f.at f.reason) (record { reason = BadIndex; at = 0 }) c.refuse.ensures (refl, fault)
