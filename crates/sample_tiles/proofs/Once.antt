-- A sample comes to one thing.
use Rattle.std.proofs.Common.{◌≡◌, ℕ, ◌≤◌, sym, ◌∙◌, arith, ⊎_elim}
use Rattle.std.proofs.lemmas.Bool.{cases_lt}
use Rattle.sample_tiles.specs.Sums.{AreSums, IsWorst}
use Rattle.sample_tiles.specs.declared.adding.Sums.{Sums}

worst_below : (start count v w : ℕ) → IsWorst start count v → IsWorst start count w → v ≤ w
worst_below start count v w a b = ⊎_elim (λ above. b.bound v (a.met above)) (λ not. omega (arith, not)) (cases_lt 0 v)

pub sums_once : (start count : ℕ) (s u : Sums) → AreSums start count s → AreSums start count u → s ≡ u
sums_once start count s u a b =
    let tiles = a.tiles ∙ sym b.tiles in
    let bytes = a.bytes ∙ sym b.bytes in
    let one = worst_below start count s.worst u.worst a.worst b.worst in
    let other = worst_below start count u.worst s.worst b.worst a.worst in
    let worst : s.worst ≡ u.worst = omega (arith, one, other) in
    let checksums = a.checksums ∙ sym b.checksums in
    λ i. record { tiles = tiles i; bytes = bytes i; worst = worst i; checksums = checksums i }
