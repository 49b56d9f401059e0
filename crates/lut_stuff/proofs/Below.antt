-- The numbers of a list are below 2 ^ 31.
use Rattle.std.proofs.Common.{ℕ, zero, suc, ◌+◌, ◌^◌, ◌<◌, ◌≤◌, List, length, get_or, sym, subst, arith}
use Rattle.std.specs.Prelude.{All}
use Rattle.std.proofs.Math.Nat.{pow-le-pow_right}
use Rattle.std.proofs.lemmas.List.Elements.{All-from_get_or, All-get_or, All-map, All-weaker}
use Rattle.bit_stuff.specs.declared.heads.ListHead.{ListHead}
use Rattle.bit_stuff.specs.Head.{IsListHead}
use Rattle.bit_stuff.specs.Stuffed.{IsStuffed}
use Rattle.bit_stuff.proofs.StuffedLaws.{stuffed_below}
use Rattle.lut_stuff.specs.Lists.{IsList, IsTabled, entry_at, simple, table}

head_narrow : (bytes : List ℕ) (head : ListHead) (used : ℕ) → IsListHead bytes head used → head.width ≤ 31
head_narrow bytes head used h = omega (arith, h.width)

numbers_below : (bytes values : List ℕ) (width : ℕ) → width ≤ 31 → IsStuffed bytes width values → All (λ v. v < 2 ^ 31) values
numbers_below bytes values width narrow u =
    let wider : 2 ^ width ≤ 2 ^ 31 = pow-le-pow_right (omega arith) narrow in
    All-weaker (λ v. v < 2 ^ width) (λ v. v < 2 ^ 31) (λ v below. omega (arith, below, wider)) values (stuffed_below bytes width values u)

entry_below : (entries : List ℕ) (i : ℕ) → i < length entries + 1 → All (λ v. v < 2 ^ 31) entries → entry_at entries i < 2 ^ 31
entry_below entries zero lt below = omega arith
entry_below entries (suc i) lt below = All-get_or (λ v. v < 2 ^ 31) entries i 0 (omega (arith, lt)) below

tabled_below : (bytes values : List ℕ) (width : ℕ) → width ≤ 31 → IsTabled width bytes values → All (λ v. v < 2 ^ 31) values
tabled_below bytes values width narrow t =
    subst (λ (u : List ℕ). All (λ v. v < 2 ^ 31) u) (sym t.named)
    (All-map (λ v. v < 2 ^ 31) (entry_at t.entries) t.indexes
    (All-from_get_or (λ i. entry_at t.entries i < 2 ^ 31) t.indexes 0
    (λ k lt. entry_below t.entries (get_or t.indexes k 0) (t.within k 0 lt) (numbers_below t.entry_bytes t.entries width narrow t.stuffed_entries))))

pub list_below : (bytes values : List ℕ) → IsList bytes values → All (λ v. v < 2 ^ 31) values
list_below bytes values (simple (head, (used, u))) = numbers_below _ values head.width (head_narrow bytes head used u.is_head) u.stuffed
list_below bytes values (table head front back joined is_head set t) = tabled_below back values head.width (head_narrow front head (length front) is_head.0) t
