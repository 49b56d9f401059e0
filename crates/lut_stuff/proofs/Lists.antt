-- A list is a part: it is read in one way, and it stands or has one first fault.
use Rattle.std.proofs.Common.{◌≡◌, ℕ, zero, suc, ◌+◌, ◌-◌, ◌<◌, ◌≤◌, ◌⊎◌, Bool, true, false, IsTrue, List, [], ◌∷◌, ◌++◌, length, slice_index, take, drop, map, refl, sym, ap, ◌∙◌, subst, inl, inr, arith}
use Rattle.std.proofs.lemmas.Bool.{cases_lt, false≢true}
use Rattle.std.proofs.lemmas.List.{append_assoc, length-append, length-map, length-take-le, take-append-drop, take_at, drop_at}
use Rattle.std.proofs.lemmas.List.Elements.{All-from_get_or}
use Rattle.std.specs.Prelude.{All}
use Rattle.first_fault.specs.Faults.{Faults, none, wrong, unless, moved, in_order}
use Rattle.first_fault.specs.Parts.{IsSingle, IsPart, IsDecided, HasFault}
use Rattle.first_fault.proofs.Parts.{single-none, single-unless, single-choice, single-moved, single-in_order, passed, failed, same_rest, behind_it}
use Rattle.first_fault.proofs.Decided.{decided_unless}
use Rattle.bit_stuff.specs.declared.heads.ListHead.{ListHead}
use Rattle.bit_stuff.specs.declared.heads.ListReason.{ListReason}
use Rattle.bit_stuff.specs.declared.heads.ListReason.TheVariants.{Cut, BadTable, BadIndex}
use Rattle.bit_stuff.specs.Head.{IsListHead, IsListHeadOf, list_head_faults}
use Rattle.bit_stuff.specs.Simple.{IsSimpleList, binary_digits}
use Rattle.bit_stuff.specs.Stuffed.{IsStuffed, field_at, number_of_bytes, stuffed_size}
use Rattle.bit_stuff.proofs.HeadLaws.{head-append, head-take}
use Rattle.bit_stuff.proofs.HeadParts.{head_decided, head_part, same_front}
use Rattle.bit_stuff.proofs.StuffedLaws.{some_stuffed, stuffed_unique}
use Rattle.lut_stuff.specs.Faults.{AreIndexes, list_body_faults, data_faults, entry_faults, index_faults, list_faults, size_faults, list_table_faults}
use Rattle.lut_stuff.specs.Lists.{IsList, IsListOf, IsTabled, entry_at}
use Rattle.lut_stuff.specs.Lists.IsList.{simple, table}
use Rattle.lut_stuff.specs.inside.Indexes.{IsBody}
use Rattle.lut_stuff.specs.inside.Indexes.IsBody.{plain, tabled}

-- ---- the parts of a list

-- a simple list is a head, and its numbers stuffed behind it
pub record IsHeaded (bytes values : List ℕ) : Type 0 where
  pub head : ListHead
  pub front : List ℕ
  pub back : List ℕ
  pub joined : bytes ≡ front ++ back
  pub is_head : IsListHeadOf (length values) front head
  pub plain : head.table ≡ false
  pub stuffed : IsStuffed back head.width values

pub headed : (bytes values : List ℕ) → IsSimpleList bytes values → IsHeaded bytes values
headed bytes values (head, (used, u)) =
    let size : length (take used bytes) ≡ used = length-take-le used bytes u.is_head.within in record {
      head = head;
      front = take used bytes;
      back = drop used bytes;
      joined = sym (take-append-drop used bytes);
      is_head = (subst (λ (k : ℕ). IsListHead (take used bytes) head k) (sym size) (head-take bytes used head used u.is_head (omega arith)), u.count);
      plain = u.simple;
      stuffed = u.stuffed;
    }

-- ---- once

-- the numbers of one count and width in front of equal joins
numbers_once : (a b s t : List ℕ) (width : ℕ) (xs ys : List ℕ) → IsStuffed a width xs → IsStuffed b width ys → length xs ≡ length ys → a ++ s ≡ b ++ t → (a ≡ b) × (xs ≡ ys)
numbers_once a b s t width xs ys p q size joined =
    let long : length a ≡ length b = p.size ∙ ap (λ (n : ℕ). stuffed_size n width) size ∙ sym q.size in
    let same : a ≡ b = same_front a b s t long joined in
    (same, stuffed_unique a width xs ys p (subst (λ (u : List ℕ). IsStuffed u width ys) (sym same) q) size)

cons_same : (x y : ℕ) (xs ys : List ℕ) → x ∷ xs ≡ y ∷ ys → (x ≡ y) × (xs ≡ ys)
cons_same x y xs ys e = (cc, cc)

tabled_once : (a b s t : List ℕ) (width : ℕ) (xs ys : List ℕ) → IsTabled width a xs → IsTabled width b ys → length xs ≡ length ys → a ++ s ≡ b ++ t → (a ≡ b) × (xs ≡ ys)
tabled_once a b s t width xs ys p q size joined =
    let left : a ++ s ≡ (length p.entries + 1) ∷ (p.entry_bytes ++ (p.index_bytes ++ s)) =
    ap (λ (u : List ℕ). u ++ s) p.joined ∙ ap (λ (u : List ℕ). (length p.entries + 1) ∷ u) (append_assoc p.entry_bytes p.index_bytes s) in
    let right : b ++ t ≡ (length q.entries + 1) ∷ (q.entry_bytes ++ (q.index_bytes ++ t)) =
    ap (λ (u : List ℕ). u ++ t) q.joined ∙ ap (λ (u : List ℕ). (length q.entries + 1) ∷ u) (append_assoc q.entry_bytes q.index_bytes t) in
    let tails = cons_same (length p.entries + 1) (length q.entries + 1) (p.entry_bytes ++ (p.index_bytes ++ s)) (q.entry_bytes ++ (q.index_bytes ++ t)) (sym left ∙ joined ∙ right) in
    let many : length p.entries ≡ length q.entries = omega (arith, tails.0) in
    let entries = numbers_once p.entry_bytes q.entry_bytes (p.index_bytes ++ s) (q.index_bytes ++ t) width p.entries q.entries p.stuffed_entries q.stuffed_entries many tails.1 in
    let rests : p.index_bytes ++ s ≡ q.index_bytes ++ t = same_rest p.entry_bytes q.entry_bytes (p.index_bytes ++ s) (q.index_bytes ++ t) entries.0 tails.1 in
    let count : length p.indexes ≡ length q.indexes =
    sym (length-map p.indexes (entry_at p.entries)) ∙ ap length (sym p.named) ∙ size ∙ ap length q.named ∙ length-map q.indexes (entry_at q.entries) in
    let other : IsStuffed q.index_bytes (binary_digits (length p.entries)) q.indexes = subst (λ (k : ℕ). IsStuffed q.index_bytes (binary_digits k) q.indexes) (sym many) q.stuffed_indexes in
    let indexes = numbers_once p.index_bytes q.index_bytes s t (binary_digits (length p.entries)) p.indexes q.indexes p.stuffed_indexes other count rests in (
      p.joined ∙ (λ i. (length (entries.1 i) + 1) ∷ (entries.0 i ++ indexes.0 i)) ∙ sym q.joined,
      p.named ∙ (λ i. map (entry_at (entries.1 i)) (indexes.1 i)) ∙ sym q.named,
    )

pub record IsCut (bytes values : List ℕ) : Type 0 where
  pub head : ListHead
  pub front : List ℕ
  pub back : List ℕ
  pub joined : bytes ≡ front ++ back
  pub is_head : IsListHeadOf (length values) front head
  pub body : IsBody head back values

pub cut : (bytes values : List ℕ) → IsList bytes values → IsCut bytes values
cut bytes values (simple list) =
    let h = headed bytes values list in record { head = h.head; front = h.front; back = h.back; joined = h.joined; is_head = h.is_head; body = plain h.plain h.stuffed }
cut bytes values (table head front back joined is_head set t) = record { head = head; front = front; back = back; joined = joined; is_head = is_head; body = tabled set t }

body_once : (head : ListHead) (a b s t : List ℕ) (xs ys : List ℕ) → IsBody head a xs → IsBody head b ys → length xs ≡ length ys → a ++ s ≡ b ++ t → (a ≡ b) × (xs ≡ ys)
body_once head a b s t xs ys (plain p u) (plain q v) size joined = numbers_once a b s t head.width xs ys u v size joined
body_once head a b s t xs ys (plain p u) (tabled q v) size joined = absurd (false≢true (sym p ∙ q))
body_once head a b s t xs ys (tabled p u) (plain q v) size joined = absurd (false≢true (sym q ∙ p))
body_once head a b s t xs ys (tabled p u) (tabled q v) size joined = tabled_once a b s t head.width xs ys u v size joined

list_once : (n : ℕ) (a b s t xs ys : List ℕ) → IsListOf n a xs → IsListOf n b ys → a ++ s ≡ b ++ t → (a ≡ b) × (xs ≡ ys)
list_once n a b s t xs ys (nx, p) (ny, q) joined =
    let c = cut a xs p in
    let d = cut b ys q in
    let left : a ++ s ≡ c.front ++ (c.back ++ s) = ap (λ (u : List ℕ). u ++ s) c.joined ∙ append_assoc c.front c.back s in
    let right : b ++ t ≡ d.front ++ (d.back ++ t) = ap (λ (u : List ℕ). u ++ t) d.joined ∙ append_assoc d.front d.back t in
    let joins = sym left ∙ joined ∙ right in
    let heads = (head_part n).once c.front d.front (c.back ++ s) (d.back ++ t) c.head d.head (c.is_head.0, c.is_head.1 ∙ nx) (d.is_head.0, d.is_head.1 ∙ ny) joins in
    let rests = same_rest c.front d.front (c.back ++ s) (d.back ++ t) heads.0 joins in
    let bodies = body_once c.head c.back d.back s t xs ys c.body (subst (λ (h : ListHead). IsBody h d.back ys) (sym heads.1) d.body) (nx ∙ sym ny) rests in
    (c.joined ∙ (λ i. heads.0 i ++ bodies.0 i) ∙ sym d.joined, bodies.1)

-- ---- either

numbers_no_fault : (n width : ℕ) (a s xs : List ℕ) → length xs ≡ n → IsStuffed a width xs → (p : ℕ) (r : ListReason) → data_faults n width (a ++ s) p r → ⊥
numbers_no_fault n width a s xs size u p r w =
    let room : stuffed_size n width ≤ length (a ++ s) = omega (arith, length-append a s, u.size, ap (λ (k : ℕ). stuffed_size k width) size) in
    passed (stuffed_size n width ≤ length (a ++ s)) none (wrong Cut 0) room p r w

indexes_no_fault : (n most : ℕ) (a s is : List ℕ) → length is ≡ n → IsStuffed a (binary_digits most) is → All (λ i. i < most + 1) is → (p : ℕ) (r : ListReason) → index_faults n most (a ++ s) p r → ⊥
indexes_no_fault n most a s is size u within p r w =
    let digits = binary_digits most in
    let long : length a ≡ stuffed_size n digits = u.size ∙ ap (λ (k : ℕ). stuffed_size k digits) size in
    let room : stuffed_size n digits ≤ length (a ++ s) = omega (arith, length-append a s, long) in
    let front : take (stuffed_size n digits) (a ++ s) ≡ a = take_at a s (stuffed_size n digits) long in
    let below : AreIndexes n most a = λ i lt. let field = u.fields i (omega (arith, size, lt)) in omega (arith, field, within i 0 (omega (arith, size, lt))) in
    let fine : AreIndexes n most (take (stuffed_size n digits) (a ++ s)) = subst (λ (bytes : List ℕ). AreIndexes n most bytes) (sym front) below in
    let w1 = passed (stuffed_size n digits ≤ length (a ++ s)) (unless (AreIndexes n most (take (stuffed_size n digits) (a ++ s))) (wrong BadIndex 0) none) (wrong Cut 0) room p r w in
    passed (AreIndexes n most (take (stuffed_size n digits) (a ++ s))) none (wrong BadIndex 0) fine p r w1

entries_no_fault : (n width most : ℕ) (a b s es is : List ℕ) → length es ≡ most → IsStuffed a width es → length is ≡ n → IsStuffed b (binary_digits most) is → All (λ i. i < most + 1) is
    → (p : ℕ) (r : ListReason) → entry_faults n width most (a ++ (b ++ s)) p r → ⊥
entries_no_fault n width most a b s es is many u size v within p r w =
    let long : length a ≡ stuffed_size most width = u.size ∙ ap (λ (k : ℕ). stuffed_size k width) many in
    let room : stuffed_size most width ≤ length (a ++ (b ++ s)) = omega (arith, length-append a (b ++ s), long) in
    let rest : drop (stuffed_size most width) (a ++ (b ++ s)) ≡ b ++ s = drop_at a (b ++ s) (stuffed_size most width) long in
    let w1 = passed (stuffed_size most width ≤ length (a ++ (b ++ s))) (moved (stuffed_size most width) (index_faults n most (drop (stuffed_size most width) (a ++ (b ++ s))))) (wrong Cut 0) room p r w in
    indexes_no_fault n most b s is size v within w1.0 r (subst (λ (u : List ℕ). index_faults n most u w1.0 r) rest w1.1.1)

table_no_fault : (n width : ℕ) (a s xs : List ℕ) → length xs ≡ n → IsTabled width a xs → (p : ℕ) (r : ListReason) → list_table_faults n width (a ++ s) p r → ⊥
table_no_fault n width a s xs size t p r w =
    let most = length t.entries in
    let whole : a ++ s ≡ (most + 1) ∷ (t.entry_bytes ++ (t.index_bytes ++ s)) =
    ap (λ (u : List ℕ). u ++ s) t.joined ∙ ap (λ (u : List ℕ). (most + 1) ∷ u) (append_assoc t.entry_bytes t.index_bytes s) in
    let w0 : list_table_faults n width ((most + 1) ∷ (t.entry_bytes ++ (t.index_bytes ++ s))) p r = subst (λ (u : List ℕ). list_table_faults n width u p r) whole w in
    let back = t.entry_bytes ++ (t.index_bytes ++ s) in
    let w1 = passed (0 < length ((most + 1) ∷ back)) (size_faults n width (most + 1) back) (wrong Cut 0) (omega arith) p r w0 in
    let w2 = passed (2 ≤ most + 1) (moved 1 (entry_faults n width (most + 1 - 1) back)) (wrong BadTable 0) (omega (arith, t.some)) p r w1 in
    let less : most + 1 - 1 ≡ most = omega arith in
    let count : length t.indexes ≡ n = sym (length-map t.indexes (entry_at t.entries)) ∙ ap length (sym t.named) ∙ size in
    entries_no_fault n width most t.entry_bytes t.index_bytes s t.entries t.indexes refl t.stuffed_entries count t.stuffed_indexes t.within w2.0 r
    (subst (λ (k : ℕ). entry_faults n width k back w2.0 r) less w2.1.1)

body_no_fault : (n : ℕ) (head : ListHead) (a s xs : List ℕ) → length xs ≡ n → IsBody head a xs → (p : ℕ) (r : ListReason) → list_body_faults n head (a ++ s) p r → ⊥
body_no_fault n head a s xs size (plain clear u) p r w =
    numbers_no_fault n head.width a s xs size u p r
    (failed (IsTrue head.table) (list_table_faults n head.width (a ++ s)) (data_faults n head.width (a ++ s)) (λ set. false≢true (sym clear ∙ set)) p r w)
body_no_fault n head a s xs size (tabled set t) p r w =
    table_no_fault n head.width a s xs size t p r
    (passed (IsTrue head.table) (list_table_faults n head.width (a ++ s)) (data_faults n head.width (a ++ s)) set p r w)

list_no_fault : (n : ℕ) (a s xs : List ℕ) → IsListOf n a xs → (p : ℕ) (r : ListReason) → list_faults n (a ++ s) p r → ⊥
unfolding list_faults
list_no_fault n a s xs (size, list) p r w =
    let c = cut a xs list in
    let whole : a ++ s ≡ c.front ++ (c.back ++ s) = ap (λ (u : List ℕ). u ++ s) c.joined ∙ append_assoc c.front c.back s in
    let there = behind_it (IsListHeadOf n) (list_head_faults n) (list_body_faults n) (head_part n) c.front (c.back ++ s) c.head (c.is_head.0, c.is_head.1 ∙ size) p r
    (subst (λ (u : List ℕ). in_order (IsListHeadOf n) (list_head_faults n) (list_body_faults n) u p r) whole w) in
    body_no_fault n c.head c.back s xs size c.body there.0 r there.1.1

-- ---- single

index_single : (n most : ℕ) (rest : List ℕ) → IsSingle (index_faults n most rest)
index_single n most rest =
    single-unless (stuffed_size n (binary_digits most) ≤ length rest) Cut 0 (unless (AreIndexes n most (take (stuffed_size n (binary_digits most)) rest)) (wrong BadIndex 0) none)
    (single-unless (AreIndexes n most (take (stuffed_size n (binary_digits most)) rest)) BadIndex 0 none single-none)

table_single : (n width : ℕ) (rest : List ℕ) → IsSingle (list_table_faults n width rest)
table_single n width rest =
    let size = slice_index rest 0 in
    let most = size - 1 in
    let entries = drop 1 rest in
    let indexes = drop (stuffed_size most width) entries in
    single-unless (0 < length rest) Cut 0 (size_faults n width size entries)
    (single-unless (2 ≤ size) BadTable 0 (moved 1 (entry_faults n width most entries))
    (single-moved 1 (entry_faults n width most entries)
    (single-unless (stuffed_size most width ≤ length entries) Cut 0 (moved (stuffed_size most width) (index_faults n most indexes))
    (single-moved (stuffed_size most width) (index_faults n most indexes) (index_single n most indexes)))))

body_single : (n : ℕ) (head : ListHead) (rest : List ℕ) → IsSingle (list_body_faults n head rest)
body_single n head rest =
    single-choice (IsTrue head.table) (list_table_faults n head.width rest) (data_faults n head.width rest) (table_single n head.width rest)
    (single-unless (stuffed_size n head.width ≤ length rest) Cut 0 none single-none)

list_single : (n : ℕ) (bytes : List ℕ) → IsSingle (list_faults n bytes)
unfolding list_faults
list_single n bytes = single-in_order (IsListHeadOf n) (list_head_faults n) (list_body_faults n) (head_part n) (λ head rest. body_single n head rest) bytes

pub list_part : (n : ℕ) → IsPart (IsListOf n) (list_faults n)
list_part n = record {
  once = λ a b s t xs ys p q joined. list_once n a b s t xs ys p q joined;
  either = λ a s xs p r list w. list_no_fault n a s xs list p r w;
  single = λ bytes. list_single n bytes;
}

-- ---- decided

tests_le : (m n : ℕ) → (m ≤ n) ⊎ (¬ (m ≤ n))
tests_le m n = elim (cases_lt n m) [ inl past ↦ inr (λ below. omega (arith, below, past)) | inr below ↦ inl below ]

tests_flag : (b : Bool) → IsTrue b ⊎ (¬ IsTrue b)
tests_flag true = inl refl
tests_flag false = inr (λ e. false≢true e)

-- all of some numbers are at most another, or one of them is not
tests_all : (most n : ℕ) (f : ℕ → ℕ) → ((i : ℕ) → i < n → f i ≤ most) ⊎ (¬ ((i : ℕ) → i < n → f i ≤ most))
tests_all most zero f = inl (λ i lt. absurd (omega (arith, lt)))
tests_all most (suc n) f = last most n f (tests_all most n f) (tests_le (f n) most)
  where
    last : (most n : ℕ) (f : ℕ → ℕ) → ((i : ℕ) → i < n → f i ≤ most) ⊎ (¬ ((i : ℕ) → i < n → f i ≤ most)) → (f n ≤ most) ⊎ (¬ (f n ≤ most))
        → ((i : ℕ) → i < suc n → f i ≤ most) ⊎ (¬ ((i : ℕ) → i < suc n → f i ≤ most))
    last most n f (inl below) (inl here) = inl (λ i lt. elim (cases_lt i n) [
      | inl less ↦ below i less
      | inr past ↦ let same : n ≡ i = omega (arith, lt, past) in subst (λ (k : ℕ). f k ≤ most) same here
    ])
    last most n f (inl below) (inr past) = inr (λ all. past (all n (omega arith)))
    last most n f (inr some) here = inr (λ all. some (λ i lt. all i (omega (arith, lt))))

-- what follows a head, up to the last of its bytes
pub record HasBody (n : ℕ) (head : ListHead) (rest : List ℕ) : Type 0 where
  pub front : List ℕ
  pub back : List ℕ
  pub values : List ℕ
  pub joined : rest ≡ front ++ back
  pub counted : length values ≡ n
  pub body : IsBody head front values

numbers_front : (n width : ℕ) (rest : List ℕ) → stuffed_size n width ≤ length rest → (values : List ℕ) × ((length values ≡ n) × IsStuffed (take (stuffed_size n width) rest) width values)
numbers_front n width rest room = some_stuffed (take (stuffed_size n width) rest) width n (length-take-le (stuffed_size n width) rest room)

-- what is read where all tests of a table hold
table_front : (n : ℕ) (head : ListHead) (rest : List ℕ) → IsTrue head.table → 0 < length rest → 2 ≤ slice_index rest 0
    → stuffed_size (slice_index rest 0 - 1) head.width ≤ length (drop 1 rest)
    → stuffed_size n (binary_digits (slice_index rest 0 - 1)) ≤ length (drop (stuffed_size (slice_index rest 0 - 1) head.width) (drop 1 rest))
    → AreIndexes n (slice_index rest 0 - 1) (take (stuffed_size n (binary_digits (slice_index rest 0 - 1))) (drop (stuffed_size (slice_index rest 0 - 1) head.width) (drop 1 rest)))
    → HasBody n head rest
table_front n head [] set there two room_e room_i fine = absurd (omega (arith, there))
table_front n head (size ∷ back) set there two room_e room_i fine =
    let most = size - 1 in
    let se = stuffed_size most head.width in
    let si = stuffed_size n (binary_digits most) in
    let after = drop se back in
    let es = numbers_front most head.width back room_e in
    let is = numbers_front n (binary_digits most) after room_i in
    let many : size ≡ length es.0 + 1 = let e : length es.0 ≡ most = es.1.0 in omega (arith, e, two) in
    let same : most ≡ length es.0 = sym es.1.0 in
    let counted : length is.0 ≡ n = is.1.0 in record {
      front = size ∷ (take se back ++ take si after);
      back = drop si after;
      values = map (entry_at es.0) is.0;
      joined = ap (λ (u : List ℕ). size ∷ u)
          (sym (take-append-drop se back) ∙ ap (λ (u : List ℕ). take se back ++ u) (sym (take-append-drop si after)) ∙ sym (append_assoc (take se back) (take si after) (drop si after)));
      counted = length-map is.0 (entry_at es.0) ∙ counted;
      body = tabled set (record {
        entries = es.0;
        indexes = is.0;
        entry_bytes = take se back;
        index_bytes = take si after;
        joined = ap (λ (k : ℕ). k ∷ (take se back ++ take si after)) many;
        some = omega (arith, many, two);
        stuffed_entries = es.1.1;
        stuffed_indexes = subst (λ (k : ℕ). IsStuffed (take si after) (binary_digits k) is.0) same is.1.1;
        within = All-from_get_or (λ i. i < length es.0 + 1) is.0 0 (λ i lt. let field = is.1.1.fields i lt in omega (arith, field, fine i (omega (arith, lt, counted)), same));
        named = refl;
      });
    }

index_decided : (n : ℕ) (head : ListHead) (rest : List ℕ) → IsTrue head.table → 0 < length rest → 2 ≤ slice_index rest 0
    → stuffed_size (slice_index rest 0 - 1) head.width ≤ length (drop 1 rest)
    → HasBody n head rest ⊎ HasFault (index_faults n (slice_index rest 0 - 1) (drop (stuffed_size (slice_index rest 0 - 1) head.width) (drop 1 rest)))
index_decided n head rest set there two room_e =
    let most = slice_index rest 0 - 1 in
    let after = drop (stuffed_size most head.width) (drop 1 rest) in
    let si = stuffed_size n (binary_digits most) in
    decided_unless (si ≤ length after) (wrong Cut 0) (unless (AreIndexes n most (take si after)) (wrong BadIndex 0) none) (tests_le si (length after)) (record { place = 0; reason = Cut; fault = (refl, refl) }) (λ room_i.
    decided_unless (AreIndexes n most (take si after)) (wrong BadIndex 0) none (tests_all most n (field_at (binary_digits most) (number_of_bytes (take si after)))) (record { place = 0; reason = BadIndex; fault = (refl, refl) }) (λ fine.
    inl (table_front n head rest set there two room_e room_i fine)))

later_fault : {Y : Type 0} (n : ℕ) (faults : Faults ListReason) → Y ⊎ HasFault faults → Y ⊎ HasFault (moved n faults)
later_fault n faults (inl y) = inl y
later_fault n faults (inr w) = inr (record { place = n + w.place; reason = w.reason; fault = (w.place, (refl, w.fault)) })

table_decided : (n : ℕ) (head : ListHead) (rest : List ℕ) → IsTrue head.table → HasBody n head rest ⊎ HasFault (list_table_faults n head.width rest)
table_decided n head rest set =
    let size = slice_index rest 0 in
    let most = size - 1 in
    let entries = drop 1 rest in
    let se = stuffed_size most head.width in
    decided_unless (0 < length rest) (wrong Cut 0) (size_faults n head.width size entries) (tests_le 1 (length rest)) (record { place = 0; reason = Cut; fault = (refl, refl) }) (λ there.
    decided_unless (2 ≤ size) (wrong BadTable 0) (moved 1 (entry_faults n head.width most entries)) (tests_le 2 size) (record { place = 0; reason = BadTable; fault = (refl, refl) }) (λ two.
    later_fault 1 (entry_faults n head.width most entries)
    (decided_unless (se ≤ length entries) (wrong Cut 0) (moved se (index_faults n most (drop se entries))) (tests_le se (length entries)) (record { place = 0; reason = Cut; fault = (refl, refl) }) (λ room.
    later_fault se (index_faults n most (drop se entries)) (index_decided n head rest set there two room)))))

data_decided : (n : ℕ) (head : ListHead) (rest : List ℕ) → head.table ≡ false → HasBody n head rest ⊎ HasFault (data_faults n head.width rest)
data_decided n head rest clear =
    decided_unless (stuffed_size n head.width ≤ length rest) (wrong Cut 0) none (tests_le (stuffed_size n head.width) (length rest)) (record { place = 0; reason = Cut; fault = (refl, refl) }) (λ room.
    let xs = numbers_front n head.width rest room in inl (record {
      front = take (stuffed_size n head.width) rest;
      back = drop (stuffed_size n head.width) rest;
      values = xs.0;
      joined = sym (take-append-drop (stuffed_size n head.width) rest);
      counted = xs.1.0;
      body = plain clear xs.1.1;
    }))

body_decided : (n : ℕ) (head : ListHead) (rest : List ℕ) → HasBody n head rest ⊎ HasFault (list_body_faults n head rest)
body_decided n head rest = pick head.table refl
  where
    pick : (b : Bool) → head.table ≡ b → HasBody n head rest ⊎ HasFault (list_body_faults n head rest)
    pick true e = elim (table_decided n head rest e) [
      | inl body ↦ inl body
      | inr w ↦ inr (record { place = w.place; reason = w.reason; fault = inl (e, w.fault) })
    ]
    pick false e = elim (data_decided n head rest e) [
      | inl body ↦ inl body
      | inr w ↦ inr (record { place = w.place; reason = w.reason; fault = inr ((λ set. false≢true (sym e ∙ set)), w.fault) })
    ]

-- a head and its body are a list
pub body_list : (front back values : List ℕ) (head : ListHead) → IsListHeadOf (length values) front head → IsBody head back values → IsList (front ++ back) values
body_list front back values head is_head (plain clear u) =
    let size : length front ≤ length (front ++ back) = omega (arith, length-append front back) in
    simple (head, (length front, record { is_head = head-append front back head (length front) is_head.0; simple = clear; count = is_head.1; stuffed = subst (λ (u : List ℕ). IsStuffed u head.width values) (sym (drop_at front back (length front) refl)) u }))
body_list front back values head is_head (tabled set t) = table head front back refl is_head set t

pub list_decided : (n : ℕ) → IsDecided (IsListOf n) (list_faults n)
unfolding list_faults
list_decided n bytes are = elim (head_decided n bytes are) [
  | inl h ↦ elim (body_decided n h.value h.rest) [
    | inl b ↦ inl (record {
      front = h.front ++ b.front;
      rest = b.back;
      value = b.values;
      joined = h.joined ∙ ap (λ (u : List ℕ). h.front ++ u) b.joined ∙ sym (append_assoc h.front b.front b.back);
      stands = (b.counted, body_list h.front b.front b.values h.value (h.stands.0, h.stands.1 ∙ sym b.counted) b.body);
    })
    | inr w ↦ inr (record {
      place = length h.front + w.place;
      reason = w.reason;
      fault = inr (record { front = h.front; rest = h.rest; value = h.value; joined = h.joined; stands = h.stands; later = (w.place, (refl, w.fault)) });
    })
  ]
  | inr w ↦ inr (record { place = w.place; reason = w.reason; fault = inl w.fault })
]
