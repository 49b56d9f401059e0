-- Heads that are written.
use Rattle.std.proofs.Common.{◌≡◌, ℕ, zero, suc, ◌+◌, ◌-◌, ◌*◌, ◌/◌, ◌%◌, ◌^◌, ◌<◌, ◌≤◌, ◌↔◌, Bool, true, false, IsTrue, List, [], ◌∷◌, ◌++◌, length, take, drop, refl, sym, ap, ◌∙◌, subst, inl, inr, arith}
use Rattle.std.proofs.lemmas.Bool.{cases_lt, false≢true}
use Rattle.std.proofs.lemmas.Bool.Decides.{nat_tests}
use Rattle.std.proofs.lemmas.List.{length-append, length-take, drop_at}
use Rattle.byteorder.specs.Endian.{little_bytes, little_number}
use Rattle.byteorder.specs.Numbers.{little_number-reads_back, little_from-append, little_from-take}
use Rattle.bit_stuff.specs.declared.heads.ListHead.{ListHead}
use Rattle.bit_stuff.specs.Stuffed.{IsStuffed, stuffed_bytes, stuffed_size}
use Rattle.bit_stuff.specs.Head.{IsListHead, chosen_code, count_size, list_head_bytes, head_size, table_flag}
use Rattle.bit_stuff.specs.Simple.{IsSimpleList, simple_bytes, width_of}
use Rattle.bit_stuff.proofs.Numbers.{length-little_bytes}
use Rattle.bit_stuff.proofs.Digits.{width_of-le, below_width}
use Rattle.bit_stuff.proofs.StuffedLaws.{stuffed_bytes-stuffed, stuffed_unique, length-stuffed_bytes}
use Rattle.bit_stuff.proofs.Buffers.{end_written}
use Rattle.std.specs.Prelude.{All}
use borrow.Rule.Slice.PartMut.{put_mid}

pub chosen_code-lt : (n : ℕ) → chosen_code n < 3
chosen_code-lt n = grind (arith, nat_tests)

-- the chosen size holds the count
pub count_fits : (n : ℕ) → n < 2 ^ 32 → n < 256 ^ count_size (chosen_code n)
count_fits n h = elim (cases_lt n 256) [
  | inl small ↦ let e : count_size (chosen_code n) ≡ 1 = grind (arith, nat_tests) in rw e (omega arith)
  | inr more ↦ elim (cases_lt n 65536) [
    | inl middle ↦ let e : count_size (chosen_code n) ≡ 2 = grind (arith, nat_tests) in rw e (omega arith)
    | inr great ↦ let e : count_size (chosen_code n) ≡ 4 = grind (arith, nat_tests) in rw e (omega arith)
  ]
]

pub length-head_bytes : (w : ℕ) (table : Bool) (n : ℕ) → length (list_head_bytes w table n) ≡ head_size n
unfolding list_head_bytes
length-head_bytes w table n = omega (arith, length-little_bytes (count_size (chosen_code n)) n)

table_flag-lt : (table : Bool) → table_flag table < 2
table_flag-lt false = omega arith
table_flag-lt true = omega arith

table_flag-is : (table : Bool) → IsTrue table ↔ (table_flag table ≡ 1)
table_flag-is false = (λ e. absurd (false≢true e), λ e. absurd (omega (arith, e)))
table_flag-is true = (λ _. refl, λ _. refl)

-- a written head is read back, whatever follows
pub head_bytes-head : (w : ℕ) (table : Bool) (n : ℕ) (rest : List ℕ) → w < 32 → n < 2 ^ 32 → (IsTrue table → 0 < w)
    → IsListHead (list_head_bytes w table n ++ rest) (record { width = w; table = table; count = n }) (head_size n)
unfolding list_head_bytes
head_bytes-head w table n rest narrow small some =
    let form = w + 32 * table_flag table + 64 * chosen_code n in
    let size = count_size (chosen_code n) in
    let count = little_bytes size n in
    let code : form / 64 ≡ chosen_code n = omega (arith, table_flag-lt table) in
    let flag : form / 32 % 2 ≡ table_flag table = omega (arith, table_flag-lt table) in
    let width : form % 32 ≡ w = omega (arith, table_flag-lt table) in record {
      form = record {
        there = omega arith;
        code = rw code (chosen_code-lt n);
        table = λ set. let wide : 0 < w = some ((table_flag-is table).1 (sym flag ∙ set)) in omega (arith, width, wide);
      };
      width = sym width;
      table = rw flag (table_flag-is table);
      count = sym (ap (λ (k : ℕ). little_number (count_size k) (count ++ rest)) code ∙ little_number-reads_back size n rest (count_fits n small));
      size = ap (λ (k : ℕ). 1 + count_size k) (sym code);
      within = omega (arith, length-append count rest, length-little_bytes size n);
    }

pub length-simple_bytes : (values : List ℕ) → length (simple_bytes values) ≡ head_size (length values) + stuffed_size (length values) (width_of values)
unfolding simple_bytes
length-simple_bytes values =
    length-append (list_head_bytes (width_of values) false (length values)) (stuffed_bytes (width_of values) values)
    ∙ omega (arith, length-head_bytes (width_of values) false (length values), length-stuffed_bytes (width_of values) values)

-- the chosen bytes are a list of the values in the simple form
pub simple_bytes-list : (values : List ℕ) → length values < 2 ^ 32 → All (λ v. v < 2 ^ 31) values → IsSimpleList (simple_bytes values) values
unfolding simple_bytes
simple_bytes-list values small below =
    let n = length values in
    let w = width_of values in
    let front = list_head_bytes w false n in
    let after : drop (head_size n) (front ++ stuffed_bytes w values) ≡ stuffed_bytes w values = drop_at front (stuffed_bytes w values) (head_size n) (length-head_bytes w false n) in (
      record { width = w; table = false; count = n },
      (
        head_size n,
        record {
          is_head = head_bytes-head w false n (stuffed_bytes w values) (omega (arith, width_of-le 31 values below)) small (λ e. absurd (false≢true e));
          simple = refl;
          count = refl;
          stuffed = rw after (stuffed_bytes-stuffed w values (below_width 31 values below));
        },
      ),
    )

-- what `write_simple` leaves
pub simple_written : (values old out new : List ℕ) (w used : ℕ) → w ≡ width_of values → used ≡ head_size (length values)
    → out ≡ list_head_bytes w false (length values) ++ drop (head_size (length values)) old → new ≡ stuffed_bytes w values
    → put_mid used (length out - used) out new ≡ simple_bytes values
unfolding simple_bytes
simple_written values old out new w used chosen size head stuffed =
    let n = length values in
    let front = list_head_bytes w false n in
    let rest = drop (head_size n) old in
    let len : length front ≡ used = length-head_bytes w false n ∙ sym size in
    ap (λ (xs : List ℕ). put_mid used (length xs - used) xs new) head
    ∙ end_written front rest new used (length (front ++ rest) - used) len (omega (arith, length-append front rest, len))
    ∙ ap (λ (xs : List ℕ). front ++ xs) stuffed
    ∙ ap (λ (k : ℕ). list_head_bytes k false n ++ stuffed_bytes k values) chosen

-- bytes are a simple list of one list
pub simple_unique : (bytes xs ys : List ℕ) → IsSimpleList bytes xs → IsSimpleList bytes ys → xs ≡ ys
simple_unique bytes xs ys (h, (u, a)) (k, (v, b)) =
    let same_used : v ≡ u = b.is_head.size ∙ sym a.is_head.size in
    let same_width : k.width ≡ h.width = b.is_head.width ∙ sym a.is_head.width in
    let same_count : length xs ≡ length ys = sym a.count ∙ a.is_head.count ∙ sym b.is_head.count ∙ b.count in
    let at_width : IsStuffed (drop v bytes) h.width ys = subst (λ (w : ℕ). IsStuffed (drop v bytes) w ys) same_width b.stuffed in
    let at_place : IsStuffed (drop u bytes) h.width ys = subst (λ (n : ℕ). IsStuffed (drop n bytes) h.width ys) same_used at_width in
    stuffed_unique (drop u bytes) h.width xs ys a.stuffed at_place same_count

-- a head is one, whatever follows its bytes
pub head-append : (xs ys : List ℕ) (head : ListHead) (used : ℕ) → IsListHead xs head used → IsListHead (xs ++ ys) head used
head-append [] ys head used h = absurd (omega (arith, h.form.there))
head-append (x ∷ xs) ys head used h = record {
  form = record { there = omega arith; code = h.form.code; table = h.form.table };
  width = h.width;
  table = h.table;
  count = h.count ∙ sym (little_from-append (count_size (x / 64)) xs ys (omega (arith, h.size, h.within)));
  size = h.size;
  within = omega (arith, h.within, length-append xs ys);
}

-- a head lies in the bytes that it takes
pub head-take : (xs : List ℕ) (n : ℕ) (head : ListHead) (used : ℕ) → IsListHead xs head used → used ≤ n → IsListHead (take n xs) head used
head-take [] n head used h front = absurd (omega (arith, h.form.there))
head-take (x ∷ xs) zero head used h front = absurd (omega (arith, h.size, front))
head-take (x ∷ xs) (suc n) head used h front = record {
  form = record { there = omega arith; code = h.form.code; table = h.form.table };
  width = h.width;
  table = h.table;
  count = h.count ∙ sym (little_from-take 0 (count_size (x / 64)) n xs (omega (arith, h.size, front)));
  size = h.size;
  within = omega (arith, h.within, front, length-take n xs);
}

same_flag : (a b : Bool) {P : Type 0} → IsTrue a ↔ P → IsTrue b ↔ P → a ≡ b
same_flag false false p q = refl
same_flag false true p q = absurd (false≢true (p.1 (q.0 refl)))
same_flag true false p q = absurd (false≢true (q.1 (p.0 refl)))
same_flag true true p q = refl

-- bytes begin with one head at most
pub one_head : (xs : List ℕ) (g h : ListHead) (used taken : ℕ) → IsListHead xs g used → IsListHead xs h taken → (g ≡ h) × (used ≡ taken)
one_head xs g h used taken a b =
    let width : g.width ≡ h.width = a.width ∙ sym b.width in
    let table : g.table ≡ h.table = same_flag g.table h.table a.table b.table in
    let count : g.count ≡ h.count = a.count ∙ sym b.count in
    ((λ i. record { width = width i; table = table i; count = count i }), a.size ∙ sym b.size)
