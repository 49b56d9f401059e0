-- Steps of reading a table.
use Rattle.std.proofs.Common.{◌≡◌, ℕ, suc, ◌+◌, ◌-◌, ◌<◌, ◌≤◌, List, [], ◌∷◌, ◌++◌, length, get_or, slice_index, take, drop, map, refl, sym, ap, ◌∙◌, subst, inl, inr, arith}
use Rattle.std.specs.Prelude.{All, Result, Ok, Err, MatchResult, IfOk, ◌↔◌}
use Rattle.bit_stuff.specs.declared.heads.ListFault.{ListFault}
use Rattle.std.proofs.lemmas.List.{length-take-le, length-drop, take-append-drop}
use Rattle.std.proofs.lemmas.List.Elements.{All-from_get_or}
use Rattle.bit_stuff.specs.declared.heads.ListReason.{ListReason}
use Rattle.bit_stuff.specs.declared.heads.ListReason.TheVariants.{BadIndex}
use Rattle.bit_stuff.specs.Simple.{binary_digits}
use Rattle.bit_stuff.specs.Stuffed.{IsStuffed, stuffed_size}
use Rattle.bit_stuff.specs.declared.heads.ListHead.{ListHead}
use Rattle.bit_stuff.specs.Head.{IsListHead, IsListHeadOf, list_head_faults}
use Rattle.bit_stuff.proofs.HeadLaws.{head-take}
use Rattle.lut_stuff.specs.Faults.{AreIndexes, list_body_faults, entry_faults, index_faults, list_faults, list_table_faults}
use Rattle.lut_stuff.specs.Lists.{IsList, IsTabled}
use Rattle.lut_stuff.specs.inside.Indexes.{HasEntries, HasIndexes, IsBody}
use Rattle.lut_stuff.proofs.Lists.{body_list, list_part}
use Rattle.std.proofs.Math.Seq.{take-add}

-- the bytes that were read are as many as the numbers take
pub read_size : (bytes : List ℕ) (used width : ℕ) (xs : List ℕ) → used ≤ length bytes → IsStuffed (take used bytes) width xs → used ≡ stuffed_size (length xs) width
read_size bytes used width xs room u = sym (length-take-le used bytes room) ∙ u.size

-- an index without an entry is the fault
pub missing_index : (n most : ℕ) (bytes : List ℕ) (used width : ℕ) (is : List ℕ) → width ≡ binary_digits most → used ≤ length bytes → IsStuffed (take used bytes) width is → length is ≡ n
    → ¬ All (λ i. i < most + 1) is → (p : ℕ) (r : ListReason) → p ≡ 0 → r ≡ BadIndex → index_faults n most bytes p r
missing_index n most bytes used width is digits room u count missing p r at why =
    let here : IsStuffed (take used bytes) (binary_digits most) is = subst (λ (w : ℕ). IsStuffed (take used bytes) w is) digits u in
    let size : used ≡ stuffed_size n (binary_digits most) = read_size bytes used (binary_digits most) is room here ∙ ap (λ (k : ℕ). stuffed_size k (binary_digits most)) count in
    let there : stuffed_size n (binary_digits most) ≤ length bytes = omega (arith, size) in
    let some : ¬ AreIndexes n most (take used bytes) = λ fine. missing (All-from_get_or (λ i. i < most + 1) is 0 (λ i lt. omega (arith, here.fields i lt, fine i (omega (arith, lt, count))))) in
    inl (there, inr (subst (λ (k : ℕ). ¬ AreIndexes n most (take k bytes)) size some, (at, why)))

-- what is said of an answer that is a fault
pub told : (r : Result ℕ ListFault) (Q : ℕ → Type 0) (F : ListFault → Type 0) (f : ListFault) → r ≡ Err f → F f → MatchResult r Q F
told r Q F f e fault = subst (λ (u : Result ℕ ListFault). MatchResult u Q F) (sym e) fault

-- what is said of the answer of a part behind the first n bytes
pub told_behind : (n : ℕ) (part r : Result ℕ ListFault) (Q' Q : ℕ → Type 0) (F' F : ListFault → Type 0) → MatchResult part (λ used. r ≡ Ok (n + used)) (λ f. r ≡ Err (record { reason = f.reason; at = n + f.at }))
    → MatchResult part Q' F' → ((used : ℕ) → Q' used → Q (n + used)) → ((f : ListFault) → F' f → F (record { reason = f.reason; at = n + f.at })) → MatchResult r Q F
told_behind n (Ok used) r Q' Q F' F is part good bad = subst (λ (u : Result ℕ ListFault). MatchResult u Q F) (sym is) (good used part)
told_behind n (Err f) r Q' Q F' F is part good bad = subst (λ (u : Result ℕ ListFault). MatchResult u Q F) (sym is) (bad f part)

-- a table behind its first byte
pub table_stands : (bytes values : List ℕ) (width used : ℕ) → 0 < length bytes → (used ≤ length (drop 1 bytes)) × IsTabled width (slice_index bytes 0 ∷ take used (drop 1 bytes)) values
    → (1 + used ≤ length bytes) × IsTabled width (take (1 + used) bytes) values
table_stands [] values width used there t = absurd (omega (arith, there))
table_stands (x ∷ xs) values width used there t =
    let longer : 1 + used ≡ suc used = omega arith in
    (omega (arith, t.0), subst (λ (k : ℕ). IsTabled width (take k (x ∷ xs)) values) (sym longer) t.1)

pub table_wrong : (n width : ℕ) (bytes : List ℕ) (at : ℕ) (r : ListReason) → 0 < length bytes → 2 ≤ slice_index bytes 0
    → (at ≤ length (drop 1 bytes)) × entry_faults n width (slice_index bytes 0 - 1) (drop 1 bytes) at r
    → (1 + at ≤ length bytes) × list_table_faults n width bytes (1 + at) r
table_wrong n width bytes at r there two w = (omega (arith, length-drop 1 bytes, w.0), inl (there, inl (two, (at, (refl, w.1)))))

-- entries and indexes
pub entries_stand : (bytes table values : List ℕ) (width used taken : ℕ) → 2 ≤ length table → HasEntries width bytes used table → HasIndexes table (length table - 1) (drop used bytes) taken values
    → (used + taken ≤ length bytes) × IsTabled width (length table ∷ take (used + taken) bytes) values
entries_stand bytes table values width used taken two e i =
    let long : length table ≡ length e.entries + 1 = omega (arith, ap length e.first) in
    let most : length table - 1 ≡ length e.entries = omega (arith, long) in (
      omega (arith, e.room, i.room, length-drop used bytes),
      record {
        entries = e.entries;
        indexes = i.indexes;
        entry_bytes = take used bytes;
        index_bytes = take taken (drop used bytes);
        joined = (λ j. long j ∷ take-add used taken bytes j);
        some = omega (arith, long);
        stuffed_entries = e.stuffed;
        stuffed_indexes = subst (λ (k : ℕ). IsStuffed (take taken (drop used bytes)) (binary_digits k) i.indexes) most i.stuffed;
        within = subst (λ (k : ℕ). All (λ x. x < k) i.indexes) long i.looked_up.within;
        named = i.looked_up.named ∙ ap (λ (u : List ℕ). map (λ x. get_or u x 0) i.indexes) e.first;
      },
    )

pub entries_wrong : (n width most used at : ℕ) (bytes table : List ℕ) (r : ListReason) → length table ≡ most + 1 → HasEntries width bytes used table → (at ≡ 0) × index_faults n most (drop used bytes) at r
    → (used + at ≤ length bytes) × entry_faults n width most bytes (used + at) r
entries_wrong n width most used at bytes table r size e w =
    let many : length e.entries ≡ most = omega (arith, size, ap length e.first) in
    let exact : used ≡ stuffed_size most width = read_size bytes used width e.entries e.room e.stuffed ∙ ap (λ (k : ℕ). stuffed_size k width) many in
    let room : stuffed_size most width ≤ length bytes = omega (arith, e.room, exact) in
    (omega (arith, w.0, e.room), inl (room, (at, (ap (λ (k : ℕ). k + at) exact, subst (λ (k : ℕ). index_faults n most (drop k bytes) at r) exact w.1))))

pub tabled_told : (n width used size : ℕ) (bytes rest table values : List ℕ) (part r : Result ℕ ListFault) → size ≡ length table → 2 ≤ size → rest ≡ drop used bytes → HasEntries width bytes used table
    → MatchResult part (λ k. r ≡ Ok (used + k)) (λ f. r ≡ Err (record { reason = f.reason; at = used + f.at }))
    → MatchResult part (λ k. HasIndexes table (length table - 1) rest k values) (λ f. (f.at ≡ 0) × index_faults n (length table - 1) rest f.at f.reason)
    → MatchResult r (λ k. (k ≤ length bytes) × IsTabled width (size ∷ take k bytes) values) (λ f. (f.at ≤ length bytes) × entry_faults n width (size - 1) bytes f.at f.reason)
tabled_told n width used size bytes rest table values part r long two behind e is read =
    told_behind used part r (λ k. HasIndexes table (length table - 1) rest k values) (λ k. (k ≤ length bytes) × IsTabled width (size ∷ take k bytes) values)
    (λ f. (f.at ≡ 0) × index_faults n (length table - 1) rest f.at f.reason) (λ f. (f.at ≤ length bytes) × entry_faults n width (size - 1) bytes f.at f.reason) is read
    (λ k i. subst (λ (m : ℕ). (used + k ≤ length bytes) × IsTabled width (m ∷ take (used + k) bytes) values) (sym long)
    (entries_stand bytes table values width used k (omega (arith, long, two)) e (subst (λ (u : List ℕ). HasIndexes table (length table - 1) u k values) behind i)))
    (λ f w. subst (λ (m : ℕ). (used + f.at ≤ length bytes) × entry_faults n width (m - 1) bytes (used + f.at) f.reason) (sym long)
    (entries_wrong n width (length table - 1) used f.at bytes table f.reason (omega (arith, long, two)) e (w.0, subst (λ (u : List ℕ). index_faults n (length table - 1) u f.at f.reason) behind w.1)))

pub table_told : (n width size : ℕ) (bytes rest values : List ℕ) (part r : Result ℕ ListFault) → 0 < length bytes → size ≡ slice_index bytes 0 → 2 ≤ size → rest ≡ drop 1 bytes
    → MatchResult part (λ k. r ≡ Ok (1 + k)) (λ f. r ≡ Err (record { reason = f.reason; at = 1 + f.at }))
    → MatchResult part (λ k. (k ≤ length rest) × IsTabled width (size ∷ take k rest) values) (λ f. (f.at ≤ length rest) × entry_faults n width (size - 1) rest f.at f.reason)
    → MatchResult r (λ k. (k ≤ length bytes) × IsTabled width (take k bytes) values) (λ f. (f.at ≤ length bytes) × list_table_faults n width bytes f.at f.reason)
table_told n width size bytes rest values part r there first two behind is read =
    told_behind 1 part r (λ k. (k ≤ length rest) × IsTabled width (size ∷ take k rest) values) (λ k. (k ≤ length bytes) × IsTabled width (take k bytes) values)
    (λ f. (f.at ≤ length rest) × entry_faults n width (size - 1) rest f.at f.reason) (λ f. (f.at ≤ length bytes) × list_table_faults n width bytes f.at f.reason) is read
    (λ k t. table_stands bytes values width k there
    (subst (λ (m : ℕ). (k ≤ length (drop 1 bytes)) × IsTabled width (m ∷ take k (drop 1 bytes)) values) first (subst (λ (u : List ℕ). (k ≤ length u) × IsTabled width (size ∷ take k u) values) behind t)))
    (λ f w. table_wrong n width bytes f.at f.reason there (omega (arith, first, two))
    (subst (λ (m : ℕ). (f.at ≤ length (drop 1 bytes)) × entry_faults n width (m - 1) (drop 1 bytes) f.at f.reason) first (subst (λ (u : List ℕ). (f.at ≤ length u) × entry_faults n width (size - 1) u f.at f.reason) behind w)))

-- a head and what stands behind it
pub list_stands : (bytes values : List ℕ) (head : ListHead) (used k : ℕ) → IsListHead bytes head used → head.count ≡ length values → (k ≤ length (drop used bytes)) × IsBody head (take k (drop used bytes)) values
    → (used + k ≤ length bytes) × IsList (take (used + k) bytes) values
list_stands bytes values head used k h counted b =
    let size : length (take used bytes) ≡ used = length-take-le used bytes h.within in
    let front : IsListHeadOf (length values) (take used bytes) head = (subst (λ (m : ℕ). IsListHead (take used bytes) head m) (sym size) (head-take bytes used head used h (omega arith)), counted) in
    (omega (arith, b.0, length-drop used bytes, h.within), subst (λ (u : List ℕ). IsList u values) (sym (take-add used k bytes)) (body_list (take used bytes) (take k (drop used bytes)) values head front b.1))

pub list_wrong : (n used at : ℕ) (bytes : List ℕ) (head : ListHead) (r : ListReason) → IsListHead bytes head used → head.count ≡ n → (at ≤ length (drop used bytes)) × list_body_faults n head (drop used bytes) at r
    → (used + at ≤ length bytes) × list_faults n bytes (used + at) r
unfolding list_faults
list_wrong n used at bytes head r h counted w =
    let size : length (take used bytes) ≡ used = length-take-le used bytes h.within in (
      omega (arith, w.0, length-drop used bytes, h.within),
      inr (record {
        front = take used bytes;
        rest = drop used bytes;
        value = head;
        joined = sym (take-append-drop used bytes);
        stands = (subst (λ (m : ℕ). IsListHead (take used bytes) head m) (sym size) (head-take bytes used head used h (omega arith)), counted);
        later = (at, (ap (λ (m : ℕ). m + at) (sym size), w.1));
      }),
    )

pub list_told : (n used : ℕ) (bytes rest values : List ℕ) (head : ListHead) (part r : Result ℕ ListFault) → IsListHead bytes head used → head.count ≡ n → length values ≡ n → rest ≡ drop used bytes
    → MatchResult part (λ k. r ≡ Ok (used + k)) (λ f. r ≡ Err (record { reason = f.reason; at = used + f.at }))
    → MatchResult part (λ k. (k ≤ length rest) × IsBody head (take k rest) values) (λ f. (f.at ≤ length rest) × list_body_faults n head rest f.at f.reason)
    → MatchResult r (λ k. (k ≤ length bytes) × IsList (take k bytes) values) (λ f. (f.at ≤ length bytes) × list_faults n bytes f.at f.reason)
list_told n used bytes rest values head part r h counted size behind is read =
    told_behind used part r (λ k. (k ≤ length rest) × IsBody head (take k rest) values) (λ k. (k ≤ length bytes) × IsList (take k bytes) values)
    (λ f. (f.at ≤ length rest) × list_body_faults n head rest f.at f.reason) (λ f. (f.at ≤ length bytes) × list_faults n bytes f.at f.reason) is read
    (λ k b. list_stands bytes values head used k h (counted ∙ sym size) (subst (λ (u : List ℕ). (k ≤ length u) × IsBody head (take k u) values) behind b))
    (λ f w. list_wrong n used f.at bytes head f.reason h counted (subst (λ (u : List ℕ). (f.at ≤ length u) × list_body_faults n head u f.at f.reason) behind w))

pub head_wrong : (n : ℕ) (bytes : List ℕ) (p : ℕ) (r : ListReason) → list_head_faults n bytes p r → list_faults n bytes p r
unfolding list_faults
head_wrong n bytes p r w = inl w

-- ---- the clauses of the reader

abbrev Read : ℕ → List ℕ → List ℕ → Result ℕ ListFault → Type 0
Read n bytes values r = MatchResult r (λ k. (k ≤ length bytes) × IsList (take k bytes) values) (λ f. (f.at ≤ length bytes) × list_faults n bytes f.at f.reason)

pub read_ok : (n : ℕ) (bytes values : List ℕ) (r : Result ℕ ListFault) → Read n bytes values r → IfOk r (λ k. (k ≤ length bytes) × IsList (take k bytes) values)
read_ok n bytes values (Ok k) read = read
read_ok n bytes values (Err f) read = tt

pub read_complete : (n : ℕ) (bytes values : List ℕ) (r : Result ℕ ListFault) → Read n bytes values r → length values ≡ n
    → (front rest xs : List ℕ) → bytes ≡ front ++ rest → length xs ≡ n → IsList front xs → (r ≡ Ok (length front)) × (values ≡ xs)
read_complete n bytes values (Ok k) read size front rest xs joined count list =
    let same = (list_part n).once (take k bytes) front (drop k bytes) rest values xs (size, read.1) (count, list) (take-append-drop k bytes ∙ joined) in
    (ap (λ (m : ℕ). Ok m) (sym (length-take-le k bytes read.0) ∙ ap length same.0), same.1)
read_complete n bytes values (Err f) read size front rest xs joined count list =
    absurd ((list_part n).either front rest xs f.at f.reason (count, list) (subst (λ (u : List ℕ). list_faults n u f.at f.reason) joined read.1))

same_err : (r : Result ℕ ListFault) (g f : ListFault) → r ≡ Err g → r ≡ Err f → g ≡ f
same_err r g f e d = cc

pub read_fault : (n : ℕ) (bytes values : List ℕ) (r : Result ℕ ListFault) → Read n bytes values r → length values ≡ n → (f : ListFault) → (r ≡ Err f) ↔ list_faults n bytes f.at f.reason
read_fault n bytes values (Ok k) read size f =
    ((λ e. absurd (cc)), λ w. absurd ((list_part n).either (take k bytes) (drop k bytes) values f.at f.reason (size, read.1) (subst (λ (u : List ℕ). list_faults n u f.at f.reason) (sym (take-append-drop k bytes)) w)))
read_fault n bytes values (Err g) read size f =
    let there : Err g ≡ Err f → list_faults n bytes f.at f.reason = λ e. subst (λ (h : ListFault). list_faults n bytes h.at h.reason) (same_err (Err g) g f refl e) read.1 in
    let back : list_faults n bytes f.at f.reason → Err g ≡ Err f = λ w. let same = (list_part n).single bytes g.at f.at g.reason f.reason read.1 w in λ i. Err (record { reason = same.1 i; at = same.0 i }) in
    (there, back)
