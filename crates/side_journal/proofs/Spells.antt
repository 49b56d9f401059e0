-- The bytes of a body.
use Rattle.std.specs.Prelude.{slice_index}
use Rattle.std.proofs.Common.{◌≡◌, ◌⊎◌, inl, inr, refl, ℕ, zero, suc, ◌+◌, ◌-◌, ◌*◌, ◌<◌, ◌≤◌, List, [], ◌∷◌, ◌++◌, length, get_or, replicate, take, drop, sym, ◌∙◌, ap, subst, arith}
use Rattle.std.proofs.lemmas.List.{append_assoc, append-nil, take_all, take_more, drop-drop, drop_all, drop_at, get_or-drop, length-append, length-drop, length-replicate, length-take-le, take-append-le}
use Rattle.byteorder.specs.Endian.{little_bytes, little_number}
use Rattle.outside_io.specs.volume.Disk.{laid}
use Rattle.bundle_index.specs.Entry.{IsEntry, entry_bytes, entry_of}
use Rattle.bundle_index.specs.Numbers.{u16_at, u64_at}
use Rattle.bundle_index.specs.declared.entry.Entry.{Entry}
use Rattle.side_journal.specs.declared.body.Body.{Body}
use Rattle.side_journal.specs.declared.body.Body.TheVariants.{Tile, Build, Group}
use Rattle.bundle_index.proofs.Numbers.{entry_read, same_u16, same_u64, length-entry_bytes, u16_back, u64_back}
use Rattle.side_journal.specs.Groups.{AreNew, NewEntry, all_bytes, record_at, record_bytes, record_place, records_at}
use Rattle.side_journal.specs.Says.{HasMark, SaysBody, SaysBuild, SaysGroup, mark_at}
use Rattle.side_journal.specs.Bodies.{IsGroup, IsLong, IsWritten, body_bytes, build_bytes, group_bytes}
use Rattle.side_journal.specs.inside.Records.{group_front, records_so_far}

-- ---- lengths

length-record_bytes : (e : NewEntry) → length (record_bytes e) ≡ 16
length-record_bytes e = ap (λ (n : ℕ). suc (suc (suc (suc (suc (suc (suc (suc n)))))))) (length-entry_bytes e.1)

pub length-all_bytes : (es : List NewEntry) → length (all_bytes es) ≡ 16 * length es
length-all_bytes [] = refl
length-all_bytes (e ∷ es) = omega (arith, length-append (record_bytes e) (all_bytes es), length-record_bytes e, length-all_bytes es)

length-group_front : (count size : ℕ) (header : List ℕ) → length header ≡ 64 → length (group_front count size header) ≡ 87
length-group_front count size header is = omega (arith, is)

length-group_bytes : (es : List NewEntry) (size : ℕ) (header : List ℕ) → length es ≤ 64 → length header ≡ 64 → length (group_bytes es size header) ≡ 1111
unfolding group_bytes
length-group_bytes es size header most is = omega (
  arith,
  length-append (group_front (length es) size header) (all_bytes es ++ replicate (1024 - 16 * length es) 0),
  length-group_front (length es) size header is,
  length-append (all_bytes es) (replicate (1024 - 16 * length es) 0),
  length-all_bytes es,
  length-replicate {A = ℕ} (1024 - 16 * length es) 0,
  most,
)

length-build_bytes : length build_bytes ≡ 1111
unfolding build_bytes
length-build_bytes = ap (λ (n : ℕ). suc (suc (suc (suc (suc (suc (suc (suc n)))))))) (length-replicate {A = ℕ} 1103 0)

pub length-body_bytes : (b : Body) → IsWritten b → length (body_bytes b) ≡ 1111
length-body_bytes (Tile slot entry size header) is = absurd is
length-body_bytes Build is = length-build_bytes
length-body_bytes (Group es size header) is = length-group_bytes es size header is.most is.header_size

-- ---- records, one by one

all_more : (xs : List NewEntry) (y : NewEntry) → all_bytes (xs ++ y ∷ []) ≡ all_bytes xs ++ record_bytes y
all_more [] y = append-nil (record_bytes y)
all_more (x ∷ xs) y = ap (λ (l : List ℕ). record_bytes x ++ l) (all_more xs y) ∙ sym (append_assoc (record_bytes x) (all_bytes xs) (record_bytes y))

-- bytes laid over a list from a place on
pub laid_at : (n : ℕ) (front bytes rest : List ℕ) → length front ≡ n → laid n bytes (front ++ rest) ≡ front ++ (bytes ++ drop (length bytes) rest)
laid_at n front bytes rest is =
    let keeps : take n (front ++ rest) ≡ front = take-append-le n front rest (omega (arith, is)) ∙ take_all n front (omega (arith, is)) in
    let behind : drop (n + length bytes) (front ++ rest) ≡ drop (length bytes) rest = sym (drop-drop (length bytes) n (front ++ rest)) ∙ ap (drop (length bytes)) (drop_at front rest n is) in
    λ i. keeps i ++ (bytes ++ behind i)

-- a slot's two bytes and an entry's eight over sixteen zeros
record_laid : (n slot : ℕ) (front word rest : List ℕ) → length front ≡ n → length word ≡ 8
    → laid (n + 8) word (laid n (little_bytes 2 slot) (front ++ (0 ∷ 0 ∷ 0 ∷ 0 ∷ 0 ∷ 0 ∷ 0 ∷ 0 ∷ 0 ∷ 0 ∷ 0 ∷ 0 ∷ 0 ∷ 0 ∷ 0 ∷ 0 ∷ rest)))
    ≡ front ++ ((little_bytes 2 slot ++ ((0 ∷ 0 ∷ 0 ∷ 0 ∷ 0 ∷ 0 ∷ []) ++ word)) ++ rest)
record_laid n slot front word rest at eight =
    let head : List ℕ = little_bytes 2 slot ++ (0 ∷ 0 ∷ 0 ∷ 0 ∷ 0 ∷ 0 ∷ []) in
    let zeros : List ℕ = 0 ∷ 0 ∷ 0 ∷ 0 ∷ 0 ∷ 0 ∷ 0 ∷ 0 ∷ rest in
    let first = laid_at n front (little_bytes 2 slot) (0 ∷ 0 ∷ 0 ∷ 0 ∷ 0 ∷ 0 ∷ 0 ∷ 0 ∷ 0 ∷ 0 ∷ 0 ∷ 0 ∷ 0 ∷ 0 ∷ 0 ∷ 0 ∷ rest) at in
    let regrouped : front ++ (little_bytes 2 slot ++ (0 ∷ 0 ∷ 0 ∷ 0 ∷ 0 ∷ 0 ∷ zeros)) ≡ (front ++ head) ++ zeros = sym (append_assoc front head zeros) in
    let behind : drop (length word) zeros ≡ rest = ap (λ (m : ℕ). drop m zeros) eight in
    ap (laid (n + 8) word) (first ∙ regrouped)
    ∙ laid_at (n + 8) (front ++ head) word zeros (length-append front head ∙ ap (λ (m : ℕ). m + 8) at)
    ∙ ap (λ (l : List ℕ). (front ++ head) ++ (word ++ l)) behind
    ∙ append_assoc front head (word ++ rest)

zeros_next : (n : ℕ) → n < 64 → replicate {A = ℕ} (1024 - 16 * n) 0 ≡ 0 ∷ 0 ∷ 0 ∷ 0 ∷ 0 ∷ 0 ∷ 0 ∷ 0 ∷ 0 ∷ 0 ∷ 0 ∷ 0 ∷ 0 ∷ 0 ∷ 0 ∷ 0 ∷ replicate (1024 - 16 * (n + 1)) 0
zeros_next n less = ap (λ (m : ℕ). replicate {A = ℕ} m 0) (let e : 1024 - 16 * n ≡ 16 + (1024 - 16 * (n + 1)) = omega arith in e) ∙ sixteen (1024 - 16 * (n + 1))
  where
    sixteen : (m : ℕ) → replicate {A = ℕ} (16 + m) 0 ≡ 0 ∷ 0 ∷ 0 ∷ 0 ∷ 0 ∷ 0 ∷ 0 ∷ 0 ∷ 0 ∷ 0 ∷ 0 ∷ 0 ∷ 0 ∷ 0 ∷ 0 ∷ 0 ∷ replicate {A = ℕ} m 0
    sixteen m = ap (λ (k : ℕ). replicate {A = ℕ} k 0) (let e : 16 + m ≡ suc (suc (suc (suc (suc (suc (suc (suc (suc (suc (suc (suc (suc (suc (suc (suc m))))))))))))))) = omega arith in e)

pub length-records_so_far : (es : List NewEntry) (i : ℕ) → i ≤ length es → length es ≤ 64 → length (records_so_far es i) ≡ 1024
length-records_so_far es i le most = length-append (all_bytes (take i es)) (replicate {A = ℕ} (1024 - 16 * i) 0) ∙ omega (arith, length-all_bytes (take i es), length-take-le i es le, length-replicate {A = ℕ} (1024 - 16 * i) 0, le, most)

pub new_at : (es : List NewEntry) (i : ℕ) (e : NewEntry) → AreNew es → i < length es → get_or es i e ≡ e → (e.0 < 16384) × IsEntry e.1
new_at es i e are less is = subst (λ (x : NewEntry). (x.0 < 16384) × IsEntry x.1) is (at_or es i are less)
  where
    at_or : (xs : List NewEntry) (k : ℕ) → AreNew xs → k < length xs → ((get_or xs k e).0 < 16384) × IsEntry (get_or xs k e).1
    at_or [] k a l = absurd (omega (arith, l))
    at_or (x ∷ xs) zero a l = (a.0, a.1)
    at_or (x ∷ xs) (suc k) a l = at_or xs k a.2 (omega (arith, l))

pub new_join : (es : List NewEntry) (e : NewEntry) → AreNew es → e.0 < 16384 → IsEntry e.1 → AreNew (es ++ e ∷ [])
new_join [] e are below fits = (below, fits, tt)
new_join (x ∷ es) e are below fits = (are.0, are.1, new_join es e are.2 below fits)

pub records_none : (j : List ℕ) → records_at j 0 ≡ []
unfolding records_at
records_none j = refl

pub records_more : (j : List ℕ) (i : ℕ) → records_at j (i + 1) ≡ records_at j i ++ record_at j i ∷ []
unfolding records_at
records_more j i = ap (records_at j) (let e : i + 1 ≡ suc i = omega arith in e)

-- one record more
pub record_step : (es : List NewEntry) (i : ℕ) (e : NewEntry) (word : List ℕ) → i < length es → length es ≤ 64 → get_or es i e ≡ e → word ≡ entry_bytes e.1
    → laid (16 * i + 8) word (laid (16 * i) (little_bytes 2 e.0) (records_so_far es i)) ≡ records_so_far es (i + 1)
record_step es i e word less most is word_is =
    let front = all_bytes (take i es) in
    let at : length front ≡ 16 * i = length-all_bytes (take i es) ∙ ap (λ (m : ℕ). 16 * m) (length-take-le i es (omega arith)) in
    let more : all_bytes (take (i + 1) es) ≡ front ++ record_bytes e = ap all_bytes (take_more es i e less ∙ ap (λ (x : NewEntry). take i es ++ x ∷ []) is) ∙ all_more (take i es) e in
    ap (λ (l : List ℕ). laid (16 * i + 8) word (laid (16 * i) (little_bytes 2 e.0) (front ++ l))) (zeros_next i (omega arith))
    ∙ record_laid (16 * i) e.0 front word (replicate (1024 - 16 * (i + 1)) 0) at (ap length word_is ∙ length-entry_bytes e.1)
    ∙ ap (λ (w : List ℕ). front ++ ((little_bytes 2 e.0 ++ ((0 ∷ 0 ∷ 0 ∷ 0 ∷ 0 ∷ 0 ∷ []) ++ w)) ++ replicate (1024 - 16 * (i + 1)) 0)) word_is
    ∙ sym (append_assoc front (record_bytes e) (replicate (1024 - 16 * (i + 1)) 0))
    ∙ ap (λ (l : List ℕ). l ++ replicate (1024 - 16 * (i + 1)) 0) (sym more)

-- the front and the records, laid over zeros
pub group_spelled : (es : List NewEntry) (size : ℕ) (header records out : List ℕ) → length header ≡ 64 → records ≡ records_so_far es (length es) → length es ≤ 64 → length out ≡ 1111
    → laid 87 records (laid 0 (group_front (length es) size header) out) ≡ group_bytes es size header
unfolding group_bytes
group_spelled es size header records out is records_are most whole =
    let front = group_front (length es) size header in
    let long = length-group_front (length es) size header is in
    let all : take (length es) es ≡ es = take_all (length es) es (omega arith) in
    let records_is : records ≡ all_bytes es ++ replicate (1024 - 16 * length es) 0 = records_are ∙ ap (λ (l : List NewEntry). all_bytes l ++ replicate (1024 - 16 * length es) 0) all in
    let records_long : length records ≡ 1024 = ap length records_is ∙ length-append (all_bytes es) (replicate (1024 - 16 * length es) 0) ∙ omega (arith, length-all_bytes es, length-replicate {A = ℕ} (1024 - 16 * length es) 0) in
    let none : drop (length records) (drop (0 + length front) out) ≡ [] = drop_all (length records) (drop (0 + length front) out) (omega (arith, length-drop (0 + length front) out, long, records_long, whole)) in
    laid_at 87 front records (drop (0 + length front) out) long
    ∙ ap (λ (l : List ℕ). front ++ (records ++ l)) none
    ∙ ap (λ (l : List ℕ). front ++ l) (append-nil records ∙ records_is)

-- the mark and the kind of tiles
abbrev pub marked : List ℕ
marked = 76 ∷ 66 ∷ 74 ∷ 82 ∷ 78 ∷ 76 ∷ 50 ∷ 1 ∷ []

pub front_spelled : (count size : ℕ) (header : List ℕ) → length header ≡ 64
    → laid 23 header (laid 15 (little_bytes 8 size) (laid 8 (count ∷ []) (laid 0 marked (replicate 87 0)))) ≡ group_front count size header
front_spelled count size header is =
    let zeros : List ℕ = laid 15 (little_bytes 8 size) (laid 8 (count ∷ []) (laid 0 marked (replicate 87 0))) in
    ap (λ (n : ℕ). take 23 zeros ++ (header ++ drop (23 + n) zeros)) is ∙ ap (λ (l : List ℕ). take 23 zeros ++ l) (append-nil header)

-- ---- what is read of them

-- Behind any gate, a body's bytes say that body.
says_build : (gate : ℕ) → SaysBuild (gate ∷ build_bytes)
unfolding build_bytes mark_at
says_build gate = record { marked = inr (ap suc length-build_bytes, refl); kind = refl }

-- the record of a number
record_back : (front rest : List ℕ) (e : NewEntry) (at : ℕ) → length front ≡ at → e.0 < 16384 → IsEntry e.1
    → (u16_at (front ++ (record_bytes e ++ rest)) at ≡ e.0) × (entry_of (u64_at (front ++ (record_bytes e ++ rest)) (at + 8)) ≡ e.1)
record_back front rest e at is below fits =
    let six : List ℕ = 0 ∷ 0 ∷ 0 ∷ 0 ∷ 0 ∷ 0 ∷ [] in
    let head : List ℕ = little_bytes 2 e.0 ++ six in
    let regrouped : front ++ (record_bytes e ++ rest) ≡ (front ++ head) ++ (entry_bytes e.1 ++ rest) = sym (append_assoc front head (entry_bytes e.1 ++ rest)) in (
      u16_back front (six ++ (entry_bytes e.1 ++ rest)) e.0 at is (omega (arith, below)),
      ap (λ (l : List ℕ). entry_of (u64_at l (at + 8))) regrouped ∙ entry_read (front ++ head) rest e.1 (at + 8) (length-append front head ∙ ap (λ (m : ℕ). m + 8) is) fits,
    )

-- each record of a list of them, behind a front
each_back : (front zeros : List ℕ) (es : List NewEntry) (n i : ℕ) (d : NewEntry) → length front ≡ n → AreNew es → i < length es
    → (u16_at (front ++ (all_bytes es ++ zeros)) (n + 16 * i) ≡ (get_or es i d).0) × (entry_of (u64_at (front ++ (all_bytes es ++ zeros)) (n + 16 * i + 8)) ≡ (get_or es i d).1) × ((get_or es i d).0 < 16384)
each_back front zeros [] n i d is new less = absurd (omega (arith, less))
each_back front zeros (e ∷ es) n zero d is new less =
    let regrouped : front ++ (record_bytes e ++ (all_bytes es ++ zeros)) ≡ front ++ ((record_bytes e ++ all_bytes es) ++ zeros) = ap (λ (l : List ℕ). front ++ l) (sym (append_assoc (record_bytes e) (all_bytes es) zeros)) in
    let back = record_back front (all_bytes es ++ zeros) e (n + 16 * 0) (is ∙ omega arith) new.0 new.1 in
    (subst (λ (l : List ℕ). u16_at l (n + 16 * 0) ≡ e.0) regrouped back.0, subst (λ (l : List ℕ). entry_of (u64_at l (n + 16 * 0 + 8)) ≡ e.1) regrouped back.1, new.0)
each_back front zeros (e ∷ es) n (suc i) d is new less =
    let regrouped : (front ++ record_bytes e) ++ (all_bytes es ++ zeros) ≡ front ++ ((record_bytes e ++ all_bytes es) ++ zeros) =
    append_assoc front (record_bytes e) (all_bytes es ++ zeros) ∙ ap (λ (l : List ℕ). front ++ l) (sym (append_assoc (record_bytes e) (all_bytes es) zeros)) in
    let back = each_back (front ++ record_bytes e) zeros es (n + 16) i d (length-append front (record_bytes e) ∙ omega (arith, is, length-record_bytes e)) new.2 (omega (arith, less)) in
    let place : n + 16 + 16 * i ≡ n + 16 * suc i = omega arith in (
      subst (λ (m : ℕ). u16_at (front ++ ((record_bytes e ++ all_bytes es) ++ zeros)) m ≡ (get_or es i d).0) place (subst (λ (l : List ℕ). u16_at l (n + 16 + 16 * i) ≡ (get_or es i d).0) regrouped back.0),
      subst (λ (m : ℕ). entry_of (u64_at (front ++ ((record_bytes e ++ all_bytes es) ++ zeros)) (m + 8)) ≡ (get_or es i d).1) place (subst (λ (l : List ℕ). entry_of (u64_at l (n + 16 + 16 * i + 8)) ≡ (get_or es i d).1) regrouped back.1),
      back.2,
    )

-- the records of a journal
module _ (front zeros : List ℕ) (es : List NewEntry) (size : length front ≡ 88) (new : AreNew es) where
  abbrev nothing : NewEntry
  nothing = (0, record { offset = 0; size = 0 })

  pub records_back : (n : ℕ) → n ≤ length es → records_at (front ++ (all_bytes es ++ zeros)) n ≡ take n es
  unfolding records_at
  records_back zero le = refl
  records_back (suc n) le =
      let back = each_back front zeros es 88 n nothing size new (omega (arith, le)) in
      let this : record_at (front ++ (all_bytes es ++ zeros)) n ≡ get_or es n nothing = λ t. (back.0 t, back.1 t) in
      (λ t. records_back n (omega (arith, le)) t ++ this t ∷ []) ∙ sym (take_more es n nothing (omega (arith, le))) ∙ ap (λ (m : ℕ). take m es) (let e : n + 1 ≡ suc n = omega arith in e)

  pub slots_back : (i : ℕ) → i < length es → u16_at (front ++ (all_bytes es ++ zeros)) (record_place i) < 16384
  slots_back i less =
      let back = each_back front zeros es 88 i nothing size new less in
      omega (arith, back.0, back.2)

says_header : (gate count size : ℕ) (header rest : List ℕ) → length header ≡ 64 → take 64 (drop 24 ((gate ∷ group_front count size header) ++ rest)) ≡ header
says_header gate count size header rest is = take-append-le 64 header rest (omega (arith, is)) ∙ take_all 64 header (omega (arith, is))

says_group : (gate : ℕ) (es : List NewEntry) (size : ℕ) (header : List ℕ) → IsGroup es size header → 131136 ≤ size → SaysGroup (gate ∷ group_bytes es size header) es size header
unfolding group_bytes mark_at
says_group gate es size header is least =
    let zeros : List ℕ = replicate (1024 - 16 * length es) 0 in
    let front : List ℕ = gate ∷ group_front (length es) size header in
    let long : length front ≡ 88 = ap suc (length-group_front (length es) size header is.header_size) in
    let first : List ℕ = gate ∷ 76 ∷ 66 ∷ 74 ∷ 82 ∷ 78 ∷ 76 ∷ 50 ∷ 1 ∷ length es ∷ 0 ∷ 0 ∷ 0 ∷ 0 ∷ 0 ∷ 0 ∷ [] in
    record {
      whole = ap suc (length-group_bytes es size header is.most is.header_size);
      marked = refl;
      kind = refl;
      count_least = is.some;
      count_most = is.most;
      slots_below = slots_back front zeros es long is.new;
      entries_are = records_back front zeros es long is.new (length es) (omega arith) ∙ take_all (length es) es (omega arith);
      size_is = u64_back first (header ++ (all_bytes es ++ zeros)) size 16 refl (omega (arith, is.size_below));
      size_least = least;
      header_is = says_header gate (length es) size header (all_bytes es ++ zeros) is.header_size;
    }

pub says_body : (gate : ℕ) (b : Body) → IsWritten b → IsLong b → SaysBody (gate ∷ body_bytes b) b
says_body gate (Tile slot e size header) is least = absurd is
says_body gate Build is long = says_build gate
says_body gate (Group es size header) is least = says_group gate es size header is least

-- What stands behind the gate is what a journal says.
module _ (j k : List ℕ) (size : length k ≡ length j) (same : drop 1 k ≡ drop 1 j) where
  at : (i : ℕ) → get_or k (1 + i) 0 ≡ get_or j (1 + i) 0
  at i = sym (get_or-drop 1 k i 0) ∙ ap (λ (l : List ℕ). get_or l i 0) same ∙ get_or-drop 1 j i 0

  from : (n : ℕ) → 1 ≤ n → get_or k n 0 ≡ get_or j n 0
  from n le =
      let e : n ≡ 1 + (n - 1) = omega arith in
      ap (λ (m : ℕ). get_or k m 0) e ∙ at (n - 1) ∙ ap (λ (m : ℕ). get_or j m 0) (sym e)

  mark_same : mark_at k ≡ mark_at j
  unfolding mark_at
  mark_same = ap (little_number 7) same

  has_mark : HasMark j → HasMark k
  has_mark has = elim has [ inl first ↦ inl (size ∙ first.0, mark_same ∙ first.1) | inr second ↦ inr (size ∙ second.0, mark_same ∙ second.1) ]

  short_same : (place : ℕ) → 1 ≤ place → u16_at k place ≡ u16_at j place
  short_same place le = same_u16 k j place place (λ i lt. from (place + i) (omega arith))

  long_same : (place : ℕ) → 1 ≤ place → u64_at k place ≡ u64_at j place
  long_same place le = same_u64 k j place place (λ i lt. from (place + i) (omega arith))

  part_same : (n place : ℕ) → take n (drop (1 + place) k) ≡ take n (drop (1 + place) j)
  part_same n place = ap (take n) (sym (drop-drop place 1 k) ∙ ap (drop place) same ∙ drop-drop place 1 j)

  records_same : (n : ℕ) → records_at k n ≡ records_at j n
  unfolding records_at
  records_same zero = refl
  records_same (suc n) = λ t. records_same n t ++ (short_same (record_place n) (omega arith) t, entry_of (long_same (record_place n + 8) (omega arith) t)) ∷ []

  pub says_behind : (b : Body) → SaysBody j b → SaysBody k b
  says_behind (Tile slot e long header) says = record {
    whole = size ∙ says.whole;
    marked = mark_same ∙ says.marked;
    kind = at 7 ∙ says.kind;
    slot_is = short_same 10 (omega arith) ∙ says.slot_is;
    slot_below = says.slot_below;
    entry_is = ap entry_of (long_same 16 (omega arith)) ∙ says.entry_is;
    size_is = long_same 24 (omega arith) ∙ says.size_is;
    size_least = says.size_least;
    header_is = part_same 64 31 ∙ says.header_is;
  }
  says_behind Build says = record { marked = has_mark says.marked; kind = at 7 ∙ says.kind }
  says_behind (Group es long header) says = record {
    whole = size ∙ says.whole;
    marked = mark_same ∙ says.marked;
    kind = at 7 ∙ says.kind;
    count_least = omega (arith, at 8, says.count_least);
    count_most = omega (arith, at 8, says.count_most);
    slots_below = λ i less. omega (arith, short_same (record_place i) (omega arith), says.slots_below i (omega (arith, at 8, less)));
    entries_are = ap (records_at k) (at 8) ∙ records_same (slice_index j 9) ∙ says.entries_are;
    size_is = long_same 16 (omega arith) ∙ says.size_is;
    size_least = says.size_least;
    header_is = part_same 64 23 ∙ says.header_is;
  }

-- what is whole behind the gate of a build
pub build_whole : (j : List ℕ) → SaysBuild j → (length j ≡ 96) ⊎ (length j ≡ 1112)
build_whole j says = elim says.marked [ inl first ↦ inl first.0 | inr second ↦ inr second.0 ]
