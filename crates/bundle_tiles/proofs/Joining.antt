-- Puts of one list of tiles, and then of another one, are puts of both, as long as the first is of groups of 64. `us` are the
-- first tiles, all of which were put, and `ys` the others.
use Rattle.std.proofs.Common.{◌≡◌, ◌⊎◌, inl, inr, ℕ, zero, suc, ◌+◌, ◌-◌, ◌*◌, ◌^◌, ◌<◌, ◌≤◌, List, [], ◌∷◌, ◌++◌, length, take, replicate, slice_index, cond, Option, Bool, false, Ok, Err, refl, sym, ap, subst, ◌∙◌, arith, append_assoc, length-append}
use Rattle.std.specs.Prelude.{IsTrue, nat_le}
use Rattle.std.proofs.lemmas.Bool.{cases_eq, cases_lt}
use Rattle.std.proofs.lemmas.Bool.Decides.{nat_tests}
use Rattle.std.proofs.lemmas.List.{append-nil, get_or-append-add, get_or_append_left, length-replicate, nil_from_length, places, take-append-le, take_all}
use Rattle.std.proofs.Math.Seq.{take-append-add}
use Rattle.std.proofs.lemmas.List.Sums.{sum_by-append, sum_by-cons}
use Rattle.std.proofs.lemmas.Grind.{flat_map-append}
use Rattle.outside_io.specs.declared.volume.VolFile.TheVariants.{Bundle}
use Rattle.outside_io.specs.streams.Sink.{Holds, HoldsPrefix}
use Rattle.outside_io.specs.volume.Disk.{File}
use Rattle.outside_io.specs.volume.History.{History, DuringAt, contents, current}
use Rattle.outside_io.proofs.StreamLemmas.Gives.{HoldsPrefix_join, Holds_join, Holds_none}
use Rattle.outside_io.proofs.VolumeLemmas.Moments.{during_map_at, started_at}
use Rattle.bundle_store.specs.declared.tile_rec.TileRec.{TileRec}
use Rattle.bundle_store.specs.Build.{bytes_at, map_after}
use Rattle.bundle_store.specs.GroupPuts.{AreTilesIn, bundle_after_puts}
use Rattle.bundle_store.specs.Images.{EachImage, HoldsClosed}
use Rattle.bundle_store.specs.Session.{IsReadyToPut, SessionState}
use Rattle.bundle_store.specs.Tiles.{IsReadable, TileMap, tiles}
use Rattle.bundle_store.proofs.PutLaws.{after_join}
use Rattle.bundle_store.proofs.Standing.{still_good, weaker}
use Rattle.bundle_lines.specs.declared.stop.PutStop.TheVariants.{Output, Volume, Full}
use Rattle.bundle_lines.specs.Gave.{PutEnd, PutGave, UnlessVolume}
use Rattle.bundle_lines.specs.Lines.{put_line, put_lines}
use Rattle.bundle_lines.specs.Puts.{AreGroups, AreMarks, AreWhole, EndsByRoom, HaveRoom, InRuns, IsAfterSome, IsFirstFull, IsNextGroup, KeepsFullLength, PutsEnd, PutsKeep, PutsLeave, length_before, marked}
use Rattle.bundle_lines.proofs.Marked.{marked_all, marked_none, no_groups, no_marks}
use Rattle.bundle_lines.proofs.Fitting.{bundles_join, puts_stand}

-- ---- lists

module _ (us ys : List TileRec) where
  -- the first few of both
  pub take_both : (k : ℕ) → take (length us + k) (us ++ ys) ≡ us ++ take k ys
  take_both k = take-append-add us ys k

  take_first : (k : ℕ) → k ≤ length us → take k (us ++ ys) ≡ take k us
  take_first k le = take-append-le k us ys le

  bytes_first : (i : ℕ) → i < length us → bytes_at (us ++ ys) i ≡ bytes_at us i
  bytes_first i less = ap (λ (u : TileRec). u.bytes) (get_or_append_left us ys (record { slot = 0; bytes = [] }) i less)

  bytes_later : (i : ℕ) → bytes_at (us ++ ys) (length us + i) ≡ bytes_at ys i
  bytes_later i = ap (λ (u : TileRec). u.bytes) (get_or-append-add us ys i (record { slot = 0; bytes = [] }))

  lines_both : (k : ℕ) → put_lines (take (length us + k) (us ++ ys)) ≡ put_lines us ++ put_lines (take k ys)
  lines_both k = ap put_lines (take_both k) ∙ flat_map-append put_line us (take k ys)

  map_both : (start : TileMap) (k : ℕ) → map_after start (take (length us + k) (us ++ ys)) ≡ map_after (map_after start us) (take k ys)
  map_both start k = ap (map_after start) (take_both k) ∙ after_join start us (take k ys)

  module _ (b : List ℕ) where
    bundle_both : (k : ℕ) → bundle_after_puts b (take (length us + k) (us ++ ys)) ≡ bundle_after_puts (bundle_after_puts b us) (take k ys)
    bundle_both k = ap (bundle_after_puts b) (take_both k) ∙ bundles_join b us (take k ys)

    long_first : (i : ℕ) → i ≤ length us → length_before b (us ++ ys) i ≡ length_before b us i
    long_first i le = ap (λ (xs : List TileRec). length (bundle_after_puts b xs)) (take_first i le)

    long_later : (i : ℕ) → length_before b (us ++ ys) (length us + i) ≡ length_before (bundle_after_puts b us) ys i
    long_later i = ap length (bundle_both i)

    -- ---- room

    pub room_both : (n : ℕ) → HaveRoom b us (length us) → HaveRoom (bundle_after_puts b us) ys n → HaveRoom b (us ++ ys) (length us + n)
    room_both n first later i less = elim (cases_lt i (length us)) [
      | inl before ↦ (let here = first i before in omega (arith, here, long_first i (omega (arith, before)), ap length (bytes_first i before)))
      | inr behind ↦ (let at : i ≡ length us + (i - length us) = omega (arith, behind) in
          subst (λ (m : ℕ). length_before b (us ++ ys) m + 4 + length (bytes_at (us ++ ys) m) ≤ 2 ^ 40) (sym at)
          (let here = later (i - length us) (omega (arith, less, behind)) in omega (arith, here, long_later (i - length us), ap length (bytes_later (i - length us)))))
    ]

    -- ---- groups

    -- a group of 64 of the first tiles is one of both
    pub next_first : (k : ℕ) → IsNextGroup b us k 64 → IsNextGroup b (us ++ ys) k 64
    next_first k next = record {
      most = next.most;
      within = omega (arith, next.within, length-append us ys);
      room = λ i from less.
          let before : i < length us = omega (arith, next.within, less) in
          let here = next.room i from less in
          omega (arith, here, long_first i (omega (arith, before)), ap length (bytes_first i before));
      ends = inl refl;
    }

    -- so is any of the others, behind the first
    pub next_later : (k n : ℕ) → IsNextGroup (bundle_after_puts b us) ys k n → IsNextGroup b (us ++ ys) (length us + k) n
    next_later k n next = record {
      most = next.most;
      within = omega (arith, next.within, length-append us ys);
      room = λ i from less.
          let at : i ≡ length us + (i - length us) = omega (arith, from) in
          subst (λ (m : ℕ). length_before b (us ++ ys) m + 4 + length (bytes_at (us ++ ys) m) ≤ 2 ^ 40) (sym at)
          (let here = next.room (i - length us) (omega (arith, from)) (omega (arith, from, less)) in omega (arith, here, long_later (i - length us), ap length (bytes_later (i - length us))));
      ends = elim next.ends [
        | inl most ↦ inl most
        | inr others ↦ elim others [
          | inl all ↦ inr (inl (omega (arith, all, length-append us ys)))
          | inr full ↦ inr (inr (
              let at : length us + k + n ≡ length us + (k + n) = omega arith in
              subst (λ (m : ℕ). 2 ^ 40 < length_before b (us ++ ys) m + 4 + length (bytes_at (us ++ ys) m)) (sym at)
              (omega (arith, full, long_later (k + n), ap length (bytes_later (k + n))))))
        ]
      ];
    }

    groups_later : (k : ℕ) (sizes : List ℕ) → AreGroups (bundle_after_puts b us) ys k sizes → AreGroups b (us ++ ys) (length us + k) sizes
    groups_later k [] are = tt
    groups_later k (n ∷ ns) are = (
      are.0,
      next_later k n are.1,
      subst (λ (m : ℕ). AreGroups b (us ++ ys) m ns) (let e : length us + (k + n) ≡ length us + k + n = omega arith in e) (groups_later (k + n) ns are.2),
    )

    -- so many groups of 64, and then others
    pub groups_both : (g k : ℕ) (sizes : List ℕ) → k + 64 * g ≡ length us → AreGroups b us k (replicate g 64) → AreGroups (bundle_after_puts b us) ys 0 sizes → AreGroups b (us ++ ys) k (replicate g 64 ++ sizes)
    groups_both zero k sizes all are later = subst (λ (m : ℕ). AreGroups b (us ++ ys) m sizes) (let e : length us + 0 ≡ k = omega (arith, all) in e) (groups_later 0 sizes later)
    groups_both (suc g) k sizes all are later = (are.0, next_first k are.1, groups_both g (k + 64) sizes (omega (arith, all)) are.2 later)

-- ---- marks

runs_both : (ns ms one two : List ℕ) → InRuns ns one → InRuns ms two → InRuns (ns ++ ms) (one ++ two)
runs_both [] ms one two none later = subst (InRuns ms) (sym (ap (λ (x : List ℕ). x ++ two) none)) later
runs_both (n ∷ ns) ms one two (mark, (rest, (is, more))) later =
    (mark, (rest ++ two, (ap (λ (x : List ℕ). x ++ two) is ∙ append_assoc (replicate n mark) rest two, runs_both ns ms rest two more later)))

marked_both : (one two : List ℕ) (t : ℕ) → marked (one ++ two) t ≡ marked one t + marked two t
marked_both one two t = sum_by-append (λ mark. cond (nat_le mark t) 1 0) one two

marked_front : (m : ℕ) (marks : List ℕ) (t : ℕ) → marked (m ∷ marks) t ≡ cond (nat_le m t) 1 0 + marked marks t
marked_front m marks t = sum_by-cons (λ x. cond (nat_le x t) 1 0) m marks

marked_few : (marks : List ℕ) (t : ℕ) → marked marks t ≤ length marks
marked_few [] t = omega arith
marked_few (m ∷ marks) t = let rest = marked_few marks t in grind (arith, nat_tests, marked_front m marks t)

-- of marks that are one moment, all are past or none is
run_all : (n mark t : ℕ) → mark ≤ t → marked (replicate n mark) t ≡ n
run_all zero mark t past = refl
run_all (suc n) mark t past = let rest = run_all n mark t past in grind (arith, nat_tests, marked_front mark (replicate n mark) t)

run_none : (n mark t : ℕ) → t < mark → marked (replicate n mark) t ≡ 0
run_none zero mark t before = refl
run_none (suc n) mark t before = let rest = run_none n mark t before in grind (arith, nat_tests, marked_front mark (replicate n mark) t)

index_first : (xs ys : List ℕ) (i : ℕ) → i < length xs → slice_index (xs ++ ys) i ≡ slice_index xs i
index_first xs ys i less = grind (arith, places)

index_later : (xs ys : List ℕ) (i : ℕ) → length xs ≤ i → i < length xs + length ys → slice_index (xs ++ ys) i ≡ slice_index ys (i - length xs)
index_later xs ys i le less = grind (arith, places)

pub marks_both : (one two : List ℕ) (from mid to : ℕ) → from ≤ mid → mid ≤ to → AreMarks one from mid → AreMarks two mid to → AreMarks (one ++ two) from to
marks_both one two from mid to first second are later =
    let size : length (one ++ two) ≡ length one + length two = length-append one two in
    record {
      rising = λ i j le less. elim (cases_lt j (length one)) [
        | inl both ↦ omega (arith, index_first one two i (omega (arith, le, both)), index_first one two j both, are.rising i j le both)
        | inr last ↦ elim (cases_lt i (length one)) [
          | inl low ↦ omega (arith, index_first one two i low, index_later one two j last (omega (arith, less, size)), (are.within i low).1, (later.within (j - length one) (omega (arith, last, less, size))).0)
          | inr also ↦ omega (arith, index_later one two i also (omega (arith, le, less, size)), index_later one two j last (omega (arith, less, size)), later.rising (i - length one) (j - length one) (omega (arith, le, also)) (omega (arith, last, less, size)))
        ]
      ];
      within = λ i less. elim (cases_lt i (length one)) [
        | inl low ↦ (let is = are.within i low in (omega (arith, index_first one two i low, is.0), omega (arith, index_first one two i low, is.1, second)))
        | inr last ↦ (let is = later.within (i - length one) (omega (arith, last, less, size)) in
            (omega (arith, index_later one two i last (omega (arith, less, size)), is.0, first), omega (arith, index_later one two i last (omega (arith, less, size)), is.1)))
      ];
    }

-- ---- images

-- as `IsAfterSome`, where the group that may be there, too, is of such a size
pub record IsAfterSuch (Such : ℕ → Type 0) (bundle : List ℕ) (start : TileMap) (updates : List TileRec) (marks : List ℕ) (t : ℕ) (map : TileMap) : Type 0 where
  pub count : ℕ
  pub count_is : (count ≡ marked marks t) ⊎ ((n : ℕ) × (Such n × (IsNextGroup bundle updates (marked marks t) n × (count ≡ marked marks t + n))))
  pub map_is : map ≡ map_after start (take count updates)

abbrev pub Keeps : (ℕ → Type 0) → List ℕ → TileMap → List TileRec → List ℕ → History → History → Type 0
Keeps Such bundle start updates marks old new = DuringAt (λ t d. EachImage (IsAfterSuch Such bundle start updates marks t) d) old new

abbrev pub Is64 : ℕ → Type 0
Is64 n = n ≡ 64

abbrev pub IsAny : ℕ → Type 0
IsAny n = Unit {0}

module _ (Such : ℕ → Type 0) (so : Such 64) (us ys : List TileRec) (b : List ℕ) (start : TileMap) (one two : List ℕ) (old mid new : History) (all : length one ≡ length us) (are : AreMarks one old.moment mid.moment) (later : AreMarks two mid.moment new.moment) where
  -- at a moment of the first puts
  keeps_first : (t : ℕ) (map : TileMap) → t < mid.moment → IsAfterSuch Is64 b start us one t map → IsAfterSuch Such b start (us ++ ys) (one ++ two) t map
  keeps_first t map before is =
      let none : marked two t ≡ 0 = marked_none two mid.moment t (λ i less. (later.within i less).0) before in
      let same : marked (one ++ two) t ≡ marked one t = marked_both one two t ∙ omega (arith, none) in
      by same is.count_is
    where
      by : marked (one ++ two) t ≡ marked one t → (is.count ≡ marked one t) ⊎ ((n : ℕ) × ((n ≡ 64) × (IsNextGroup b us (marked one t) n × (is.count ≡ marked one t + n)))) → IsAfterSuch Such b start (us ++ ys) (one ++ two) t map
      by same (inl count) = record {
        count = is.count;
        count_is = inl (count ∙ sym same);
        map_is = is.map_is ∙ ap (map_after start) (sym (take_first us ys is.count (omega (arith, count, marked_few one t, all))));
      }
      by same (inr (n, (size, (next, count)))) =
          let next64 : IsNextGroup b us (marked one t) 64 = subst (IsNextGroup b us (marked one t)) size next in
          record {
            count = is.count;
            count_is = inr (64, (so, (subst (λ (m : ℕ). IsNextGroup b (us ++ ys) m 64) (sym same) (next_first us ys b (marked one t) next64), omega (arith, count, size, same))));
            map_is = is.map_is ∙ ap (map_after start) (sym (take_first us ys is.count (omega (arith, count, size, next64.within))));
          }

  -- and of the others
  keeps_later : (t : ℕ) (map : TileMap) → mid.moment ≤ t → IsAfterSuch Such (bundle_after_puts b us) (map_after start us) ys two t map → IsAfterSuch Such b start (us ++ ys) (one ++ two) t map
  keeps_later t map behind is =
      let whole : marked one t ≡ length one = marked_all one t (λ i less. let w = (are.within i less).1 in omega (arith, w, behind)) in
      let many : marked (one ++ two) t ≡ length us + marked two t = marked_both one two t ∙ omega (arith, whole, all) in
      record {
        count = length us + is.count;
        count_is = elim is.count_is [
          | inl count ↦ inl (omega (arith, count, many))
          | inr more ↦ inr (more.0, (more.1.0, (subst (λ (m : ℕ). IsNextGroup b (us ++ ys) m more.0) (sym many) (next_later us ys b (marked two t) more.0 more.1.1.0), omega (arith, more.1.1.1, many))))
        ];
        map_is = is.map_is ∙ sym (map_both us ys start is.count);
      }

  pub keeps_both : Keeps Is64 b start us one old mid → Keeps Such (bundle_after_puts b us) (map_after start us) ys two mid new → Keeps Such b start (us ++ ys) (one ++ two) old new
  keeps_both first second = record {
    later = omega (arith, first.later, second.later);
    past = λ t le. second.past t (omega (arith, le, first.later)) ∙ first.past t le;
    each = λ t ge le. elim (cases_lt t mid.moment) [
      | inl before ↦ subst (EachImage (IsAfterSuch Such b start (us ++ ys) (one ++ two) t)) (sym (second.past t (omega (arith, before))))
          (weaker (IsAfterSuch Is64 b start us one t) (IsAfterSuch Such b start (us ++ ys) (one ++ two) t) (mid.disk_at t) (λ map is. keeps_first t map before is) (first.each t ge (omega (arith, before))))
      | inr behind ↦ weaker (IsAfterSuch Such (bundle_after_puts b us) (map_after start us) ys two t) (IsAfterSuch Such b start (us ++ ys) (one ++ two) t) (new.disk_at t) (λ map is. keeps_later t map behind is) (second.each t behind le)
    ];
  }

-- ---- a group of 64

-- it comes first, and its marks are one moment
pub record IsOneGroup (b : List ℕ) (ys : List TileRec) (marks : List ℕ) : Type 0 where
  pub mark : ℕ
  pub marks_are : marks ≡ replicate 64 mark
  pub next : IsNextGroup b ys 0 64

-- 64 tiles that were put at once
module _ (b : List ℕ) (ys : List TileRec) (marks : List ℕ) (full : length ys ≡ 64) (count : length marks ≡ 64) (room : HaveRoom b ys 64) where
  -- the group that comes first has all of them
  next_64 : (n : ℕ) → 0 < n → IsNextGroup b ys 0 n → n ≡ 64
  next_64 n some next = elim next.ends [
    | inl most ↦ most
    | inr others ↦ elim others [
      | inl all ↦ omega (arith, all, full)
      | inr none_ ↦ elim (cases_lt n 64) [
        | inl fewer ↦ (let here : 2 ^ 40 < length_before b ys n + 4 + length (bytes_at ys n) = subst (λ (m : ℕ). 2 ^ 40 < length_before b ys m + 4 + length (bytes_at ys m)) (let e : 0 + n ≡ n = omega arith in e) none_ in
            absurd (let fits = room n fewer in omega (arith, here, fits)))
        | inr enough ↦ omega (arith, enough, next.most)
      ]
    ]
  ]

  one_group : AreWhole b ys marks → IsOneGroup b ys marks
  one_group whole = by whole.sizes whole.groups whole.runs
    where
      by : (sizes : List ℕ) → AreGroups b ys 0 sizes → InRuns sizes marks → IsOneGroup b ys marks
      by [] are none_ = absurd (let zero_ : length marks ≡ 0 = ap length none_ in let no : ⊥ = omega (arith, zero_, count) in no)
      by (n ∷ ns) are (mark, (rest, (is, more))) =
          let size : n ≡ 64 = next_64 n are.0 are.1 in
          let many : length marks ≡ n + length rest = ap length is ∙ length-append (replicate n mark) rest ∙ ap (λ (k : ℕ). k + length rest) (length-replicate n mark) in
          let none_ : rest ≡ [] = nil_from_length rest (omega (arith, many, count, size)) in
          record {
            mark = mark;
            marks_are = is ∙ ap (λ (x : List ℕ). replicate n mark ++ x) none_ ∙ append-nil (replicate n mark) ∙ ap (λ (k : ℕ). replicate k mark) size;
            next = subst (IsNextGroup b ys 0) size are.1;
          }

  after_64 : (start : TileMap) (t : ℕ) (map : TileMap) → IsOneGroup b ys marks → IsAfterSome b start ys marks t map → IsAfterSuch Is64 b start ys marks t map
  after_64 start t map one is = record { count = is.count; count_is = by is.count_is; map_is = is.map_is }
    where
      at_most : (n : ℕ) → IsNextGroup b ys (marked marks t) n → is.count ≡ marked marks t + n → (is.count ≡ marked marks t) ⊎ ((m : ℕ) × (Is64 m × (IsNextGroup b ys (marked marks t) m × (is.count ≡ marked marks t + m))))
      at_most n next some = elim (cases_eq n 0) [
        | inl none_ ↦ inl (omega (arith, some, none_))
        | inr more ↦ elim (cases_lt t one.mark) [
          | inl before ↦ (let zero_ : marked marks t ≡ 0 = ap (λ (x : List ℕ). marked x t) one.marks_are ∙ run_none 64 one.mark t before in
              inr (n, (next_64 n (omega (arith, more)) (subst (λ (k : ℕ). IsNextGroup b ys k n) zero_ next), (next, some))))
          | inr past ↦ (let all : marked marks t ≡ 64 = ap (λ (x : List ℕ). marked x t) one.marks_are ∙ run_all 64 one.mark t past in
              absurd (more (let none_ : n ≡ 0 = omega (arith, next.within, all, full) in none_)))
        ]
      ]

      by : (is.count ≡ marked marks t) ⊎ ((n : ℕ) × (IsNextGroup b ys (marked marks t) n × (is.count ≡ marked marks t + n))) → (is.count ≡ marked marks t) ⊎ ((m : ℕ) × (Is64 m × (IsNextGroup b ys (marked marks t) m × (is.count ≡ marked marks t + m))))
      by (inl same) = inl same
      by (inr (n, (next, some))) = at_most n next some

  keeps_64 : (start : TileMap) (old new : History) → IsOneGroup b ys marks → PutsKeep b start ys marks old new → Keeps Is64 b start ys marks old new
  keeps_64 start old new one kept =
      during_map_at (λ t d. EachImage (IsAfterSome b start ys marks t) d) (λ t d. EachImage (IsAfterSuch Is64 b start ys marks t) d) old new
      (λ t d ge le each. weaker (IsAfterSome b start ys marks t) (IsAfterSuch Is64 b start ys marks t) d (λ map is. after_64 start t map one is) each) kept

some_of : (b : List ℕ) (start : TileMap) (us : List TileRec) (marks : List ℕ) (old new : History) → Keeps IsAny b start us marks old new → PutsKeep b start us marks old new
some_of b start us marks old new kept =
    during_map_at (λ t d. EachImage (IsAfterSuch IsAny b start us marks t) d) (λ t d. EachImage (IsAfterSome b start us marks t) d) old new
    (λ t d ge le each. weaker (IsAfterSuch IsAny b start us marks t) (IsAfterSome b start us marks t) d (λ map is. record {
      count = is.count;
      count_is = elim is.count_is [ inl same ↦ inl same | inr more ↦ inr (more.0, (more.1.1.0, more.1.1.1)) ];
      map_is = is.map_is;
    }) each) kept

any_of : (b : List ℕ) (start : TileMap) (us : List TileRec) (marks : List ℕ) (old new : History) → PutsKeep b start us marks old new → Keeps IsAny b start us marks old new
any_of b start us marks old new kept =
    during_map_at (λ t d. EachImage (IsAfterSome b start us marks t) d) (λ t d. EachImage (IsAfterSuch IsAny b start us marks t) d) old new
    (λ t d ge le each. weaker (IsAfterSome b start us marks t) (IsAfterSuch IsAny b start us marks t) d (λ map is. record {
      count = is.count;
      count_is = elim is.count_is [ inl same ↦ inl same | inr more ↦ inr (more.0, (tt, (more.1.0, more.1.1))) ];
      map_is = is.map_is;
    }) each) kept

-- ---- both

-- tiles that were all put, in groups of 64
pub record PutWhole (us : List TileRec) (marks : List ℕ) (s : SessionState) (told : Bool) (old now : History) (held_old held : Option (List ℕ)) : Type 0 where
  pub puts : PutsEnd (Ok tt) us marks s told old now held_old held
  pub groups : ℕ
  pub many : 64 * groups ≡ length us
  pub are : AreTilesIn us
  pub in_groups : IsTrue told → AreGroups (contents Bundle old) us 0 (replicate groups 64) × InRuns (replicate groups 64) marks
  pub keeps : IsTrue told → IsReadable (contents Bundle old) → Keeps Is64 (contents Bundle old) (tiles (contents Bundle old)) us marks old now

unless_map : (end : PutEnd) (P Q : Type 0) → (P → Q) → UnlessVolume end P → UnlessVolume end Q
unless_map (Ok x) P Q so p = so p
unless_map (Err Output) P Q so p = so p
unless_map (Err Volume) P Q so p = tt
unless_map (Err (Full len)) P Q so p = so p

module _ (us ys : List TileRec) (one two : List ℕ) (s s_new : SessionState) (told : Bool) (old mid new : History) (held held_mid held_new : Option (List ℕ)) (whole : PutWhole us one s told old mid held held_mid) where
  abbrev start : List ℕ
  start = contents Bundle old

  count : length one ≡ length us
  count = whole.puts.gave.0

  size : length (one ++ two) ≡ length us + length two
  size = length-append one two ∙ ap (λ (n : ℕ). n + length two) count

  first_lines : Holds held held_mid (put_lines us)
  first_lines = whole.puts.gave.1

  gave_both : (end : PutEnd) → PutGave end ys (length two) held_mid held_new → PutGave end (us ++ ys) (length (one ++ two)) held held_new
  gave_both (Ok x) (all, lines) = (
    omega (arith, size, all, length-append us ys),
    subst (Holds held held_new) (sym (flat_map-append put_line us ys)) (Holds_join held held_mid held_new (put_lines us) (put_lines ys) first_lines lines),
  )
  gave_both (Err Output) (some, within, lines) = (
    omega (arith, size, some),
    omega (arith, size, within, length-append us ys),
    subst (λ (n : ℕ). HoldsPrefix held held_new (put_lines (take n (us ++ ys)))) (sym size)
        (subst (HoldsPrefix held held_new) (sym (lines_both us ys (length two))) (HoldsPrefix_join held held_mid held_new (put_lines us) (put_lines (take (length two) ys)) first_lines lines)),
  )
  gave_both (Err Volume) (within, lines) = (
    omega (arith, size, within, length-append us ys),
    subst (λ (n : ℕ). Holds held held_new (put_lines (take n (us ++ ys)))) (sym size)
        (subst (Holds held held_new) (sym (lines_both us ys (length two))) (Holds_join held held_mid held_new (put_lines us) (put_lines (take (length two) ys)) first_lines lines)),
  )
  gave_both (Err (Full len)) (within, lines) = (
    omega (arith, size, within, length-append us ys),
    subst (λ (n : ℕ). Holds held held_new (put_lines (take n (us ++ ys)))) (sym size)
        (subst (Holds held held_new) (sym (lines_both us ys (length two))) (Holds_join held held_mid held_new (put_lines us) (put_lines (take (length two) ys)) first_lines lines)),
  )

  full_both : (end : PutEnd) → KeepsFullLength end ys (length two) → KeepsFullLength end (us ++ ys) (length (one ++ two))
  full_both (Ok x) full = tt
  full_both (Err Output) full = tt
  full_both (Err Volume) full = tt
  full_both (Err (Full len)) (i, (from, within, full)) =
      (length us + i, (omega (arith, size, from), omega (arith, within, length-append us ys), omega (arith, full, ap length (bytes_later us ys i))))

  -- where the volume tells its files
  module _ (yes_ : IsTrue told) where
    -- the bundle between
    mid_is : contents Bundle mid ≡ bundle_after_puts start us
    mid_is = ap (λ (f : File). f.now) (whole.puts.leaves yes_).reads.bundle_is ∙ ap (bundle_after_puts start) (take_all (length one) us (omega (arith, count)))

    first_room : HaveRoom start us (length us)
    first_room = subst (HaveRoom start us) count (whole.puts.leaves yes_).room

    stands : IsReadable start → IsReadable (bundle_after_puts start us) × (tiles (bundle_after_puts start us) ≡ map_after (tiles start) us)
    stands readable =
        let all : take (length us) us ≡ us = take_all (length us) us (omega arith) in
        let so = puts_stand (length us) us start readable (subst AreTilesIn (sym all) whole.are) first_room (omega arith) in
        subst (λ (xs : List TileRec). IsReadable (bundle_after_puts start xs) × (tiles (bundle_after_puts start xs) ≡ map_after (tiles start) xs)) all so

    room_by : (end : PutEnd) → EndsByRoom end (bundle_after_puts start us) ys (length two) → EndsByRoom end start (us ++ ys) (length (one ++ two))
    room_by (Ok x) room = subst (HaveRoom start (us ++ ys)) (sym size) (room_both us ys start (length two) first_room room)
    room_by (Err Output) room = subst (HaveRoom start (us ++ ys)) (sym size) (room_both us ys start (length two) first_room room)
    room_by (Err Volume) room = subst (HaveRoom start (us ++ ys)) (sym size) (room_both us ys start (length two) first_room room)
    room_by (Err (Full len)) room = subst (λ (n : ℕ). IsFirstFull start (us ++ ys) n len) (sym size) (record {
      len_is = room.len_is ∙ sym (long_later us ys start (length two));
      full = omega (arith, room.full, ap length (bytes_later us ys (length two)));
      before = room_both us ys start (length two) first_room room.before;
    })

    leaves_both : (end : PutEnd) → PutsLeave end ys two s_new mid new → PutsLeave end (us ++ ys) (one ++ two) s_new old new
    leaves_both end later =
        let first = whole.puts.leaves yes_ in
        let bundle : (k : ℕ) → bundle_after_puts (contents Bundle mid) (take k ys) ≡ bundle_after_puts start (take (length us + k) (us ++ ys)) = λ k. ap (λ (l : List ℕ). bundle_after_puts l (take k ys)) mid_is ∙ sym (bundle_both us ys start k) in
        let same : bundle_after_puts (contents Bundle mid) (take (length two) ys) ≡ bundle_after_puts start (take (length (one ++ two)) (us ++ ys)) = bundle (length two) ∙ ap (λ (n : ℕ). bundle_after_puts start (take n (us ++ ys))) (sym size) in
        let maps : IsReadable start → map_after (tiles (contents Bundle mid)) (take (length two) ys) ≡ map_after (tiles start) (take (length (one ++ two)) (us ++ ys)) = λ readable.
        ap (λ (m : TileMap). map_after m (take (length two) ys)) (ap tiles mid_is ∙ (stands readable).1) ∙ sym (map_both us ys (tiles start) (length two)) ∙ ap (λ (n : ℕ). map_after (tiles start) (take n (us ++ ys))) (sym size) in
        let readable_mid : IsReadable start → IsReadable (contents Bundle mid) = λ readable. subst IsReadable (sym mid_is) (stands readable).0 in
        record {
          reads = unless_map end _ _ (λ holds. subst (λ (l : List ℕ). HoldsClosed l (current new)) same holds) later.reads;
          room = room_by end (subst (λ (l : List ℕ). EndsByRoom end l ys (length two)) mid_is later.room);
          images = λ readable.
              let kept : PutsKeep (contents Bundle mid) (tiles (contents Bundle mid)) ys two mid new = later.images (readable_mid readable) in
              let there : PutsKeep (bundle_after_puts start us) (map_after (tiles start) us) ys two mid new =
              subst (λ (m : TileMap). PutsKeep (bundle_after_puts start us) m ys two mid new) (stands readable).1 (subst (λ (l : List ℕ). PutsKeep l (tiles l) ys two mid new) mid_is kept) in
              some_of start (tiles start) (us ++ ys) (one ++ two) old new
              (keeps_both IsAny tt us ys start (tiles start) one two old mid new count first.marks_are later.marks_are (whole.keeps yes_ readable) (any_of (bundle_after_puts start us) (map_after (tiles start) us) ys two mid new there));
          tiles_are = λ readable. unless_map end _ _ (λ each. weaker (λ map. map ≡ map_after (tiles (contents Bundle mid)) (take (length two) ys)) (λ map. map ≡ map_after (tiles start) (take (length (one ++ two)) (us ++ ys))) (current new) (λ map is. is ∙ maps readable) each) (later.tiles_are (readable_mid readable));
          later = omega (arith, first.later, later.later);
          marks_are = marks_both one two old.moment mid.moment new.moment first.later later.later first.marks_are later.marks_are;
          groups =
              let others = subst (λ (l : List ℕ). AreWhole l ys two) mid_is later.groups in
              record {
                sizes = replicate whole.groups 64 ++ others.sizes;
                groups = groups_both us ys start whole.groups 0 others.sizes (omega (arith, whole.many)) (whole.in_groups yes_).0 others.groups;
                runs = runs_both (replicate whole.groups 64) others.sizes one two (whole.in_groups yes_).1 others.runs;
              };
          ready = later.ready;
        }

  -- puts of the first and then of the others are puts of both
  pub puts_both : (end : PutEnd) → PutsEnd end ys two s_new told mid new held_mid held_new → PutsEnd end (us ++ ys) (one ++ two) s_new told old new held held_new
  puts_both end later = record {
    gave = gave_both end later.gave;
    full = full_both end later.full;
    stops = later.stops;
    leaves = λ yes_. leaves_both yes_ end (later.leaves yes_);
  }

-- ---- one group more

replicate_more : (g : ℕ) → ◌≡◌ {A = List ℕ} (◌++◌ {A = ℕ} (replicate g 64) (64 ∷ [])) (replicate (suc g) 64)
replicate_more zero = refl
replicate_more (suc g) = ap (λ (x : List ℕ). 64 ∷ x) (replicate_more g)

tiles_both : (us ys : List TileRec) → AreTilesIn us → AreTilesIn ys → AreTilesIn (us ++ ys)
tiles_both [] ys are also = also
tiles_both (u ∷ us) ys are also = (are.0, are.1, are.2, tiles_both us ys are.3 also)

pub whole_more : (us ys : List TileRec) (one two : List ℕ) (s s_new : SessionState) (told : Bool) (old mid new : History) (held held_mid held_new : Option (List ℕ)) → PutWhole us one s told old mid held held_mid
    → PutsEnd (Ok tt) ys two s_new told mid new held_mid held_new → length ys ≡ 64 → AreTilesIn ys → PutWhole (us ++ ys) (one ++ two) s_new told old new held held_new
whole_more us ys one two s s_new told old mid new held held_mid held_new whole later full also =
    let many : length two ≡ 64 = later.gave.0 ∙ full in
    let group_room : IsTrue told → HaveRoom (bundle_after_puts (contents Bundle old) us) ys 64 = λ yes_.
    subst (λ (n : ℕ). HaveRoom (bundle_after_puts (contents Bundle old) us) ys n) many (subst (λ (l : List ℕ). HaveRoom l ys (length two)) (mid_is us ys one two s s_new told old mid new held held_mid held_new whole yes_) (later.leaves yes_).room) in
    let group : IsTrue told → IsOneGroup (bundle_after_puts (contents Bundle old) us) ys two = λ yes_.
    let at = mid_is us ys one two s s_new told old mid new held held_mid held_new whole yes_ in
    one_group (bundle_after_puts (contents Bundle old) us) ys two full many (group_room yes_)
    (subst (λ (l : List ℕ). AreWhole l ys two) at (later.leaves yes_).groups) in
    record {
      puts = puts_both us ys one two s s_new told old mid new held held_mid held_new whole (Ok tt) later;
      groups = suc whole.groups;
      many = omega (arith, whole.many, full, length-append us ys);
      are = tiles_both us ys whole.are also;
      in_groups = λ yes_.
          let g = group yes_ in
          let is = whole.in_groups yes_ in
          let b = contents Bundle old in (
            subst (AreGroups b (us ++ ys) 0) (replicate_more whole.groups) (groups_both us ys b whole.groups 0 (64 ∷ []) (omega (arith, whole.many)) is.0 (omega arith, g.next, tt)),
            subst (λ (x : List ℕ). InRuns x (one ++ two)) (replicate_more whole.groups) (runs_both (replicate whole.groups 64) (64 ∷ []) one two is.1 (g.mark, ([], (g.marks_are ∙ sym (append-nil (replicate 64 g.mark)), refl)))),
          );
      keeps = λ yes_ readable.
          let b = contents Bundle old in
          let at = mid_is us ys one two s s_new told old mid new held held_mid held_new whole yes_ in
          let standing = stands us ys one two s s_new told old mid new held held_mid held_new whole yes_ readable in
          let kept = (later.leaves yes_).images (subst IsReadable (sym at) standing.0) in
          let there : PutsKeep (bundle_after_puts b us) (map_after (tiles b) us) ys two mid new = subst (λ (m : TileMap). PutsKeep (bundle_after_puts b us) m ys two mid new) standing.1 (subst (λ (l : List ℕ). PutsKeep l (tiles l) ys two mid new) at kept) in
          keeps_both Is64 refl us ys b (tiles b) one two old mid new (whole.puts.gave.0) (whole.puts.leaves yes_).marks_are (later.leaves yes_).marks_are (whole.keeps yes_ readable)
          (keeps_64 (bundle_after_puts b us) ys two full many (group_room yes_) (map_after (tiles b) us) mid new (group yes_) there);
    }

-- before the first group
pub whole_none : (s : SessionState) (told : Bool) (h : History) (held : Option (List ℕ)) → s.stopped ≡ false → (IsTrue told → IsReadyToPut s (current h)) → PutWhole [] [] s told h h held held
whole_none s told h held running ready = record {
  puts = record {
    gave = (refl, Holds_none held);
    full = tt;
    stops = λ stopped. absurd (let no : ⊥ = cc in no);
    leaves = λ yes_.
        let is = ready yes_ in
        record {
          reads = record { bundle_is = is.quiet.bundle; journal = is.quiet.journal; closed = is.closed };
          room = λ i less. absurd (let no : ⊥ = omega (arith, less) in no);
          images = λ readable. started_at (λ t d. EachImage (IsAfterSome (contents Bundle h) (tiles (contents Bundle h)) [] [] t) d) h
              (still_good (IsAfterSome (contents Bundle h) (tiles (contents Bundle h)) [] [] h.moment) (current h) is.quiet is.closed readable (record { count = 0; count_is = inl refl; map_is = refl }));
          tiles_are = λ readable. still_good (λ map. map ≡ tiles (contents Bundle h)) (current h) is.quiet is.closed readable refl;
          later = omega arith;
          marks_are = no_marks h.moment h.moment;
          groups = no_groups (contents Bundle h) [];
          ready = is;
        };
  };
  groups = 0;
  many = refl;
  are = tt;
  in_groups = λ yes_. (tt, refl);
  keeps = λ yes_ readable.
      let is = ready yes_ in
      started_at (λ t d. EachImage (IsAfterSuch Is64 (contents Bundle h) (tiles (contents Bundle h)) [] [] t) d) h
      (still_good (IsAfterSuch Is64 (contents Bundle h) (tiles (contents Bundle h)) [] [] h.moment) (current h) is.quiet is.closed readable (record { count = 0; count_is = inl refl; map_is = refl }));
}
