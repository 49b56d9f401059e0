-- One group more.
use Rattle.std.proofs.Common.{◌≡◌, ◌⊎◌, ℕ, ◌+◌, ◌<◌, ◌≤◌, List, [], ◌++◌, length, take, drop, replicate, refl, sym, ap, subst, ◌∙◌, inl, inr, arith, length-append}
use Rattle.std.proofs.lemmas.Bool.{cases_lt}
use Rattle.std.proofs.lemmas.Grind.{flat_map-append}
use Rattle.std.proofs.lemmas.List.{length-replicate}
use Rattle.std.proofs.Math.Seq.{take-add}
use Rattle.outside_io.specs.declared.volume.VolFile.TheVariants.{Bundle}
use Rattle.outside_io.specs.volume.Disk.{File}
use Rattle.outside_io.specs.volume.History.{History, During, contents, current}
use Rattle.outside_io.proofs.VolumeLemmas.Moments.{during_end, during_join_at, during_map, during_map_at, started_at}
use Rattle.bundle_store.specs.declared.tile_rec.TileRec.{TileRec}
use Rattle.bundle_store.specs.Build.{map_after}
use Rattle.bundle_store.specs.GroupPuts.{AllOrNone, bundle_after_puts}
use Rattle.bundle_store.specs.Images.{EachImage, HoldsClosed}
use Rattle.bundle_store.specs.Session.{IsReadyToPut, SessionState}
use Rattle.bundle_store.specs.Tiles.{IsReadable, Opens, TileMap, tiles}
use Rattle.bundle_store.proofs.PutLaws.{after_join}
use Rattle.bundle_store.proofs.Standing.{still_good, weaker}
use Rattle.bundle_lines.specs.Lines.{put_line, put_lines}
use Rattle.bundle_lines.specs.Puts.{AreMarks, AreWhole, IsAfterSome, IsNextGroup, PutsKeep, marked}
use Rattle.bundle_lines.specs.inside.Turns.{IsFitting, PutsStand}
use Rattle.bundle_lines.proofs.Fitting.{bundles_join, next_is, puts_stand, room_of, room_more}
use Rattle.bundle_lines.proofs.Marked.{marked_all, marked_before_all, marks_later, marks_more_all, no_groups, no_marks, whole_more}

-- ---- lists

module _ (us : List TileRec) (k n : ℕ) where
  pub lines_next : put_lines (take (k + n) us) ≡ put_lines (take k us) ++ put_lines (take n (drop k us))
  lines_next = ap put_lines (take-add k n us) ∙ flat_map-append put_line (take k us) (take n (drop k us))

  map_next : (start : TileMap) → map_after start (take (k + n) us) ≡ map_after (map_after start (take k us)) (take n (drop k us))
  map_next start = ap (map_after start) (take-add k n us) ∙ after_join start (take k us) (take n (drop k us))

  bundle_next : (b : List ℕ) → bundle_after_puts b (take (k + n) us) ≡ bundle_after_puts (bundle_after_puts b (take k us)) (take n (drop k us))
  bundle_next b = ap (bundle_after_puts b) (take-add k n us) ∙ bundles_join b (take k us) (take n (drop k us))

-- ---- images

-- a moment that is not before the marks has them all
all_marked : (marks : List ℕ) (from to t : ℕ) → AreMarks marks from to → to ≤ t → marked marks t ≡ length marks
all_marked marks from to t are ge = marked_all marks t (λ i less. let w = (are.within i less).1 in omega (arith, w, ge))

-- whatever a commit answers, at each moment as many updates stand as have a mark, or also the group
turn : (b : List ℕ) (start : TileMap) (us : List TileRec) (marks : List ℕ) (n : ℕ) (old mid new : History)
    → PutsKeep b start us marks old mid → AreMarks marks old.moment mid.moment → IsNextGroup b us (length marks) n
    → During (EachImage (AllOrNone (take n (drop (length marks) us)) (map_after start (take (length marks) us)))) mid new → PutsKeep b start us marks old new
turn b start us marks n old mid new so_far are next during =
    let Either : TileMap → Type 0 = AllOrNone (take n (drop (length marks) us)) (map_after start (take (length marks) us)) in
    during_join_at (λ t d. EachImage (IsAfterSome b start us marks t) d) old mid new so_far
    (during_map_at (λ t d. EachImage Either d) (λ t d. EachImage (IsAfterSome b start us marks t) d) mid new
    (λ t d ge le each.
    let all : length marks ≡ marked marks t = sym (all_marked marks old.moment mid.moment t are ge) in
    weaker Either (IsAfterSome b start us marks t) d (λ map either. elim either [
      | inl same ↦ record { count = length marks; count_is = inl all; map_is = same }
      | inr more ↦ record { count = length marks + n; count_is = inr (n, (subst (λ (i : ℕ). IsNextGroup b us i n) all next, ap (λ (i : ℕ). i + n) all)); map_is = more ∙ sym (map_next us (length marks) n start) }
    ]) each)
    during)

-- the same while nothing changes
turn_still : (b : List ℕ) (start : TileMap) (us : List TileRec) (marks : List ℕ) (old mid new : History)
    → PutsKeep b start us marks old mid → AreMarks marks old.moment mid.moment
    → During (EachImage (λ map. map ≡ map_after start (take (length marks) us))) mid new → PutsKeep b start us marks old new
turn_still b start us marks old mid new so_far are during =
    during_join_at (λ t d. EachImage (IsAfterSome b start us marks t) d) old mid new so_far
    (during_map_at (λ t d. EachImage (λ map. map ≡ map_after start (take (length marks) us)) d) (λ t d. EachImage (IsAfterSome b start us marks t) d) mid new
    (λ t d ge le each.
    weaker (λ map. map ≡ map_after start (take (length marks) us)) (IsAfterSome b start us marks t) d
    (λ map same. record { count = length marks; count_is = inl (sym (all_marked marks old.moment mid.moment t are ge)); map_is = same }) each)
    during)

-- after a commit that is done, its mark is the moment: until then nothing has changed, and from
-- then on the group stands
turn_done : (b : List ℕ) (start : TileMap) (us : List TileRec) (marks : List ℕ) (n : ℕ) (old new : History)
    → PutsKeep b start us marks old new → AreMarks marks old.moment new.moment → EachImage (λ map. map ≡ map_after start (take (length marks + n) us)) (current new)
    → PutsKeep b start us (marks ++ replicate n new.moment) old new
turn_done b start us marks n old new kept are now =
    let marks_new = marks ++ replicate n new.moment in
    let more : AreMarks marks_new old.moment new.moment = marks_more_all marks n old.moment new.moment new.moment kept.later (omega arith) are in
    let size : length marks_new ≡ length marks + n = length-append marks (replicate n new.moment) ∙ ap (λ (i : ℕ). length marks + i) (length-replicate n new.moment) in
    record {
      later = kept.later;
      past = kept.past;
      each = λ t ge le. elim (cases_lt t new.moment) [
        | inl before ↦ (let same : marked marks t ≡ marked marks_new t = sym (marked_before_all marks n new.moment t before) in
            weaker (IsAfterSome b start us marks t) (IsAfterSome b start us marks_new t) (new.disk_at t)
            (λ map some. record {
              count = some.count;
              count_is = subst (λ (m : ℕ). (some.count ≡ m) ⊎ ((i : ℕ) × (IsNextGroup b us m i × (some.count ≡ m + i)))) same some.count_is;
              map_is = some.map_is;
            }) (kept.each t ge le))
        | inr at ↦ (let e : new.moment ≡ t = omega arith in
            let all : marked marks_new t ≡ length marks + n = all_marked marks_new old.moment new.moment t more at ∙ size in
            weaker (λ map. map ≡ map_after start (take (length marks + n) us)) (IsAfterSome b start us marks_new t) (new.disk_at t)
            (λ map same. record { count = length marks + n; count_is = inl (sym all); map_is = same })
            (subst (λ (m : ℕ). EachImage (λ map. map ≡ map_after start (take (length marks + n) us)) (new.disk_at m)) e now))
      ];
    }

-- ---- all that stands

-- before the first update
pub stand_first : (us : List TileRec) (marks : List ℕ) (s : SessionState) (h : History) → marks ≡ [] → IsReadyToPut s (current h) → PutsStand us 0 marks s h h
stand_first us marks s h none ready = record {
  ready = ready;
  holds = record { bundle_is = ready.quiet.bundle; journal = ready.quiet.journal; closed = ready.closed };
  room = λ i less. absurd (omega (arith, less));
  later = omega arith;
  marks_are = subst (λ (x : List ℕ). AreMarks x h.moment h.moment) (sym none) (no_marks h.moment h.moment);
  groups = subst (AreWhole (contents Bundle h) us) (sym none) (no_groups (contents Bundle h) us);
  readable = λ readable. readable;
  map_is = λ readable. refl;
  images = λ readable. subst (λ (x : List ℕ). PutsKeep (contents Bundle h) (tiles (contents Bundle h)) us x h h) (sym none)
      (started_at (λ t d. EachImage (IsAfterSome (contents Bundle h) (tiles (contents Bundle h)) us [] t) d) h
      (still_good (IsAfterSome (contents Bundle h) (tiles (contents Bundle h)) us [] h.moment) (current h) ready.quiet ready.closed readable (record { count = 0; count_is = inl refl; map_is = refl })));
}

-- what stands after the first k updates
module _ (us : List TileRec) (k : ℕ) (marks : List ℕ) (s : SessionState) (old mid : History) (so : PutsStand us k marks s old mid) (count : length marks ≡ k) where
  pub now_is : contents Bundle mid ≡ bundle_after_puts (contents Bundle old) (take k us)
  now_is = ap (λ (f : File). f.now) so.holds.bundle_is

  readable_now : IsReadable (contents Bundle old) → IsReadable (contents Bundle mid)
  readable_now readable = subst IsReadable (sym now_is) (so.readable readable)

  map_now : IsReadable (contents Bundle old) → tiles (contents Bundle mid) ≡ map_after (tiles (contents Bundle old)) (take k us)
  map_now readable = ap tiles now_is ∙ so.map_is readable

  map_by : IsReadable (contents Bundle old) → tiles (contents Bundle mid) ≡ map_after (tiles (contents Bundle old)) (take (length marks) us)
  map_by readable = map_now readable ∙ ap (λ n. map_after (tiles (contents Bundle old)) (take n us)) (sym count)

  -- calls that change nothing
  pub stand_still : (new : History) → During (λ d. d ≡ current mid) mid new → PutsStand us k marks s old new
  stand_still new during =
      let same : current new ≡ current mid = during_end (λ d. d ≡ current mid) mid new during in
      record {
        ready = subst (IsReadyToPut s) (sym same) so.ready;
        holds = subst (HoldsClosed (bundle_after_puts (contents Bundle old) (take k us))) (sym same) so.holds;
        room = so.room;
        later = omega (arith, so.later, during.later);
        marks_are = marks_later marks old.moment mid.moment new.moment during.later so.marks_are;
        groups = so.groups;
        readable = so.readable;
        map_is = so.map_is;
        images = λ readable.
            let Same : TileMap → Type 0 = λ map. map ≡ map_after (tiles (contents Bundle old)) (take (length marks) us) in
            turn_still (contents Bundle old) (tiles (contents Bundle old)) us marks old mid new (so.images readable) so.marks_are
            (during_map (λ d. d ≡ current mid) (EachImage Same) mid new (λ d is. subst (EachImage Same) (sym is) (still_good Same (current mid) so.ready.quiet so.ready.closed (readable_now readable) (map_by readable))) during);
      }

  -- a group of n more
  module _ (n : ℕ) (s_new : SessionState) (new : History) (some : 0 < n) (below : k < length us) (fits : IsFitting (length (contents Bundle mid)) (drop k us) n)
      (during : During (λ d. IsReadable (contents Bundle mid) → EachImage (AllOrNone (take n (drop k us)) (tiles (contents Bundle mid))) d) mid new) where
    next : IsNextGroup (contents Bundle old) us k n
    next = next_is (contents Bundle old) us k n some below (subst (λ (l : List ℕ). IsFitting (length l) (drop k us) n) now_is fits) (let opens = so.ready.serves.opens in subst Opens now_is opens)

    next_by : IsNextGroup (contents Bundle old) us (length marks) n
    next_by = subst (λ (i : ℕ). IsNextGroup (contents Bundle old) us i n) (sym count) next

    -- at each moment of the call, whatever it answers
    pub images_so : IsReadable (contents Bundle old) → PutsKeep (contents Bundle old) (tiles (contents Bundle old)) us marks old new
    images_so readable =
        turn (contents Bundle old) (tiles (contents Bundle old)) us marks n old mid new (so.images readable) so.marks_are next_by
        (during_map (λ d. IsReadable (contents Bundle mid) → EachImage (AllOrNone (take n (drop k us)) (tiles (contents Bundle mid))) d)
        (EachImage (AllOrNone (take n (drop (length marks) us)) (map_after (tiles (contents Bundle old)) (take (length marks) us)))) mid new
        (λ d each. subst (λ (m : TileMap). EachImage (AllOrNone (take n (drop (length marks) us)) m) d) (map_by readable)
        (subst (λ (i : ℕ). EachImage (AllOrNone (take n (drop i us)) (tiles (contents Bundle mid))) d) (sym count) (each (readable_now readable))))
        during)

    pub marks_so : AreMarks marks old.moment new.moment
    marks_so = marks_later marks old.moment mid.moment new.moment during.later so.marks_are

    -- a group that was put
    module _ (holds : HoldsClosed (bundle_after_puts (contents Bundle mid) (take n (drop k us))) (current new)) (ready : IsReadyToPut s_new (current new)) where
      then_is : bundle_after_puts (contents Bundle mid) (take n (drop k us)) ≡ bundle_after_puts (contents Bundle old) (take (k + n) us)
      then_is = ap (λ (l : List ℕ). bundle_after_puts l (take n (drop k us))) now_is ∙ sym (bundle_next us k n (contents Bundle old))

      stands_then : IsReadable (contents Bundle old)
          → IsReadable (bundle_after_puts (contents Bundle mid) (take n (drop k us))) × (tiles (bundle_after_puts (contents Bundle mid) (take n (drop k us))) ≡ map_after (tiles (contents Bundle mid)) (take n (drop k us)))
      stands_then readable = puts_stand n (drop k us) (contents Bundle mid) (readable_now readable) fits.first.tiles (room_of (contents Bundle mid) (drop k us) n so.ready.serves.opens fits) fits.within

      readable_then : IsReadable (contents Bundle old) → IsReadable (bundle_after_puts (contents Bundle old) (take (k + n) us))
      readable_then readable = subst IsReadable then_is (stands_then readable).0

      map_then : IsReadable (contents Bundle old) → tiles (bundle_after_puts (contents Bundle old) (take (k + n) us)) ≡ map_after (tiles (contents Bundle old)) (take (k + n) us)
      map_then readable = ap tiles (sym then_is) ∙ (stands_then readable).1 ∙ ap (λ (m : TileMap). map_after m (take n (drop k us))) (map_now readable) ∙ sym (map_next us k n (tiles (contents Bundle old)))

      new_is : contents Bundle new ≡ bundle_after_puts (contents Bundle old) (take (k + n) us)
      new_is = ap (λ (f : File). f.now) holds.bundle_is ∙ then_is

      now_stands : IsReadable (contents Bundle old) → EachImage (λ map. map ≡ map_after (tiles (contents Bundle old)) (take (length marks + n) us)) (current new)
      now_stands readable = still_good (λ map. map ≡ map_after (tiles (contents Bundle old)) (take (length marks + n) us)) (current new) ready.quiet ready.closed
          (subst IsReadable (sym new_is) (readable_then readable))
          (ap tiles new_is ∙ map_then readable ∙ ap (λ i. map_after (tiles (contents Bundle old)) (take (i + n) us)) (sym count))

      pub stand_next : PutsStand us (k + n) (marks ++ replicate n new.moment) s_new old new
      stand_next = record {
        ready = ready;
        holds = subst (λ (l : List ℕ). HoldsClosed l (current new)) then_is holds;
        room = room_more (contents Bundle old) us k n so.room next;
        later = omega (arith, so.later, during.later);
        marks_are = marks_more_all marks n old.moment mid.moment new.moment so.later during.later so.marks_are;
        groups = whole_more (contents Bundle old) us marks n new.moment some next_by so.groups;
        readable = readable_then;
        map_is = map_then;
        images = λ readable. turn_done (contents Bundle old) (tiles (contents Bundle old)) us marks n old new (images_so readable) marks_so (now_stands readable);
      }
