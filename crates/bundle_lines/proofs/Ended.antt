-- How puts end.
use Rattle.std.proofs.Common.{◌≡◌, ℕ, ◌+◌, ◌-◌, ◌^◌, ◌<◌, ◌≤◌, List, ◌++◌, length, take, drop, replicate, Option, Bool, true, false, Ok, Err, refl, sym, ap, subst, ◌∙◌, inl, inr, arith, length-append, length-drop}
use Rattle.std.specs.Prelude.{IsTrue}
use Rattle.std.proofs.lemmas.Bool.{cases_lt}
use Rattle.std.proofs.lemmas.List.{length-replicate, length-take-le, take_all}
use Rattle.outside_io.specs.declared.volume.VolFile.TheVariants.{Bundle}
use Rattle.outside_io.specs.streams.Faults.{IsCause}
use Rattle.outside_io.specs.streams.Sink.{Holds, HoldsPrefix}
use Rattle.outside_io.specs.volume.Disk.{Disk, File}
use Rattle.outside_io.specs.volume.History.{History, During, contents, current}
use Rattle.outside_io.proofs.StreamLemmas.Gives.{HoldsPrefix_join, Holds_join}
use Rattle.outside_io.proofs.VolumeLemmas.Moments.{during_end}
use Rattle.bundle_store.specs.declared.tile_rec.TileRec.{TileRec}
use Rattle.bundle_store.specs.Build.{bytes_at, map_after}
use Rattle.bundle_store.specs.GroupPuts.{AllOrNone, bundle_after_puts}
use Rattle.bundle_store.specs.Images.{EachImage, HoldsClosed}
use Rattle.bundle_store.specs.Session.{SessionState}
use Rattle.bundle_store.specs.Tiles.{IsReadable, tiles}
use Rattle.bundle_store.proofs.Standing.{still_good}
use Rattle.bundle_lines.specs.declared.stop.PutStop.{PutStop}
use Rattle.bundle_lines.specs.declared.stop.PutStop.TheVariants.{Output, Volume, Full}
use Rattle.bundle_lines.specs.Lines.{put_lines}
use Rattle.bundle_lines.specs.Puts.{AreMarks, AreWhole, HaveRoom, PutsEnd, PutsKeep}
use Rattle.bundle_lines.specs.inside.Turns.{IsFitting, IsNext, IsPut, PutsSoFar, PutsStand, Turns}
use Rattle.bundle_lines.proofs.Fitting.{bytes_first, bytes_here}
use Rattle.bundle_lines.proofs.Stepping.{images_so, lines_next, marks_so, now_is, stand_next, stand_still}

-- where an object has no failure to answer for, its count stays
pub uncaused : (P : Type 0) (old new : ℕ) → (P → ⊥) → IsCause P old new → new ≡ old
uncaused P old new not_so cause = elim (cases_lt old new) [
  | inl rose ↦ absurd (not_so (cause.rose rose))
  | inr kept ↦ omega (arith, cause.counts)
]

-- the updates behind the first k, as a slice
pub rest_all : (us : List TileRec) (k : ℕ) → take (length us - k) (drop k us) ≡ drop k us
rest_all us k = take_all (length us - k) (drop k us) (omega (arith, length-drop k us))

tells : (told told_mid : Bool) → told_mid ≡ told → IsTrue told → IsTrue told_mid
tells told told_mid same yes_ = subst IsTrue (sym same) yes_

-- what stands by the number of marks
module _ (us : List TileRec) (k : ℕ) (marks : List ℕ) (s : SessionState) (old new : History) (so : PutsStand us k marks s old new) (count : length marks ≡ k) where
  holds_by : HoldsClosed (bundle_after_puts (contents Bundle old) (take (length marks) us)) (current new)
  holds_by = subst (λ (n : ℕ). HoldsClosed (bundle_after_puts (contents Bundle old) (take n us)) (current new)) (sym count) so.holds

  room_by : HaveRoom (contents Bundle old) us (length marks)
  room_by = subst (HaveRoom (contents Bundle old) us) (sym count) so.room

  tiles_by : IsReadable (contents Bundle old) → EachImage (λ map. map ≡ map_after (tiles (contents Bundle old)) (take (length marks) us)) (current new)
  tiles_by readable =
      let here : contents Bundle new ≡ bundle_after_puts (contents Bundle old) (take k us) = ap (λ (f : File). f.now) so.holds.bundle_is in
      still_good (λ map. map ≡ map_after (tiles (contents Bundle old)) (take (length marks) us)) (current new) so.ready.quiet so.ready.closed
      (subst IsReadable (sym here) (so.readable readable))
      (ap tiles here ∙ so.map_is readable ∙ ap (λ n. map_after (tiles (contents Bundle old)) (take n us)) (sym count))

no_stop : (s : SessionState) → s.stopped ≡ false → s.stopped ≡ true → ⊥
no_stop s running stopped = cc

-- all were put
pub ended_well : (us : List TileRec) (k : ℕ) (marks : List ℕ) (s : SessionState) (told told_new : Bool) (old new : History) (held held_new : Option (List ℕ))
    → PutsSoFar us k marks s told told_new old new held held_new → k ≡ length us → PutsEnd (Ok tt) us marks s told old new held held_new
ended_well us k marks s told told_new old new held held_new so all = record {
  gave = (so.count ∙ all, subst (λ (xs : List TileRec). Holds held held_new (put_lines xs)) (take_all k us (omega (arith, all))) so.lines);
  full = tt;
  stops = λ stopped. absurd (no_stop s so.running stopped);
  leaves = λ tells_. let stand = so.stands tells_ in record {
    reads = holds_by us k marks s old new stand so.count;
    room = room_by us k marks s old new stand so.count;
    images = stand.images;
    tiles_are = tiles_by us k marks s old new stand so.count;
    later = stand.later;
    marks_are = stand.marks_are;
    groups = stand.groups;
    ready = stand.ready;
  };
}

-- after k updates that are done, with the volume asked for the length
module _ (us : List TileRec) (k : ℕ) (marks : List ℕ) (s : SessionState) (told told_mid told_now : Bool) (old mid now : History) (held held_mid : Option (List ℕ))
    (so : PutsSoFar us k marks s told told_mid old mid held held_mid) (below : k < length us) (same : told_now ≡ told_mid)
    (during : IsTrue told_mid → During (λ d. d ≡ current mid) mid now) where
  -- nothing has changed
  pub so_still : PutsSoFar us k marks s told told_now old now held held_mid
  so_still = record {
    count = so.count;
    running = so.running;
    told = same ∙ so.told;
    lines = so.lines;
    stands = λ yes_. stand_still us k marks s old mid (so.stands yes_) so.count now (during (tells told told_mid so.told yes_));
  }

  -- and the group that fits still does
  pub fits_still : (n : ℕ) → (IsTrue told_mid → IsFitting (length (contents Bundle mid)) (drop k us) n) → IsTrue told_now → IsFitting (length (contents Bundle now)) (drop k us) n
  fits_still n fits yes_ =
      let t : IsTrue told_mid = subst IsTrue same yes_ in
      subst (λ (d : Disk). IsFitting (length d.bundle.now) (drop k us) n) (sym (during_end (λ d. d ≡ current mid) mid now (during t))) (fits t)

  lines_by : Holds held held_mid (put_lines (take (length marks) us))
  lines_by = subst (λ (n : ℕ). Holds held held_mid (put_lines (take n us))) (sym so.count) so.lines

  -- the volume failed
  volume_before : PutsEnd (Err Volume) us marks s told old now held held_mid
  volume_before = record {
    gave = (omega (arith, so.count, below), lines_by);
    full = tt;
    stops = λ stopped. refl;
    leaves = λ yes_. let stand = so_still.stands yes_ in record {
      reads = tt;
      room = room_by us k marks s old now stand so.count;
      images = stand.images;
      tiles_are = λ readable. tt;
      later = stand.later;
      marks_are = stand.marks_are;
      groups = stand.groups;
      ready = tt;
    };
  }

  -- there is no room for the next update
  full_before : (len : ℕ) → IsNext (Err (Full len)) (drop k us) told_mid (length (contents Bundle mid)) → PutsEnd (Err (Full len)) us marks s told old now held held_mid
  full_before len is =
      let bytes = bytes_first us k in
      let no_room : 2 ^ 40 < len + 4 + length (bytes_at us (length marks)) = subst (λ (n : ℕ). 2 ^ 40 < len + 4 + length (bytes_at us n)) (sym so.count) (omega (arith, is.0, bytes)) in
      record {
        gave = (omega (arith, so.count, below), lines_by);
        full = (length marks, (omega arith, omega (arith, so.count, below), no_room));
        stops = λ stopped. absurd (no_stop s so.running stopped);
        leaves = λ yes_. let stand = so_still.stands yes_ in record {
          reads = holds_by us k marks s old now stand so.count;
          room = record {
            len_is = is.1 (tells told told_mid so.told yes_) ∙ ap length (now_is us k marks s old mid (so.stands yes_) so.count) ∙ ap (λ n. length (bundle_after_puts (contents Bundle old) (take n us))) (sym so.count);
            full = no_room;
            before = room_by us k marks s old now stand so.count;
          };
          images = stand.images;
          tiles_are = tiles_by us k marks s old now stand so.count;
          later = stand.later;
          marks_are = stand.marks_are;
          groups = stand.groups;
          ready = stand.ready;
        };
      }

  pub ended_before : (stop : PutStop) → IsNext (Err stop) (drop k us) told_mid (length (contents Bundle mid)) → PutsEnd (Err stop) us marks s told old now held held_mid
  ended_before Output is = absurd is
  ended_before Volume is = volume_before
  ended_before (Full len) is = full_before len is

-- a group of n, after k updates that are done
module _ (us : List TileRec) (k n : ℕ) (marks marks_new : List ℕ) (s s_new : SessionState) (told told_mid told_new : Bool) (old mid new : History) (held held_mid held_new : Option (List ℕ))
    (so : PutsSoFar us k marks s told told_mid old mid held held_mid) (below : k < length us) (some : 0 < n) (within : n ≤ length (drop k us))
    (fits : IsTrue told_mid → IsFitting (length (contents Bundle mid)) (drop k us) n)
    (during : IsTrue told_mid → During (λ d. IsReadable (contents Bundle mid) → EachImage (AllOrNone (take n (drop k us)) (tiles (contents Bundle mid))) d) mid new)
    (same : told_new ≡ told_mid) where
  size : length (take n (drop k us)) ≡ n
  size = length-take-le n (drop k us) within

  marks_are : marks_new ≡ marks ++ replicate (length (take n (drop k us))) new.moment → marks_new ≡ marks ++ replicate n new.moment
  marks_are mark = mark ∙ ap (λ (i : ℕ). marks ++ replicate i new.moment) size

  stand_put : marks_new ≡ marks ++ replicate (length (take n (drop k us))) new.moment → IsPut (take n (drop k us)) s_new told_mid mid new → IsTrue told → PutsStand us (k + n) marks_new s_new old new
  stand_put mark put yes_ =
      let t : IsTrue told_mid = tells told told_mid so.told yes_ in
      subst (λ (x : List ℕ). PutsStand us (k + n) x s_new old new) (sym (marks_are mark))
      (stand_next us k marks s old mid (so.stands yes_) so.count n s_new new some below (fits t) (during t) (put.holds t) (put.ready t))

  count_put : marks_new ≡ marks ++ replicate (length (take n (drop k us))) new.moment → length marks_new ≡ k + n
  count_put mark = ap length (marks_are mark) ∙ length-append marks (replicate n new.moment) ∙ ap (λ (i : ℕ). length marks + i) (length-replicate n new.moment) ∙ ap (λ (i : ℕ). i + n) so.count

  -- a group that is done
  pub so_next : Turns (Ok tt) (take n (drop k us)) s_new marks marks_new told_mid mid new held_mid held_new → PutsSoFar us (k + n) marks_new s_new told told_new old new held held_new
  so_next turned = record {
    count = count_put turned.0;
    running = turned.1.running;
    told = same ∙ so.told;
    lines = subst (Holds held held_new) (sym (lines_next us k n)) (Holds_join held held_mid held_new (put_lines (take k us)) (put_lines (take n (drop k us))) so.lines turned.2);
    stands = stand_put turned.0 turned.1;
  }

  -- its lines were cut short
  cut_short : Turns (Err Output) (take n (drop k us)) s_new marks marks_new told_mid mid new held_mid held_new → PutsEnd (Err Output) us marks_new s_new told old new held held_new
  cut_short turned =
      let count : length marks_new ≡ k + n = count_put turned.0 in
      record {
        gave = (
          omega (arith, count, some),
          omega (arith, count, below, within, length-drop k us),
          subst (λ (i : ℕ). HoldsPrefix held held_new (put_lines (take i us))) (sym count)
              (subst (HoldsPrefix held held_new) (sym (lines_next us k n)) (HoldsPrefix_join held held_mid held_new (put_lines (take k us)) (put_lines (take n (drop k us))) so.lines turned.2)),
        );
        full = tt;
        stops = λ stopped. absurd (no_stop s_new turned.1.running stopped);
        leaves = λ yes_. let stand = stand_put turned.0 turned.1 yes_ in record {
          reads = holds_by us (k + n) marks_new s_new old new stand count;
          room = room_by us (k + n) marks_new s_new old new stand count;
          images = stand.images;
          tiles_are = tiles_by us (k + n) marks_new s_new old new stand count;
          later = stand.later;
          marks_are = stand.marks_are;
          groups = stand.groups;
          ready = stand.ready;
        };
      }

  lines_same : marks_new ≡ marks → held_new ≡ held_mid → Holds held held_new (put_lines (take (length marks_new) us))
  lines_same mark gave = subst (λ (i : ℕ). Holds held held_new (put_lines (take i us))) (sym (ap length mark ∙ so.count)) (subst (λ (h : Option (List ℕ)). Holds held h (put_lines (take k us))) (sym gave) so.lines)

  -- the volume failed
  failed : Turns (Err Volume) (take n (drop k us)) s_new marks marks_new told_mid mid new held_mid held_new → PutsEnd (Err Volume) us marks_new s_new told old new held held_new
  failed turned =
      let count : length marks_new ≡ k = ap length turned.0 ∙ so.count in
      record {
        gave = (omega (arith, count, below), lines_same turned.0 turned.1);
        full = tt;
        stops = λ stopped. refl;
        leaves = λ yes_.
            let t : IsTrue told_mid = tells told told_mid so.told yes_ in
            let stand = so.stands yes_ in
            record {
              reads = tt;
              room = subst (HaveRoom (contents Bundle old) us) (sym count) stand.room;
              images = λ readable. subst (λ (x : List ℕ). PutsKeep (contents Bundle old) (tiles (contents Bundle old)) us x old new) (sym turned.0)
                  (images_so us k marks s old mid stand so.count n s_new new some below (fits t) (during t) readable);
              tiles_are = λ readable. tt;
              later = omega (arith, stand.later, (during t).later);
              marks_are = subst (λ (x : List ℕ). AreMarks x old.moment new.moment) (sym turned.0) (marks_so us k marks s old mid stand so.count n s_new new some below (fits t) (during t));
              groups = subst (AreWhole (contents Bundle old) us) (sym turned.0) stand.groups;
              ready = tt;
            };
      }

  -- a volume that tells nothing had no room
  too_full : (len : ℕ) → Turns (Err (Full len)) (take n (drop k us)) s_new marks marks_new told_mid mid new held_mid held_new → PutsEnd (Err (Full len)) us marks_new s_new told old new held held_new
  too_full len turned =
      let count : length marks_new ≡ k = ap length turned.0 ∙ so.count in
      let i = turned.2.number in
      let here = bytes_here us k n i (omega (arith, turned.2.within, size)) in
      record {
        gave = (omega (arith, count, below), lines_same turned.0 turned.1);
        full = (k + i, (omega (arith, count), omega (arith, turned.2.within, size, within, length-drop k us), omega (arith, turned.2.full, here)));
        stops = λ stopped. absurd (no_stop s_new turned.2.running stopped);
        leaves = λ yes_. absurd (turned.2.untold (tells told told_mid so.told yes_));
      }

  pub ended_by : (stop : PutStop) → Turns (Err stop) (take n (drop k us)) s_new marks marks_new told_mid mid new held_mid held_new → PutsEnd (Err stop) us marks_new s_new told old new held held_new
  ended_by Output turned = cut_short turned
  ended_by Volume turned = failed turned
  ended_by (Full len) turned = too_full len turned
