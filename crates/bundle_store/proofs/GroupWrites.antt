-- The writes of some tiles at once.
use Rattle.std.proofs.Common.{◌≡◌, ◌⊎◌, inl, inr, refl, ℕ, zero, suc, Result, ◌+◌, ◌<◌, ◌≤◌, List, [], ◌∷◌, ◌++◌, length, get_or, take, drop, sym, ◌∙◌, ap, arith}
use Rattle.std.specs.Prelude.{OnOk}
use Rattle.std.proofs.lemmas.List.{append_assoc, append-nil, get_or_default, length-append, take-append-drop, take_all, take_more}
use Rattle.std.proofs.lemmas.Result.{on_ok_weaker}
use Rattle.outside_io.specs.declared.volume.VolFile.TheVariants.{Bundle}
use Rattle.outside_io.specs.volume.Disk.{Disk, IsSettled, Struck, change, laid, settled, synced, wrote}
use Rattle.outside_io.specs.volume.History.{During, History, Ticks, contents, current}
use Rattle.outside_io.proofs.VolumeLemmas.Limits.{Keeps, Limits, Run, limits_wrote, run_start, run_during, run_on}
use Rattle.outside_io.proofs.VolumeLemmas.Moments.{during_map}
use Rattle.bundle_index.specs.Entry.{IsEntry, entry_bytes, place_of}
use Rattle.bundle_index.proofs.Numbers.{length-entry_bytes}
use Rattle.bundle_store.specs.declared.tile_rec.TileRec.{TileRec}
use Rattle.bundle_store.specs.Build.{bytes_at}
use Rattle.bundle_store.specs.GroupPuts.{AreSlots, group_records, with_entries}
use Rattle.side_journal.specs.Groups.{AreNew, NewEntry}
use Rattle.bundle_store.specs.Layout.{record_bytes}
use Rattle.bundle_store.specs.inside.Grouped.{KeepsUnderAll}
use Rattle.bundle_store.specs.inside.Parts.{KeepsFront}
use Rattle.bundle_store.proofs.Building.{laid_end}
use Rattle.bundle_store.proofs.Fronts.{AsLong, Within, keeps_front}
use Rattle.bundle_store.proofs.Overlays.{Off, OutsideAll, lay_join, length-with_entries, same_under_all}
use Rattle.bundle_store.proofs.Putting.{length-record_bytes}
use Rattle.bundle_store.proofs.Unders.{SameLength, inside}

-- ---- records

records_join : (xs ys : List TileRec) → group_records (xs ++ ys) ≡ group_records xs ++ group_records ys
records_join [] ys = refl
records_join (x ∷ xs) ys = ap (λ (l : List ℕ). record_bytes x.bytes ++ l) (records_join xs ys) ∙ sym (append_assoc (record_bytes x.bytes) (group_records xs) (group_records ys))

abbrev pub nobody : TileRec
nobody = record { slot = 0; bytes = [] }

pub records_next : (us : List TileRec) (i : ℕ) → i < length us → group_records (take (i + 1) us) ≡ group_records (take i us) ++ record_bytes (bytes_at us i)
records_next us i less = ap group_records (take_more us i nobody less) ∙ records_join (take i us) (get_or us i nobody ∷ []) ∙ ap (λ (l : List ℕ). group_records (take i us) ++ l) (append-nil (record_bytes (bytes_at us i)))

-- the records of the first few are no longer than those of all
pub records_within : (us : List TileRec) (i : ℕ) → i < length us → length (group_records (take i us)) + (4 + length (bytes_at us i)) ≤ length (group_records us)
records_within us i less =
    let all : length (group_records us) ≡ length (group_records (take (i + 1) us)) + length (group_records (drop (i + 1) us)) =
    ap (λ (l : List TileRec). length (group_records l)) (sym (take-append-drop (i + 1) us)) ∙ ap length (records_join (take (i + 1) us) (drop (i + 1) us)) ∙ length-append (group_records (take (i + 1) us)) (group_records (drop (i + 1) us)) in
    let next : length (group_records (take (i + 1) us)) ≡ length (group_records (take i us)) + (4 + length (bytes_at us i)) =
    ap length (records_next us i less) ∙ length-append (group_records (take i us)) (record_bytes (bytes_at us i)) ∙ ap (λ (n : ℕ). length (group_records (take i us)) + n) (length-record_bytes (bytes_at us i)) in
    omega (arith, all, next)

-- the run so far has written these bytes behind the bundle
pub record Appending (old now : History) (more : List ℕ) : Type 0 where
  pub run : Run Bundle (AsLong (contents Bundle old)) (Within (contents Bundle old)) old now
  pub is : contents Bundle now ≡ contents Bundle old ++ more

pub appending_none : (h : History) → IsSettled (current h).bundle → Appending h h []
appending_none h still = record { run = run_start Bundle (AsLong (contents Bundle h)) (Within (contents Bundle h)) h still (omega arith); is = sym (append-nil (contents Bundle h)) }

-- one write more, whatever it answers, and once it answers Ok
module _ {T E : Type 0} (old now next : History) (more bytes : List ℕ) (at : ℕ) (r : Result T E) (so : Appending old now more) (end : at ≡ length (contents Bundle old ++ more)) (tick : Ticks now next r)
    (struck : Struck Bundle (wrote at bytes) (current now) (current next)) where
  behind : Limits (contents Bundle old) (AsLong (contents Bundle old)) (Within (contents Bundle old)) (wrote at bytes (current now).bundle)
  behind =
      let long : at ≡ length (contents Bundle old) + length more = end ∙ length-append (contents Bundle old) more in
      let whole : length (contents Bundle now) ≡ at = ap length so.is ∙ sym end in
      limits_wrote (contents Bundle old) (AsLong (contents Bundle old)) (Within (contents Bundle old)) (current now).bundle at bytes so.run.limits (λ n least most. omega (arith, least, whole, long)) (λ i fixed. inl (let l : i < at = omega (arith, fixed, long) in l))

  pub append_during : During (KeepsFront (current old)) old next
  append_during = during_map _ _ old next (keeps_front (current old)) (run_during Bundle _ _ old now next r (wrote at bytes) so.run tick struck behind)

  pub append_on : current next ≡ change Bundle (wrote at bytes) (current now) → Appending old next (more ++ bytes)
  append_on is = record {
    run = run_on Bundle _ _ old now next r (wrote at bytes) so.run tick struck behind is;
    is = ap (λ (d : Disk). d.bundle.now) is ∙ ap (laid at bytes) so.is ∙ laid_end at bytes (contents Bundle old ++ more) end ∙ append_assoc (contents Bundle old) more bytes;
  }

-- the sync behind them
module _ {T E : Type 0} (old now next : History) (more : List ℕ) (r : Result T E) (so : Appending old now more) (tick : Ticks now next r) where
  pub append_synced : Struck Bundle (λ f. f) (current now) (current next) → During (KeepsFront (current old)) old next
  append_synced struck = during_map _ _ old next (keeps_front (current old)) (run_during Bundle _ _ old now next r (λ f. f) so.run tick struck so.run.limits)

  pub append_done : OnOk r (current next ≡ change Bundle synced (current now)) → OnOk r (current next ≡ change Bundle (λ f. settled (f.now ++ more)) (current old))
  append_done done =
      let same : change Bundle synced (current now) ≡ change Bundle (λ f. settled (f.now ++ more)) (current old) =
      λ i. let d : Disk = record { bundle = settled (so.is i); journal = so.run.other i } in d in
      on_ok_weaker r (λ is. is ∙ same) done

-- ---- entries

pub new_slots : (es : List NewEntry) → AreNew es → AreSlots es
new_slots [] are = tt
new_slots (e ∷ es) are = (are.0, new_slots es are.2)

pub new_at : (es : List NewEntry) (i : ℕ) (d : NewEntry) → AreNew es → i < length es → ((get_or es i d).0 < 16384) × IsEntry (get_or es i d).1
new_at [] i d are less = absurd (omega (arith, less))
new_at (e ∷ es) zero d are less = (are.0, are.1)
new_at (e ∷ es) (suc i) d are less = new_at es i d are.2 (omega (arith, less))

slots_take : (es : List NewEntry) (i : ℕ) → AreSlots es → AreSlots (take i es)
slots_take es zero are = tt
slots_take [] (suc i) are = tt
slots_take (e ∷ es) (suc i) are = (are.0, slots_take es i are.1)

off_one : (es : List NewEntry) (k : ℕ) (d : NewEntry) (i : ℕ) → k < length es → Off es i → (i < place_of (get_or es k d).0) ⊎ (place_of (get_or es k d).0 + 8 ≤ i)
off_one [] k d i less off = absurd (omega (arith, less))
off_one (e ∷ es) zero d i less off = off.0
off_one (e ∷ es) (suc k) d i less off = off_one es k d i (omega (arith, less)) off.1

-- the run so far has laid the header and the first k entries over the bundle
pub record IsLaying (header : List ℕ) (es : List NewEntry) (old now : History) (k : ℕ) : Type 0 where
  pub run : Run Bundle (SameLength (contents Bundle old)) (OutsideAll es) old now
  pub is : contents Bundle now ≡ with_entries header (take k es) (contents Bundle old)

module _ (header : List ℕ) (es : List NewEntry) (size : length header ≡ 64) (are : AreSlots es) (old : History) (still : IsSettled (current old).bundle) (long : 131136 ≤ length (contents Bundle old)) where
  under_run : (now : History) → During (Keeps Bundle (current old) (SameLength (contents Bundle old)) (OutsideAll es)) old now → During (KeepsUnderAll header es (current old)) old now
  under_run now during = during_map _ _ old now (λ d keeps. record {
    journal = keeps.other;
    bundle = λ c image.
        let allowed = keeps.images c image in
        record {
          size = allowed.size;
          over = same_under_all header es size are (contents Bundle old) c long allowed.size (λ i d lt fixed. get_or_default c i d 0 (omega (arith, lt, allowed.size)) ∙ allowed.bytes i (omega (arith, lt, allowed.size)) lt fixed ∙ get_or_default (contents Bundle old) i 0 d lt);
        };
  }) during

  first_limits : Limits (contents Bundle old) (SameLength (contents Bundle old)) (OutsideAll es) (wrote 0 header (current old).bundle)
  first_limits = inside (contents Bundle old) (OutsideAll es) (current old).bundle 0 header (run_start Bundle (SameLength (contents Bundle old)) (OutsideAll es) old still refl).limits refl (omega (arith, size, long)) (λ i fixed. inr (omega (arith, size, fixed.0)))

  pub header_during : {T E : Type 0} (next : History) (r : Result T E) → Ticks old next r → Struck Bundle (wrote 0 header) (current old) (current next) → During (KeepsUnderAll header es (current old)) old next
  header_during next r tick struck = under_run next (run_during Bundle _ _ old old next r (wrote 0 header) (run_start Bundle (SameLength (contents Bundle old)) (OutsideAll es) old still refl) tick struck first_limits)

  pub header_on : {T E : Type 0} (next : History) (r : Result T E) → Ticks old next r → Struck Bundle (wrote 0 header) (current old) (current next) → current next ≡ change Bundle (wrote 0 header) (current old) → IsLaying header es old next 0
  header_on next r tick struck is = record {
    run = run_on Bundle _ _ old old next r (wrote 0 header) (run_start Bundle (SameLength (contents Bundle old)) (OutsideAll es) old still refl) tick struck first_limits is;
    is = ap (λ (d : Disk). d.bundle.now) is;
  }

  module _ (now : History) (k at : ℕ) (word : List ℕ) (d : NewEntry) (so : IsLaying header es old now k) (less : k < length es) (at_is : at ≡ place_of (get_or es k d).0) (word_is : word ≡ entry_bytes (get_or es k d).1) where
    now_long : length (contents Bundle now) ≡ length (contents Bundle old)
    now_long = ap length so.is ∙ length-with_entries header (take k es) size (slots_take es k are) (contents Bundle old) long

    slot_below : (get_or es k d).0 < 16384
    slot_below = below es k are less
      where
        below : (xs : List NewEntry) (j : ℕ) → AreSlots xs → j < length xs → (get_or xs j d).0 < 16384
        below [] j a l = absurd (omega (arith, l))
        below (x ∷ xs) zero a l = a.0
        below (x ∷ xs) (suc j) a l = below xs j a.1 (omega (arith, l))

    word_size : length word ≡ 8
    word_size = ap length word_is ∙ length-entry_bytes (get_or es k d).1

    next_limits : Limits (contents Bundle old) (SameLength (contents Bundle old)) (OutsideAll es) (wrote at word (current now).bundle)
    next_limits = inside (contents Bundle old) (OutsideAll es) (current now).bundle at word so.run.limits now_long (omega (arith, at_is, word_size, slot_below, long))
        (λ i fixed. elim (off_one es k d i less fixed.1) [ inl low ↦ inl (omega (arith, low, at_is)) | inr high ↦ inr (omega (arith, high, at_is, word_size)) ])

    pub entry_during : {T E : Type 0} (next : History) (r : Result T E) → Ticks now next r → Struck Bundle (wrote at word) (current now) (current next) → During (KeepsUnderAll header es (current old)) old next
    entry_during next r tick struck = under_run next (run_during Bundle _ _ old now next r (wrote at word) so.run tick struck next_limits)

    pub entry_on : {T E : Type 0} (next : History) (r : Result T E) → Ticks now next r → Struck Bundle (wrote at word) (current now) (current next) → current next ≡ change Bundle (wrote at word) (current now) → IsLaying header es old next (k + 1)
    entry_on next r tick struck is = record {
      run = run_on Bundle _ _ old now next r (wrote at word) so.run tick struck next_limits is;
      is = ap (λ (x : Disk). x.bundle.now) is ∙ (λ i. laid (at_is i) (word_is i) (so.is i)) ∙ sym (lay_join (take k es) (get_or es k d ∷ []) (laid 0 header (contents Bundle old))) ∙ ap (λ (l : List NewEntry). with_entries header l (contents Bundle old)) (sym (take_more es k d less));
    }

  module _ {T E : Type 0} (now next : History) (r : Result T E) (so : IsLaying header es old now (length es)) (tick : Ticks now next r) where
    pub all_synced : Struck Bundle (λ f. f) (current now) (current next) → During (KeepsUnderAll header es (current old)) old next
    all_synced struck = under_run next (run_during Bundle _ _ old now next r (λ f. f) so.run tick struck so.run.limits)

    pub all_done : OnOk r (current next ≡ change Bundle synced (current now)) → OnOk r (current next ≡ change Bundle (λ f. settled (with_entries header es f.now)) (current old))
    all_done done =
        let whole : contents Bundle now ≡ with_entries header es (contents Bundle old) = so.is ∙ ap (λ (l : List NewEntry). with_entries header l (contents Bundle old)) (take_all (length es) es (omega arith)) in
        let same : change Bundle synced (current now) ≡ change Bundle (λ f. settled (with_entries header es f.now)) (current old) =
        λ i. let d : Disk = record { bundle = settled (whole i); journal = so.run.other i } in d in
        on_ok_weaker r (λ is. is ∙ same) done
