-- What the bundle holds while a recovery is under way.
use Rattle.std.proofs.Common.{◌≡◌, inl, inr, refl, ℕ, ◌⊎◌, ◌≤◌, List, [], length, Result, sym, ◌∙◌, ap, subst, arith}
use Rattle.std.proofs.lemmas.List.{ext_get_or, nil_from_length}
use Rattle.outside_io.specs.declared.volume.VolFile.TheVariants.{Bundle}
use Rattle.outside_io.specs.volume.Disk.{Disk, File, IsImage, IsQuiet, IsSettled, Struck, change, settled, shortened}
use Rattle.outside_io.specs.volume.History.{During, History, Ticks, contents, current}
use Rattle.outside_io.proofs.VolumeLemmas.Images.{only_image}
use Rattle.outside_io.proofs.VolumeLemmas.Limits.{Keeps, Run, limits_shortened, run_during, run_on, run_start}
use Rattle.outside_io.proofs.VolumeLemmas.Moments.{during_end, during_join, during_map, started, stays_on}
use Rattle.side_journal.specs.Groups.{NewEntry}
use Rattle.side_journal.specs.declared.body.Body.TheVariants.{Build}
use Rattle.side_journal.specs.declared.body.JournalState.{JournalState}
use Rattle.side_journal.specs.declared.body.JournalState.TheVariants.{Open}
use Rattle.side_journal.specs.Says.{IsOpen, Says}
use Rattle.side_journal.specs.Steps.{KeepsBody}
use Rattle.bundle_store.specs.GroupPuts.{AreSlots, with_entries}
use Rattle.bundle_store.specs.LaidOver.{size_in}
use Rattle.bundle_store.specs.Recover.{AppliesTo, EachBundleMidway, IsMidway}
use Rattle.bundle_store.specs.inside.Grouped.{EachUnderAll, SameUnderAll, SaysThese}
use Rattle.bundle_store.specs.inside.Parts.{EachMidway, EachWholeOrNone, Narrows}
use Rattle.bundle_store.proofs.GroupStanding.{lays_body, lays_tiles}
use Rattle.bundle_store.proofs.Overlays.{all_twice, length-with_entries}

-- ---- a bundle that is emptied

-- the length that it had, or none, and each place as it was
abbrev WholeOrNone : List ℕ → ℕ → Type 0
WholeOrNone old n = (n ≡ length old) ⊎ (n ≡ 0)

abbrev Any : ℕ → Type 0
Any i = Unit {0}

whole_or_none : (old d : Disk) → Keeps Bundle old (WholeOrNone old.bundle.now) Any d → EachWholeOrNone old.bundle.now d
whole_or_none old d keeps = λ c ic. let a = keeps.images c ic in elim a.size [
  | inl same ↦ inl (ext_get_or 0 c old.bundle.now same (λ i lt. a.bytes i lt (omega (arith, lt, same)) tt))
  | inr none ↦ inr (nil_from_length c none)
]

module _ {T E : Type 0} (old mid : History) (r : Result T E) (still : IsSettled (current old).bundle) (tick : Ticks old mid r) (struck : Struck Bundle (shortened 0) (current old) (current mid)) where
  start : Run Bundle (WholeOrNone (contents Bundle old)) Any old old
  start = run_start Bundle (WholeOrNone (contents Bundle old)) Any old still (inl refl)

  pub cut_midway : During (EachWholeOrNone (contents Bundle old)) old mid
  cut_midway = during_map _ _ old mid (whole_or_none (current old))
      (run_during Bundle (WholeOrNone (contents Bundle old)) Any old old mid r (shortened 0) start tick struck (limits_shortened (contents Bundle old) (WholeOrNone (contents Bundle old)) Any (current old).bundle 0 start.limits (inr refl)))

  pub wipe_midway : {S F : Type 0} (new : History) (s : Result S F) → current mid ≡ change Bundle (shortened 0) (current old) → Ticks mid new s → Struck Bundle (λ f. f) (current mid) (current new) → During (EachWholeOrNone (contents Bundle old)) old new
  wipe_midway new s is next synced =
      let run = run_on Bundle (WholeOrNone (contents Bundle old)) Any old old mid r (shortened 0) start tick struck (limits_shortened (contents Bundle old) (WholeOrNone (contents Bundle old)) Any (current old).bundle 0 start.limits (inr refl)) is in
      during_map _ _ old new (whole_or_none (current old)) (run_during Bundle (WholeOrNone (contents Bundle old)) Any old mid new s (λ f. f) run next synced run.limits)

-- the gate is closed beside a bundle of which nothing is pending
closing_image : (b : List ℕ) (old d : Disk) → old.bundle ≡ settled b → KeepsBody old d → (c : List ℕ) → IsImage d.bundle c → c ≡ b
closing_image b old d is keeps c ic =
    let here : IsImage (settled b) c = subst (λ (f : File). IsImage f c) (keeps.bundle ∙ is) ic in
    only_image (settled b) c refl here

pub empty_midway : (b : List ℕ) (old mid new : History) → During (EachWholeOrNone b) old mid → (current mid).bundle ≡ settled [] → During (KeepsBody (current mid)) mid new → During (EachWholeOrNone b) old new
empty_midway b old mid new wiping is closing =
    during_join (EachWholeOrNone b) old mid new wiping (during_map _ (EachWholeOrNone b) mid new (λ d keeps c ic. inr (closing_image [] (current mid) d is keeps c ic)) closing)

-- ---- a header and entries that are laid over it

pub redo_midway : (header : List ℕ) (es : List NewEntry) (b : List ℕ) (old mid new : History) → length header ≡ 64 → AreSlots es → 131136 ≤ length b → During (EachUnderAll header es b) old mid
    → (current mid).bundle ≡ settled (with_entries header es b) → During (KeepsBody (current mid)) mid new → During (EachUnderAll header es b) old new
redo_midway header es b old mid new size are long writing is closing =
    let over = with_entries header es b in
    let whole : SameUnderAll header es b over = record { size = length-with_entries header es size are b long; over = all_twice header es size are b long } in
    during_join (EachUnderAll header es b) old mid new writing
    (during_map _ (EachUnderAll header es b) mid new (λ d keeps c ic. subst (SameUnderAll header es b) (sym (closing_image over (current mid) d is keeps c ic)) whole) closing)

-- ---- one recovery

pub midway_starts : (d : Disk) → IsQuiet d → EachMidway d.bundle.now d.journal.now d
midway_starts d quiet = λ c ic. inl (only_image d.bundle c quiet.bundle ic)

-- a call, or a run of them, that leaves the disk as it is
pub midway_measuring : {T E : Type 0} (old next : History) (r : Result T E) → IsQuiet (current old) → Ticks old next r → current next ≡ current old → During (EachMidway (current old).bundle.now (current old).journal.now) old next
midway_measuring old next r quiet tick same =
    let Pass = EachMidway (current old).bundle.now (current old).journal.now in
    stays_on Pass old old next r (started Pass old (midway_starts (current old) quiet)) tick same

pub midway_reading : (old next : History) → IsQuiet (current old) → During (λ d. d ≡ current old) old next → During (EachMidway (current old).bundle.now (current old).journal.now) old next
midway_reading old next quiet during =
    let start = midway_starts (current old) quiet in
    during_map _ _ old next (λ d same. subst (EachMidway (current old).bundle.now (current old).journal.now) (sym same) start) during

-- the bundle is measured, and the tiles of the open journal are put
pub midway_putting : {T E : Type 0} (es : List NewEntry) (header : List ℕ) (n place : ℕ) (old next last : History) (r : Result T E) → IsQuiet (current old) → IsOpen (current old).journal.now → SaysThese (current old).journal.now es header n place
    → n ≤ length (current old).bundle.now → Ticks old next r → current next ≡ current old → During (EachUnderAll header es (current next).bundle.now) next last
    → During (EachMidway (current old).bundle.now (current old).journal.now) old last
midway_putting es header n place old next last r quiet opened these fits tick same putting =
    let b = (current old).bundle.now in
    let j = (current old).journal.now in
    let bundle : (current next).bundle.now ≡ b = ap (λ (d : Disk). d.bundle.now) same in
    let within : size_in these.body ≤ length b = omega (arith, fits, these.size_is) in
    let applies : AppliesTo b j = record { opened = opened; body = these.body; says = these.says; tiles = lays_tiles these.body es header these.lays; within = within } in
    during_join (EachMidway b j) old next last (midway_measuring old next r quiet tick same)
    (during_map (EachUnderAll header es (current next).bundle.now) (EachMidway b j) next last (λ d each c ic.
    let under : SameUnderAll header es b c = subst (λ (l : List ℕ). SameUnderAll header es l c) bundle (each c ic) in
    inr (inl (record {
      applies = applies;
      size = under.size;
      all = sym (lays_body c these.body es header these.lays) ∙ under.over ∙ lays_body b these.body es header these.lays;
    }))) putting)

-- the journal is read, and what it says is done
pub midway_finishing : (old next last : History) → IsQuiet (current old) → During (λ d. d ≡ current old) old next → During (EachMidway (current next).bundle.now (current next).journal.now) next last
    → During (EachMidway (current old).bundle.now (current old).journal.now) old last
midway_finishing old next last quiet reading finishing =
    let still : current next ≡ current old = during_end (λ d. d ≡ current old) old next reading in
    during_join _ old next last (midway_reading old next quiet reading)
    (subst (λ (x : Disk). During (EachMidway x.bundle.now x.journal.now) next last) still finishing)

pub midway_emptying : (s : JournalState) (old next last : History) → s ≡ Open Build → Says (current old).journal.now s → IsQuiet (current old) → During (λ d. d ≡ current old) old next
    → During (EachWholeOrNone (current next).bundle.now) next last → During (EachMidway (current old).bundle.now (current old).journal.now) old last
midway_emptying s old next last is says quiet reading emptying =
    let b = (current old).bundle.now in
    let j = (current old).journal.now in
    let build : Says j (Open Build) = subst (Says j) is says in
    let still : current next ≡ current old = during_end (λ d. d ≡ current old) old next reading in
    let here : During (EachWholeOrNone b) next last = subst (λ (x : Disk). During (EachWholeOrNone x.bundle.now) next last) still emptying in
    during_join (EachMidway b j) old next last (midway_reading old next quiet reading)
    (during_map (EachWholeOrNone b) (EachMidway b j) next last (λ d each c ic. elim (each c ic) [
      | inl same ↦ inl same
      | inr none ↦ inr (inr (build.0, (build.1, none)))
    ]) here)

-- ---- behind the syncs

pub narrows_midway : (old d : Disk) → Narrows old d → EachBundleMidway old d
narrows_midway old d narrows = λ c ic. inl (narrows.bundle c ic)

pub recover_midway : (old mid new : History) → During (Narrows (current old)) old mid → (current mid).bundle.now ≡ (current old).bundle.now → (current mid).journal.now ≡ (current old).journal.now
    → During (EachMidway (current mid).bundle.now (current mid).journal.now) mid new → During (EachBundleMidway (current old)) old new
recover_midway old mid new syncing bundle journal finishing =
    during_join (EachBundleMidway (current old)) old mid new (during_map (Narrows (current old)) (EachBundleMidway (current old)) old mid (narrows_midway (current old)) syncing)
    (during_map (EachMidway (current mid).bundle.now (current mid).journal.now) (EachBundleMidway (current old)) mid new (λ d each c ic.
    inr (subst (λ (l : List ℕ). IsMidway l (current old).journal.now c) bundle (subst (λ (l : List ℕ). IsMidway (current mid).bundle.now l c) journal (each c ic)))) finishing)
