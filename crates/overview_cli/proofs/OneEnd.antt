-- A run has one refusal at most: which of its ends the definitions leave.
use Rattle.std.proofs.Common.{◌≡◌, ◌⊎◌, inl, inr, ℕ, ◌<◌, List, length, Bool, true, false, Option, Some, Ok, Err, refl, sym, ap, ◌∙◌, arith}
use Rattle.std.specs.Prelude.{IsTrue}
use Rattle.std.proofs.lemmas.Bool.{cases_lt}
use Rattle.outside_io.specs.declared.volume.VolFile.TheVariants.{Bundle, Journal}
use Rattle.outside_io.specs.volume.History.{History, contents}
use Rattle.lerc_header.specs.Written.{step_of}
use Rattle.bundle_store.specs.declared.tile_rec.TileRec.{TileRec}
use Rattle.bundle_lines.specs.Puts.{HaveRoom, IsFirstFull, length_before}
use Rattle.opened_bundle.specs.Files.{Files, OfBundle, files_of}
use Rattle.opened_bundle.specs.Refusals.{IsOpening}
use Rattle.opened_bundle.specs.declared.refusal.StoreRefusal.{StoreRefusal}
use Rattle.opened_bundle.specs.declared.refusal.StoreRefusal.TheVariants.{NoTile, Beyond, BadBundle, BadJournal, NotEmpty, Full}
use Rattle.opened_bundle.proofs.OneBundle.{both, one_opening, recovered_or_opening}
use Rattle.overview_updates.specs.Stops.{IsOverviewStop}
use Rattle.overview_updates.specs.Updates.{IsOverviewUpdates}
use Rattle.overview_updates.proofs.OneAnswer.{overviews_once}
use Rattle.overview_updates.proofs.OneStop.{overview_or_stop, stops_once}
use Rattle.program_ends.specs.declared.stop.Stop.{Stop}
use Rattle.program_ends.specs.declared.stop.Stop.TheVariants.{Refused}
use Rattle.overview_cli.specs.Names.{overview_stop_of}
use Rattle.overview_cli.specs.Putting.{IsFull, IsToRefusal, PutsAnswer}
use Rattle.overview_cli.specs.Taking.{IsFromRefusal, UpdatesOf}
use Rattle.overview_cli.specs.declared.refusal.Refusal.{Refusal}
use Rattle.overview_cli.specs.declared.refusal.Refusal.TheVariants.{Store}
use Rattle.overview_cli.specs.declared.words.Command.{Command}

-- the files of a volume that tells them
pub told_files : (told : Bool) (h : History) → IsTrue told → files_of told h ≡ Some (record { bundle = contents Bundle h; journal = contents Journal h })
told_files true h tells = refl
told_files false h tells = absurd (let no : ⊥ = cc in no)

-- ---- the first bundle

pub one_list : (c : Command) (f : Files) (us vs : List TileRec) → UpdatesOf c (Some f) us → UpdatesOf c (Some f) vs → us ≡ vs
one_list c f us vs one two =
    let there = both f (λ b. IsOverviewUpdates b c.quarter c.version (step_of c.error) us) (λ b. IsOverviewUpdates b c.quarter c.version (step_of c.error) vs) one two in
    overviews_once there.0 c.quarter c.version (step_of c.error) us vs there.1.0 there.1.1

pub list_or_refusal : (c : Command) (f : Files) (us : List TileRec) (stop : Stop Refusal) → UpdatesOf c (Some f) us → IsFromRefusal c (Some f) stop → ⊥
list_or_refusal c f us stop of (inl (refusal, (is, opening))) = recovered_or_opening f (λ b. IsOverviewUpdates b c.quarter c.version (step_of c.error) us) refusal of opening
list_or_refusal c f us stop of (inr (why, (is, (fails, stops)))) =
    let there = both f (λ b. IsOverviewUpdates b c.quarter c.version (step_of c.error) us) (λ b. IsOverviewStop b c.quarter c.version (step_of c.error) why) of stops in
    overview_or_stop there.0 c.quarter c.version (step_of c.error) us why there.1.0 there.1.1

pub one_from : (c : Command) (f : Files) (stop other : Stop Refusal) → IsFromRefusal c (Some f) stop → IsFromRefusal c (Some f) other → stop ≡ other
one_from c f stop other (inl (r, (is, opening))) (inl (s, (so, closing))) = is ∙ ap (λ (x : StoreRefusal). Refused (Store x)) (one_opening f r s opening closing) ∙ sym so
one_from c f stop other (inl (r, (is, opening))) (inr (why, (so, (fails, stops)))) = absurd (recovered_or_opening f (λ b. IsOverviewStop b c.quarter c.version (step_of c.error) why) r stops opening)
one_from c f stop other (inr (why, (is, (fails, stops)))) (inl (s, (so, closing))) = absurd (recovered_or_opening f (λ b. IsOverviewStop b c.quarter c.version (step_of c.error) why) s stops closing)
one_from c f stop other (inr (why, (is, (fails, stops)))) (inr (cause, (so, (fails_so, stops_so)))) =
    let there = both f (λ b. IsOverviewStop b c.quarter c.version (step_of c.error) why) (λ b. IsOverviewStop b c.quarter c.version (step_of c.error) cause) stops stops_so in
    is ∙ ap overview_stop_of (stops_once there.0 c.quarter c.version (step_of c.error) why cause there.1.0 there.1.1) ∙ sym so

-- ---- the second

first_once : (b : List ℕ) (us : List TileRec) (n m l k : ℕ) → IsFirstFull b us n l → IsFirstFull b us m k → n < m → ⊥
first_once b us n m l k one two less = let room = two.before n less in omega (arith, one.len_is, one.full, room)

one_full : (b : List ℕ) (us : List TileRec) (n m l k : ℕ) → IsFirstFull b us n l → IsFirstFull b us m k → l ≡ k
one_full b us n m l k one two = elim (cases_lt n m) [
  | inl less ↦ absurd (first_once b us n m l k one two less)
  | inr after ↦ elim (cases_lt m n) [
    | inl more ↦ absurd (first_once b us m n k l two one more)
    | inr same ↦ (let e : n ≡ m = omega (arith, after, same) in one.len_is ∙ ap (length_before b us) e ∙ sym two.len_is)
  ]
]

-- there is room for all, or none for one
all_or_full : (us : List TileRec) (g : Files) (n m len : ℕ) → n ≡ length us → OfBundle (Some g) (λ b. HaveRoom b us n) → IsFull us (Some g) m len → ⊥
all_or_full us g n m len all room (less, leaves, first) =
    let there = both g (λ b. HaveRoom b us n) (λ b. IsFirstFull b us m len) room first in
    let fits = there.1.0 m (omega (arith, all, less)) in
    omega (arith, there.1.1.len_is, there.1.1.full, fits)

-- an opening that is refused, or updates that have no room
full_or_opening : (us : List TileRec) (g : Files) (n len : ℕ) (r : StoreRefusal) → IsFull us (Some g) n len → IsOpening (Some g) r → ⊥
full_or_opening us g n len r (less, leaves, first) opening = recovered_or_opening g (λ b. IsFirstFull b us n len) r first opening

same_full : (us : List TileRec) (g : Files) (n m len other : ℕ) → IsFull us (Some g) n len → IsFull us (Some g) m other → len ≡ other
same_full us g n m len other (less, leaves, first) (fewer, lets, second) =
    let there = both g (λ b. IsFirstFull b us n len) (λ b. IsFirstFull b us m other) first second in
    one_full there.0 us n m len other there.1.0 there.1.1

-- the refusal of the second bundle, by which of its two it is
pub record IsOne (us : List TileRec) (g : Files) (why : StoreRefusal) : Type 0 where
  pub is : IsOpening (Some g) why ⊎ ((len : ℕ) × ((n : ℕ) × ((why ≡ Full len) × IsFull us (Some g) n len)))

pub which : (us : List TileRec) (g : Files) (why : StoreRefusal) → IsToRefusal us (Some g) why → IsOne us g why
which us g (NoTile row col) is = absurd is
which us g (Beyond row col entry got) is = absurd is
which us g (BadBundle place found) is = record { is = inl is }
which us g (BadJournal place found) is = record { is = inl is }
which us g (NotEmpty len) is = absurd is
which us g (Full len) (n, full) = record { is = inr (len, (n, (refl, full))) }

-- Where the updates were put, no refusal holds; where they were not, one does.
pub put_or_refused : (us : List TileRec) (g : Files) (n : ℕ) (why : StoreRefusal) (output : List ℕ) → PutsAnswer us (Some g) n (Ok tt) output → IsOne us g why → ⊥
put_or_refused us g n why output (all, room, gave) one = by one.is
  where
    by : IsOpening (Some g) why ⊎ ((len : ℕ) × ((m : ℕ) × ((why ≡ Full len) × IsFull us (Some g) m len))) → ⊥
    by (inl opening) = recovered_or_opening g (λ b. HaveRoom b us n) why room opening
    by (inr (len, (m, (is, full)))) = all_or_full us g n m len all room full

pub same_refusal : (us : List TileRec) (g : Files) (why other : StoreRefusal) → IsOne us g why → IsOne us g other → why ≡ other
same_refusal us g why other one two = by one.is two.is
  where
    by : IsOpening (Some g) why ⊎ ((len : ℕ) × ((n : ℕ) × ((why ≡ Full len) × IsFull us (Some g) n len))) → IsOpening (Some g) other ⊎ ((len : ℕ) × ((n : ℕ) × ((other ≡ Full len) × IsFull us (Some g) n len))) → why ≡ other
    by (inl opening) (inl closing) = one_opening g why other opening closing
    by (inl opening) (inr (len, (n, (is, full)))) = absurd (full_or_opening us g n len why full opening)
    by (inr (len, (n, (is, full)))) (inl closing) = absurd (full_or_opening us g n len other full closing)
    by (inr (len, (n, (is, full)))) (inr (size, (m, (so, packed)))) = is ∙ ap Full (same_full us g n m len size full packed) ∙ sym so

-- what an end of putting says of its refusal
pub answer_refusal : (us : List TileRec) (to : Option Files) (n : ℕ) (why : StoreRefusal) (output : List ℕ) → PutsAnswer us to n (Err (Refused (Store why))) output → IsToRefusal us to why
answer_refusal us to n (NoTile row col) output (is, none, gave) = is
answer_refusal us to n (Beyond row col entry got) output (is, none, gave) = is
answer_refusal us to n (BadBundle place found) output (is, none, gave) = is
answer_refusal us to n (BadJournal place found) output (is, none, gave) = is
answer_refusal us to n (NotEmpty len) output (is, none, gave) = is
answer_refusal us to n (Full len) output (full, gave) = (n, full)
