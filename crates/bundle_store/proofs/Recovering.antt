-- What recovery does to the images.
use Rattle.std.proofs.Common.{◌≡◌, inl, refl, ℕ, List, [], ◌∷◌, length, get_or, drop, sym, ◌∙◌, ap, Result, subst, arith}
use Rattle.std.proofs.lemmas.List.{drop_all}
use Rattle.byteorder.specs.Endian.{little_number}
use Rattle.outside_io.specs.volume.Disk.{Disk, IsImage, IsQuiet, settled}
use Rattle.outside_io.specs.volume.History.{During, History, Ticks, current}
use Rattle.outside_io.proofs.VolumeLemmas.Images.{only_image}
use Rattle.outside_io.proofs.VolumeLemmas.Moments.{during_end, during_join, during_map, started, stays_on}
use Rattle.bundle_index.specs.Entry.{entry_at, entry_of, place_of}
use Rattle.bundle_index.specs.Numbers.{u64_at}
use Rattle.side_journal.specs.declared.body.Body.TheVariants.{Tile, Build, Group}
use Rattle.side_journal.specs.declared.body.JournalState.{JournalState}
use Rattle.side_journal.specs.declared.body.JournalState.TheVariants.{Closed, Open, Bad}
use Rattle.side_journal.specs.Says.{IsOpen, Says, SaysBuild}
use Rattle.side_journal.specs.Steps.{KeepsBody}
use Rattle.side_journal.proofs.Gates.{image_is}
use Rattle.side_journal.proofs.OneState.{one_state}
use Rattle.side_journal.specs.Groups.{NewEntry}
use Rattle.side_journal.proofs.Spells.{build_whole}
use Rattle.bundle_store.specs.GroupPuts.{with_entries}
use Rattle.bundle_store.specs.inside.Grouped.{AreUnderWay, SaysThese}
use Rattle.bundle_store.specs.inside.Parts.{EachKeeps, KeepsJournal}
use Rattle.bundle_store.specs.Images.{EachImage, IsSoundWith, Shows, StandsFor}
use Rattle.bundle_store.specs.Recover.{EachStandsForOneOf, IsRecovered}
use Rattle.bundle_store.specs.Tiles.{IsReadable, TileMap, no_tiles, tiles}
use Rattle.bundle_store.proofs.Region.{tile_none, tiles_by}
use Rattle.bundle_store.proofs.GroupStanding.{shows_these, ways_at}
use Rattle.bundle_store.proofs.Standing.{in_gate, open_good}

-- an empty file has no tiles
pub nothing_at : (place : ℕ) → ◌≡◌ {A = ℕ} (u64_at [] place) 0
unfolding u64_at
nothing_at place = ap (little_number 8) (drop_all place [] (omega arith))

pub tiles_empty : tiles [] ≡ no_tiles
tiles_empty = tiles_by [] no_tiles (λ slot ge. refl) (λ slot lt. tile_none [] (entry_at [] slot) (ap (λ (w : ℕ). (entry_of w).size) (nothing_at (place_of slot))))

-- the bundle is being emptied
pub in_wiping : (j : List ℕ) (old d : Disk) → IsOpen j → SaysBuild j → old.journal ≡ settled j → KeepsJournal old d → EachImage (λ map. map ≡ no_tiles) d
in_wiping j old d opened says is keeps = λ c k ic ik.
    let same : k ≡ j = image_is d.journal j k (keeps.journal ∙ is) ik in
    subst (λ (l : List ℕ). IsSoundWith (λ map. map ≡ no_tiles) c l) (sym same) (open_good (λ map. map ≡ no_tiles) c j Build no_tiles opened says refl refl)

-- the gate is being closed beside the empty bundle
pub in_emptied : (j : List ℕ) (old d : Disk) → SaysBuild j → old.bundle ≡ settled [] → old.journal.now ≡ j → KeepsBody old d → EachImage (λ map. map ≡ no_tiles) d
in_emptied j old d says is now keeps = in_gate [] j Build no_tiles (λ map. map ≡ no_tiles) old d (build_whole j says) says (inl refl) tiles_empty refl refl is now keeps

-- what a journal says decides what an image beside it stands for
pub shows_by : (b j : List ℕ) (s : JournalState) (map : TileMap) → Says j s → StandsFor b j map → Shows s b map
shows_by b j s map says stands = subst (λ (t : JournalState). Shows t b map) (one_state j stands.state s stands.says says) stands.shows

-- an image stands for one map
pub one_map : (b j : List ℕ) (one two : TileMap) → StandsFor b j one → StandsFor b j two → one ≡ two
one_map b j one two first second = by_state first.state first.shows (shows_by b j first.state two first.says second)
  where
    by_state : (s : JournalState) → Shows s b one → Shows s b two → one ≡ two
    by_state Closed is other = is.1 ∙ sym other.1
    by_state (Open (Tile slot e n h)) is other = is.2 ∙ sym other.2
    by_state (Open Build) is other = is ∙ sym other
    by_state (Open (Group es n h)) is other = is.2 ∙ sym other.2
    by_state (Bad place found) is other = absurd is

-- nothing is pending: the files stand for what they stand for
pub keeps_start : (d : Disk) → IsQuiet d → EachKeeps d.bundle.now d.journal.now d
keeps_start d quiet = λ b j ib ij map stands.
    let bundle : b ≡ d.bundle.now = only_image d.bundle b quiet.bundle ib in
    let journal : j ≡ d.journal.now = only_image d.journal j quiet.journal ij in
    subst (λ (l : List ℕ). StandsFor b l map) (sym journal) (subst (λ (l : List ℕ). StandsFor l d.journal.now map) (sym bundle) stands)

-- each image stands for the one map that these files stand for
pub keeps_by : (b j : List ℕ) (d : Disk) → ((map : TileMap) → StandsFor b j map → EachImage (λ m. m ≡ map) d) → EachKeeps b j d
keeps_by b j d each = λ c k ic ik map stands. let is = each map stands c k ic ik in subst (λ (m : TileMap). StandsFor c k m) is.passes is.stands

-- an image whose map is one that is equal to another
pub image_eq : (m n : TileMap) (d : Disk) → m ≡ n → EachImage (λ map. map ≡ m) d → EachImage (λ map. map ≡ n) d
image_eq m n d same each = subst (λ (x : TileMap). EachImage (λ map. map ≡ x) d) same each

-- nothing is pending on what was synced last
pub both_settled : (d : Disk) (b j : List ℕ) → d ≡ (let x : Disk = record { bundle = settled b; journal = settled j } in x) → IsQuiet d
both_settled d b j is = record {
  bundle = ap (λ (x : Disk). x.bundle) is ∙ sym (ap (λ (x : Disk). settled x.bundle.now) is);
  journal = ap (λ (x : Disk). x.journal) is ∙ sym (ap (λ (x : Disk). settled x.journal.now) is);
}

pub shut_gate : (d : Disk) (b j : List ℕ) → d ≡ (let x : Disk = record { bundle = settled b; journal = settled (0 ∷ j) } in x) → ¬ IsOpen d.journal.now
shut_gate d b j is = λ opened. opened.gate (ap (λ (x : Disk). get_or x.journal.now 0 0) is)

-- the tiles were put
pub recovered_group : (b j : List ℕ) (es : List NewEntry) (header : List ℕ) (n place : ℕ) (d : Disk) → IsOpen j → SaysThese j es header n place
    → d ≡ (let x : Disk = record { bundle = settled (with_entries header es b); journal = settled (0 ∷ drop 1 j) } in x) → IsRecovered b j d
recovered_group b j es header n place d opened these is = record {
  quiet = both_settled d (with_entries header es b) (0 ∷ drop 1 j) is;
  closed = shut_gate d (with_entries header es b) (drop 1 j) is;
  same = λ map stands.
      let shows = shows_these b these.body es header map these.lays (shows_by b j (Open these.body) map (opened, these.says) stands) in
      let now : d.bundle.now ≡ with_entries header es b = ap (λ (x : Disk). x.bundle.now) is in
      record { state = Closed; says = shut_gate d (with_entries header es b) (drop 1 j) is; shows = (subst IsReadable (sym now) shows.1, shows.2 ∙ ap tiles (sym now)) };
}

-- the bundle was emptied
pub recovered_empty : (b j : List ℕ) (d : Disk) → IsOpen j → SaysBuild j → d ≡ (let x : Disk = record { bundle = settled []; journal = settled (0 ∷ drop 1 j) } in x) → IsRecovered b j d
recovered_empty b j d opened says is = record {
  quiet = both_settled d [] (0 ∷ drop 1 j) is;
  closed = shut_gate d [] (drop 1 j) is;
  same = λ map stands.
      let shows = shows_by b j (Open Build) map (opened, says) stands in
      let now : d.bundle.now ≡ [] = ap (λ (x : Disk). x.bundle.now) is in
      record { state = Closed; says = shut_gate d [] (drop 1 j) is; shows = (inl (ap length now), shows ∙ sym tiles_empty ∙ ap tiles (sym now)) };
}

-- while the tiles of an open journal are put
pub keeps_group : (b j : List ℕ) (es : List NewEntry) (header : List ℕ) (n place : ℕ) (d : Disk) → IsOpen j → SaysThese j es header n place
    → (AreUnderWay b j es header → EachImage (λ map. map ≡ tiles (with_entries header es b)) d) → EachKeeps b j d
keeps_group b j es header n place d opened these each = keeps_by b j d (λ map stands.
    let shows = shows_these b these.body es header map these.lays (shows_by b j (Open these.body) map (opened, these.says) stands) in
    image_eq (tiles (with_entries header es b)) map d (sym shows.2) (each (record { body = these.body; says = these.says; lays = these.lays; within = shows.0; readable = shows.1 })))

-- while a bundle is emptied
pub keeps_empty : (b j : List ℕ) (d : Disk) → IsOpen j → SaysBuild j → EachImage (λ map. map ≡ no_tiles) d → EachKeeps b j d
keeps_empty b j d opened says each = keeps_by b j d (λ map stands. image_eq no_tiles map d (sym (shows_by b j (Open Build) map (opened, says) stands)) each)

-- what files are read as is one of the images
pub one_of : (b j : List ℕ) (old d : Disk) → IsImage old.bundle b → IsImage old.journal j → EachKeeps b j d → EachStandsForOneOf old d
one_of b j old d bundle journal keeps = λ c k ic ik. record { bundle = b; journal = j; bundle_is = bundle; journal_is = journal; same = keeps c k ic ik }

-- a run that leaves the disk as it is, and a call that does
pub keeps_reading : (old next : History) → IsQuiet (current old) → During (λ d. d ≡ current old) old next → During (EachKeeps (current old).bundle.now (current old).journal.now) old next
keeps_reading old next quiet during =
    let start = keeps_start (current old) quiet in
    during_map _ _ old next (λ d same. subst (EachKeeps (current old).bundle.now (current old).journal.now) (sym same) start) during

pub keeps_measuring : {T E : Type 0} (old next : History) (r : Result T E) → IsQuiet (current old) → Ticks old next r → current next ≡ current old → During (EachKeeps (current old).bundle.now (current old).journal.now) old next
keeps_measuring old next r quiet tick same =
    let Pass = EachKeeps (current old).bundle.now (current old).journal.now in
    stays_on Pass old old next r (started Pass old (keeps_start (current old) quiet)) tick same

-- the bundle is measured, and the tiles of the open journal are put
pub keeps_putting : {T E : Type 0} (es : List NewEntry) (header : List ℕ) (n place : ℕ) (old next last : History) (r : Result T E) → IsQuiet (current old) → IsOpen (current old).journal.now → SaysThese (current old).journal.now es header n place
    → Ticks old next r → current next ≡ current old
    → During (λ d. AreUnderWay (current next).bundle.now (current next).journal.now es header → EachImage (λ map. map ≡ tiles (with_entries header es (current next).bundle.now)) d) next last
    → During (EachKeeps (current old).bundle.now (current old).journal.now) old last
keeps_putting es header n place old next last r quiet opened these tick same during =
    let b = (current old).bundle.now in
    let j = (current old).journal.now in
    let bundle : (current next).bundle.now ≡ b = ap (λ (d : Disk). d.bundle.now) same in
    let journal : (current next).journal.now ≡ j = ap (λ (d : Disk). d.journal.now) same in
    during_join (EachKeeps b j) old next last (keeps_measuring old next r quiet tick same)
    (during_map _ _ next last (λ d each. keeps_group b j es header n place d opened these (λ way.
    subst (λ (l : List ℕ). EachImage (λ map. map ≡ tiles (with_entries header es l)) d) bundle (each (ways_at b (current next).bundle.now j (current next).journal.now es header bundle journal way))))
    during)

-- the journal is read, and a bundle that was being built is emptied
pub keeps_emptying : (s : JournalState) (old next last : History) → s ≡ Open Build → Says (current old).journal.now s → IsQuiet (current old) → During (λ d. d ≡ current old) old next
    → During (EachImage (λ map. map ≡ no_tiles)) next last → During (EachKeeps (current old).bundle.now (current old).journal.now) old last
keeps_emptying s old next last is says quiet reading emptying =
    let b = (current old).bundle.now in
    let j = (current old).journal.now in
    let build : Says j (Open Build) = subst (Says j) is says in
    during_join _ old next last (keeps_reading old next quiet reading) (during_map _ _ next last (λ d each. keeps_empty b j d build.0 build.1 each) emptying)

-- the journal is read, and the tiles that it says are put
pub keeps_finishing : (old next last : History) → IsQuiet (current old)
    → During (λ d. d ≡ current old) old next
    → During (EachKeeps (current next).bundle.now (current next).journal.now) next last
    → During (EachKeeps (current old).bundle.now (current old).journal.now) old last
keeps_finishing old next last quiet reading finishing =
    let still : current next ≡ current old = during_end (λ d. d ≡ current old) old next reading in
    during_join _ old next last (keeps_reading old next quiet reading)
    (subst (λ (x : Disk). During (EachKeeps x.bundle.now x.journal.now) next last) still finishing)

pub emptied : (s : JournalState) (old next last : History) → s ≡ Open Build → Says (current old).journal.now s → During (λ d. d ≡ current old) old next
    → current last ≡ (let x : Disk = record { bundle = settled []; journal = settled (0 ∷ drop 1 (current next).journal.now) } in x)
    → IsRecovered (current old).bundle.now (current old).journal.now (current last)
emptied s old next last is says reading done =
    let j = (current old).journal.now in
    let build : Says j (Open Build) = subst (Says j) is says in
    let still : current next ≡ current old = during_end (λ d. d ≡ current old) old next reading in
    recovered_empty (current old).bundle.now j (current last) build.0 build.1
    (done ∙ ap (λ (d : Disk). let x : Disk = record { bundle = settled []; journal = settled (0 ∷ drop 1 d.journal.now) } in x) still)
