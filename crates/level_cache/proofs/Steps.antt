-- What recovering, opening, and putting or getting leave, one after the other.
use Rattle.std.proofs.Common.{◌≡◌, ◌≤◌, inl, inr, List, refl, sym, subst, arith, ap, ◌∙◌, Some, None, length, ℕ, ◌<◌, ◌+◌, ◌^◌, Result, Ok, Err, OnOk, IfOk, IfErr, IsErrOf}
use Rattle.outside_io.specs.volume.Disk.{Disk, IsQuiet, IsSettled}
use Rattle.outside_io.specs.volume.History.{During, History, IsPresent, contents, current}
use Rattle.outside_io.proofs.VolumeLemmas.Images.{only_image, present_of}
use Rattle.outside_io.proofs.VolumeLemmas.Moments.{during_end, during_join, during_map}
use Rattle.outside_io.specs.declared.volume.VolFile.TheVariants.{Bundle, Journal}
use Rattle.bundle_index.specs.Entry.{entry_at}
use Rattle.bundle_index.specs.declared.entry.Entry.{Entry}
use Rattle.side_journal.specs.Says.{Says}
use Rattle.side_journal.specs.declared.body.Body.TheVariants.{Tile, Build, Group}
use Rattle.side_journal.specs.declared.body.JournalState.{JournalState}
use Rattle.side_journal.specs.declared.body.JournalState.TheVariants.{Closed, Open, Bad}
use Rattle.bundle_store.specs.declared.fault.StoreFault.{StoreFault}
use Rattle.bundle_store.specs.declared.fault.StoreFault.TheVariants.{Device, BadBundle, BadJournal, NoTile, Beyond, TileTooLarge, EmptyTile, Full, NotEmpty, OutOfMemory, Stopped}
use Rattle.bundle_store.specs.declared.recovery.Recovery.{Recovery}
use Rattle.bundle_store.specs.declared.recovery.Recovery.TheVariants.{Closed as DidNothing, Applied, Emptied}
use Rattle.bundle_store.specs.Appended.{bundle_after_put}
use Rattle.bundle_store.specs.Causes.{OnCause, OnRefusal}
use Rattle.bundle_store.specs.Images.{EachImage, HoldsClosed, Shows, StandsFor, WithOrWithout}
use Rattle.bundle_store.specs.Recover.{EachKeptOrOnTheWay, EachStandsForOneOf, IsRecovered, Leaves, RecoverFails, RecoverySays, Refuses}
use Rattle.bundle_store.specs.Session.{GetFails, GetGives, GetRefuses as GetRefusesOf, IsBeyond, KeepsLength, OpenFails, OpenRefuses, PutFails}
use Rattle.bundle_store.specs.Starts.{CouldBe, EachIsSound}
use Rattle.bundle_store.specs.Tiles.{IsReadable, Opens, TileMap, tiles, with_tile}
use Rattle.bundle_store.proofs.OneRecovery.{one_answer}
use Rattle.bundle_store.proofs.PutLaws.{put_readable, put_replaces, tiles_there}
use Rattle.bundle_store.proofs.Refusals.{by_opening, by_recovery, on_unless, refusal_weaker}
use Rattle.bundle_store.proofs.Starting.{one_start, only_start, was_sound}
use Rattle.bundle_store.proofs.Standing.{closed_map, weaker}
use Rattle.opened_bundle.specs.declared.refusal.StoreRefusal.TheVariants.{BadBundle as NoBundle}
use Rattle.opened_bundle.specs.Files.{OfBundle}
use Rattle.opened_bundle.proofs.OneBundle.{recovered_or_opening}
use Rattle.level_cache.specs.Calls.{CanBeSound, EachWith, EachWithOrWithout, GetRefusal, GetRefuses, GetsFrom, PutRefusal, PutRefuses, PutsIn, ReadsAs, files_in}

-- ---- images

-- each image stands for what one stood for
one_of : (slot : ℕ) (tile : List ℕ) (old d : Disk) → EachIsSound old → EachStandsForOneOf old d → EachWithOrWithout slot tile old d
one_of slot tile old d sound each = λ b j ib ij.
    let one = each b j ib ij in
    let was = sound one.bundle one.journal one.bundle_is one.journal_is in
    record {
      map = was.map;
      stands = one.same was.map was.stands;
      passes = (was.map, (record { bundle = one.bundle; journal = one.journal; image = record { bundle = one.bundle_is; journal = one.journal_is }; stands = was.stands }, inl refl));
    }

recovering : (slot : ℕ) (tile : List ℕ) (old new : History) → During (EachStandsForOneOf (current old)) old new → EachIsSound (current old) → During (EachWithOrWithout slot tile (current old)) old new
recovering slot tile old new during sound = during_map _ _ old new (λ d each. one_of slot tile (current old) d sound each) during

-- a call that leaves the disk
staying : (P : Disk → Type 0) (old mid new : History) → During P old mid → During (λ d. d ≡ current mid) mid new → During P old new
staying P old mid new first still =
    let here = first.each mid.moment first.later (omega arith) in
    during_join P old mid new first (during_map _ _ mid new (λ d is. subst P (sym is) here) still)

-- ---- what stands is refused by nobody

says_of : (b j : List ℕ) (state : JournalState) (map : TileMap) → Says j state → Shows state b map → (r : Recovery) × RecoverySays b j (Ok r)
says_of b j Closed map says shows = (DidNothing, says)
says_of b j (Open (Tile slot e size h)) map says shows = (Applied, record { opened = says.0; body = Tile slot e size h; says = says.1; tiles = tt; within = shows.0 })
says_of b j (Open (Group es size h)) map says shows = (Applied, record { opened = says.0; body = Group es size h; says = says.1; tiles = tt; within = shows.0 })
says_of b j (Open Build) map says shows = (Emptied, says)
says_of b j (Bad place found) map says shows = absurd shows

stands_or_refused : (b j : List ℕ) (map : TileMap) (place number : ℕ) → StandsFor b j map → Refuses b j place number → ⊥
stands_or_refused b j map place number stands refuses =
    let did = says_of b j stands.state map stands.says stands.shows in
    let clash = one_answer b j (Ok did.0) (Err (BadJournal place number)) did.1 refuses (λ is. cc) (λ is. cc) in cc

readable_opens : (b : List ℕ) → IsReadable b → Opens b
readable_opens b (inl empty) = inl empty
readable_opens b (inr is) = inr is.index

-- ---- what is read where nothing was pending

module _ (old : History) (start : TileMap) (quiet : IsQuiet (current old)) (stands : StandsFor (contents Bundle old) (contents Journal old) start) where
  read_put : (slot : ℕ) (tile : List ℕ) (new : History) → IsPresent new → (EachIsSound (current old) → During (EachWithOrWithout slot tile (current old)) old new)
      → (map : TileMap) × (StandsFor (contents Bundle new) (contents Journal new) map × WithOrWithout slot tile start map)
  read_put slot tile new present kept =
      let each = during_end _ old new (kept (was_sound (current old) start quiet stands)) in
      let s = each (contents Bundle new) (contents Journal new) (present_of Bundle new present) (present_of Journal new present) in
      (s.map, (s.stands, subst (λ (m : TileMap). WithOrWithout slot tile m s.map) (one_start (current old) start quiet stands s.passes.0 s.passes.1.0) s.passes.1.1))

  read_get : (new : History) → IsPresent new → During (EachStandsForOneOf (current old)) old new → StandsFor (contents Bundle new) (contents Journal new) start
  read_get new present kept =
      let one = during_end _ old new kept (contents Bundle new) (contents Journal new) (present_of Bundle new present) (present_of Journal new present) in
      one.same start (only_start (current old) start quiet stands one.bundle one.journal one.bundle_is one.journal_is)

-- ---- after a recovery that was not refused

-- what was recovered, and what calls that change nothing made of it
pub record IsLeft (old mid at : History) : Type 0 where
  pub during : During (EachStandsForOneOf (current old)) old mid
  pub files : During (EachKeptOrOnTheWay (current old)) old mid
  pub recovered : IsRecovered (contents Bundle old) (contents Journal old) (current mid)
  pub found : Recovery
  pub leaves : Leaves (contents Bundle old) (contents Journal old) found (contents Bundle mid)
  pub still : During (λ d. d ≡ current mid) mid at

module _ (old mid at : History) (left : IsLeft old mid at) where
  same : current at ≡ current mid
  same = during_end (λ d. d ≡ current mid) mid at left.still

  all : During (EachStandsForOneOf (current old)) old at
  all = staying _ old mid at left.during left.still

  all_files : During (EachKeptOrOnTheWay (current old)) old at
  all_files = staying _ old mid at left.files left.still

  reads_as : (start : TileMap) → StandsFor (contents Bundle old) (contents Journal old) start → ReadsAs start (current at)
  reads_as start stands = subst (ReadsAs start) (sym same) (record { quiet = left.recovered.quiet; closed = left.recovered.closed; stands = left.recovered.same start stands })

  serves : (start : TileMap) → StandsFor (contents Bundle old) (contents Journal old) start → IsReadable (contents Bundle at) × (start ≡ tiles (contents Bundle at))
  serves start stands =
      let s = left.recovered.same start stands in
      let so = closed_map _ _ s.state start left.recovered.closed s.says s.shows in
      subst (λ (d : Disk). IsReadable d.bundle.now × (start ≡ tiles d.bundle.now)) (sym same) so

  opens_at : Opens (contents Bundle mid) → Opens (contents Bundle at)
  opens_at opens = subst (λ (d : Disk). Opens d.bundle.now) (sym same) opens

  quiet : IsQuiet (current at)
  quiet = subst IsQuiet (sym same) left.recovered.quiet

  of_bundle : (P : List ℕ → Type 0) → Opens (contents Bundle at) → P (contents Bundle at) → OfBundle (Some (files_in old)) P
  of_bundle P opens is = (left.found, (contents Bundle at, (subst (λ (d : Disk). Leaves (contents Bundle old) (contents Journal old) left.found d.bundle.now) (sym same) left.leaves, (opens, is))))

-- ---- a recovery that is refused

pub unrecovered : (fault : StoreFault) (slot : ℕ) (tile : List ℕ) (old new : History) → IsPresent new → During (EachStandsForOneOf (current old)) old new → RecoverFails fault
    → RecoverySays (contents Bundle old) (contents Journal old) (Err fault) → PutsIn (Err fault) slot tile old new
unrecovered fault slot tile old new present during fails =
    by_recovery (λ f. RecoverySays (contents Bundle old) (contents Journal old) (Err f) → PutsIn (Err f) slot tile old new)
    (λ says. record { later = during.later; kept = recovering slot tile old new during; gained = λ sound. tt; done = λ start stands. tt; refused = λ start stands. tt; read = λ start quiet stands. read_put old start quiet stands slot tile new present (recovering slot tile old new during); sound = λ start stands. tt; quiet = tt; room = tt; why = tt })
    (λ place number fails says. record {
      later = during.later;
      kept = recovering slot tile old new during;
      gained = λ sound. tt;
      done = λ start stands. tt;
      refused = λ start stands. absurd (stands_or_refused (contents Bundle old) (contents Journal old) start place number stands says);
      read = λ start quiet stands. read_put old start quiet stands slot tile new present (recovering slot tile old new during);
      sound = λ start stands. stands_or_refused (contents Bundle old) (contents Journal old) start place number stands says;
      quiet = tt;
      room = tt;
      why = says;
    }) fault fails

pub unrecovered_get : (fault : StoreFault) (slot : ℕ) (old new : History) → IsPresent new → During (EachStandsForOneOf (current old)) old new → During (EachKeptOrOnTheWay (current old)) old new → RecoverFails fault
    → RecoverySays (contents Bundle old) (contents Journal old) (Err fault) → GetsFrom (Err fault) slot old new
unrecovered_get fault slot old new present during files fails =
    by_recovery (λ f. RecoverySays (contents Bundle old) (contents Journal old) (Err f) → GetsFrom (Err f) slot old new)
    (λ says. record { kept = during; files = files; gives = λ start stands. tt; none = λ start stands is. absurd cc; unchanged = λ start stands. tt; stays = λ start quiet stands. read_get old start quiet stands new present during; sound = λ start stands. tt; quiet = tt; read = tt; why = tt })
    (λ place number fails says. record {
      kept = during;
      files = files;
      gives = λ start stands. tt;
      none = λ start stands is. absurd cc;
      unchanged = λ start stands. absurd (stands_or_refused (contents Bundle old) (contents Journal old) start place number stands says);
      stays = λ start quiet stands. read_get old start quiet stands new present during;
      sound = λ start stands. stands_or_refused (contents Bundle old) (contents Journal old) start place number stands says;
      quiet = tt;
      read = tt;
      why = says;
    }) fault fails

-- its numbers
pub recovery_put : (size : ℕ) (fault : StoreFault) → RecoverFails fault → PutRefusal size fault
recovery_put size fault fails = by_recovery (PutRefusal size) tt (λ place found fails. fails) fault fails

pub recovery_get : (fault : StoreFault) → RecoverFails fault → GetRefusal fault
recovery_get fault fails = by_recovery GetRefusal tt (λ place found fails. fails) fault fails

-- ---- a bundle that is not opened

-- the reasons, which both calls tell alike
record NotOpened (old new : History) (fault : StoreFault) : Type 0 where
  ends : (start : TileMap) → StandsFor (contents Bundle old) (contents Journal old) start → OnCause fault (ReadsAs start (current new))
  put : PutRefuses (files_in old) fault
  get : (slot : ℕ) → GetRefuses (files_in old) slot fault
  some : (fault ≡ NoTile) → ⊥
  sound : (start : TileMap) → StandsFor (contents Bundle old) (contents Journal old) start → CanBeSound fault

not_opened : (fault : StoreFault) (old mid new : History) → IsLeft old mid new → OpenFails fault → OpenRefuses (contents Bundle mid) fault → NotOpened old new fault
not_opened fault old mid new left fails = by_opening (λ f. OpenRefuses (contents Bundle mid) f → NotOpened old new f) (λ refuses. record { ends = λ start stands. tt; put = tt; get = λ slot. tt; some = λ is. cc; sound = λ start stands. tt }) bundle memory fault fails
  where
    bundle : (place number : ℕ) → OpenFails (BadBundle place number) → OpenRefuses (contents Bundle mid) (BadBundle place number) → NotOpened old new (BadBundle place number)
    bundle place number fails refuses =
        let found : PutRefuses (files_in old) (BadBundle place number) = (left.found, (contents Bundle mid, (left.leaves, refuses))) in
        let never : (start : TileMap) → StandsFor (contents Bundle old) (contents Journal old) start → ⊥ = λ start stands. (
        let opens = readable_opens (contents Bundle mid) (subst (λ (d : Disk). IsReadable d.bundle.now) (same old mid new left) (serves old mid new left start stands).0) in
        recovered_or_opening (files_in old) (λ b. Unit {0}) (NoBundle place number) (left.found, (contents Bundle mid, (left.leaves, (opens, tt)))) (fails, found)) in
        record { ends = λ start stands. absurd (never start stands); put = found; get = λ slot. found; some = λ is. cc; sound = never }

    memory : OpenRefuses (contents Bundle mid) OutOfMemory → NotOpened old new OutOfMemory
    memory refuses =
        let opened = of_bundle old mid new left (λ b. Unit {0}) (subst (λ (d : Disk). Opens d.bundle.now) (sym (same old mid new left)) refuses) tt in
        record { ends = reads_as old mid new left; put = opened; get = λ slot. opened; some = λ is. cc; sound = λ start stands. tt }

pub unopened : (fault : StoreFault) (slot : ℕ) (tile : List ℕ) (old mid new : History) → IsPresent new → IsLeft old mid new → OpenFails fault → OpenRefuses (contents Bundle mid) fault → PutsIn (Err fault) slot tile old new
unopened fault slot tile old mid new present left fails refuses =
    let not = not_opened fault old mid new left fails refuses in
    record {
      later = (all old mid new left).later;
      kept = recovering slot tile old new (all old mid new left);
      gained = λ sound. tt;
      done = λ start stands. tt;
      refused = not.ends;
      read = λ start quiet stands. read_put old start quiet stands slot tile new present (recovering slot tile old new (all old mid new left));
      sound = not.sound;
      quiet = tt;
      room = tt;
      why = not.put;
    }

pub unopened_get : (fault : StoreFault) (slot : ℕ) (old mid new : History) → IsPresent new → IsLeft old mid new → OpenFails fault → OpenRefuses (contents Bundle mid) fault → GetsFrom (Err fault) slot old new
unopened_get fault slot old mid new present left fails refuses =
    let not = not_opened fault old mid new left fails refuses in
    record {
      kept = all old mid new left;
      files = all_files old mid new left;
      gives = λ start stands. tt;
      none = λ start stands is. absurd (not.some (let f : fault ≡ NoTile = cc in f));
      unchanged = not.ends;
      stays = λ start quiet stands. read_get old start quiet stands new present (all old mid new left);
      sound = not.sound;
      quiet = tt;
      read = tt;
      why = not.get slot;
    }

pub opening_put : (size : ℕ) (fault : StoreFault) → OpenFails fault → PutRefusal size fault
opening_put size fault fails = by_opening (PutRefusal size) tt (λ place found fails. fails) tt fault fails

pub opening_get : (fault : StoreFault) → OpenFails fault → GetRefusal fault
opening_get fault fails = by_opening GetRefusal tt (λ place found fails. fails) tt fault fails

-- ---- the put

-- what the put's own clauses say
pub record PutSaid (result : Result (Unit {0}) StoreFault) (slot : ℕ) (tile b : List ℕ) (old new : History) : Type 0 where
  pub done : OnOk result (HoldsClosed (bundle_after_put b slot tile) (current new))
  pub fits : OnOk result ((0 < length tile) × (length tile ≤ 16777215))
  pub room : OnOk result (length b + 4 + length tile ≤ 2 ^ 40)
  pub full : IfErr result (λ f. KeepsLength (length b) f)
  pub answers : IfErr result (λ f. PutFails (length tile) f)
  pub running : (result ≡ Err Stopped) → ⊥
  pub images : During (λ d. IsReadable b → EachImage (WithOrWithout slot tile (tiles b)) d) old new
  pub kept : OnRefusal result (During (λ d. d ≡ current old) old new)

held_quiet : (r : Result (Unit {0}) StoreFault) (slot : ℕ) (tile b : List ℕ) (old new : History) → PutSaid r slot tile b old new → OnOk r (IsQuiet (current new))
held_quiet (Err f) slot tile b old new said = tt
held_quiet (Ok x) slot tile b old new said = record { bundle = subst IsSettled (sym said.done.bundle_is) refl; journal = said.done.journal }

put_done : (r : Result (Unit {0}) StoreFault) (slot : ℕ) (tile b : List ℕ) (start : TileMap) (old new : History) → slot < 16384 → IsReadable b → start ≡ tiles b → PutSaid r slot tile b old new → OnOk r (ReadsAs (with_tile slot tile start) (current new))
put_done (Err f) slot tile b start old new below readable is said = tt
put_done (Ok x) slot tile b start old new below readable is said =
    let held = said.done in
    let small : length tile < 2 ^ 24 = omega (arith, said.fits.1) in
    let after = bundle_after_put b slot tile in
    let now : (current new).bundle.now ≡ after = ap (λ f. f.now) held.bundle_is in
    let stands : StandsFor after (current new).journal.now (with_tile slot tile start) = record {
      state = Closed;
      says = held.closed;
      shows = (put_readable b tile slot readable below said.fits.0 small said.room, ap (with_tile slot tile) is ∙ sym (put_replaces b tile slot readable below said.fits.0 small said.room));
    } in
    record {
      quiet = record { bundle = subst IsSettled (sym held.bundle_is) refl; journal = held.journal };
      closed = held.closed;
      stands = subst (λ (l : List ℕ). StandsFor l (current new).journal.now (with_tile slot tile start)) (sym now) stands;
    }

-- nothing is pending: the one image is what is read
one_image : (d : Disk) (map : TileMap) → ReadsAs map d → EachImage (λ m. m ≡ map) d
one_image d map reads = λ b j ib ij.
    let bundle : b ≡ d.bundle.now = only_image d.bundle b reads.quiet.bundle ib in
    let journal : j ≡ d.journal.now = only_image d.journal j reads.quiet.journal ij in
    record { map = map; stands = subst (λ (l : List ℕ). StandsFor l j map) (sym bundle) (subst (λ (l : List ℕ). StandsFor d.bundle.now l map) (sym journal) reads.stands); passes = refl }

gained_by : (r : Result (Unit {0}) StoreFault) (slot : ℕ) (tile : List ℕ) (old d : Disk) (start : TileMap) → CouldBe old start → OnOk r (ReadsAs (with_tile slot tile start) d) → OnOk r (EachWith slot tile old d)
gained_by (Err f) slot tile old d start of reads = tt
gained_by (Ok x) slot tile old d start of reads = weaker _ _ d (λ map is. (start, (of, is))) (one_image d (with_tile slot tile start) reads)

put_room : (r : Result (Unit {0}) StoreFault) (slot : ℕ) (tile : List ℕ) (old mid at new : History) → IsLeft old mid at → Opens (contents Bundle at) → PutSaid r slot tile (contents Bundle at) at new
    → OnOk r (OfBundle (Some (files_in old)) (λ b. length b + 4 + length tile ≤ 2 ^ 40))
put_room (Err f) slot tile old mid at new left opens said = tt
put_room (Ok x) slot tile old mid at new left opens said = of_bundle old mid at left (λ b. length b + 4 + length tile ≤ 2 ^ 40) opens said.room

put_why : (fault : StoreFault) (slot : ℕ) (tile : List ℕ) (old mid at new : History) → IsLeft old mid at → Opens (contents Bundle at) → PutSaid (Err fault) slot tile (contents Bundle at) at new → PutRefuses (files_in old) fault
put_why Device slot tile old mid at new left opens said = tt
put_why (TileTooLarge n len) slot tile old mid at new left opens said = of_bundle old mid at left (λ b. Unit {0}) opens tt
put_why (EmptyTile n) slot tile old mid at new left opens said = of_bundle old mid at left (λ b. Unit {0}) opens tt
put_why (Full len) slot tile old mid at new left opens said = of_bundle old mid at left (λ b. len ≡ length b) opens said.full
put_why (BadBundle place number) slot tile old mid at new left opens said = absurd said.answers
put_why (BadJournal place number) slot tile old mid at new left opens said = absurd said.answers
put_why NoTile slot tile old mid at new left opens said = absurd said.answers
put_why (Beyond entry got) slot tile old mid at new left opens said = absurd said.answers
put_why (NotEmpty len) slot tile old mid at new left opens said = absurd said.answers
put_why OutOfMemory slot tile old mid at new left opens said = absurd said.answers
put_why Stopped slot tile old mid at new left opens said = absurd (said.running refl)

if_err : {X : Type 0} (r : Result X StoreFault) (P : StoreFault → Type 0) → ((f : StoreFault) → r ≡ Err f → P f) → IfErr r P
if_err (Ok x) P so = tt
if_err (Err f) P so = so f refl

put_sound : (size : ℕ) (f : StoreFault) → PutFails size f → CanBeSound f
put_sound size Device fails = tt
put_sound size (TileTooLarge n len) fails = tt
put_sound size (EmptyTile n) fails = tt
put_sound size (Full len) fails = tt
put_sound size (BadBundle place number) fails = absurd fails
put_sound size (BadJournal place number) fails = absurd fails
put_sound size NoTile fails = tt
put_sound size (Beyond entry got) fails = absurd fails
put_sound size (NotEmpty len) fails = tt
put_sound size OutOfMemory fails = tt
put_sound size Stopped fails = tt

pub put : (r : Result (Unit {0}) StoreFault) (slot : ℕ) (tile : List ℕ) (old mid at new : History) → slot < 16384 → IsPresent old → IsPresent new → IsLeft old mid at → Opens (contents Bundle mid) → PutSaid r slot tile (contents Bundle at) at new → PutsIn r slot tile old new
put r slot tile old mid at new below present after left opens said = record {
  later = omega (arith, (all old mid at left).later, said.images.later);
  kept = keeps;
  gained = λ sound.
      let was = sound (contents Bundle old) (contents Journal old) (present_of Bundle old present) (present_of Journal old present) in
      let of : CouldBe (current old) was.map = record { bundle = contents Bundle old; journal = contents Journal old; image = record { bundle = present_of Bundle old present; journal = present_of Journal old present }; stands = was.stands } in
      let s = serves old mid at left was.map was.stands in
      gained_by r slot tile (current old) (current new) was.map of (put_done r slot tile (contents Bundle at) was.map at new below s.0 s.1 said);
  done = λ start stands. (let s = serves old mid at left start stands in put_done r slot tile (contents Bundle at) start at new below s.0 s.1 said);
  refused = λ start stands. refusal_weaker r _ _ (λ (kept : During (λ d. d ≡ current at) at new). subst (ReadsAs start) (sym (during_end (λ d. d ≡ current at) at new kept)) (reads_as old mid at left start stands)) said.kept;
  read = λ start quiet stands. read_put old start quiet stands slot tile new after keeps;
  sound = λ start stands. if_err r CanBeSound (λ f is. put_sound (length tile) f (subst (λ x. IfErr x (λ g. PutFails (length tile) g)) is said.answers));
  quiet = held_quiet r slot tile (contents Bundle at) at new said;
  room = put_room r slot tile old mid at new left (opens_at old mid at left opens) said;
  why = if_err r (λ f. PutRefuses (files_in old) f) (λ f is. put_why f slot tile old mid at new left (opens_at old mid at left opens) (subst (λ x. PutSaid x slot tile (contents Bundle at) at new) is said));
} where
  keeps : EachIsSound (current old) → During (EachWithOrWithout slot tile (current old)) old new
  keeps = λ sound.
      let was = sound (contents Bundle old) (contents Journal old) (present_of Bundle old present) (present_of Journal old present) in
      let of : CouldBe (current old) was.map = record { bundle = contents Bundle old; journal = contents Journal old; image = record { bundle = present_of Bundle old present; journal = present_of Journal old present }; stands = was.stands } in
      let s = serves old mid at left was.map was.stands in
      during_join _ old at new (recovering slot tile old at (all old mid at left) sound)
      (during_map _ _ at new (λ d each. weaker _ _ d (λ map so. (was.map, (of, subst (λ (m : TileMap). WithOrWithout slot tile m map) (sym s.1) so))) (each s.0)) said.images)

pub putting : (size : ℕ) (r : Result (Unit {0}) StoreFault) → IfErr r (λ f. PutFails size f) → ((r ≡ Err Stopped) → ⊥) → IfErr r (λ f. PutRefusal size f)
putting size (Ok x) fails running = tt
putting size (Err Device) fails running = tt
putting size (Err (TileTooLarge n len)) fails running = fails
putting size (Err (EmptyTile n)) fails running = fails
putting size (Err (Full len)) fails running = fails
putting size (Err (BadBundle place number)) fails running = absurd fails
putting size (Err (BadJournal place number)) fails running = absurd fails
putting size (Err NoTile) fails running = absurd fails
putting size (Err (Beyond entry got)) fails running = absurd fails
putting size (Err (NotEmpty len)) fails running = absurd fails
putting size (Err OutOfMemory) fails running = absurd fails
putting size (Err Stopped) fails running = absurd (running refl)

-- ---- the get

-- what the get's own clauses say
pub record GetSaid (result : Result (List ℕ) StoreFault) (slot : ℕ) (b : List ℕ) (old new : History) : Type 0 where
  pub ok : IfOk result (λ tile. GetGives b slot tile)
  pub tile : IfOk result (λ tile. tiles b slot ≡ Some tile)
  pub none : IsErrOf result NoTile → tiles b slot ≡ None
  pub refused : IfErr result (λ f. GetRefusesOf b slot f)
  pub answers : IfErr result (λ f. GetFails f)
  pub running : (result ≡ Err Stopped) → ⊥
  pub during : During (λ d. d ≡ current old) old new

ok_map : (r : Result (List ℕ) StoreFault) (P Q : List ℕ → Type 0) → ((t : List ℕ) → P t → Q t) → IfOk r P → IfOk r Q
ok_map (Ok t) P Q so p = so t p
ok_map (Err f) P Q so p = tt

on_ok : (r : Result (List ℕ) StoreFault) (P : Type 0) → P → OnOk r P
on_ok (Ok t) P p = p
on_ok (Err f) P p = tt

get_why : (fault : StoreFault) (slot : ℕ) (old mid at new : History) → IsLeft old mid at → Opens (contents Bundle at) → GetSaid (Err fault) slot (contents Bundle at) at new → GetRefuses (files_in old) slot fault
get_why Device slot old mid at new left opens said = tt
get_why NoTile slot old mid at new left opens said = of_bundle old mid at left (λ b. (entry_at b slot).size ≡ 0) opens said.refused
get_why (Beyond entry got) slot old mid at new left opens said = of_bundle old mid at left (λ b. IsBeyond b slot entry got) opens said.refused
get_why OutOfMemory slot old mid at new left opens said = of_bundle old mid at left (λ b. Unit {0}) opens tt
get_why (TileTooLarge n len) slot old mid at new left opens said = absurd said.answers
get_why (EmptyTile n) slot old mid at new left opens said = absurd said.answers
get_why (Full len) slot old mid at new left opens said = absurd said.answers
get_why (BadBundle place number) slot old mid at new left opens said = absurd said.answers
get_why (BadJournal place number) slot old mid at new left opens said = absurd said.answers
get_why (NotEmpty len) slot old mid at new left opens said = absurd said.answers
get_why Stopped slot old mid at new left opens said = absurd (said.running refl)

get_sound : (f : StoreFault) (slot : ℕ) (b : List ℕ) (old new : History) → slot < 16384 → IsReadable b → GetSaid (Err f) slot b old new → CanBeSound f
get_sound Device slot b old new below readable said = tt
get_sound NoTile slot b old new below readable said = tt
get_sound (Beyond entry got) slot b old new below readable said =
    let fewer = said.answers in
    let size : entry.size ≡ (entry_at b slot).size = ap (λ (e : Entry). e.size) said.refused.entry_is in
    let offset : entry.offset ≡ (entry_at b slot).offset = ap (λ (e : Entry). e.offset) said.refused.entry_is in
    let some : 0 < (entry_at b slot).size = omega (arith, fewer, size) in
    let there = tiles_there b slot readable below some in
    let left = said.refused.got_is in
    omega (arith, fewer, size, offset, there, left)
get_sound OutOfMemory slot b old new below readable said = tt
get_sound (TileTooLarge n len) slot b old new below readable said = tt
get_sound (EmptyTile n) slot b old new below readable said = tt
get_sound (Full len) slot b old new below readable said = tt
get_sound (BadBundle place number) slot b old new below readable said = said.answers
get_sound (BadJournal place number) slot b old new below readable said = said.answers
get_sound (NotEmpty len) slot b old new below readable said = tt
get_sound Stopped slot b old new below readable said = tt

pub got : (r : Result (List ℕ) StoreFault) (slot : ℕ) (old mid at new : History) → slot < 16384 → IsPresent new → IsLeft old mid at → Opens (contents Bundle mid) → GetSaid r slot (contents Bundle at) at new → GetsFrom r slot old new
got r slot old mid at new below present left opens said = record {
  kept = staying _ old at new (all old mid at left) said.during;
  files = staying _ old at new (all_files old mid at left) said.during;
  gives = λ start stands. (let s = serves old mid at left start stands in ok_map r _ _ (λ t there. ap (λ (m : TileMap). m slot) s.1 ∙ there) said.tile);
  none = λ start stands e. (let s = serves old mid at left start stands in ap (λ (m : TileMap). m slot) s.1 ∙ said.none e);
  unchanged = λ start stands. on_unless r _ (subst (ReadsAs start) (sym end) (reads_as old mid at left start stands));
  stays = λ start quiet stands. read_get old start quiet stands new present (staying _ old at new (all old mid at left) said.during);
  sound = λ start stands. if_err r CanBeSound (λ f is. get_sound f slot (contents Bundle at) at new below (serves old mid at left start stands).0 (subst (λ x. GetSaid x slot (contents Bundle at) at new) is said));
  quiet = on_ok r _ (subst IsQuiet (sym end) (quiet old mid at left));
  read = ok_map r _ _ (λ t gives. of_bundle old mid at left (λ b. GetGives b slot t) (opens_at old mid at left opens) gives) said.ok;
  why = if_err r (λ f. GetRefuses (files_in old) slot f) (λ f is. get_why f slot old mid at new left (opens_at old mid at left opens) (subst (λ x. GetSaid x slot (contents Bundle at) at new) is said));
} where
  end : current new ≡ current at
  end = during_end (λ d. d ≡ current at) at new said.during

pub getting : (r : Result (List ℕ) StoreFault) → IfErr r (λ f. GetFails f) → ((r ≡ Err Stopped) → ⊥) → IfErr r (λ f. GetRefusal f)
getting (Ok x) fails running = tt
getting (Err Device) fails running = tt
getting (Err NoTile) fails running = tt
getting (Err (Beyond entry got)) fails running = fails
getting (Err OutOfMemory) fails running = tt
getting (Err (TileTooLarge n len)) fails running = absurd fails
getting (Err (EmptyTile n)) fails running = absurd fails
getting (Err (Full len)) fails running = absurd fails
getting (Err (BadBundle place number)) fails running = absurd fails
getting (Err (BadJournal place number)) fails running = absurd fails
getting (Err (NotEmpty len)) fails running = absurd fails
getting (Err Stopped) fails running = absurd (running refl)
