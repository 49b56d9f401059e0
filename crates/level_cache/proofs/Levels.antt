-- What calls on a level make of its maps.
use Rattle.std.proofs.Common.{◌≡◌, ◌≢◌, ◌⊎◌, inl, inr, ℕ, Bool, true, false, List, [], Option, Some, None, Result, Ok, Err, refl, sym, ap, subst, ◌∙◌, arith}
use Rattle.std.specs.Prelude.{IsTrue, IfSome, if◌then◌else◌}
use Rattle.outside_io.specs.declared.volume.VolFile.TheVariants.{Bundle, Journal}
use Rattle.outside_io.specs.volume.Disk.{Disk, IsQuiet}
use Rattle.outside_io.specs.volume.History.{History, contents, current}
use Rattle.side_journal.specs.declared.body.JournalState.TheVariants.{Closed}
use Rattle.bundle_store.specs.declared.fault.StoreFault.{StoreFault}
use Rattle.bundle_store.specs.declared.fault.StoreFault.TheVariants.{NoTile}
use Rattle.bundle_store.specs.Causes.{OnCause}
use Rattle.bundle_store.specs.Images.{StandsFor}
use Rattle.bundle_store.specs.Tiles.{TileMap, no_tiles, with_tile}
use Rattle.bundle_store.proofs.Recovering.{one_map, tiles_empty}
use Rattle.bundle_store.proofs.Refusals.{cause_weaker}
use Rattle.level_cache.specs.declared.level.LevelFault.{LevelFault}
use Rattle.level_cache.specs.declared.level.LevelFault.TheVariants.{Shelf, Store}
use Rattle.level_cache.specs.Places.{Corner, base_of, same_corner, slot_of}
use Rattle.level_cache.specs.Shelf.{Hands, SameBeside, empty_disk}
use Rattle.level_cache.specs.Calls.{GetsFrom, Lends, LevelMoves, PutsIn, ReadsAs}
use Rattle.level_cache.specs.Maps.{AreMaps, AreQuiet, Maps, ReadsFor, maps_with, tile_at}
use Rattle.level_cache.proofs.Corners.{by_bool, is_same, not_same, same_is}

-- an empty disk stands for no tiles
nothing : StandsFor [] [] no_tiles
nothing = record { state = Closed; says = λ is. absurd (let bad : ⊥ = omega (arith, is.whole) in bad); shows = (inl refl, sym tiles_empty) }

module _ {V : Type 0} (told : V → Bool) (history : V → History) (faults : V → ℕ) where
  -- ---- the lent volume

  lent_map : (before : Option V) (lent : V) (map : TileMap) → Hands told history faults before lent → ReadsFor told history before map
      → IsTrue (told lent) × StandsFor (contents Bundle (history lent)) (contents Journal (history lent)) map
  lent_map (Some stood) lent map is reads = subst (λ (v : V). IsTrue (told v) × StandsFor (contents Bundle (history v)) (contents Journal (history v)) map) (sym is) reads
  lent_map None lent map new none = (
    new.tells,
    subst (λ (d : Disk). StandsFor d.bundle.now d.journal.now map) (sym new.disk) (subst (λ (m : TileMap). StandsFor [] [] m) (sym none) nothing),
  )

  empty_quiet : IsQuiet empty_disk
  empty_quiet = record { bundle = refl; journal = refl }

  lent_quiet : (before : Option V) (lent : V) → Hands told history faults before lent → IfSome before (λ v. IsQuiet (current (history v))) → IsQuiet (current (history lent))
  lent_quiet (Some stood) lent is quiet = subst (λ (v : V). IsQuiet (current (history v))) (sym is) quiet
  lent_quiet None lent new quiet = subst IsQuiet (sym new.disk) empty_quiet

  -- ---- one map changes

  module _ (base : Corner) (old new : Corner → Option V) (maps : Maps) (beside : SameBeside base old new) (are : AreMaps told history old maps) where
    spread : (ms : Maps) → ReadsFor told history (new base) (ms base) → ((other : Corner) → other ≢ base → ms other ≡ maps other) → AreMaps told history new ms
    spread ms here rest other = by_bool (same_corner other base) (ReadsFor told history (new other) (ms other))
        (λ is. subst (λ (c : Corner). ReadsFor told history (new c) (ms c)) (sym (same_is other base is)) here)
        (λ differs. there (λ e. absurd (let clash : true ≡ false = sym (is_same other base e) ∙ differs in cc)))
      where
        there : other ≢ base → ReadsFor told history (new other) (ms other)
        there apart = subst (λ (o : Option V). ReadsFor told history o (ms other)) (sym (beside other apart)) (subst (ReadsFor told history (old other)) (sym (rest other apart)) (are other))

    changed : (slot : ℕ) (tile : List ℕ) → ReadsFor told history (new base) (with_tile slot tile (maps base)) → AreMaps told history new (maps_with base slot tile maps)
    changed slot tile here = spread (maps_with base slot tile maps)
        (subst (ReadsFor told history (new base)) (sym (ap (λ (t : Bool). if t then with_tile slot tile (maps base) else maps base) (is_same base base refl))) here)
        (λ other differs. ap (λ (t : Bool). if t then with_tile slot tile (maps other) else maps other) (not_same other base differs))

    kept : ReadsFor told history (new base) (maps base) → AreMaps told history new maps
    kept here = spread maps here (λ other differs. refl)

  back_map : (lent back : V) (after : Option V) (map : TileMap) → after ≡ Some back → told back ≡ told lent → IsTrue (told lent)
      → StandsFor (contents Bundle (history back)) (contents Journal (history back)) map → ReadsFor told history after map
  back_map lent back after map there tells told_it stands = subst (λ (o : Option V). ReadsFor told history o map) (sym there) (tells ∙ told_it, stands)

  module _ (base : Corner) (slot : ℕ) (old new : Corner → Option V) (maps : Maps) (are : AreMaps told history old maps) where
    -- ---- puts
    module _ (tile : List ℕ) where
      abbrev LentPut : Result (Unit {0}) StoreFault → Type 0
      LentPut r = Lends told history faults (λ q h k. PutsIn q slot tile h k) r (old base) (new base)

      pub one_place : LentPut (Ok tt) → SameBeside base old new → AreMaps told history new (maps_with base slot tile maps)
      one_place l beside =
          let was = lent_map (old base) l.lent (maps base) l.hands (are base) in
          let after = (l.made was.0).done (maps base) was.1 in
          changed base old new maps beside are slot tile (back_map l.lent l.back (new base) (with_tile slot tile (maps base)) l.there l.tells was.0 after.stands)

      -- a refusal that is not that of a volume changes none
      pub no_place : (fault : StoreFault) → LentPut (Err fault) → SameBeside base old new → OnCause fault (AreMaps told history new maps)
      no_place fault l beside =
          let was = lent_map (old base) l.lent (maps base) l.hands (are base) in
          cause_weaker fault (ReadsAs (maps base) (current (history l.back))) (AreMaps told history new maps)
          (λ (reads : ReadsAs (maps base) (current (history l.back))). kept base old new maps beside are (back_map l.lent l.back (new base) (maps base) l.there l.tells was.0 reads.stands))
          ((l.made was.0).refused (maps base) was.1)

      one_of_two : (r : Result (Unit {0}) StoreFault) → AreQuiet history old → LentPut r → SameBeside base old new
          → AreMaps told history new maps ⊎ AreMaps told history new (maps_with base slot tile maps)
      one_of_two r quiet l beside =
          let was = lent_map (old base) l.lent (maps base) l.hands (are base) in
          let read = (l.made was.0).read (maps base) (lent_quiet (old base) l.lent l.hands (quiet base)) was.1 in
          let here : (m : TileMap) → read.0 ≡ m → ReadsFor told history (new base) m = λ m is.
          back_map l.lent l.back (new base) m l.there l.tells was.0 (subst (λ (x : TileMap). StandsFor (contents Bundle (history l.back)) (contents Journal (history l.back)) x) is read.1.0) in
          elim read.1.1 [
            | inl same ↦ inl (kept base old new maps beside are (here (maps base) same))
            | inr more ↦ inr (changed base old new maps beside are slot tile (here (with_tile slot tile (maps base)) more))
          ]

      pub either_place : (result : Result (Unit {0}) LevelFault) → AreQuiet history old → LevelMoves result base old new (Lends told history faults (λ q h k. PutsIn q slot tile h k))
          → AreMaps told history new maps ⊎ AreMaps told history new (maps_with base slot tile maps)
      either_place (Ok x) quiet moves = one_of_two (Ok x) quiet moves.0 moves.1
      either_place (Err (Store fault)) quiet moves = one_of_two (Err fault) quiet moves.0 moves.1
      either_place (Err Shelf) quiet (inl same) = inl (subst (λ (vs : Corner → Option V). AreMaps told history vs maps) (sym same) are)
      either_place (Err Shelf) quiet (inr (r, (l, beside))) = one_of_two r quiet l beside

    -- ---- gets
    abbrev LentGet : Result (List ℕ) StoreFault → Type 0
    LentGet r = Lends told history faults (λ q h k. GetsFrom q slot h k) r (old base) (new base)

    pub gives_tile : (tile : List ℕ) → LentGet (Ok tile) → maps base slot ≡ Some tile
    gives_tile tile l =
        let was = lent_map (old base) l.lent (maps base) l.hands (are base) in
        (l.made was.0).gives (maps base) was.1

    pub none_there : LentGet (Err NoTile) → maps base slot ≡ None
    none_there l =
        let was = lent_map (old base) l.lent (maps base) l.hands (are base) in
        (l.made was.0).none (maps base) was.1 refl

    stays_all : (r : Result (List ℕ) StoreFault) → AreQuiet history old → Lends told history faults (λ q h k. GetsFrom q slot h k) r (old base) (new base) → SameBeside base old new → AreMaps told history new maps
    stays_all r quiet l beside =
        let was = lent_map (old base) l.lent (maps base) l.hands (are base) in
        let stands = (l.made was.0).stays (maps base) (lent_quiet (old base) l.lent l.hands (quiet base)) was.1 in
        kept base old new maps beside are (back_map l.lent l.back (new base) (maps base) l.there l.tells was.0 stands)

    pub no_change : (result : Result (List ℕ) LevelFault) → AreQuiet history old → LevelMoves result base old new (Lends told history faults (λ q h k. GetsFrom q slot h k)) → AreMaps told history new maps
    no_change (Ok x) quiet moves = stays_all (Ok x) quiet moves.0 moves.1
    no_change (Err (Store fault)) quiet moves = stays_all (Err fault) quiet moves.0 moves.1
    no_change (Err Shelf) quiet (inl same) = subst (λ (vs : Corner → Option V). AreMaps told history vs maps) (sym same) are
    no_change (Err Shelf) quiet (inr (r, (l, beside))) = stays_all r quiet l beside

-- ---- one level

one_reading : {V : Type 0} (told : V → Bool) (history : V → History) (vol : Option V) (one two : TileMap) → ReadsFor told history vol one → ReadsFor told history vol two → one ≡ two
one_reading told history None one two is so = is ∙ sym so
one_reading told history (Some v) one two is so = one_map (contents Bundle (history v)) (contents Journal (history v)) one two is.1 so.1

pub one_level : {V : Type 0} (told : V → Bool) (history : V → History) (volumes : Corner → Option V) (one two : Maps) → AreMaps told history volumes one → AreMaps told history volumes two
    → (place : Corner) → tile_at one place ≡ tile_at two place
one_level told history volumes one two are so place =
    ap (λ (m : TileMap). m (slot_of place)) (one_reading told history (volumes (base_of place)) (one (base_of place)) (two (base_of place)) (are (base_of place)) (so (base_of place)))
