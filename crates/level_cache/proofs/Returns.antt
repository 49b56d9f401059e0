-- The calls on a level are steps.
use Rattle.std.proofs.Common.{◌≡◌, ◌≢◌, inl, inr, ℕ, ◌≤◌, Bool, true, false, List, Option, Some, None, Result, Ok, Err, refl, sym, ap, subst, ◌∙◌}
use Rattle.std.specs.Prelude.{IsTrue, IfSome, if◌then◌else◌, is_ok}
use Rattle.outside_io.specs.volume.Disk.{Disk}
use Rattle.outside_io.specs.volume.History.{During, History, current}
use Rattle.outside_io.proofs.VolumeLemmas.Moments.{during_end}
use Rattle.bundle_store.specs.declared.fault.StoreFault.{StoreFault}
use Rattle.bundle_store.specs.Recover.{EachStandsForOneOf}
use Rattle.bundle_store.specs.Starts.{EachIsSound}
use Rattle.level_cache.specs.declared.level.LevelFault.{LevelFault}
use Rattle.level_cache.specs.declared.level.LevelFault.TheVariants.{Shelf, Store}
use Rattle.level_cache.specs.Places.{Corner, same_corner}
use Rattle.level_cache.specs.Shelf.{Hands, SameBeside}
use Rattle.level_cache.specs.Calls.{EachWith, EachWithOrWithout, GetsFrom, Lends, LevelMoves, PutsIn}
use Rattle.level_cache.specs.Crashes.{Disks, IsStep, Tells, disk_of, disks_of, with_disk}
use Rattle.level_cache.specs.Crashes.Step.{Put, Get}
use Rattle.level_cache.proofs.Corners.{by_bool, is_same, not_same, same_is}

-- ---- the lent volume

lent_tells : {V : Type 0} (told : V → Bool) (history : V → History) (faults : V → ℕ) (before : Option V) (lent : V) → Hands told history faults before lent → IfSome before (λ v. IsTrue (told v)) → IsTrue (told lent)
lent_tells told history faults (Some stood) lent is tells = subst (λ v. IsTrue (told v)) (sym is) tells
lent_tells told history faults None lent new tells = new.tells

lent_disk : {V : Type 0} (told : V → Bool) (history : V → History) (faults : V → ℕ) (before : Option V) (lent : V) → Hands told history faults before lent → current (history lent) ≡ disk_of history before
lent_disk told history faults (Some stood) lent is = ap (λ v. current (history v)) is
lent_disk told history faults None lent new = new.disk

-- ---- one disk is another

changed_here : (base : Corner) (d : Disk) (ds : Disks) → with_disk base d ds base ≡ d
changed_here base d ds = ap (λ (t : Bool). if t then d else ds base) (is_same base base refl)

changed_beside : (base other : Corner) (d : Disk) (ds : Disks) → other ≢ base → with_disk base d ds other ≡ ds other
changed_beside base other d ds differs = ap (λ (t : Bool). if t then d else ds other) (not_same other base differs)

-- ---- disks that stay

itself : (d : Disk) → EachStandsForOneOf d d
itself d = λ b j ib ij. record { bundle = b; journal = j; bundle_is = ib; journal_is = ij; same = λ map stands. stands }

stays : (slot : ℕ) (tile : List ℕ) (d : Disk) → EachIsSound d → EachWithOrWithout slot tile d d
stays slot tile d sound = λ b j ib ij. (let s = sound b j ib ij in record { map = s.map; stands = s.stands; passes = (s.map, (record { bundle = b; journal = j; image = record { bundle = ib; journal = ij }; stands = s.stands }, inl refl)) })

module _ {V : Type 0} (told : V → Bool) (history : V → History) (faults : V → ℕ) (base : Corner) (old new : Corner → Option V) (tells : Tells told old) where
  -- ---- a put
  module _ (slot : ℕ) (tile : List ℕ) where
    abbrev LentPut : Result (Unit {0}) StoreFault → Type 0
    LentPut r = Lends told history faults (λ q h k. PutsIn q slot tile h k) r (old base) (new base)

    made_put : (r : Result (Unit {0}) StoreFault) (l : LentPut r) → PutsIn r slot tile (history l.lent) (history l.back)
    made_put r l = l.made (lent_tells told history faults (old base) l.lent l.hands (tells base))

    pub put_within : (r : Result (Unit {0}) StoreFault) (l : LentPut r) (t : ℕ) → (history l.lent).moment ≤ t → t ≤ (history l.back).moment
        → IsStep (Put base slot tile false) (disks_of history old) (with_disk base ((history l.back).disk_at t) (disks_of history old))
    put_within r l t from to = (
      λ other differs. changed_beside base other ((history l.back).disk_at t) (disks_of history old) differs,
      λ sound.
          let at = lent_disk told history faults (old base) l.lent l.hands in
          let each = ((made_put r l).kept (subst EachIsSound (sym at) sound)).each t from to in
          subst (λ (d : Disk). EachWithOrWithout slot tile (disks_of history old base) d) (sym (changed_here base ((history l.back).disk_at t) (disks_of history old)))
          (subst (λ (d : Disk). EachWithOrWithout slot tile d ((history l.back).disk_at t)) at each),
    )

    put_ended : (r : Result (Unit {0}) StoreFault) → LentPut r → SameBeside base old new → IsStep (Put base slot tile false) (disks_of history old) (disks_of history new)
    put_ended r l beside = (
      λ other differs. ap (disk_of history) (beside other differs),
      λ sound.
          let at = lent_disk told history faults (old base) l.lent l.hands in
          let each = during_end _ (history l.lent) (history l.back) ((made_put r l).kept (subst EachIsSound (sym at) sound)) in
          subst (λ (d : Disk). EachWithOrWithout slot tile (disks_of history old base) d) (sym (ap (disk_of history) l.there))
          (subst (λ (d : Disk). EachWithOrWithout slot tile d (current (history l.back))) at each),
    )

    put_acknowledged : LentPut (Ok tt) → SameBeside base old new → IsStep (Put base slot tile true) (disks_of history old) (disks_of history new)
    put_acknowledged l beside = (
      λ other differs. ap (disk_of history) (beside other differs),
      λ sound.
          let at = lent_disk told history faults (old base) l.lent l.hands in
          let each = (made_put (Ok tt) l).gained (subst EachIsSound (sym at) sound) in
          subst (λ (d : Disk). EachWith slot tile (disks_of history old base) d) (sym (ap (disk_of history) l.there))
          (subst (λ (d : Disk). EachWith slot tile d (current (history l.back))) at each),
    )

    pub put_returned : (result : Result (Unit {0}) LevelFault) → LevelMoves result base old new (Lends told history faults (λ q h k. PutsIn q slot tile h k))
        → IsStep (Put base slot tile (is_ok result)) (disks_of history old) (disks_of history new)
    put_returned (Ok tt) moves = put_acknowledged moves.0 moves.1
    put_returned (Err (Store fault)) moves = put_ended (Err fault) moves.0 moves.1
    put_returned (Err Shelf) (inl same) = (
      λ other differs. ap (λ (vs : Corner → Option V). disk_of history (vs other)) same,
      λ sound. subst (λ (vs : Corner → Option V). EachWithOrWithout slot tile (disks_of history old base) (disk_of history (vs base))) (sym same) (stays slot tile (disks_of history old base) sound),
    )
    put_returned (Err Shelf) (inr (r, (l, beside))) = put_ended r l beside

  -- ---- a get
  module _ (slot : ℕ) where
    abbrev LentGet : Result (List ℕ) StoreFault → Type 0
    LentGet r = Lends told history faults (λ q h k. GetsFrom q slot h k) r (old base) (new base)

    kept : (r : Result (List ℕ) StoreFault) (l : LentGet r) → During (EachStandsForOneOf (disks_of history old base)) (history l.lent) (history l.back)
    kept r l = subst (λ (d : Disk). During (EachStandsForOneOf d) (history l.lent) (history l.back)) (lent_disk told history faults (old base) l.lent l.hands)
        (l.made (lent_tells told history faults (old base) l.lent l.hands (tells base))).kept

    pub get_within : (r : Result (List ℕ) StoreFault) (l : LentGet r) (t : ℕ) → (history l.lent).moment ≤ t → t ≤ (history l.back).moment
        → IsStep Get (disks_of history old) (with_disk base ((history l.back).disk_at t) (disks_of history old))
    get_within r l t from to = λ other. by_bool (same_corner other base) _
        (λ same. subst (λ (c : Corner). EachStandsForOneOf (disks_of history old c) (with_disk base ((history l.back).disk_at t) (disks_of history old) c)) (sym (same_is other base same))
        (subst (EachStandsForOneOf (disks_of history old base)) (sym (changed_here base ((history l.back).disk_at t) (disks_of history old))) ((kept r l).each t from to)))
        (λ differs. subst (EachStandsForOneOf (disks_of history old other)) (sym (ap (λ (same : Bool). if same then (history l.back).disk_at t else disks_of history old other) differs)) (itself (disks_of history old other)))

    get_ended : (r : Result (List ℕ) StoreFault) → LentGet r → SameBeside base old new → IsStep Get (disks_of history old) (disks_of history new)
    get_ended r l beside = λ other. by_bool (same_corner other base) _
        (λ same. subst (λ (c : Corner). EachStandsForOneOf (disks_of history old c) (disks_of history new c)) (sym (same_is other base same))
        (subst (EachStandsForOneOf (disks_of history old base)) (sym (ap (disk_of history) l.there)) (during_end _ (history l.lent) (history l.back) (kept r l))))
        (λ differs. subst (EachStandsForOneOf (disks_of history old other)) (sym (ap (disk_of history) (beside other (differ other differs)))) (itself (disks_of history old other)))
      where
        differ : (other : Corner) → same_corner other base ≡ false → other ≢ base
        differ other test e = absurd (let clash : true ≡ false = sym (is_same other base e) ∙ test in cc)

    pub get_returned : (result : Result (List ℕ) LevelFault) → LevelMoves result base old new (Lends told history faults (λ q h k. GetsFrom q slot h k))
        → IsStep Get (disks_of history old) (disks_of history new)
    get_returned (Ok tile) moves = get_ended (Ok tile) moves.0 moves.1
    get_returned (Err (Store fault)) moves = get_ended (Err fault) moves.0 moves.1
    get_returned (Err Shelf) (inl same) = λ other. subst (λ (vs : Corner → Option V). EachStandsForOneOf (disks_of history old other) (disk_of history (vs other))) (sym same) (itself (disks_of history old other))
    get_returned (Err Shelf) (inr (r, (l, beside))) = get_ended r l beside
