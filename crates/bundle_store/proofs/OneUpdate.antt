-- The list of one tile: what is said of a put of some tiles, said of one.
use Rattle.std.proofs.Common.{◌≡◌, ℕ, ◌+◌, ◌^◌, ◌<◌, ◌≤◌, List, [], ◌∷◌, Result, Ok, Err, length, take, sym, ◌∙◌, ap, arith}
use Rattle.std.specs.Prelude.{IfErr}
use Rattle.bundle_store.specs.declared.fault.StoreFault.{StoreFault}
use Rattle.bundle_store.specs.declared.fault.StoreFault.TheVariants.{Device, TileTooLarge, EmptyTile, Full, NotEmpty, Stopped}
use Rattle.bundle_store.specs.declared.tile_rec.TileRec.{TileRec}
use Rattle.bundle_store.specs.Build.{EachFits, bytes_at}
use Rattle.bundle_store.specs.GroupPuts.{NoRoom, OnFull, group_records}
use Rattle.bundle_store.specs.Session.{GroupFails, KeepsLength, PutFails}
use Rattle.bundle_store.proofs.GroupEntries.{records_long}

module _ (slot : ℕ) (tile : List ℕ) where
  abbrev pub only : List TileRec
  only = record { slot = slot; bytes = tile } ∷ []

  pub one_fits : EachFits only → (0 < length tile) × (length tile ≤ 16777215)
  one_fits fits = ((fits 0 (omega arith)).0, omega (arith, (fits 0 (omega arith)).1))

  pub one_room : (n : ℕ) → n + length (group_records only) ≤ 2 ^ 40 → n + 4 + length tile ≤ 2 ^ 40
  one_room n room = omega (arith, room, records_long (record { slot = slot; bytes = tile }) [])

  pub one_fails : (f : StoreFault) → GroupFails only f → PutFails (length tile) f
  one_fails Device fits = one_fits fits
  one_fails (TileTooLarge at len) is =
      let first : at ≡ 0 = omega (arith, is.within) in
      let size : len ≡ length tile = is.len_is ∙ ap (λ (i : ℕ). length (bytes_at only i)) first in
      (first, size, omega (arith, is.large, size))
  one_fails (EmptyTile at) is =
      let first : at ≡ 0 = omega (arith, is.within) in
      (first, ap (λ (i : ℕ). length (bytes_at only i)) (sym first) ∙ is.empty)
  one_fails (Full len) is =
      let none : NoRoom is.1.0 only len = is.1.1 in
      let first : none.number ≡ 0 = omega (arith, none.within) in
      let size : length (bytes_at only none.number) ≡ length tile = ap (λ (i : ℕ). length (bytes_at only i)) first in
      let fits = one_fits is.0 in
      (fits.0, fits.1, omega (arith, none.full, size))
  one_fails Stopped is = tt
  one_fails _ is = is

  pub one_full : (n : ℕ) (f : StoreFault) → GroupFails only f → OnFull (λ len. NoRoom n only len) f → KeepsLength n f
  one_full n (Full len) fails none =
      let first : none.number ≡ 0 = omega (arith, none.within) in
      none.len_is ∙ ap (λ (i : ℕ). n + length (group_records (take i only))) first ∙ (let e : n + 0 ≡ n = omega arith in e)
  one_full n (NotEmpty len) fails none = absurd fails
  one_full n _ fails none = tt

-- two clauses of a refusal
pub err_both : {X : Type 0} (r : Result X StoreFault) (P Q R : StoreFault → Type 0) → ((f : StoreFault) → P f → Q f → R f) → IfErr r P → IfErr r Q → IfErr r R
err_both (Ok x) P Q R so p q = tt
err_both (Err f) P Q R so p q = so f p q
