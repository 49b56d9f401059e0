-- The table of the last tile of each slot.
use Rattle.std.proofs.Common.{◌≡◌, inl, inr, refl, ℕ, ◌<◌, List, [], ◌∷◌, ◌++◌, length, get_or, set, replicate, Option, Some, None, IfSome, sym, ◌∙◌, ap, arith}
use Rattle.std.proofs.lemmas.Bool.{cases_eq, cases_lt}
use Rattle.std.proofs.lemmas.List.{get_or-replicate, get_or-set_other, get_or-set_same, get_or_past, length-replicate}
use Rattle.bundle_store.specs.inside.Table.{IsTable, table_map, tile_of_number}
use Rattle.bundle_store.specs.Build.{EachFits, map_after, bytes_at}
use Rattle.bundle_store.specs.Tiles.{AreTiles, TileMap, no_tiles, with_tile}
use Rattle.bundle_store.specs.declared.tile_rec.TileRec.{TileRec}
use Rattle.bundle_store.proofs.Putting.{with_other, with_own}

-- one tile more
pub after_more : (map : TileMap) (ts : List TileRec) (t : TileRec) → map_after map (ts ++ t ∷ []) ≡ with_tile t.slot t.bytes (map_after map ts)
after_more map [] t = refl
after_more map (s ∷ ts) t = after_more (with_tile s.slot s.bytes map) ts t

-- a table of nothing
abbrev pub no_number : Option ℕ
no_number = None

pub none_at : (n slot : ℕ) → get_or (replicate n no_number) slot None ≡ None
none_at n slot = elim (cases_lt slot n) [ inl lt ↦ get_or-replicate n slot no_number no_number lt | inr ge ↦ get_or_past (replicate n no_number) slot no_number (omega (arith, length-replicate n no_number)) ]

pub shown_none : (tiles : List TileRec) (n : ℕ) → table_map tiles (replicate n no_number) ≡ no_tiles
shown_none tiles n = λ i slot. tile_of_number tiles (none_at n slot i)

pub shown_set : (tiles : List TileRec) (table : List (Option ℕ)) (slot number : ℕ) → slot < length table → table_map tiles (set table slot (Some number)) ≡ with_tile slot (bytes_at tiles number) (table_map tiles table)
shown_set tiles table slot number within = λ i other. each other i
  where
    each : (other : ℕ) → table_map tiles (set table slot (Some number)) other ≡ with_tile slot (bytes_at tiles number) (table_map tiles table) other
    each other = elim (cases_eq other slot) [
      | inl same ↦ ap (tile_of_number tiles) (ap (λ (m : ℕ). get_or (set table slot (Some number)) m None) same ∙ get_or-set_same table slot (Some number) None within) ∙ sym (with_own slot (bytes_at tiles number) (table_map tiles table) other same)
      | inr differs ↦ ap (tile_of_number tiles) (get_or-set_other table slot other (Some number) None differs) ∙ sym (with_other slot (bytes_at tiles number) (table_map tiles table) other differs)
    ]

abbrev pub nothing : TileRec
nothing = record { slot = 0; bytes = [] }

pub table_set : (tiles : List TileRec) (table : List (Option ℕ)) (slot number : ℕ) → slot < length table → number < length tiles → IsTable tiles table → IsTable tiles (set table slot (Some number))
table_set tiles table slot number within less is = λ other n at. elim (cases_eq other slot) [
  | inl same ↦
      let one : Some number ≡ Some n = sym (ap (λ (m : ℕ). get_or (set table slot (Some number)) m None) same ∙ get_or-set_same table slot (Some number) None within) ∙ at in
      let both : number ≡ n = cc in
      omega arith
  | inr differs ↦ is other n (sym (get_or-set_other table slot other (Some number) None differs) ∙ at)
]

pub table_none : (tiles : List TileRec) (n : ℕ) → IsTable tiles (replicate n no_number)
table_none tiles n = λ slot number at. absurd (let e : None ≡ Some number = sym (none_at n slot) ∙ at in cc)

-- the map that a table of such tiles shows
pub are_shown : (tiles : List TileRec) (table : List (Option ℕ)) → length table ≡ 16384 → IsTable tiles table → EachFits tiles → AreTiles (table_map tiles table)
are_shown tiles table long is fits = record {
  past = λ slot ge. ap (tile_of_number tiles) (get_or_past table slot no_number (omega (arith, long)));
  sizes = λ slot. each (get_or table slot None) (λ number at. fits number (is slot number at));
}
  where
    each : (o : Option ℕ) → ((number : ℕ) → o ≡ Some number → (0 < length (bytes_at tiles number)) × (length (bytes_at tiles number) < 16777216)) → IfSome (tile_of_number tiles o) (λ t. (0 < length t) × (length t < 16777216))
    each None so = tt
    each (Some number) so = so number refl
