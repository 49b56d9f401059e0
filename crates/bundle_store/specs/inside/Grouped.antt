-- What the parts of a put of some tiles at once leave.
use Rattle.std.specs.Prelude.{◌≡◌, ℕ, ◌≤◌, List, [], ◌∷◌, length}
use Rattle.outside_io.specs.volume.Disk.{Disk, IsImage}
use Rattle.bundle_store.specs.declared.fault.StoreFault.{StoreFault}
use Rattle.bundle_store.specs.declared.fault.StoreFault.TheVariants.{Full}
use Rattle.bundle_store.specs.declared.tile_rec.TileRec.{TileRec}
use Rattle.bundle_store.specs.Build.{EachFits}
use Rattle.bundle_store.specs.GroupPuts.{NoRoom, with_entries}
use Rattle.side_journal.specs.Groups.{NewEntry}
use Rattle.side_journal.specs.Bodies.{IsGroup}
use Rattle.side_journal.specs.Says.{SaysBody}
use Rattle.side_journal.specs.declared.body.Body.{Body}
use Rattle.side_journal.specs.declared.body.Body.TheVariants.{Tile, Build, Group}
use Rattle.bundle_store.specs.LaidOver.{size_in, size_place}
use Rattle.bundle_store.specs.Tiles.{IsReadable}

-- tiles that can be put at once: some, 64 at most, each one that a bundle can hold
pub record AreForOnePut (us : List TileRec) : Type 0 where
  pub some : 1 ≤ length us
  pub most : length us ≤ 64
  pub fit : EachFits us

-- a bundle differs from another one under a header and some entries alone
pub record SameUnderAll (header : List ℕ) (es : List NewEntry) (old now : List ℕ) : Type 0 where
  pub size : length now ≡ length old
  pub over : with_entries header es now ≡ with_entries header es old

-- a crash leaves a bundle that differs from this one under the header and the entries alone
abbrev pub EachUnderAll : List ℕ → List NewEntry → List ℕ → Disk → Type 0
EachUnderAll header es bundle now = (c : List ℕ) → IsImage now.bundle c
    → SameUnderAll header es bundle c

-- the journal is as it was, and a crash leaves a bundle that differs under the header and the
-- entries alone
pub record KeepsUnderAll (header : List ℕ) (es : List NewEntry) (old now : Disk) : Type 0 where
  pub journal : now.journal ≡ old.journal
  pub bundle : (c : List ℕ) → IsImage now.bundle c → SameUnderAll header es old.bundle.now c

-- the body lays this header and these entries over the bundle
abbrev pub Lays : Body → List NewEntry → List ℕ → Type 0
Lays (Tile slot entry size header) es h = (es ≡ (slot, entry) ∷ []) × (h ≡ header)
Lays Build es h = ⊥
Lays (Group entries size header) es h = (es ≡ entries) × (h ≡ header)

-- the journal is of tiles, whose header and entries, laid over the bundle, leave a readable one
pub record AreUnderWay (bundle journal : List ℕ) (es : List NewEntry)
    (header : List ℕ) : Type 0 where
  pub body : Body
  pub says : SaysBody journal body
  pub lays : Lays body es header
  pub within : size_in body ≤ length bundle
  pub readable : IsReadable (with_entries header es bundle)

-- the body is of some tiles, in the second form, and they fit it
abbrev pub IsOfGroup : Body → Type 0
IsOfGroup (Tile slot entry size header) = ⊥
IsOfGroup Build = ⊥
IsOfGroup (Group entries size header) = IsGroup entries size header

-- the journal is of these entries and this header, and has such a length at this place
pub record SaysThese (journal : List ℕ) (es : List NewEntry) (header : List ℕ)
    (size place : ℕ) : Type 0 where
  pub body : Body
  pub says : SaysBody journal body
  pub lays : Lays body es header
  pub size_is : size_in body ≡ size
  pub place_is : size_place body ≡ place

-- the refusal is for want of room behind so many bytes
pub record IsFullOf (size : ℕ) (us : List TileRec) (fault : StoreFault) : Type 0 where
  pub len : ℕ
  pub is : fault ≡ Full len
  pub none : NoRoom size us len
