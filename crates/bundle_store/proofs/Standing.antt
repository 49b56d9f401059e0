-- What images stand for.
use Rattle.std.proofs.Common.{◌≡◌, inl, inr, refl, ℕ, List, ◌∷◌, ◌++◌, length, get_or, drop, sym, ◌∙◌, ap, subst, arith}
use Rattle.std.proofs.lemmas.Bool.{cases_eq}
use Rattle.std.proofs.lemmas.List.{length-drop}
use Rattle.outside_io.specs.volume.Disk.{Disk, File, IsImage, IsQuiet, IsSettled, settled}
use Rattle.outside_io.proofs.VolumeLemmas.Images.{only_image}
use Rattle.side_journal.specs.declared.body.Body.{Body}
use Rattle.side_journal.specs.declared.body.JournalState.{JournalState}
use Rattle.side_journal.specs.declared.body.JournalState.TheVariants.{Closed, Open, Bad}
use Rattle.side_journal.specs.Says.{IsOpen, IsWhole, Says, SaysBody}
use Rattle.side_journal.specs.Steps.{KeepsBody, KeepsClosed, SameBehindGate}
use Rattle.side_journal.proofs.Gates.{image_is, whole_long}
use Rattle.side_journal.proofs.Spells.{says_behind}
use Rattle.bundle_store.specs.inside.Parts.{KeepsFront}
use Rattle.bundle_store.specs.Images.{EachImage, IsSoundWith, Shows}
use Rattle.bundle_store.specs.Tiles.{IsBundle, IsReadable, TileMap, tiles}
use Rattle.bundle_store.proofs.Region.{front_bundle, front_tiles}

-- an image that is sound with one condition is so with a weaker one
pub weaker : (P Q : TileMap → Type 0) (d : Disk) → ((map : TileMap) → P map → Q map) → EachImage P d → EachImage Q d
weaker P Q d so each = λ b j ib ij. let is = each b j ib ij in record { map = is.map; stands = is.stands; passes = so is.map is.passes }

-- beside a journal that does not count, a bundle stands for its own tiles
pub closed_good : (Pass : TileMap → Type 0) (b j : List ℕ) → ¬ IsOpen j → IsReadable b → Pass (tiles b) → IsSoundWith Pass b j
closed_good Pass b j shut readable pass = record { map = tiles b; stands = record { state = Closed; says = shut; shows = (readable, refl) }; passes = pass }

pub open_good : (Pass : TileMap → Type 0) (b j : List ℕ) (body : Body) (map : TileMap) → IsOpen j → SaysBody j body → Shows (Open body) b map → Pass map → IsSoundWith Pass b j
open_good Pass b j body map opened says shows pass = record { map = map; stands = record { state = Open body; says = (opened, says); shows = shows }; passes = pass }

-- a journal that differs in its gate alone does not count, or says the same
pub gate_good : (Pass : TileMap → Type 0) (b j c : List ℕ) (body : Body) (map : TileMap) → IsWhole (length j) → SaysBody j body → SameBehindGate j c → IsReadable b → Pass (tiles b) → Shows (Open body) b map → Pass map → IsSoundWith Pass b c
gate_good Pass b j c body map whole says same readable own shows pass = elim (cases_eq (get_or c 0 0) 0) [
  | inl shut ↦ closed_good Pass b c (λ opened. opened.gate shut) readable own
  | inr gate ↦ open_good Pass b c body map (record { whole = subst IsWhole (sym same.size) whole; gate = gate }) (says_behind j c same.size same.body body says) shows pass
]

-- a record is being written behind a bundle
pub in_append : (b : List ℕ) (old d : Disk) → IsBundle b → old.bundle.now ≡ b → IsSettled old.journal → ¬ IsOpen old.journal.now → KeepsFront old d → EachImage (λ map. map ≡ tiles b) d
in_append b old d is now still shut keeps = λ c j ic ij.
    let begins = keeps.bundle c ic in
    let same : c ≡ b ++ begins.rest = begins.is ∙ ap (λ (l : List ℕ). l ++ begins.rest) now in
    let journal : j ≡ old.journal.now = only_image old.journal j still (subst (λ (f : File). IsImage f j) keeps.journal ij) in
    subst (λ (l : List ℕ). IsSoundWith (λ map. map ≡ tiles b) l j) (sym same)
    (closed_good (λ map. map ≡ tiles b) (b ++ begins.rest) j (subst (λ (l : List ℕ). ¬ IsOpen l) (sym journal) shut) (inr (front_bundle b begins.rest is)) (front_tiles b begins.rest is))

-- a closed journal is being written beside a readable bundle
pub in_closed : (b : List ℕ) (Pass : TileMap → Type 0) (old d : Disk) → IsReadable b → Pass (tiles b) → old.bundle ≡ settled b → KeepsClosed old d → EachImage Pass d
in_closed b Pass old d readable pass is keeps = λ c j ic ij.
    let same : c ≡ b = image_is d.bundle b c (keeps.bundle ∙ is) ic in
    subst (λ (l : List ℕ). IsSoundWith Pass l j) (sym same) (closed_good Pass b j (keeps.journal j ij) readable pass)

-- a gate is being written
pub in_gate : (b j : List ℕ) (body : Body) (map : TileMap) (Pass : TileMap → Type 0) (old d : Disk) → IsWhole (length j) → SaysBody j body → IsReadable b → Pass (tiles b) → Shows (Open body) b map → Pass map
    → old.bundle ≡ settled b → old.journal.now ≡ j → KeepsBody old d → EachImage Pass d
in_gate b j body map Pass old d whole says readable own shows pass is now keeps = λ c k ic ik.
    let same : c ≡ b = image_is d.bundle b c (keeps.bundle ∙ is) ic in
    subst (λ (l : List ℕ). IsSoundWith Pass l k) (sym same)
    (gate_good Pass b j k body map whole says (subst (λ (l : List ℕ). SameBehindGate l k) now (keeps.journal k ik)) readable own shows pass)

-- the gate of a journal set
pub length-gated : (gate : ℕ) (j : List ℕ) → IsWhole (length j) → length (gate ∷ drop 1 j) ≡ length j
length-gated gate j whole = omega (arith, length-drop 1 j, whole_long (length j) whole)

-- nothing is pending, and the journal does not count
pub still_good : (Pass : TileMap → Type 0) (d : Disk) → IsQuiet d → ¬ IsOpen d.journal.now → IsReadable d.bundle.now → Pass (tiles d.bundle.now) → EachImage Pass d
still_good Pass d quiet shut readable pass = λ c k ic ik.
    let bundle : c ≡ d.bundle.now = only_image d.bundle c quiet.bundle ic in
    let journal : k ≡ d.journal.now = only_image d.journal k quiet.journal ik in
    subst (λ (l : List ℕ). IsSoundWith Pass l k) (sym bundle) (closed_good Pass d.bundle.now k (subst (λ (l : List ℕ). ¬ IsOpen l) (sym journal) shut) readable pass)

-- beside a journal that does not count, an image that is sound stands for its bundle's own tiles
pub closed_map : (b j : List ℕ) (state : JournalState) (map : TileMap) → ¬ IsOpen j → Says j state → Shows state b map → IsReadable b × (map ≡ tiles b)
closed_map b j Closed map shut says shows = shows
closed_map b j (Open body) map shut says shows = absurd (shut says.0)
closed_map b j (Bad place found) map shut says shows = absurd shows
