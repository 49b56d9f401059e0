-- What images stand for while tiles are put at once.
use Rattle.std.proofs.Common.{◌≡◌, inr, refl, ℕ, suc, ◌≤◌, List, [], ◌∷◌, length, drop, sym, ◌∙◌, ap, subst, arith}
use Rattle.outside_io.specs.volume.Disk.{Disk, settled}
use Rattle.side_journal.specs.Bodies.{IsGroup, IsWritten, body_bytes}
use Rattle.side_journal.specs.Groups.{NewEntry}
use Rattle.side_journal.specs.declared.body.Body.{Body}
use Rattle.side_journal.specs.declared.body.Body.TheVariants.{Tile, Build, Group}
use Rattle.side_journal.specs.declared.body.JournalState.TheVariants.{Open}
use Rattle.side_journal.specs.Says.{IsOpen, IsWhole, SaysBody}
use Rattle.side_journal.specs.Steps.{KeepsBody}
use Rattle.std.proofs.lemmas.List.{length-drop}
use Rattle.side_journal.proofs.Gates.{image_is, whole_long}
use Rattle.side_journal.proofs.Spells.{length-body_bytes, says_behind, says_body}
use Rattle.bundle_store.specs.GroupPuts.{AreSlots, with_entries}
use Rattle.bundle_store.specs.Images.{EachImage, IsSoundWith, Shows}
use Rattle.bundle_store.specs.Tiles.{IsReadable, TileMap, tiles}
use Rattle.bundle_store.specs.inside.Grouped.{AreUnderWay, IsOfGroup, KeepsUnderAll, Lays}
use Rattle.bundle_store.specs.LaidOver.{IsOfTiles, entries_in, header_in, size_in, with_body}
use Rattle.bundle_store.proofs.Standing.{in_gate, open_good}
use Rattle.bundle_store.proofs.Overlays.{all_twice, length-with_entries}

-- a body that lays these shows the tiles of the bundle with them laid over, in either form
pub shows_laid : (b : List ℕ) (body : Body) (es : List NewEntry) (h : List ℕ) → Lays body es h → size_in body ≤ length b → IsReadable (with_entries h es b) → Shows (Open body) b (tiles (with_entries h es b))
shows_laid b (Tile slot entry size header) es h lays within readable =
    let same : with_entries h es b ≡ with_entries header ((slot, entry) ∷ []) b = λ i. with_entries (lays.1 i) (lays.0 i) b in
    (within, subst IsReadable same readable, ap tiles same)
shows_laid b Build es h lays within readable = absurd lays
shows_laid b (Group entries size header) es h lays within readable =
    let same : with_entries h es b ≡ with_entries header entries b = λ i. with_entries (lays.1 i) (lays.0 i) b in
    (within, subst IsReadable same readable, ap tiles same)

-- and the other way
pub shows_these : (b : List ℕ) (body : Body) (es : List NewEntry) (h : List ℕ) (map : TileMap) → Lays body es h → Shows (Open body) b map
    → (size_in body ≤ length b) × IsReadable (with_entries h es b) × (map ≡ tiles (with_entries h es b))
shows_these b (Tile slot entry size header) es h map lays shows =
    let same : with_entries header ((slot, entry) ∷ []) b ≡ with_entries h es b = λ i. with_entries (sym lays.1 i) (sym lays.0 i) b in
    (shows.0, subst IsReadable same shows.1, shows.2 ∙ ap tiles same)
shows_these b Build es h map lays shows = absurd lays
shows_these b (Group entries size header) es h map lays shows =
    let same : with_entries header entries b ≡ with_entries h es b = λ i. with_entries (sym lays.1 i) (sym lays.0 i) b in
    (shows.0, subst IsReadable same shows.1, shows.2 ∙ ap tiles same)

-- what a body of tiles lays over a bundle
pub lays_body : (b : List ℕ) (body : Body) (es : List NewEntry) (h : List ℕ) → Lays body es h → with_entries h es b ≡ with_body body b
lays_body b (Tile slot entry size header) es h lays = λ i. with_entries (lays.1 i) (lays.0 i) b
lays_body b Build es h lays = absurd lays
lays_body b (Group entries size header) es h lays = λ i. with_entries (lays.1 i) (lays.0 i) b

pub lays_tiles : (body : Body) (es : List NewEntry) (h : List ℕ) → Lays body es h → IsOfTiles body
lays_tiles (Tile slot entry size header) es h lays = tt
lays_tiles Build es h lays = absurd lays
lays_tiles (Group entries size header) es h lays = tt

-- a header and entries are being written beside the open journal that has them
pub in_all_over : (b j : List ℕ) (es : List NewEntry) (h : List ℕ) (old d : Disk) → IsOpen j → AreUnderWay b j es h → old.bundle.now ≡ b → old.journal ≡ settled j → KeepsUnderAll h es old d
    → EachImage (λ map. map ≡ tiles (with_entries h es b)) d
in_all_over b j es h old d opened way now journal keeps = λ c k ic ik.
    let same : k ≡ j = image_is d.journal j k (keeps.journal ∙ journal) ik in
    let under = keeps.bundle c ic in
    let over : with_entries h es c ≡ with_entries h es b = under.over ∙ ap (with_entries h es) now in
    let long : length c ≡ length b = under.size ∙ ap length now in
    subst (λ (l : List ℕ). IsSoundWith (λ map. map ≡ tiles (with_entries h es b)) c l) (sym same)
    (open_good (λ map. map ≡ tiles (with_entries h es b)) c j way.body (tiles (with_entries h es c)) opened way.says
    (shows_laid c way.body es h way.lays (subst (λ (n : ℕ). size_in way.body ≤ n) (sym long) way.within) (subst IsReadable (sym over) way.readable)) (ap tiles over))

-- the gate is being opened: the tiles of before, or all that are put
pub in_group_opening : (b j : List ℕ) (es : List NewEntry) (h : List ℕ) (Pass : TileMap → Type 0) (old d : Disk) → IsWhole (length j) → AreUnderWay b j es h → IsReadable b → Pass (tiles b) → Pass (tiles (with_entries h es b))
    → old.bundle ≡ settled b → old.journal.now ≡ j → KeepsBody old d → EachImage Pass d
in_group_opening b j es h Pass old d whole way readable before after is now keeps =
    in_gate b j way.body (tiles (with_entries h es b)) Pass old d whole way.says readable before (shows_laid b way.body es h way.lays way.within way.readable) after is now keeps

-- the gate is being closed over the bundle with all laid over: all that are put, and nothing between
pub in_group_closing : (b j : List ℕ) (es : List NewEntry) (h : List ℕ) (old d : Disk) → length h ≡ 64 → AreSlots es → 131136 ≤ length b → IsWhole (length j) → AreUnderWay b j es h
    → old.bundle ≡ settled (with_entries h es b) → old.journal.now ≡ j → KeepsBody old d → EachImage (λ map. map ≡ tiles (with_entries h es b)) d
in_group_closing b j es h old d size are long whole way is now keeps =
    let over : List ℕ = with_entries h es b in
    let twice : with_entries h es over ≡ over = all_twice h es size are b long in
    let within : size_in way.body ≤ length over = subst (λ (n : ℕ). size_in way.body ≤ n) (sym (length-with_entries h es size are b long)) way.within in
    in_gate over j way.body (tiles (with_entries h es over)) (λ map. map ≡ tiles over) old d whole way.says way.readable refl
    (shows_laid over way.body es h way.lays within (subst IsReadable (sym twice) way.readable)) (ap tiles twice) is now keeps

-- what is under way beside a journal is so beside the same journal with another gate
pub ways_gated : (b c j k : List ℕ) (gate : ℕ) (es : List NewEntry) (h : List ℕ) → IsWhole (length j) → c ≡ b → k ≡ gate ∷ drop 1 j → AreUnderWay b j es h → AreUnderWay c k es h
ways_gated b c j k gate es h whole same is way =
    let size : length (gate ∷ drop 1 j) ≡ length j = omega (arith, length-drop 1 j, whole_long (length j) whole) in
    let says : SaysBody (gate ∷ drop 1 j) way.body = says_behind j (gate ∷ drop 1 j) size refl way.body way.says in
    record {
      body = way.body;
      says = subst (λ (l : List ℕ). SaysBody l way.body) (sym is) says;
      lays = way.lays;
      within = subst (λ (l : List ℕ). size_in way.body ≤ length l) (sym same) way.within;
      readable = subst (λ (l : List ℕ). IsReadable (with_entries h es l)) (sym same) way.readable;
    }

pub ways_at : (b c j k : List ℕ) (es : List NewEntry) (h : List ℕ) → c ≡ b → k ≡ j → AreUnderWay b j es h → AreUnderWay c k es h
ways_at b c j k es h same is way = record {
  body = way.body;
  says = subst (λ (l : List ℕ). SaysBody l way.body) (sym is) way.says;
  lays = way.lays;
  within = subst (λ (l : List ℕ). size_in way.body ≤ length l) (sym same) way.within;
  readable = subst (λ (l : List ℕ). IsReadable (with_entries h es l)) (sym same) way.readable;
}

-- a body of tiles, written behind a closed gate
pub ways_written : (b : List ℕ) (es : List NewEntry) (n : ℕ) (h : List ℕ) → IsGroup es n h → 131136 ≤ n → n ≤ length b → IsReadable (with_entries h es b) → AreUnderWay b (0 ∷ body_bytes (Group es n h)) es h
ways_written b es n h is least within readable = record { body = Group es n h; says = says_body 0 (Group es n h) is least; lays = (refl, refl); within = within; readable = readable }

pub written_whole : (es : List NewEntry) (n : ℕ) (h : List ℕ) → IsGroup es n h → IsWhole (length (0 ∷ body_bytes (Group es n h)))
written_whole es n h is = inr (ap suc (length-body_bytes (Group es n h) is))

pub body_whole : (body : Body) → IsOfGroup body → IsWhole (length (0 ∷ body_bytes body))
body_whole (Tile slot entry size header) is = absurd is
body_whole Build is = absurd is
body_whole (Group es n h) is = written_whole es n h is

pub body_way : (body : Body) (b j : List ℕ) → IsOfGroup body → 131136 ≤ size_in body → size_in body ≤ length b → j ≡ 0 ∷ body_bytes body → IsReadable (with_body body b) → AreUnderWay b j (entries_in body) (header_in body)
body_way (Tile slot entry size header) b j is least within holds readable = absurd is
body_way Build b j is least within holds readable = absurd is
body_way (Group es n h) b j is least within holds readable = subst (λ (l : List ℕ). AreUnderWay b l es h) (sym holds) (ways_written b es n h is least within readable)

pub body_written : (body : Body) → IsOfGroup body → IsWritten body
body_written (Tile slot entry size header) is = absurd is
body_written Build is = absurd is
body_written (Group es n h) is = is
