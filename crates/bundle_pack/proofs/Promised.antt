-- What a run leaves, in the words of the tiles that its bundles stand for.
use Rattle.std.proofs.Common.{◌≡◌, ◌⊎◌, inl, inr, ℕ, ◌≤◌, List, [], length, Some, None, Result, Ok, Err, Bool, sym, ap, subst, ◌∙◌, arith}
use Rattle.std.specs.Prelude.{IfErr, IsTrue}
use Rattle.outside_io.specs.declared.volume.VolFile.TheVariants.{Bundle, Journal}
use Rattle.outside_io.specs.streams.Sink.{Holds}
use Rattle.outside_io.specs.volume.Disk.{Disk, IsImage}
use Rattle.outside_io.specs.volume.History.{During, History, contents, current}
use Rattle.outside_io.proofs.VolumeLemmas.Images.{only_image}
use Rattle.outside_io.proofs.VolumeLemmas.Moments.{during_map}
use Rattle.bundle_index.specs.Sizes.{slot_count}
use Rattle.bundle_store.specs.declared.fault.StoreFault.TheVariants.{Device, BadBundle, BadJournal, NoTile, Beyond, TileTooLarge, EmptyTile, Full, NotEmpty, OutOfMemory, Stopped}
use Rattle.bundle_store.specs.Images.{EachImage}
use Rattle.bundle_store.specs.Recover.{EachBundleMidway, EachStandsForOneOf, IsMidway}
use Rattle.bundle_store.specs.Starts.{CouldBe, EachIsSound, KeepsStart}
use Rattle.bundle_store.specs.Tiles.{TileMap, no_tiles}
use Rattle.bundle_store.proofs.Recovering.{tiles_empty}
use Rattle.bundle_store.proofs.Standing.{weaker}
use Rattle.bundle_store.proofs.Starting.{keeps_one, keeps_sound, one_could}
use Rattle.opened_bundle.specs.Files.{Files}
use Rattle.opened_bundle.specs.Left.{IsReady, IsShut}
use Rattle.program_ends.specs.Moves.{SinkMove}
use Rattle.program_ends.specs.declared.stop.Stop.{Stop}
use Rattle.program_ends.specs.declared.stop.Stop.TheVariants.{Usage, Source as SourceStop, Output, Volume, OutOfMemory as NoMemory, Refused}
use Rattle.program_ends.proofs.Ends as ends
use Rattle.bundle_pack.specs.Chosen.{chosen_bytes, most_bytes}
use Rattle.bundle_pack.specs.Files.{files_in}
use Rattle.bundle_pack.specs.Merged.{StandFor, merged}
use Rattle.bundle_pack.specs.Names.{End, packed_line, refusal_status, status_at}
use Rattle.bundle_pack.specs.Opening.{AreOpened, OpensAs}
use Rattle.bundle_pack.specs.Packing.{EachKeptOr, IsOfSound, OnUnpacked, PackSays, PacksMaps, TargetKeeps, merged_tiles}
use Rattle.bundle_pack.specs.Recovering.{AtMostRecovers}
use Rattle.bundle_pack.specs.Run.{EndsAs, EndsWith, KeepsBytes, KeepsOrPacks, PackedAll}
use Rattle.bundle_pack.specs.Sources.{Each, EachShut, RecoversAlone}
use Rattle.bundle_pack.specs.declared.fault.PackFault.{PackFault}
use Rattle.bundle_pack.specs.declared.fault.PackFault.TheVariants.{Source, Target, KeptTooMuch, OutOfMemory as NoRoom}
use Rattle.bundle_pack.specs.declared.packing.PackReport.{PackReport}
use Rattle.bundle_pack.specs.declared.refusal.Refusal.{Refusal}
use Rattle.bundle_pack.proofs.Ended.{own}
use Rattle.bundle_pack.proofs.Opened.{one_opened}
use Rattle.bundle_pack.proofs.Sound.{sound_merged, stands_left}
use Rattle.bundle_pack.proofs.Volumes.{each_map}

-- ---- at each moment

pub source_keeps : {V : Type 0} (told : V → Bool) (history : V → History) (old new : V) → RecoversAlone told history old new → IsTrue (told old) → EachIsSound (current (history old)) → KeepsStart (history old) (history new)
source_keeps told history old new kept tells sound = keeps_sound (history old) (history new) sound (kept.images tells)

-- no tiles are put, and none is being built: the bytes are those of the start
bytes_stay : (old new : History) → IsShut (current old) → During (EachBundleMidway (current old)) old new → KeepsBytes old new
bytes_stay old new shut during = during_map (EachBundleMidway (current old)) (λ d. (b : List ℕ) → IsImage d.bundle b → b ≡ contents Bundle old) old new (λ d each b ib. same b (each b ib)) during
  where
    same : (b : List ℕ) → IsImage (current old).bundle b ⊎ IsMidway (contents Bundle old) (contents Journal old) b → b ≡ contents Bundle old
    same b (inl image) = only_image (current old).bundle b shut.quiet.bundle image
    same b (inr (inl is)) = is
    same b (inr (inr (inl part))) = absurd (shut.closed part.applies.opened)
    same b (inr (inr (inr (opened, built)))) = absurd (shut.closed opened)

pub source_stays : {V : Type 0} (told : V → Bool) (history : V → History) (old new : V) → RecoversAlone told history old new → IsTrue (told old) → IsShut (current (history old)) → KeepsBytes (history old) (history new)
source_stays told history old new kept tells shut = bytes_stay (history old) (history new) shut (kept.bytes tells)

pub unpacked_stays : (old new : History) → IsShut (current old) → AtMostRecovers old new → KeepsBytes old new
unpacked_stays old new shut so = bytes_stay old new shut so.bytes

pub unpacked_keeps : (told : Bool) (old new : History) (start : TileMap) → IsReady told old start → AtMostRecovers old new → KeepsStart old new
unpacked_keeps told old new start ready so = keeps_sound old new ready.sound so.images

-- a status of memory, or of a refusal, is of a target that was not packed
pub target_unpacked : (answer : Result PackReport PackFault) (end : End) (status : ℕ) (P : Type 0) → EndsAs answer end → status ≡ status_at end → (status ≡ 6) ⊎ (status ≡ 7) → OnUnpacked answer P → P
target_unpacked answer end status P so is late on = go answer end so (elim late [ inl six ↦ inl (sym is ∙ six) | inr seven ↦ inr (sym is ∙ seven) ]) on
  where
    never : {A : Type 0} → ◌≡◌ {A = ℕ} 5 6 ⊎ ◌≡◌ {A = ℕ} 5 7 → A
    never (inl e) = absurd (omega (arith, e))
    never (inr e) = absurd (omega (arith, e))

    go : (answer : Result PackReport PackFault) (end : End) → EndsAs answer end → (status_at end ≡ 6) ⊎ (status_at end ≡ 7) → OnUnpacked answer P → P
    go (Ok report) (Ok u) so (inl e) on = absurd (omega (arith, e))
    go (Ok report) (Ok u) so (inr e) on = absurd (omega (arith, e))
    go (Ok report) (Err Output) so (inl e) on = absurd (omega (arith, e))
    go (Ok report) (Err Output) so (inr e) on = absurd (omega (arith, e))
    go (Ok report) (Err Usage) so e on = absurd so
    go (Ok report) (Err SourceStop) so e on = absurd so
    go (Ok report) (Err Volume) so e on = absurd so
    go (Ok report) (Err NoMemory) so e on = absurd so
    go (Ok report) (Err (Refused r)) so e on = absurd so
    go (Err fault) (Ok u) so e on = absurd so
    go (Err (Source at slot fault)) (Err stop) so e on = on
    go (Err (KeptTooMuch len)) (Err stop) so e on = on
    go (Err NoRoom) (Err stop) so e on = on
    go (Err (Target Device)) (Err stop) so e on = never (subst (λ (s : Stop Refusal). (status_at (Err s) ≡ 6) ⊎ (status_at (Err s) ≡ 7)) so e)
    go (Err (Target (BadBundle place found))) (Err stop) so e on = on
    go (Err (Target (BadJournal place found))) (Err stop) so e on = on
    go (Err (Target NoTile)) (Err stop) so e on = on
    go (Err (Target (Beyond entry got))) (Err stop) so e on = on
    go (Err (Target (TileTooLarge place len))) (Err stop) so e on = on
    go (Err (Target (EmptyTile place))) (Err stop) so e on = on
    go (Err (Target (Full len))) (Err stop) so e on = on
    go (Err (Target (NotEmpty len))) (Err stop) so e on = on
    go (Err (Target OutOfMemory)) (Err stop) so e on = on
    go (Err (Target Stopped)) (Err stop) so e on = on

pub target_keeps : (sources : List Files) (told : Bool) (old new : History) (maps : List TileMap) (start : TileMap) → StandFor sources maps → IsReady told old start → TargetKeeps sources (files_in old) old new → KeepsOrPacks maps start old new
target_keeps sources told old new maps start stand ready (inl kept) =
    during_map (EachStandsForOneOf (current old)) (EachImage (λ map. CouldBe (current old) map ⊎ ((start ≡ no_tiles) × (map ≡ merged maps)))) old new
    (λ d each. weaker (CouldBe (current old)) (λ map. CouldBe (current old) map ⊎ ((start ≡ no_tiles) × (map ≡ merged maps))) d (λ map could. inl could) (keeps_one (current old) d ready.sound each)) kept
target_keeps sources told old new maps start stand ready (inr (bundles, (read, (empty, kept)))) =
    let none : start ≡ no_tiles = (stands_left (contents Bundle old) (contents Journal old) start empty.found [] ready.stands empty.leaves).1 ∙ tiles_empty in
    let all : merged_tiles bundles ≡ merged maps = sound_merged sources bundles maps read.taken.opened stand in
    during_map (EachKeptOr (merged_tiles bundles) (current old)) (EachImage (λ map. CouldBe (current old) map ⊎ ((start ≡ no_tiles) × (map ≡ merged maps)))) old new
    (λ d each b j ib ij. elim (each b j ib ij) [
      | inl one ↦ (let is = one_could (current old) b j ready.sound one in record { map = is.map; stands = is.stands; passes = inl is.passes })
      | inr stands ↦ record { map = merged_tiles bundles; stands = stands; passes = inr (none, all) }
    ]) kept

-- ---- once packed

pub packed_all : (answer : Result PackReport PackFault) (end : End) (status : ℕ) (maps : List TileMap) (d : Disk) (out err : SinkMove) → EndsAs answer end → status ≡ status_at end → status ≡ 0 → PacksMaps maps answer d → EndsWith answer status out err → PackedAll maps d out
packed_all (Ok report) end status maps d out err so is zero (holds, (count, size)) with_all =
    (holds, subst (λ (r : PackReport). Holds out.held.old out.held.new (packed_line r)) (λ i. record { tiles = count i; length = size i }) with_all.output)
packed_all (Err fault) end status maps d out err so is zero packs with_all = absurd (never end so (sym is ∙ zero))
  where
    never : (end : End) → EndsAs (Err fault) end → status_at end ≡ 0 → ⊥
    never end so zero = let here : EndsAs (Err fault) (Ok tt) = subst (EndsAs (Err fault)) (ends.ok_at refusal_status own end zero) so in here

-- and the sources are shut
pub packed_shut : {V : Type 0} (told : V → Bool) (history : V → History) (answer : Result PackReport PackFault) (end : End) (status : ℕ) (old new : List V) → EndsAs answer end → status ≡ status_at end → status ≡ 0 → EachShut told history answer old new
    → Each (λ i v w. IsTrue (told v) → IsShut (current (history w))) old new
packed_shut told history (Ok report) end status old new so is zero shut = each_map _ _ old new (λ i v w less one tells. one tt tells) shut
packed_shut told history (Err fault) end status old new so is zero shut = absurd (never end so (sym is ∙ zero))
  where
    never : (end : End) → EndsAs (Err fault) end → status_at end ≡ 0 → ⊥
    never end so zero = let here : EndsAs (Err fault) (Ok tt) = subst (EndsAs (Err fault)) (ends.ok_at refusal_status own end zero) so in here

-- ---- completeness

-- Sound bundles of few tiles are packed into a sound target that is empty, unless an object fails
-- or memory is refused.
pub complete : (sources : List Files) (target : Files) (answer : Result PackReport PackFault) (end : End) (status : ℕ) → EndsAs answer end → status ≡ status_at end → PackSays sources target answer → IfErr answer (λ f. IsOfSound f)
    → ((bundles : List (List ℕ)) → AreOpened sources bundles → chosen_bytes bundles slot_count ≤ most_bytes) → OpensAs target [] → (status ≡ 4 → ⊥) → (status ≡ 5 → ⊥) → (status ≡ 0) ⊎ (status ≡ 6)
complete sources target answer end status so is says sound few empty four five = go answer end so is says sound
  where
    go : (answer : Result PackReport PackFault) (end : End) → EndsAs answer end → status ≡ status_at end → PackSays sources target answer → IfErr answer (λ f. IsOfSound f) → (status ≡ 0) ⊎ (status ≡ 6)
    go (Ok report) (Ok u) so is says sound = inl is
    go (Ok report) (Err Output) so is says sound = absurd (four is)
    go (Ok report) (Err Usage) so is says sound = absurd so
    go (Ok report) (Err SourceStop) so is says sound = absurd so
    go (Ok report) (Err Volume) so is says sound = absurd so
    go (Ok report) (Err NoMemory) so is says sound = absurd so
    go (Ok report) (Err (Refused r)) so is says sound = absurd so
    go (Err fault) (Ok u) so is says sound = absurd so
    go (Err NoRoom) (Err stop) so is says sound = inr (is ∙ ap (λ (s : Stop Refusal). status_at (Err s)) so)
    go (Err (KeptTooMuch len)) (Err stop) so is (bundles, (opened, (sum, more))) sound = absurd (let le = few bundles opened in omega (arith, le, sum, more))
    go (Err (Source at None Device)) (Err stop) so is says sound = absurd (five (is ∙ ap (λ (s : Stop Refusal). status_at (Err s)) so))
    go (Err (Source at None (BadBundle place found))) (Err stop) so is says sound = absurd sound
    go (Err (Source at None (BadJournal place found))) (Err stop) so is says sound = absurd sound
    go (Err (Source at None NoTile)) (Err stop) so is says sound = absurd sound
    go (Err (Source at None (Beyond entry got))) (Err stop) so is says sound = absurd sound
    go (Err (Source at None (TileTooLarge place len))) (Err stop) so is says sound = absurd sound
    go (Err (Source at None (EmptyTile place))) (Err stop) so is says sound = absurd sound
    go (Err (Source at None (Full len))) (Err stop) so is says sound = absurd sound
    go (Err (Source at None (NotEmpty len))) (Err stop) so is says sound = absurd sound
    go (Err (Source at None OutOfMemory)) (Err stop) so is says sound = absurd sound
    go (Err (Source at None Stopped)) (Err stop) so is says sound = absurd sound
    go (Err (Source at (Some slot) fault)) (Err stop) so is says sound = absurd sound
    go (Err (Target Device)) (Err stop) so is says sound = absurd (five (is ∙ ap (λ (s : Stop Refusal). status_at (Err s)) so))
    go (Err (Target (NotEmpty len))) (Err stop) so is (read, (left, (opens, (sum, some)))) sound =
        let same : left ≡ [] = one_opened target left [] opens empty in
        let none : length left ≡ 0 = ap (λ (b : List ℕ). length b) same in
        absurd (omega (arith, sum, some, none))
    go (Err (Target (BadBundle place found))) (Err stop) so is says sound = absurd sound
    go (Err (Target (BadJournal place found))) (Err stop) so is says sound = absurd sound
    go (Err (Target NoTile)) (Err stop) so is says sound = absurd sound
    go (Err (Target (Beyond entry got))) (Err stop) so is says sound = absurd sound
    go (Err (Target (TileTooLarge place len))) (Err stop) so is says sound = absurd sound
    go (Err (Target (EmptyTile place))) (Err stop) so is says sound = absurd sound
    go (Err (Target (Full len))) (Err stop) so is says sound = absurd sound
    go (Err (Target OutOfMemory)) (Err stop) so is says sound = absurd sound
    go (Err (Target Stopped)) (Err stop) so is says sound = absurd sound
