-- The target, recovered and built.
use Rattle.std.proofs.Common.{◌≡◌, inl, inr, ℕ, ◌<◌, ◌⊎◌, List, [], length, sym, ap, subst, ◌∙◌, arith}
use Rattle.std.proofs.lemmas.Bool.{cases_eq}
use Rattle.std.proofs.lemmas.List.{nil_from_length}
use Rattle.outside_io.specs.declared.volume.VolFile.TheVariants.{Bundle, Journal}
use Rattle.outside_io.specs.volume.Disk.{Disk, IsImage}
use Rattle.outside_io.specs.volume.History.{During, History, IsPresent, contents, current}
use Rattle.outside_io.proofs.VolumeLemmas.Images.{present_of}
use Rattle.outside_io.proofs.VolumeLemmas.Moments.{during_end, during_join, during_map}
use Rattle.side_journal.specs.Says.{IsOpen}
use Rattle.bundle_store.specs.Images.{EachImage, EmptyOr, StandsFor}
use Rattle.bundle_store.specs.Recover.{EachStandsForOneOf, StandsForOneOf}
use Rattle.bundle_store.specs.Tiles.{TileMap, tiles}
use Rattle.bundle_store.proofs.Recovering.{tiles_empty}
use Rattle.bundle_store.proofs.Standing.{closed_map}
use Rattle.opened_bundle.specs.Files.{Files}
use Rattle.opened_bundle.specs.Left.{IsShut}
use Rattle.bundle_pack.specs.Opening.{OpensAs}
use Rattle.bundle_pack.specs.Packing.{EachKeptOr}
use Rattle.bundle_pack.specs.inside.Turns.{TargetImages}

kept_or : (after : TileMap) (old d : Disk) → EachStandsForOneOf old d → EachKeptOr after old d
kept_or after old d each = λ b j ib ij. inl (each b j ib ij)

-- an image of a build stands for no tiles, as the empty file did, or for all
built_or : (after : TileMap) (old mid d : Disk) → IsImage mid.bundle mid.bundle.now → IsImage mid.journal mid.journal.now → mid.bundle.now ≡ [] → ¬ IsOpen mid.journal.now → EachStandsForOneOf old mid
    → EachImage (EmptyOr after) d → EachKeptOr after old d
built_or after old mid d mb mj empty shut base each = λ b j ib ij. let is = each b j ib ij in pick b j is.map is.stands is.passes
  where
    pick : (b j : List ℕ) (map : TileMap) → StandsFor b j map → EmptyOr after map → StandsForOneOf old b j ⊎ StandsFor b j after
    pick b j map stands (inl none) =
        let o = base mid.bundle.now mid.journal.now mb mj in
        inl (record {
          bundle = o.bundle;
          journal = o.journal;
          bundle_is = o.bundle_is;
          journal_is = o.journal_is;
          same = λ m was.
              let at = o.same m was in
              let shown = closed_map mid.bundle.now mid.journal.now at.state m shut at.says at.shows in
              subst (StandsFor b j) (none ∙ sym (shown.1 ∙ ap tiles empty ∙ tiles_empty)) stands;
        })
    pick b j map stands (inr is) = inr (subst (StandsFor b j) is stands)

pub target_images : (target : Files) (after : TileMap) (old mid new : History) → IsPresent mid → OpensAs target (contents Bundle mid) → IsShut (current mid) → During (EachStandsForOneOf (current old)) old mid
    → (0 < length (contents Bundle mid) → During (λ d. d ≡ current mid) mid new) → During (λ d. contents Bundle mid ≡ [] → EachImage (EmptyOr after) d) mid new → TargetImages target after old new
target_images target after old mid new present opens shut first beside built = elim (cases_eq (length (contents Bundle mid)) 0) [
  | inl zero ↦
      let empty : contents Bundle mid ≡ [] = nil_from_length (contents Bundle mid) zero in
      let kept = during_map (EachStandsForOneOf (current old)) (EachKeptOr after (current old)) old mid (kept_or after (current old)) first in
      let base = during_end (EachStandsForOneOf (current old)) old mid first in
      let more = during_map (λ d. contents Bundle mid ≡ [] → EachImage (EmptyOr after) d) (EachKeptOr after (current old)) mid new
      (λ d f. built_or after (current old) (current mid) d (present_of Bundle mid present) (present_of Journal mid present) empty shut.closed base (f empty)) built in
      inr (subst (OpensAs target) empty opens, during_join (EachKeptOr after (current old)) old mid new kept more)
  | inr some ↦
      let base = during_end (EachStandsForOneOf (current old)) old mid first in
      inl (during_join (EachStandsForOneOf (current old)) old mid new first
      (during_map (λ d. d ≡ current mid) (EachStandsForOneOf (current old)) mid new (λ d e. subst (EachStandsForOneOf (current old)) (sym e) base) (beside (omega (arith, some)))))
]
