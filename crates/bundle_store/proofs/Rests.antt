-- What a put and a build leave for the next call.
use Rattle.std.proofs.Common.{inr, ℕ, List, sym, ◌∙◌, ap, subst}
use Rattle.outside_io.specs.volume.Disk.{Disk, File, settled}
use Rattle.bundle_store.specs.Images.{HoldsClosed}
use Rattle.bundle_store.specs.Kept.{FrontBytes, Keeps}
use Rattle.bundle_store.specs.Layout.{layout}
use Rattle.bundle_store.specs.Session.{IsReadyToPut, SessionState}
use Rattle.bundle_store.specs.Tiles.{AreTiles, Opens, TileMap}
use Rattle.bundle_store.specs.inside.Parts.{IsAtRest}
use Rattle.bundle_store.proofs.Layouts.{layout_bundle}

-- what holds a bundle beside a closed journal is at rest
pub holds_rest : (b : List ℕ) (front : FrontBytes) (d : Disk) → Opens b → Keeps front b → HoldsClosed b d → IsAtRest front d
holds_rest b front d opens keeps holds = record {
  opens = subst Opens (sym (ap (λ (f : File). f.now) holds.bundle_is)) opens;
  keeps = subst (Keeps front) (sym (ap (λ (f : File). f.now) holds.bundle_is)) keeps;
  quiet = record { bundle = holds.bundle_is ∙ ap (λ (f : File). settled f.now) (sym holds.bundle_is); journal = holds.journal };
  closed = holds.closed;
}

pub ready_at_rest : (s : SessionState) (d : Disk) → IsAtRest s.front d → IsReadyToPut s d
ready_at_rest s d rest = record { serves = record { opens = rest.opens; keeps = rest.keeps }; quiet = rest.quiet; closed = rest.closed }

-- a build leaves a bundle that opens
pub opens_layout : (map : TileMap) → AreTiles map → Opens (layout map)
opens_layout map are = inr (layout_bundle map are).index
