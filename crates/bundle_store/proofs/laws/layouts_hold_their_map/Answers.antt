use Rattle.bundle_store.proofs.Layouts.{layout_bundle, layout_tiles}
use Rattle.bundle_store.proofs.laws.layouts_hold_their_map.Goals as goal

pub returns-clause-bundle : goal.returns-clause-bundle
returns-clause-bundle c = λ map are. layout_bundle map are

pub returns-clause-tiles : goal.returns-clause-tiles
returns-clause-tiles c = λ map are. layout_tiles map are
