-- How the fields of a layer stand for it.
use Rattle.std.specs.Prelude.{◌≡◌, ℤ, List}
use Rattle.raster_cells.specs.declared.kind.PixelType.{PixelType}
use Rattle.overview_tiles.specs.declared.layer.SumList.{SumList}
use Rattle.overview_tiles.specs.declared.layer.SumList.TheVariants.{Narrow, Wide}
use Rattle.overview_tiles.specs.declared.layer.Layer.TheInside.{Inside}
use Rattle.overview_tiles.specs.inside.Numbers.{Numbers}
use Rattle.overview_tiles.specs.inside.Reach.{reach_of}

abbrev pub listed : SumList → List ℤ
listed (Narrow sums) = sums.items
listed (Wide sums) = sums.items

abbrev pub seen_layer : Inside → Numbers
seen_layer a =
    record { kind = a.kind; sums = record { counts = a.counts.items; sums = listed a.sums } }

-- the sums have as many bits as the type's values ask for
abbrev pub HasWidth : PixelType → SumList → Type 0
HasWidth kind (Narrow sums) = reach_of kind ≡ 65536
HasWidth kind (Wide sums) = reach_of kind ≡ 4294967296

abbrev pub IsLayer : Inside → Type 0
IsLayer a = HasWidth a.kind a.sums
