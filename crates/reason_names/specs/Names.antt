-- The name of each reason for which a blob or a grid is refused.
use Rattle.std.specs.Prelude.{ℕ, List, codes}
use Rattle.raster_grids.specs.declared.reading.GridReason.{GridReason}
use Rattle.raster_grids.specs.declared.reading.GridReason.TheVariants.{Truncated as GridTruncated, BadMagic, BadType as GridBadType, BadSize, TooLarge as GridTooLarge, BadMark}
use Rattle.lerc_header.specs.declared.fault.BlobReason.{BlobReason}
use Rattle.lerc_header.specs.declared.fault.BlobReason.TheVariants.{Truncated, BadKey, BadVersion, BadRows, BadCols, BadDepth, TooLarge, BadCount, BadBlockSize, BadBlobSize, FloatPixels, BadType, BadError, BadRange, BadChecksum, BadMaskLength, BadRun, BadMaskCount, MaskMissing, BadSweep, BadMode, BadBlockTag, BadOffsetCode, BadListHead, BadListCount, BadTable, BadIndex, BadCodeTable, NoCode, PastEnd, Leftover}

abbrev pub blob_name_of : BlobReason → List ℕ
blob_name_of Truncated = codes "Truncated"
blob_name_of BadKey = codes "BadKey"
blob_name_of BadVersion = codes "BadVersion"
blob_name_of BadRows = codes "BadRows"
blob_name_of BadCols = codes "BadCols"
blob_name_of BadDepth = codes "BadDepth"
blob_name_of TooLarge = codes "TooLarge"
blob_name_of BadCount = codes "BadCount"
blob_name_of BadBlockSize = codes "BadBlockSize"
blob_name_of BadBlobSize = codes "BadBlobSize"
blob_name_of FloatPixels = codes "FloatPixels"
blob_name_of BadType = codes "BadType"
blob_name_of BadError = codes "BadError"
blob_name_of BadRange = codes "BadRange"
blob_name_of (BadChecksum stored computed) = codes "BadChecksum"
blob_name_of BadMaskLength = codes "BadMaskLength"
blob_name_of BadRun = codes "BadRun"
blob_name_of (BadMaskCount header counted) = codes "BadMaskCount"
blob_name_of MaskMissing = codes "MaskMissing"
blob_name_of BadSweep = codes "BadSweep"
blob_name_of BadMode = codes "BadMode"
blob_name_of BadBlockTag = codes "BadBlockTag"
blob_name_of BadOffsetCode = codes "BadOffsetCode"
blob_name_of BadListHead = codes "BadListHead"
blob_name_of BadListCount = codes "BadListCount"
blob_name_of BadTable = codes "BadTable"
blob_name_of BadIndex = codes "BadIndex"
blob_name_of BadCodeTable = codes "BadCodeTable"
blob_name_of NoCode = codes "NoCode"
blob_name_of PastEnd = codes "PastEnd"
blob_name_of Leftover = codes "Leftover"

abbrev pub grid_name_of : GridReason → List ℕ
grid_name_of GridTruncated = codes "Truncated"
grid_name_of BadMagic = codes "BadMagic"
grid_name_of GridBadType = codes "BadType"
grid_name_of BadSize = codes "BadSize"
grid_name_of GridTooLarge = codes "TooLarge"
grid_name_of BadMark = codes "BadMark"
