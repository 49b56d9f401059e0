-- What a decoder of bands answers, as that of a source.
use Rattle.lerc_decode.specs.declared.streams.bands.BandsStop.{BandsStop}
use Rattle.lerc_decode.specs.declared.streams.bands.BandsStop.TheVariants.{Fault, OutOfMemory}
use Rattle.lerc_decode.specs.declared.streams.bands_source.BandsFromFault.{BandsFromFault}
use Rattle.lerc_decode.specs.declared.streams.bands_source.BandsFromFault.TheVariants.{Fault as FaultOf}
use Rattle.lerc_decode.specs.declared.streams.bands_source.BandsFromFault.TheVariants.{OutOfMemory as NoMemoryOf}

abbrev pub from_stop : BandsStop → BandsFromFault
from_stop (Fault f) = FaultOf f
from_stop OutOfMemory = NoMemoryOf
