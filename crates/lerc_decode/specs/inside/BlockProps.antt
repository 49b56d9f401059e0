-- What holds of a header and of the maxima of its depths holds in one way: for types that keep that
-- it does.
use Rattle.std.proofs.Props.{props}
use Rattle.lerc_header.specs.declared.header.Header.{Header}
use Rattle.lerc_decode.specs.declared.blob.maxima.Maxima.{Maxima}
use Rattle.lerc_decode.specs.declared.blob.maxima.Maxima.TheVariants.{One, Listed}
use Rattle.lerc_decode.specs.inside.Blocks.{HasToppedBlocks}
use Rattle.lerc_decode.specs.inside.Maxima.{AreMaxima}

AreMaxima-prop : (h : Header) (maxima : Maxima) → IsProp (AreMaxima h maxima)
AreMaxima-prop h One = hlevel props
AreMaxima-prop h (Listed list) = hlevel props

pub HasToppedBlocks-prop : (h : Header) (maxima : Maxima) → IsProp (HasToppedBlocks h maxima)
HasToppedBlocks-prop h maxima = hlevel (props, AreMaxima-prop)
