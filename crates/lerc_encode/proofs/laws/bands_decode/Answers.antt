use Rattle.lerc_encode.proofs.Joining.{asked_all, bands_once, declare_each}
use Rattle.lerc_encode.proofs.laws.bands_decode.Goals as goal

pub returns-clause-bands : goal.returns-clause-bands
returns-clause-bands c = λ bands version step are allowed flat. bands_once bands version step are (asked_all bands version step are allowed flat)

pub returns-clause-declare : goal.returns-clause-declare
returns-clause-declare c = λ bands version step are allowed flat. declare_each bands version step (asked_all bands version step are allowed flat)
