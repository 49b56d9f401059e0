use Rattle.bit_stuff.proofs.StuffedLaws.{stuffed_bytes_only}
use Rattle.bit_stuff.proofs.laws.clear_bytes_are_written_bytes.Goals as goal

pub returns : goal.returns
returns c = λ bytes values width byte s clear. stuffed_bytes_only bytes width values byte s clear
