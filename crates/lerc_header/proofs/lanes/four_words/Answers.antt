use Rattle.lerc_header.proofs.LaneWords.{lanes_are_words}
use Rattle.lerc_header.proofs.lanes.four_words.Goals as goal

pub returns : goal.returns
returns c = lanes_are_words c.args.bytes.now c.requires.room c.type_inv.bytes
