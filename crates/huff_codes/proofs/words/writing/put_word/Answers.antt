use Rattle.std.proofs.Common.{ℕ, ◌+◌, ◌-◌, List, take, length, ap, ◌∙◌, arith}
use borrow.Rule.Slice.PartMut.{put_mid}
use Rattle.byteorder.specs.Endian.{little_bytes}
use Rattle.byteorder.specs.Numbers.{length-bytes_low_first}
use Rattle.bit_stuff.proofs.Buffers.{front_written}
use Rattle.huff_codes.proofs.words.writing.put_word.Goals as goal

pub returns : goal.returns
returns c = record {
  front =
      let at = c.args.at in
      let out = c.args.out.now in
      ap (λ (ys : List ℕ). take (at + 4) (put_mid at (length out - at) out ys)) c.write_u32.ensures
      ∙ front_written out (little_bytes 4 c.args.word) _ at (length out - at) 4 (omega (arith, c.requires)) (length-bytes_low_first 0 4 c.args.word);
}
