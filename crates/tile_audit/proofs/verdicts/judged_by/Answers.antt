use Rattle.std.proofs.Common.{◌≡◌, false, true, inr}
use Rattle.lerc_header.specs.declared.fault.BlobReason.TheVariants.{BadVersion}
use Rattle.lerc_grammar.specs.declared.bands.BandReason.TheVariants.{Blob as OfBlob}
use Rattle.lerc_grammar.proofs.WholeBands.{one_whole_fault}
use Rattle.tile_audit.proofs.verdicts.judged_by.Goals as goal

pub returns : goal.returns
returns c =
    let f = c.args.fault in
    inr (
      c.requires.whole_numbers,
      (
        c.requires.key,
        (
          λ unread. (let same = one_whole_fault c.args.bytes.now f.place 6 f.reason (OfBlob BadVersion) c.requires.fault unread.1 in let bad : false ≡ true = c.if-is_of_version.ensures.1 same in cc),
          c.requires.fault,
        ),
      ),
    )
