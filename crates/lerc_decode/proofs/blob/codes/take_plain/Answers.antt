use Rattle.std.proofs.Common.{◌≡◌, ◌*◌, ◌≤◌, refl, sym, subst}
use Rattle.raster_values.specs.Raster.{Pixels, valid_count}
use Rattle.lerc_header.specs.declared.header.Header.{Header}
use Rattle.raster_values.specs.Flat.{marks_of}
use Rattle.lerc_grammar.specs.Mask.{count_of}
use Rattle.lerc_decode.specs.inside.Body.{HasHeadShape}
use Rattle.lerc_decode.proofs.Filling.{keeps, marked_count}
use Rattle.lerc_decode.proofs.blob.codes.take_plain.Goals as goal

-- as many symbols as the header says
all_values : (h : Header) (r : Pixels) → HasHeadShape h r → count_of (marks_of r) ≡ h.valid → valid_count r * r.depth ≡ h.valid * h.depth
all_values h r shape e =
    let valid = marked_count r r h.valid (record { kind = refl; rows = refl; cols = refl; depth = refl; marks = refl }) e in
    λ i. valid i * sym shape.depth i

pub unplain_from-requires-clause-kind : goal.unplain_from-requires-clause-kind
unplain_from-requires-clause-kind g c = subst Rattle.delta_mode.specs.Symbols.IsByteType c.requires.coded.marked.shaped.shape.kind c.requires.coded.byte

pub unplain_from-requires-clause-count : goal.unplain_from-requires-clause-count
unplain_from-requires-clause-count g c =
    let h = c.args.header.now in
    let r = g.T.Target.pixels c.args.raster.now in
    subst (λ n. n ≤ g.S.SymbolSource.left c.args.source.now) (sym (all_values h r c.requires.coded.marked.shaped.shape c.requires.coded.marked.valid)) c.requires.count

pub returns-clause-frame : goal.returns-clause-frame
returns-clause-frame g c = record {
  raster = c.unplain_from.ensures.frame.raster;
  marks = keeps _ _ c.requires.coded.marked.shaped.raster c.unplain_from.ensures.frame.raster c.unplain_from.ensures.frame.same;
  kept = c.unplain_from.ensures.frame.kept;
}
