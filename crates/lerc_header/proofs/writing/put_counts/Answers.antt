use Rattle.std.proofs.Common.{◌++◌, ◌∙◌, subst}
use Rattle.byteorder.specs.Endian.{little_bytes}
use Rattle.raster_cells.specs.PixelType.{code_of}
use Rattle.lerc_header.specs.inside.Laid.{AreLaid}
use Rattle.lerc_header.proofs.LaidLemmas.{laid_join}
use Rattle.lerc_header.proofs.writing.put_counts.Goals as goal

pub returns-clause-laid : goal.returns-clause-laid
returns-clause-laid c =
    let h = c.args.header.now in
    let kind = subst (λ n. AreLaid c.put_number-place-3.new.out c.put_number-place-3.result c.put_number.result (little_bytes 4 n) c.put_number.new.out) (c.from.ensures ∙ c.code.ensures) c.put_number.ensures.laid in
    laid_join _ _ _ _ (little_bytes 4 h.valid) _ (little_bytes 4 h.side ++ (little_bytes 4 h.size ++ little_bytes 4 (code_of h.kind))) _ c.put_number-place.ensures.laid
    (laid_join _ _ _ _ (little_bytes 4 h.side) _ (little_bytes 4 h.size ++ little_bytes 4 (code_of h.kind)) _ c.put_number-place-2.ensures.laid
    (laid_join _ _ _ _ (little_bytes 4 h.size) _ (little_bytes 4 (code_of h.kind)) _ c.put_number-place-3.ensures.laid kind))
