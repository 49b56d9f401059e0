use Rattle.std.proofs.Common.{◌≡◌, ◌+◌, ◌-◌, ◌++◌, ◌∷◌, ℕ, length, take, drop, ap, ◌∙◌, arith}
use Rattle.std.specs.Prelude.{set}
use mir.Syntax.{w64}
use mir.Val.{of_z, to_z}
use Rattle.raster_cells.specs.declared.kind.PixelType.{PixelType}
use Rattle.raster_cells.specs.PixelType.{bytes_of, value_bytes}
use Rattle.micro_block.specs.ChosenBlock.{narrowest, narrow_type, narrow_code, offset_bytes, tag_byte}
use Rattle.micro_block.proofs.Range.{reread}
use Rattle.micro_block.proofs.WriteSteps.{front_written}
use Rattle.micro_block.proofs.writing.write_offset.Goals as goal

pub returns-clause-bytes : goal.returns-clause-bytes
unfolding offset_bytes
returns-clause-bytes c =
    let kind = c.args.kind in
    let least = c.args.least in
    let old = c.args.out.now in
    let e : to_z w64 (of_z w64 least) ≡ least = reread kind least c.requires.fits in
    let found : c.narrowest_type-code.result ≡ narrowest kind least = c.narrowest_type-code.ensures.named ∙ ap (narrowest kind) e in
    let narrow : c.narrowest_type-code.result.1 ≡ narrow_type kind least = ap (λ (p : ℕ × PixelType). p.1) found in
    let tagged : c.tag.result ≡ tag_byte c.args.col c.args.form (narrow_code kind least) = c.tag.ensures ∙ ap (λ (p : ℕ × PixelType). tag_byte c.args.col c.args.form p.0) found in
    let behind = take (length (set old 0 c.tag.result) - 1) (drop 1 (set old 0 c.tag.result)) in
    front_written c.tag.result (offset_bytes kind least) old c.write_value.new.out (bytes_of (narrow_type kind least)) (omega (arith, c.requires.room))
    (c.write_value.ensures.bytes ∙ (λ i. value_bytes (narrow i) (e i) ++ drop (bytes_of (narrow i)) behind))
    ∙ ap (λ (t : ℕ). t ∷ (offset_bytes kind least ++ drop (1 + bytes_of (narrow_type kind least)) old)) tagged
