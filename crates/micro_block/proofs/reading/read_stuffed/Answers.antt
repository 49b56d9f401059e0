use Rattle.std.proofs.Common.{◌≡◌, ◌-◌, ◌+◌, ◌≤◌, ℕ, ℤ, length, take, drop, sym, ap, ◌∙◌, subst, arith}
use Rattle.std.specs.Prelude.{Ok, Err, MatchResult}
use Rattle.std.proofs.lemmas.List.{take_rest}
use mir.Syntax.{w64}
use mir.Val.{of_z, to_z}
use Rattle.raster_cells.specs.PixelType.{Spells, bytes_of}
use Rattle.micro_block.specs.Frame.{frame_of}
use Rattle.micro_block.proofs.BlockSteps.{later, reread, reread_in, stuffed_told}
use Rattle.micro_block.proofs.reading.read_stuffed.Goals as goal

pub read_numbers-requires-clause-offset : goal.read_numbers-requires-clause-offset
read_numbers-requires-clause-offset c = reread_in c.args.ctx.now.kind c.read_value-offset.result (c.requires.within c.read_value-offset.result c.read_value-offset.ensures.in_range)

pub returns : goal.returns
returns c =
    let bytes = c.args.bytes.now in
    let kind = c.args.kind in
    let size = c.bytes-size.result in
    let v = c.read_value-offset.result in
    let room : bytes_of kind ≤ length bytes = omega (arith, c.bytes-size.ensures) in
    let spells : Spells kind bytes (to_z w64 (of_z w64 v)) = subst (λ (z : ℤ). Spells kind bytes z) (sym (reread kind v c.read_value-offset.ensures.in_range)) c.read_value-offset.ensures.spelled in
    stuffed_told (frame_of c.args.ctx.now (length c.args.numbers.now)) kind bytes (take (length bytes - size) (drop size bytes)) c.read_numbers.new.numbers (to_z w64 (of_z w64 v)) c.read_numbers.result c.behind.result
    room (take_rest bytes size ∙ ap (λ (n : ℕ). drop n bytes) c.bytes-size.ensures) spells
    (subst (λ (n : ℕ). MatchResult c.read_numbers.result (λ s. c.behind.result ≡ Ok (later n s)) (λ w. c.behind.result ≡ Err (record { reason = w.reason; at = n + w.at }))) c.bytes-size.ensures c.behind.ensures)
    c.read_numbers.ensures
