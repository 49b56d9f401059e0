use Rattle.std.proofs.Common.{◌≡◌, ◌*◌, ◌∙◌, ℕ, get_or, drop, arith}
use Rattle.std.specs.Prelude.{pos}
use Rattle.std.specs.List.{range_with_len}
use Rattle.byteorder.specs.Endian.{little_number}
use Rattle.raster_cells.specs.PixelType.{bytes_of, value_of}
use Rattle.raster_cells.specs.Distance.{distance_of}
use Rattle.raster_cells.proofs.Every.{every_range, same_map}
use Rattle.raster_cells.proofs.CellDistances.{few_there, distance_there}
use Rattle.raster_cells.proofs.values.cell_bytes.CellBytes.get_eight_as.Goals as goal

pub returns : goal.returns
returns c =
    let kind = c.args.kind in
    let l = c.args.self.now in
    let bytes = c.self.inside.bytes.now in
    let f : ℕ → ℕ = λ k. distance_of kind (value_of kind (little_number (bytes_of kind) (drop (k * bytes_of kind) bytes))) in
    let g : ℕ → ℕ = λ k. distance_of l.kind (get_or l.values k (pos 0)) in
    c.lay_eight.ensures ∙ c.eight_at-read.ensures
    ∙ same_map f g (range_with_len c.args.first 8) (every_range (λ k. f k ≡ g k) c.args.first 8 (λ k from below.
    distance_there c.self.inside l kind k c.self.view_is c.requires.kind (omega (arith, below, c.requires.within))))

pub eight_at-read-requires-clause-few : goal.eight_at-read-requires-clause-few
eight_at-read-requires-clause-few c = omega (arith, c.requires.within, few_there c.self.inside c.args.self.now c.self.invariant c.self.view_is)
