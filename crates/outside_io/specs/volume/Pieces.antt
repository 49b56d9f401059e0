-- Pieces of a file in memory, by their places and bytes.
use Rattle.std.specs.Prelude.{ℕ, List, map}
use Rattle.outside_io.specs.declared.volume.start.Piece.{Piece}

abbrev pub pieces_of : List Piece → List (ℕ × List ℕ)
pieces_of = map (λ p. (p.at, p.bytes))
