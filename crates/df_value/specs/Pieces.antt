-- Pieces of a frame: chunks, and bad cells in the place of those that could not be made.
use Rattle.std.specs.Prelude.{ℕ, Bool, true, false, List, [], ◌∷◌, flat_map, length}
use Rattle.std.specs.List.{enumerate_from, range_with_len}
use Rattle.df_value.specs.declared.cell.Cell.{Cell}
use Rattle.df_value.specs.declared.chunk.BadCell.{BadCell}
use Rattle.df_value.specs.declared.chunk.Piece.{Piece}
use Rattle.df_value.specs.declared.chunk.Piece.TheVariants as made

-- whether a piece is a chunk
abbrev pub is_good : Piece → Bool
is_good (made.Good chunk) = true
is_good (made.Bad cell) = false

-- the rows of a chunk, and none where a cell is bad
abbrev pub rows_of_piece : Piece → List (List Cell)
rows_of_piece (made.Good chunk) = chunk.rows
rows_of_piece (made.Bad cell) = []

-- the rows of all chunks, in their order
abbrev pub rows_of_pieces : List Piece → List (List Cell)
rows_of_pieces pieces = flat_map rows_of_piece pieces

-- its rows behind their numbers
abbrev pub numbered_piece : ℕ → Piece → List (ℕ × List Cell)
numbered_piece first piece = enumerate_from first (rows_of_piece piece)

-- its bad cell, if it has one, behind the number of its first row
abbrev pub refused_piece : ℕ → Piece → List (ℕ × BadCell)
refused_piece first (made.Good chunk) = []
refused_piece first (made.Bad cell) = (first, cell) ∷ []

-- their rows behind their numbers
abbrev pub numbered_rows : (ℕ → ℕ) → List Piece → List (ℕ × List Cell)
numbered_rows start_of pieces = flat_map (λ p. numbered_piece (start_of p.0) p.1) (enumerate_from 0 pieces)

-- the pieces that are no chunks, each by the number of its first row and its bad cell
abbrev pub refused_pieces : (ℕ → ℕ) → List Piece → List (ℕ × BadCell)
refused_pieces start_of pieces = flat_map (λ p. refused_piece (start_of p.0) p.1) (enumerate_from 0 pieces)
