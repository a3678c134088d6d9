-- What is kept of what a job made.
use Rattle.std.specs.Prelude.{ℕ, List, [], Option, Some, None}
use Rattle.df_value.specs.Chunks.{ChunkParts}
use Rattle.df_value.specs.declared.cell.Cell.{Cell}
use Rattle.df_value.specs.declared.chunk.BadCell.{BadCell}
use Rattle.df_value.specs.declared.chunk.Piece.{Piece}
use Rattle.df_value.specs.declared.chunk.Piece.TheVariants.{Good, Bad}
use Rattle.df_jobs.specs.declared.made.KeptPiece.{KeptPiece}
use Rattle.df_jobs.specs.declared.made.KeptPiece.TheVariants.{Typed, Stored}

-- a typed piece itself, a stored chunk as a good one
abbrev pub piece_in : KeptPiece → Piece
piece_in (Typed piece) = piece
piece_in (Stored chunk) = Good chunk

-- the rows of a piece
abbrev pub rows_in : Piece → List (List Cell)
rows_in (Good chunk) = chunk.rows
rows_in (Bad cell) = []

-- the chunk of a piece, if it is good
abbrev pub chunk_of : Piece → Option ChunkParts
chunk_of (Good chunk) = Some chunk
chunk_of (Bad cell) = None

-- the number of its first row, 0 where it is bad
abbrev pub number_in : Piece → ℕ
number_in (Good chunk) = chunk.first
number_in (Bad cell) = 0

-- the first bad cell of a piece, if there is one
abbrev pub bad_cell_of : Piece → Option BadCell
bad_cell_of (Good chunk) = None
bad_cell_of (Bad cell) = Some cell
