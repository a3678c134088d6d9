-- The lines of the pieces that were refused.
use Rattle.std.specs.Prelude.{ℕ, List, [], ◌∷◌, ◌++◌, codes, decimal, option_map, unwrap_or, slice_get, flat_map}
use Rattle.df_value.specs.Pieces.{refused_pieces}
use Rattle.df_value.specs.Schemas.{Columns}
use Rattle.df_value.specs.declared.chunk.BadCell.{BadCell}
use Rattle.df_value.specs.declared.chunk.Piece.{Piece}
use Rattle.df_csv.specs.Typed.{piece_start}
use Rattle.df_print.specs.Printed.{escaped_text}
use Rattle.df_text.specs.declared.document.FrameSpec.{FrameSpec}

abbrev pub name_at : Columns → ℕ → List ℕ
name_at columns at = unwrap_or (option_map (λ c. c.0) (slice_get columns at)) []

-- the line of a piece that was refused: the number of its first row, and its bad cell
abbrev pub refused_line : FrameSpec → ℕ × BadCell → List ℕ
refused_line frame refused =
    codes "refused " ++ (escaped_text frame.name ++ (codes " " ++ (decimal refused.0 ++ (codes ": record "
    ++ (decimal refused.1.number ++ (codes ", column " ++ (escaped_text (name_at frame.schema refused.1.column) ++ codes "\n")))))))

-- the lines of a frame's refused pieces, of so many records each
abbrev pub refused_in : ℕ → FrameSpec × List Piece → List ℕ
refused_in chunk frame = flat_map (refused_line frame.0) (refused_pieces (piece_start chunk) frame.1)

-- pairs of the items at each place
abbrev pub paired : {A B : Type 0} → List A → List B → List (A × B)
paired [] ys = []
paired (x ∷ xs) [] = []
paired (x ∷ xs) (y ∷ ys) = (x, y) ∷ paired xs ys
