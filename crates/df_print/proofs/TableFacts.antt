-- A table, from its title, its line of names and its rows.
use Rattle.std.proofs.Common.{◌≡◌, ℕ, List, ◌++◌, length, flat_map, refl, append_assoc}
use Rattle.df_value.specs.declared.cell.Cell.{Cell}
use Rattle.df_value.specs.declared.cell.CellType.{CellType}
use Rattle.df_print.specs.Printed.{column_widths, header_texts, printed, printed_line, row_texts, title}

pub table_end : (name : List ℕ) (schema cs : List (List ℕ × CellType)) (rows : List (List Cell)) (ws : List ℕ) (head out : List ℕ)
    → cs ≡ schema → ws ≡ column_widths cs rows
    → head ≡ title name (length cs) (length rows) ++ printed_line cs ws (header_texts cs)
    → out ≡ head ++ flat_map (λ row. printed_line cs ws (row_texts (length cs) row)) rows
    → out ≡ printed name schema rows
table_end name schema cs rows ws head out same w h o = rw (o, h, w, same, append_assoc) refl
