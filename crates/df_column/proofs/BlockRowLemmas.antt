-- The rows of a list of blocks with one block more.
use Rattle.std.proofs.Common.{◌≡◌, List, [], ◌∷◌, ◌++◌, map, sym, ap, subst, ◌∙◌, append_assoc, append-nil}
use Rattle.df_value.specs.declared.cell.Cell.{Cell}
use Rattle.df_value.specs.declared.cell.CellType.{CellType}
use Rattle.df_column.specs.Blocks.{AreOfDtypes, BlockParts, block_rows, rows_of_blocks}
use Rattle.df_column.specs.BlockRows.{AddsRows}
use Rattle.df_column.specs.Columns.{dtype_of_column}
use Rattle.df_column.specs.declared.tag.Tag.{Tag}

pub rows_push : (bs : List BlockParts) (b : BlockParts) → rows_of_blocks (bs ++ b ∷ []) ≡ rows_of_blocks bs ++ block_rows b
rows_push [] b = append-nil (block_rows b)
rows_push (x ∷ bs) b = ap (λ es. block_rows x ++ es) (rows_push bs b) ∙ sym (append_assoc (block_rows x) _ _)

types_push : (dtypes : List CellType) (bs : List BlockParts) (b : BlockParts) → map dtype_of_column b.columns ≡ dtypes → AreOfDtypes dtypes bs → AreOfDtypes dtypes (bs ++ b ∷ [])
types_push dtypes [] b e h = (e, tt)
types_push dtypes (x ∷ bs) b e h = (h.0, types_push dtypes bs b e h.1)

-- one block more
pub adds_block : (dtypes : List CellType) (rows : List (Tag × List Cell)) (old new : List BlockParts) (b : BlockParts) → new ≡ old ++ b ∷ [] → block_rows b ≡ rows → map dtype_of_column b.columns ≡ dtypes → AddsRows dtypes rows old new
adds_block dtypes rows old new b e r t = record {
  rows = ap rows_of_blocks e ∙ rows_push old b ∙ ap (λ es. rows_of_blocks old ++ es) r;
  types = λ h. subst (AreOfDtypes dtypes) (sym e) (types_push dtypes old b t h);
}

pub adds_both : (dtypes : List CellType) (xs ys : List (Tag × List Cell)) (old mid new : List BlockParts) → AddsRows dtypes xs old mid → AddsRows dtypes ys mid new → AddsRows dtypes (xs ++ ys) old new
adds_both dtypes xs ys old mid new p q = record {
  rows = q.rows ∙ ap (λ es. es ++ ys) p.rows ∙ append_assoc (rows_of_blocks old) xs ys;
  types = λ h. q.types (p.types h);
}

pub adds_same : (dtypes types : List CellType) (xs ys : List (Tag × List Cell)) (old new : List BlockParts) → dtypes ≡ types → xs ≡ ys → AddsRows dtypes xs old new → AddsRows types ys old new
adds_same dtypes types xs ys old new d e h = subst (λ t. AddsRows t ys old new) d (subst (λ es. AddsRows dtypes es old new) e h)
