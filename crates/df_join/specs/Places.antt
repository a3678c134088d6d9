-- Where a tag stands among rows by rising tags.
use Rattle.std.specs.Prelude.{ℕ, zero, suc, Bool, false, not, T, List, [], ◌∷◌}
use Rattle.std.specs.Ordering.{eq_by_cmp, is_lt}
use Rattle.df_value.specs.declared.cell.Cell.{Cell}
use Rattle.df_column.specs.Tags.{tag_cmp}
use Rattle.df_column.specs.declared.tag.Tag.{Tag}

-- the rows before the index are those of lower tags
abbrev pub IsPlace : Tag → List (Tag × List Cell) → ℕ → Type 0
IsPlace tag [] zero = Unit {0}
IsPlace tag [] (suc index) = ⊥
IsPlace tag (r ∷ rs) zero = T (not (is_lt (tag_cmp r.0 tag)))
IsPlace tag (r ∷ rs) (suc index) = T (is_lt (tag_cmp r.0 tag)) × IsPlace tag rs index

-- whether the row at the index has the tag
abbrev pub stands_at : Tag → List (Tag × List Cell) → ℕ → Bool
stands_at tag [] index = false
stands_at tag (r ∷ rs) zero = eq_by_cmp tag_cmp tag r.0
stands_at tag (r ∷ rs) (suc index) = stands_at tag rs index
