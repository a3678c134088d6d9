-- How a live join takes the keys of its rows and makes rows of pairs.
use Rattle.std.specs.Prelude.{Bool, true, false, cond, not, ◌&&◌, List, ◌++◌, Option, Some, None}
use Rattle.std.specs.List.{list_any}
use Rattle.df_value.specs.Rows.{row_eq}
use Rattle.df_value.specs.declared.cell.Cell.{Cell}
use Rattle.df_expr.specs.Value.{is_null}
use Rattle.df_ops.specs.Groups.{key_of}
use Rattle.df_ops.specs.Joins.{nulls_for}
use Rattle.df_ops.specs.declared.joins.How.{How}
use Rattle.df_ops.specs.declared.joins.How.TheVariants as how
use Rattle.df_join.specs.declared.rule.JoinRule.{JoinRule}
use Rattle.df_join.specs.Joined.{Join}

abbrev pub Cells : Type 0
Cells = List Cell

-- whether a left row without a match stays
abbrev pub keeps_left : How → Bool
keeps_left how.Inner = false
keeps_left how.Left = true

-- whether the key is null, so that it matches nothing
abbrev pub is_null_key : JoinRule → Cells → Bool
is_null_key rule key = not rule.indices.nulls_equal && list_any is_null key

-- the key, unless it is null
abbrev pub key_or_null : JoinRule → Cells → Option Cells
key_or_null rule key = cond (is_null_key rule key) None (Some key)

-- the row of a pair, or of a left row alone
abbrev pub joined_row : JoinRule → Cells → Option Cells → Cells
joined_row rule x None = x ++ nulls_for rule.indices.rest
joined_row rule x (Some y) = x ++ key_of rule.indices.rest y

-- the join of rows by their keys
abbrev pub by_key : JoinRule → Join Cells Cells Cells Cells
by_key rule = record {
  left_key = λ x. key_or_null rule (key_of rule.indices.left x);
  right_key = λ y. key_or_null rule (key_of rule.indices.right y);
  same_key = row_eq;
  row = joined_row rule;
  keeps_left = keeps_left rule.how;
}
