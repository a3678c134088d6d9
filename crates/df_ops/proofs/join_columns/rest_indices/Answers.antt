use Rattle.df_ops.specs.Joins.{is_key, columns_without_keys}
use Rattle.df_ops.specs.NamedColumns.{column_indices}
use Rattle.df_value.specs.Schemas.{column_index}
use Rattle.df_value.specs.declared.cell.CellType.{CellType}
use Rattle.std.proofs.lemmas.List.Elements.{filter-append}
use Rattle.std.proofs.lemmas.List.{map-append}
use Rattle.std.proofs.Common.{◌∙◌, ℕ, List, [], ap, map, not}
use Rattle.df_ops.proofs.Steps.{all_done, joined_more}
use Rattle.df_ops.proofs.join_columns.rest_indices.Goals as goal

pub returns : goal.returns
returns c =
    all_done (λ columns. column_indices c.args.right.now (map (λ k. k.0) (columns_without_keys c.args.keys.now columns)))
    c.args.right.now _ _ _ c.loop-column-test.false c.loop-column.invariant c.from_vec.ensures

pub loop-column-preserved : goal.loop-column-preserved
loop-column-preserved c =
    let right = c.args.right.now in
    let keys = c.args.keys.now in
    joined_more (λ columns. column_indices right (map (λ k. k.0) (columns_without_keys keys columns)))
    (λ xs ys.
    ap (λ columns. column_indices right (map (λ k. k.0) columns)) (filter-append (λ k. not (is_key keys k)) xs ys)
    ∙ (ap (column_indices right) (map-append (λ (k : List ℕ × CellType). k.0) _ _) ∙ map-append (λ name. column_index name right) _ _))
    [] right _ _ _ _ c.loop-column-test.true c.column-item.is c.loop-column.invariant c.in_ok-push_rest_index.ensures
