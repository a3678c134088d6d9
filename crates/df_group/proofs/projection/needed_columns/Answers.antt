use Rattle.std.proofs.Common.{[], filter}
use Rattle.std.proofs.lemmas.List.Elements.{filter-append}
use Rattle.df_value.specs.Schemas.{Columns}
use Rattle.df_ops.proofs.Steps.{joined_more, all_done}
use Rattle.df_group.specs.Projections.{is_needed}
use Rattle.df_group.proofs.projection.needed_columns.Goals as goal

pub loop-column-preserved : goal.loop-column-preserved
loop-column-preserved c =
    joined_more (λ (columns : Columns). filter (λ column. is_needed c.args.columns.now c.args.aggregates.now column.0) columns)
    (filter-append (λ column. is_needed c.args.columns.now c.args.aggregates.now column.0))
    [] c.args.columns.now _ _ _ _ c.loop-column-test.true c.column-item.is c.loop-column.invariant
    (c.in_ok-push_needed.ensures c.args.columns.now c.spare_column-spare.ensures)

pub returns : goal.returns
returns c =
    all_done (λ (columns : Columns). filter (λ column. is_needed c.args.columns.now c.args.aggregates.now column.0) columns) c.args.columns.now _ _ _
    c.loop-column-test.false c.loop-column.invariant c.from_vec.ensures
