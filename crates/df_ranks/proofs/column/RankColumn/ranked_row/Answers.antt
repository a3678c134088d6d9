use Rattle.std.proofs.Common.{ap, subst, ◌∙◌, ◌≡◌}
use Rattle.std.specs.Prelude.{IfOk}
use Rattle.df_value.specs.declared.cell.CellType.TheVariants as dtype
use Rattle.df_ops.specs.RowWise as row_wise
use Rattle.df_ranks.proofs.column.RankColumn.ranked_row.Goals as goal

pub returns-clause-row : goal.returns-clause-row
returns-clause-row c =
    let column = c.args.self.now in
    subst (λ r. IfOk r (λ row. row ≡ row_wise.with_column_row column.schema column.name c.args.row.now c.in_ok-rank.rank)) c.in_ok-row.was
    (c.with_column_row.ensures column.schema column.name dtype.Int (c.deref.ensures.value ∙ column.placed))
    ∙ ap (row_wise.with_column_row column.schema column.name c.args.row.now) c.in_ok-rank.ensures.rank
