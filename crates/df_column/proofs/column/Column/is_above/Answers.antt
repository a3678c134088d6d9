use Rattle.std.proofs.Common.{ap, sym, ◌∙◌, get_or}
use Rattle.std.specs.Ordering.{is_gt}
use Rattle.df_column.specs.Columns.{column_cells}
use Rattle.df_column.proofs.CellTests.{above_is}
use Rattle.df_column.proofs.column.Column.is_above.Goals as goal

pub returns-then-not-is_null : goal.returns-then-not-is_null
returns-then-not-is_null c = λ d.
    c.is_gt.ensures ∙ ap is_gt (c.compare_with.ensures d)
    ∙ above_is c.args.value.now (get_or (column_cells c.args.self.now) c.args.at d) (sym (c.is_null.ensures d) ∙ c.if-not-is_null.true)
