use Rattle.std.proofs.Common.{◌≡◌, ◌∙◌, [], Some, None, ap, arith, get_or, length, sym}
use Rattle.std.specs.Ordering.{ordering_reverse}
use Rattle.df_value.specs.CellOrder.{cell_cmp, cell_cmp_total}
use Rattle.df_value.specs.declared.cell.Cell.TheVariants as cell_as
use Rattle.df_column.specs.Columns.{column_cells}
use Rattle.df_column.specs.MinMaxCells.{is_beyond_best}
use Rattle.df_column.specs.declared.column.Column.{Column}
use Rattle.df_column.specs.declared.column.Column.TheVariants as column_as
use Rattle.df_column.proofs.SkippingLemmas.{at_itself, min_or_max_there, past_columns}
use Rattle.df_column.proofs.run.is_beyond_block.Goals as goal

none : Column
none = column_as.Int []

pub returns-then-index-columns : goal.returns-then-index-columns
returns-then-index-columns c =
    let l = ap length c.columns-columns.ensures.columns in
    sym (ap (λ o. is_beyond_best c.args.which o c.args.cell.now) (past_columns c.args.which None c.args.block.now c.args.index (omega (arith, l, c.if-index-columns.true))))

pub returns-in-Some : goal.returns-in-Some
returns-in-Some c =
    let l = ap length c.columns-columns.ensures.columns in
    let column = c.index-columns-index.result in
    let is : column ≡ get_or c.args.block.now.columns c.args.index column = c.index-columns-index.is ∙ ap (λ cs. get_or cs c.args.index column) c.columns-columns.ensures.columns in
    let there = get_or (column_cells column) c.in-Some.at cell_as.Null in
    let compared : c.reverse.result ≡ cell_cmp c.args.cell.now there =
    c.reverse.ensures ∙ ap ordering_reverse (c.compare_with.ensures cell_as.Null) ∙ sym (cell_cmp_total.antisymm c.args.cell.now there) in
    c.is_beyond.ensures c.args.cell.now there compared
    ∙ ap (λ o. is_beyond_best c.args.which o c.args.cell.now)
    (min_or_max_there c.args.which c.args.block.now c.args.index column (Some c.in-Some.at) c.columns-columns.ensures.even (omega (arith, l, c.if-index-columns.false)) is (c.in-Some.ensures column))

pub returns-in-None : goal.returns-in-None
returns-in-None c =
    let l = ap length c.columns-columns.ensures.columns in
    let columns = c.args.block.now.columns in
    let column = get_or columns c.args.index none in
    ap (λ o. is_beyond_best c.args.which o c.args.cell.now)
    (min_or_max_there c.args.which c.args.block.now c.args.index column None c.columns-columns.ensures.even (omega (arith, l, c.if-index-columns.false)) (at_itself columns c.args.index none (omega (arith, l, c.if-index-columns.false))) (c.in-None.ensures column))
