use Rattle.std.proofs.Common.{ap, sym, ◌∙◌, ◌&&◌, ◌+◌, length, arith}
use Rattle.df_value.specs.declared.cell.Cell.TheVariants as cell
use Rattle.df_column.specs.Columns.{column_cells}
use Rattle.df_column.proofs.BlockLemmas.{even_at}
use Rattle.df_column.proofs.RowTests.{test_end, test_from, test_step, uneven}
use Rattle.df_column.proofs.block.are_cells.Goals as goal

pub is_cell-requires : goal.is_cell-requires
is_cell-requires c =
    let column = c.index-columns-column in
    let n = ap (λ k. length (column_cells k)) column.is ∙ even_at _ c.args.columns.now c.loop-column.column column.result c.requires.even c.loop-column-test.true in
    omega (arith, n, c.requires.at)

pub returns-then-columns-cells : goal.returns-then-columns-cells
returns-then-columns-cells c = sym (uneven c.args.columns.now c.args.cells.now c.args.at c.if-columns-cells.true)

pub loop-column-preserved : goal.loop-column-preserved
loop-column-preserved c =
    let row = test_step c.args.columns.now c.args.cells.now c.args.at c.loop-column.column _ _ c.loop-column-test.true (omega (arith, c.loop-column-test.true, c.if-columns-cells.false)) c.index-columns-column.is c.index-cells-column.is in
    c.loop-column.invariant ∙ row
    ∙ ap (λ b. b && test_from c.args.columns.now c.args.at c.args.cells.now (c.loop-column.column + 1)) (sym (c.is_cell.ensures cell.Null) ∙ c.if-not-is_cell.false)

pub returns-then-not-is_cell : goal.returns-then-not-is_cell
returns-then-not-is_cell c =
    let row = test_step c.args.columns.now c.args.cells.now c.args.at c.loop-column.column _ _ c.loop-column-test.true (omega (arith, c.loop-column-test.true, c.if-columns-cells.false)) c.index-columns-column.is c.index-cells-column.is in
    sym (c.loop-column.invariant ∙ row
    ∙ ap (λ b. b && test_from c.args.columns.now c.args.at c.args.cells.now (c.loop-column.column + 1)) (sym (c.is_cell.ensures cell.Null) ∙ c.if-not-is_cell.true))

pub returns : goal.returns
returns c = sym (c.loop-column.invariant ∙ test_end c.args.columns.now c.args.cells.now c.args.at c.loop-column.column (omega (arith, c.loop-column-test.false)) (omega (arith, c.loop-column-test.false, c.if-columns-cells.false)))
