use Rattle.std.proofs.Common.{◌∙◌, ◌+◌, ap, arith, get_or, sym}
use Rattle.std.proofs.lemmas.Bool.{false≢true}
use Rattle.df_value.specs.declared.cell.Cell.TheVariants as cell
use Rattle.df_column.specs.Columns.{column_cells}
use Rattle.df_column.specs.MinMaxCells.{is_null}
use Rattle.df_column.proofs.SameRows.{one_more_null}
use Rattle.df_column.proofs.UnlikeTypes.{null_is}
use Rattle.df_column.proofs.column.Column.are_null.Goals as goal

pub loop-k-preserved : goal.loop-k-preserved
loop-k-preserved c =
    let cells = column_cells c.args.self.now in
    let here = null_is (get_or cells (c.args.at + c.loop-k.k) cell.Null) (sym (c.is_null.ensures cell.Null) ∙ c.if-not-is_null.false) in
    one_more_null cells c.args.at c.loop-k.k c.loop-k.invariant (omega (arith, c.requires.within, c.loop-k-test.true)) here

pub returns-then-not-is_null : goal.returns-then-not-is_null
returns-then-not-is_null c = (
  λ h. absurd (cc),
  λ all. absurd (false≢true (sym c.if-not-is_null.true ∙ c.is_null.ensures cell.Null ∙ ap is_null (all.each c.loop-k.k cell.Null c.loop-k-test.true))),
)
