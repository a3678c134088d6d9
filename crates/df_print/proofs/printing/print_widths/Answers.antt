use Rattle.std.proofs.Common.{ℕ, List, All, IsUtf8, subst, arith, below_more}
use Rattle.std.proofs.lemmas.List.{get_or_default}
use Rattle.df_value.specs.declared.cell.CellType.{CellType}
use Rattle.df_print.specs.Printed.{column_texts}
use Rattle.std.proofs.lemmas.Grind.{common_steps}
use Rattle.df_print.proofs.ColumnFacts.{widths_turn, widths_end}
use Rattle.df_print.proofs.printing.print_widths.Goals as goal

pub loop-i-preserved : goal.loop-i-preserved
loop-i-preserved c = record {
  widths = widths_turn c.args.columns.now c.args.rows.now c.loop-i.i c.index-columns-i.result _ c.loop-i.widths.items c.push.new.self.items c.loop-i-test.true c.loop-i.invariant.widths c.in_ok-column_width.ensures.greatest c.in_ok-push.ensures.items;
  utf8 = below_more _ _ c.loop-i.invariant.utf8 (λ d.
      subst (λ (x : List ℕ × CellType). All IsUtf8 (column_texts c.loop-i.i x.0 c.args.rows.now))
      (get_or_default c.args.columns.now c.loop-i.i c.index-columns-i.result d c.loop-i-test.true)
      c.in_ok-column_width.ensures.utf8);
  len = grind (arith, common_steps);
}

pub returns-clause-widths : goal.returns-clause-widths
returns-clause-widths c = widths_end c.args.columns.now c.args.rows.now c.loop-i.i c.loop-i.widths.items c.loop-i-test.false c.loop-i.invariant.widths

pub returns-clause-utf8 : goal.returns-clause-utf8
returns-clause-utf8 c = λ k h d. c.loop-i.invariant.utf8 k (omega arith) d
