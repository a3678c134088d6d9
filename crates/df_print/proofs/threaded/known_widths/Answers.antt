use Rattle.std.proofs.Common.{[], None, arith, below_more}
use Rattle.df_value.specs.declared.cell.CellType.TheVariants as dtype
use Rattle.df_print.specs.Printed.{IsWidthAt}
use Rattle.std.proofs.lemmas.Grind.{common_steps}
use Rattle.df_print.proofs.ColumnFacts.{widths_turn, widths_end}
use Rattle.df_print.proofs.threaded.known_widths.Goals as goal

pub loop-i-preserved : goal.loop-i-preserved
loop-i-preserved c =
    let known : IsWidthAt c.args.columns.now c.args.rows.now c.loop-i.i c.in-Some.width = rw c.in-Some.is at (c.requires.each c.loop-i.i None c.loop-i-test.true) in
    record {
      widths = widths_turn c.args.columns.now c.args.rows.now c.loop-i.i ([], dtype.Int) c.in-Some.width c.loop-i.widths.items c.push.new.self.items c.loop-i-test.true c.loop-i.invariant.widths (known ([], dtype.Int)).0 c.in_ok-push.ensures.items;
      utf8 = below_more _ _ c.loop-i.invariant.utf8 (λ d. (known d).1);
      len = grind (arith, common_steps);
    }

pub returns-clause-widths : goal.returns-clause-widths
returns-clause-widths c = widths_end c.args.columns.now c.args.rows.now c.loop-i.i c.loop-i.widths.items c.loop-i-test.false c.loop-i.invariant.widths

pub returns-clause-utf8 : goal.returns-clause-utf8
returns-clause-utf8 c = λ k h d. c.loop-i.invariant.utf8 k (omega (arith, h, c.loop-i-test.false)) d
