use Rattle.std.proofs.Common.{refl, arith}
use Rattle.df_live.specs.Operators.{is_operator_over, operator_allowed, operator_budget, operator_output, operator_takes}
use Rattle.df_live.proofs.nodes.sum.Goals as goal

pub returns : goal.returns
unfolding is_operator_over operator_allowed operator_budget operator_output operator_takes
returns c =
    let n = c.in_ok-node.ensures in
    record {
      gives = n.output;
      work = λ t u. refl;
      takes = n.takes;
      over = n.over;
      budgeted = (omega arith, omega arith, omega arith, omega arith);
    }
