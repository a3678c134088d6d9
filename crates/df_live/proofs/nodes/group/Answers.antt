use Rattle.std.proofs.Common.{refl, arith}
use Rattle.df_live.specs.Operators.{is_operator_over, operator_allowed, operator_budget, operator_output, operator_takes}
use Rattle.df_live.proofs.nodes.group.Goals as goal

pub returns : goal.returns
unfolding is_operator_over operator_allowed operator_budget operator_output operator_takes
returns c = record {
  gives = c.in_ok-node.ensures.output;
  work = λ t u. refl;
  takes = c.in_ok-node.ensures.takes;
  over = c.in_ok-node.ensures.over;
  budgeted = (omega arith, omega arith, omega arith, omega arith);
}
