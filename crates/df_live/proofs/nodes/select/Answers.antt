use Rattle.std.proofs.Common.{◌*◌, ◌≤◌, ap, subst, sym}
use Rattle.df_delta.specs.Work.{evaluations}
use Rattle.df_live.specs.Meaning.{differences}
use Rattle.df_live.specs.Operators.{is_operator_over, operator_allowed, operator_budget, operator_output, operator_takes}
use Rattle.df_live.proofs.NodeCosts.{few_evaluations}
use Rattle.df_live.proofs.nodes.select.Goals as goal

pub returns : goal.returns
unfolding is_operator_over operator_allowed operator_budget operator_output operator_takes
returns c =
    let counts = c.in_ok-node.ensures.counts in
    record {
      gives = c.in_ok-node.ensures.output;
      work = λ t u. ap (λ n. evaluations (2 * differences t u * n)) counts;
      takes = λ t f. tt;
      over = tt;
      budgeted = few_evaluations _ (subst (λ n. n ≤ 32) (sym counts) c.requires);
    }
