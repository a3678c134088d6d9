use Rattle.std.proofs.Common.{refl, arith}
use Rattle.df_live.specs.JoinOperators.{is_join_over, join_allowed, join_budget, join_gives, join_takes}
use Rattle.df_live.proofs.nodes.join.Goals as goal

pub returns : goal.returns
unfolding is_join_over join_allowed join_budget join_gives join_takes
returns c =
    let n = c.in_ok-join.ensures in
    record {
      gives = n.output;
      work = λ l m r s. refl;
      takes = n.takes;
      over = n.over;
      budgeted = (omega arith, omega arith, omega arith, omega arith);
    }
