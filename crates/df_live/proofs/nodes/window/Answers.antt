use Rattle.std.proofs.Common.{ℕ, ◌*◌, ◌≤◌, ap, subst, sym}
use Rattle.df_nodes.specs.Rolling.{windows}
use Rattle.df_live.specs.Meaning.{differences}
use Rattle.df_live.specs.Operators.{is_operator_over, operator_allowed, operator_budget, operator_output, operator_takes}
use Rattle.df_live.proofs.NodeCosts.{few_windows}
use Rattle.df_live.proofs.nodes.window.Goals as goal

pub returns : goal.returns
unfolding is_operator_over operator_allowed operator_budget operator_output operator_takes
returns c =
    let n = c.in_ok-node.ensures in
    record {
      gives = n.output;
      work = λ t u. ap (λ (w : ℕ). windows (differences t u * w)) n.size;
      takes = n.takes;
      over = n.over;
      budgeted = few_windows _ (subst (λ (w : ℕ). w ≤ 65536) (sym n.size) c.requires.few);
    }
