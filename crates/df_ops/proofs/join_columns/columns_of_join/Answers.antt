use Rattle.df_ops.specs.Joins.{columns_of_join}
use Rattle.std.proofs.Common.{◌∙◌, sym, append-nil}
use Rattle.df_ops.proofs.Steps.{all_done}
use Rattle.df_ops.proofs.join_columns.columns_of_join.Goals as goal

pub returns : goal.returns
returns c =
    all_done (λ right. columns_of_join c.args.left.now right c.args.keys.now) c.args.right.now _ _ _
    c.loop-column-test.false c.loop-column.invariant c.from_vec.ensures

pub loop-column-init : goal.loop-column-init
loop-column-init c = c.into_vec-out.ensures ∙ (c.in_ok-copy.ensures ∙ sym (append-nil _))
