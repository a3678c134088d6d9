use Rattle.std.proofs.Common.{arith, [], ◌∙◌, ◌++◌, ap, append-nil, sym}
use Rattle.df_ops.proofs.Steps.{joined_more, all_done}
use Rattle.std.proofs.lemmas.Grind.{flat_map-append}
use Rattle.df_ops.specs.Joins.{join_row, join_rows}
use Rattle.df_ops.proofs.joins.all_joined.Goals as goal

pub loop-left-preserved : goal.loop-left-preserved
loop-left-preserved c =
    joined_more (λ lefts. join_rows c.args.how c.args.join_indices.now lefts c.args.rights.now)
    (flat_map-append (join_row c.args.how c.args.join_indices.now c.args.rights.now))
    [] c.args.lefts.now _ _ _ _ (omega arith) c.left-item.is c.loop-left.invariant
    (c.in_ok-add_joined.ensures ∙ ap (λ min_max. c.loop-left.rows.items ++ min_max) (sym (append-nil _)))

pub returns : goal.returns
returns c =
    all_done (λ lefts. join_rows c.args.how c.args.join_indices.now lefts c.args.rights.now) c.args.lefts.now _ _ _
    c.loop-left-test.false c.loop-left.invariant c.from_vec.ensures
