use Rattle.std.proofs.lemmas.Result.{IfOk-weaker}
use Rattle.df_ops.proofs.JoinLaws.{row_begins, row_count, row_kept}
use Rattle.df_ops.proofs.JoinCells.{is_join_of_row, same_without_nulls}
use Rattle.df_ops.proofs.joins.join_row.Goals as goal

pub returns-clause-count : goal.returns-clause-count
returns-clause-count c =
    IfOk-weaker c.matched_row.result _ _
    (λ rows e. rw e (row_count c.args.how c.args.join_indices.now c.args.rights.now c.args.left.now)) c.matched_row.ensures

pub returns-clause-kept : goal.returns-clause-kept
returns-clause-kept c is =
    IfOk-weaker c.matched_row.result _ _
    (λ rows e. rw e (row_kept c.args.how c.args.join_indices.now c.args.rights.now c.args.left.now is)) c.matched_row.ensures

pub returns-clause-begins : goal.returns-clause-begins
returns-clause-begins c =
    IfOk-weaker c.matched_row.result _ _
    (λ rows e. rw e (row_begins c.args.how c.args.join_indices.now c.args.rights.now c.args.left.now)) c.matched_row.ensures

pub returns-clause-right_cells : goal.returns-clause-right_cells
returns-clause-right_cells c = is_join_of_row c.args.join_indices.now c.args.left.now

pub returns-clause-no_nulls : goal.returns-clause-no_nulls
returns-clause-no_nulls c = same_without_nulls c.args.join_indices.now c.args.rights.now c.args.left.now
