use Rattle.std.proofs.Common.{◌≡◌, ◌∙◌, of_z, rules, sym, to_z}
use Rattle.std.specs.Int.{w64}
use Rattle.df_writing.specs.StepData.{written}
use Rattle.df_writing.proofs.PlanFacts.{written-CumSum, written-Filter, written-GroupBy, written-Join, written-Rank, written-Rolling, written-Select, written-WithColumns}
use Rattle.df_writing.proofs.StepFacts.{before_written, nothing_before, side-name, side-table, step_written, table_written}
use Rattle.df_writing.proofs.plan_steps.+steps.Goals as goal

pub push_before-returns-in_ok-extend_from_slice : goal.push_before-returns-in_ok-extend_from_slice
push_before-returns-in_ok-extend_from_slice t c =
    before_written _ _ _ _ _ (sym (c.has_steps.ensures c.args.frames.now) ∙ c.if-has_steps.true) c.in_ok-push_steps.ensures c.in_ok-extend_from_slice.ensures.items

pub push_before-returns-else-has_steps : goal.push_before-returns-else-has_steps
push_before-returns-else-has_steps t c = nothing_before _ _ _ (sym (c.has_steps.ensures c.args.frames.now) ∙ c.if-has_steps.false)

pub push_side-returns-then-has_steps : goal.push_side-returns-then-has_steps
push_side-returns-then-has_steps t c =
    rw (side-table c.args.frames.now (written c.args.frames.now c.args.plan.now) (sym (c.has_steps.ensures c.args.frames.now) ∙ c.if-has_steps.true)) c.push_source_table.ensures

pub push_side-returns-else-has_steps : goal.push_side-returns-else-has_steps
push_side-returns-else-has_steps t c =
    rw (side-name c.args.frames.now (written c.args.frames.now c.args.plan.now) (sym (c.has_steps.ensures c.args.frames.now) ∙ c.if-has_steps.false), ← c.first_frame.ensures) c.push_quoted.ensures

pub push_source_table-returns : goal.push_source_table-returns
push_source_table-returns t c =
    table_written _ _ _ _ _ _ _ c.args.frames.now (written c.args.frames.now c.args.plan.now) c.in_ok-extend_from_slice.ensures.items c.in_ok-push_quoted.ensures c.first_frame.ensures
    c.in_ok-extend_from_slice-2.ensures.items c.in_ok-push_steps.ensures c.in_ok-extend_from_slice-3.ensures.items

pub push_steps-returns-in_ok-push_before-in-Filter : goal.push_steps-returns-in_ok-push_before-in-Filter
push_steps-returns-in_ok-push_before-in-Filter t c =
    rw (c.in-Filter.is, ← c.get.ensures) (step_written _ _ _ _ _ _ _ _ (written-Filter _ _ _) c.in_ok-push_before-in-Filter.ensures c.push_filter.ensures)

pub push_steps-returns-in_ok-push_before-in-Select : goal.push_steps-returns-in_ok-push_before-in-Select
push_steps-returns-in_ok-push_before-in-Select t c =
    rw (c.in-Select.is, ← c.get-in-Select.ensures, ← c.as_slice.ensures) (step_written _ _ _ _ _ _ _ _ (written-Select _ _ _) c.in_ok-push_before-in-Select.ensures c.push_outputs_of.ensures)

pub push_steps-returns-in_ok-push_before-in-WithColumns : goal.push_steps-returns-in_ok-push_before-in-WithColumns
push_steps-returns-in_ok-push_before-in-WithColumns t c =
    rw (c.in-WithColumns.is, ← c.get-in-WithColumns.ensures, ← c.as_slice-in-WithColumns.ensures) (step_written _ _ _ _ _ _ _ _ (written-WithColumns _ _ _) c.in_ok-push_before-in-WithColumns.ensures c.push_outputs_of-in-WithColumns.ensures)

pub push_steps-returns-in_ok-push_before-in-GroupBy : goal.push_steps-returns-in_ok-push_before-in-GroupBy
push_steps-returns-in_ok-push_before-in-GroupBy t c =
    rw (c.in-GroupBy.is, ← c.get-in-GroupBy.ensures, ← c.as_slice-in-GroupBy.ensures, ← c.as_slice-in-GroupBy-2.ensures) (step_written _ _ _ _ _ _ _ _ (written-GroupBy _ _ _ _) c.in_ok-push_before-in-GroupBy.ensures c.push_group_by.ensures)

pub push_steps-returns-in_ok-push_before-in-Join : goal.push_steps-returns-in_ok-push_before-in-Join
push_steps-returns-in_ok-push_before-in-Join t c =
    rw (c.in-Join.is, ← c.get-in-Join.ensures, ← c.get-in-Join-2.ensures, ← c.as_slice-in-Join.ensures) (step_written _ _ _ _ _ _ _ _ (written-Join _ _ _ _ _ _) c.in_ok-push_before-in-Join.ensures c.push_join.ensures)

pub push_steps-returns-in_ok-push_before-in-Rolling : goal.push_steps-returns-in_ok-push_before-in-Rolling
push_steps-returns-in_ok-push_before-in-Rolling t c =
    let rows : to_z w64 (of_z w64 c.in-Rolling.w) ≡ c.in-Rolling.w = search rules in
    let least : to_z w64 (of_z w64 c.in-Rolling.m) ≡ c.in-Rolling.m = search rules in
    rw (c.in-Rolling.is, ← c.get-in-Rolling.ensures, ← rows, ← least) (step_written _ _ _ _ _ _ _ _ (written-Rolling _ _ _ _ _ _ _) c.in_ok-push_before-in-Rolling.ensures c.push_rolling.ensures)

pub push_steps-returns-in_ok-push_before-in-CumSum : goal.push_steps-returns-in_ok-push_before-in-CumSum
push_steps-returns-in_ok-push_before-in-CumSum t c =
    rw (c.in-CumSum.is, ← c.get-in-CumSum.ensures) (step_written _ _ _ _ _ _ _ _ (written-CumSum _ _ _ _) c.in_ok-push_before-in-CumSum.ensures c.push_cum_sum.ensures)

pub push_steps-returns-in_ok-push_before-in-Rank : goal.push_steps-returns-in_ok-push_before-in-Rank
push_steps-returns-in_ok-push_before-in-Rank t c =
    rw (c.in-Rank.is, ← c.get-in-Rank.ensures) (step_written _ _ _ _ _ _ _ _ (written-Rank _ _ _ _ _) c.in_ok-push_before-in-Rank.ensures c.push_rank.ensures)
