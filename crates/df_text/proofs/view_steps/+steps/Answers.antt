use Rattle.std.proofs.Common.{◌≡◌, ◌∙◌, map, codes, arith, rules, refl, sym, ap, Result, Ok, Err}
use Rattle.df_value.specs.Outcomes.{then_next, Answers}
use Rattle.df_plan.specs.declared.plan.Plan.{Plan, Join}
use Rattle.df_text.specs.declared.fault.ViewsFault.{ViewsFault}
use Rattle.df_text.specs.declared.fault.ViewsFault.TheVariants as fault
use Rattle.toml.specs.View.{table_view, view}
use Rattle.df_text.specs.RowWiseSteps.{filter_of, select_of, with_columns_of}
use Rattle.df_text.specs.Steps.{group_by_of, nulls_equal_of}
use Rattle.df_text.specs.WindowSteps.{rolling_of, cum_sum_of, rank_of}
use Rattle.df_text.proofs.Depths.{array_at_no_deeper, item_no_deeper, step_deeper, right_no_deeper}
use Rattle.df_text.proofs.StepFacts.{join_by_items, plain_step, step_by_word, steps_by_key}
use Rattle.df_text.proofs.view_steps.+steps.Goals as goal

pub apply-returns-in-Filter : goal.apply-returns-in-Filter
apply-returns-in-Filter t c = rw (c.in-Filter.is, plain_step (filter_of c.args.location c.args.input) (map view c.args.items.now)) c.filter.ensures

pub apply-returns-in-Select : goal.apply-returns-in-Select
apply-returns-in-Select t c = rw (c.in-Select.is, plain_step (select_of c.args.location c.args.input) (map view c.args.items.now)) c.select.ensures

pub apply-returns-in-WithColumns : goal.apply-returns-in-WithColumns
apply-returns-in-WithColumns t c = rw (c.in-WithColumns.is, plain_step (with_columns_of c.args.location c.args.input) (map view c.args.items.now)) c.with_columns.ensures

pub apply-returns-in-GroupBy : goal.apply-returns-in-GroupBy
apply-returns-in-GroupBy t c = rw (c.in-GroupBy.is, plain_step (group_by_of c.args.location c.args.input) (map view c.args.items.now)) c.group_by.ensures

pub apply-returns-in-Rolling : goal.apply-returns-in-Rolling
apply-returns-in-Rolling t c =
    rw (c.in-Rolling.is, plain_step (rolling_of c.args.location c.in-Rolling.kind c.args.input) (map view c.args.items.now)) c.rolling.ensures

pub apply-returns-in-CumSum : goal.apply-returns-in-CumSum
apply-returns-in-CumSum t c = rw (c.in-CumSum.is, plain_step (cum_sum_of c.args.location c.args.input) (map view c.args.items.now)) c.cum_sum.ensures

pub apply-returns-in-Rank : goal.apply-returns-in-Rank
apply-returns-in-Rank t c = rw (c.in-Rank.is, plain_step (rank_of c.args.location c.args.input) (map view c.args.items.now)) c.rank.ensures

pub apply_step-apply-requires : goal.apply_step-apply-requires
apply_step-apply-requires t c =
    let deeper = step_deeper c.args.location (view c.args.step.now) c.in-Ok.word (map view c.in-Ok.items.now) c.in-Ok.ensures in
    (omega (arith, deeper, c.decreases), tt)

pub apply_step-returns-in-Ok : goal.apply_step-returns-in-Ok
apply_step-returns-in-Ok t c =
    rw (step_by_word c.args.location c.args.frames.now c.args.input (view c.args.step.now), c.in-Ok.ensures) c.apply.ensures

pub apply_step-returns-in-Err : goal.apply_step-returns-in-Err
apply_step-returns-in-Err t c given =
    rw (step_by_word c.args.location c.args.frames.now c.args.input (view c.args.step.now), c.in-Err.ensures) refl

pub apply_steps-apply_step-requires : goal.apply_steps-apply_step-requires
apply_steps-apply_step-requires t c =
    let no_deeper = item_no_deeper c.args.steps.now c.loop-at.at c.index-steps-at.result (omega (arith, c.loop-at-test.true)) (search rules) in
    (omega (arith, no_deeper, c.decreases), tt)

pub join-read_right-requires : goal.join-read_right-requires
join-read_right-requires t c =
    let no_deeper = right_no_deeper c.args.location (map view c.args.items.now) _ _ _ _ c.in_ok-kind.ensures in
    (omega (arith, no_deeper, c.decreases), tt)

-- what is given is the answer
given_answer : (want r : Result Plan ViewsFault) → r ≡ want → Answers fault.Memory want r
given_answer want (Ok p) e = sym e
given_answer want (Err f) e = λ _. sym e

pub join-returns-in-Ok-read_right : goal.join-returns-in-Ok-read_right
join-returns-in-Ok-read_right t c =
    let equal = nulls_equal_of c.args.location (map view c.in_ok-kind.rest.now) in
    rw (join_by_items c.args.location c.args.frames.now c.args.input (map view c.args.items.now), c.in_ok-kind.ensures, c.in-Ok.ensures, ← c.item.ensures, c.in-Ok-read_right.ensures)
    (given_answer _ _ (c.joined.ensures
    ∙ ap (λ (p : Plan). then_next equal (λ n. Ok (Join p c.in-Ok-read_right.right c.in-Ok.how c.in-Ok.keys n))) c.in_ok-input.ensures))

pub join-returns-in-Err-read_right : goal.join-returns-in-Err-read_right
join-returns-in-Err-read_right t c given =
    rw (join_by_items c.args.location c.args.frames.now c.args.input (map view c.args.items.now), c.in_ok-kind.ensures, c.in-Ok.ensures, ← c.item.ensures, c.in-Err-read_right.ensures given) refl

pub apply_table-apply_steps-requires : goal.apply_table-apply_steps-requires
apply_table-apply_steps-requires t c =
    let no_deeper = array_at_no_deeper c.args.location (codes "steps") (table_view c.args.table.now) _ c.in-Ok.ensures in
    (omega (arith, no_deeper, c.decreases), tt)

pub apply_table-returns-in-Ok : goal.apply_table-returns-in-Ok
apply_table-returns-in-Ok t c =
    rw (steps_by_key c.args.location c.args.frames.now c.args.input (table_view c.args.table.now), c.in-Ok.ensures) c.apply_steps.ensures

pub apply_table-returns-in-Err : goal.apply_table-returns-in-Err
apply_table-returns-in-Err t c given =
    rw (steps_by_key c.args.location c.args.frames.now c.args.input (table_view c.args.table.now), c.in-Err.ensures) refl
