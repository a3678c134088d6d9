use Rattle.df_ops.specs.Groups.{group_of}
use Rattle.std.proofs.Common.{arith, refl, ◌∙◌, ap, sym, append-nil, ◌++◌, map}
use Rattle.df_ops.proofs.Steps.{answered, mapped_behind, all_done, made_is}
use Rattle.df_ops.specs.Tables.{aggregate_cell}
use Rattle.df_ops.proofs.grouping.group_row.Goals as goal

pub loop-agg-preserved : goal.loop-agg-preserved
loop-agg-preserved c =
    mapped_behind _ _ _ _ _ _ _ _ (omega arith) c.agg-item.is c.loop-agg.invariant
    ((made_is _ _ _ c.aggregate-cell.ensures c.in_ok-push_made.ensures.1)
    ∙ (ap (λ columns. aggregate_cell columns c.as_slice-in-loop-agg-2.result.now c.agg-item.result.1) c.as_slice-in-loop-agg.ensures
    ∙ ap (λ group. aggregate_cell c.args.table.now.columns group c.agg-item.result.1) c.as_slice-in-loop-agg-2.ensures.value))
    c.in_ok-push_made.ensures.2

pub loop-agg-init : goal.loop-agg-init
loop-agg-init c = c.in_ok-row.ensures ∙ (c.as_slice-2.ensures ∙ sym (append-nil _))

pub returns : goal.returns
returns c =
    let columns = c.args.table.now.columns in
    let key = c.args.key.now in
    let aggs = c.args.aggs.now in
    answered _ _ _ c.new.ensures
    (all_done (λ taken. key ++ map (λ a. aggregate_cell columns c.in_ok-group.group.items a.1) taken) aggs _ _ _
    c.loop-agg-test.false c.loop-agg.invariant refl
    ∙ ap (λ group. key ++ map (λ a. aggregate_cell columns group a.1) aggs)
    (c.in_ok-group.ensures ∙ ap (λ rows. group_of c.args.indices.now rows key) c.as_slice.ensures))
