use Rattle.std.proofs.Common.{arith, filter, not, ◌∙◌, sym, append-nil, ◌++◌, map}
use Rattle.df_ops.proofs.Steps.{joined_more, all_done}
use Rattle.std.proofs.lemmas.List.Elements.{filter-append}
use Rattle.df_ops.specs.NamedColumns.{has_column, with_columns, added_or_own}
use Rattle.df_ops.proofs.named_columns.with_columns.Goals as goal

pub loop-item-preserved : goal.loop-item-preserved
loop-item-preserved g c =
    joined_more (filter (λ a. not (has_column a.0 c.args.own.now))) (filter-append (λ a. not (has_column a.0 c.args.own.now)))
    _ c.args.added.now _ _ _ _ (omega arith) c.item-item.is c.loop-item.invariant c.in_ok-push_new.ensures

pub loop-item-init : goal.loop-item-init
loop-item-init g c = c.in_ok-out.ensures ∙ sym (append-nil _)

pub returns : goal.returns
unfolding with_columns
returns g c =
    let own = c.args.own.now in
    let added = c.args.added.now in
    all_done (λ items. map (added_or_own added) own ++ filter (λ a. not (has_column a.0 own)) items) added _ _ _
    c.loop-item-test.false c.loop-item.invariant c.from_vec.ensures
