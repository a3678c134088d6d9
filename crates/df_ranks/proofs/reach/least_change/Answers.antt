use Rattle.std.proofs.Common.{Some, None, map, subst, sym}
use Rattle.std.specs.Prelude.{T}
use Rattle.std.specs.FinMap.{is_sorted}
use Rattle.df_value.specs.CellOrder.{cell_cmp, cell_cmp_total}
use Rattle.df_counts.specs.Counts.{count_change}
use Rattle.df_counts.proofs.Orders.{cell_same}
use Rattle.df_ranks.proofs.Entries.{sorted_after}
use Rattle.df_ranks.proofs.WeightSums.{ranks_stay, ranks_stay_all}
use Rattle.df_ranks.proofs.reach.least_change.Goals as goal

pub returns-in_default : goal.returns-in_default
returns-in_default c =
    let old = c.args.old.now in
    let sorted = subst (λ es. T (is_sorted cell_cmp es)) (sym c.requires.raised) (sorted_after cell_cmp_total cell_same old (map (count_change old) c.args.rises.now.entries) c.requires.sorted) in
    ranks_stay c.args.kind old c.args.new.now None c.requires.sorted sorted c.in_default.ensures

pub returns-then-has_none_above : goal.returns-then-has_none_above
returns-then-has_none_above c =
    let old = c.args.old.now in
    let sorted = subst (λ es. T (is_sorted cell_cmp es)) (sym c.requires.raised) (sorted_after cell_cmp_total cell_same old (map (count_change old) c.args.rises.now.entries) c.requires.sorted) in
    ranks_stay_all c.args.kind old c.args.new.now c.in-Some.least.now c.requires.sorted sorted c.in-Some.ensures
    (λ v there. c.has_none_above.ensures c.if-has_none_above.true v there)

pub returns : goal.returns
returns c =
    let old = c.args.old.now in
    let sorted = subst (λ es. T (is_sorted cell_cmp es)) (sym c.requires.raised) (sorted_after cell_cmp_total cell_same old (map (count_change old) c.args.rises.now.entries) c.requires.sorted) in
    ranks_stay c.args.kind old c.args.new.now (Some c.in-Some.least.now) c.requires.sorted sorted c.in-Some.ensures
