use Rattle.std.proofs.Common.{◌≡◌, ap, ◌∙◌, arith}
use Rattle.std.specs.List.{insert}
use Rattle.df_value.specs.CellOrder.{cell_cmp}
use Rattle.df_column.specs.Changes.{edit}
use Rattle.df_tree.specs.Leaves.{items_in}
use Rattle.df_counts.specs.Counts.{some_count}
use Rattle.df_counts.proofs.Outcomes.{match_then}
use Rattle.df_counts.proofs.PlaceLemmas.{inserted, some_of, stays}
use Rattle.df_counts.proofs.entries.insert_at.Goals as goal

pub returns-then-count-eq0 : goal.returns-then-count-eq0
returns-then-count-eq0 c =
    let none : 0 ≡ c.args.count = omega (arith, c.if-count-eq0.true) in
    stays _ c.args.place c.args.value.now c.requires.place c.requires.gap
    ∙ ap (λ n. edit cell_cmp (items_in c.args.entries.now) c.args.value.now (some_count n)) none

pub returns : goal.returns
returns c =
    match_then (λ u. items_in c.insert.new.self ≡ items_in c.args.entries.now) c.insert.result c.insert.ensures (λ u made.
    made
    ∙ ap (λ e. insert (items_in c.args.entries.now) c.args.place e) c.in_ok-entry.ensures
    ∙ inserted _ c.args.place c.args.value.now c.requires.place c.requires.gap c.args.count
    ∙ ap (λ o. edit cell_cmp (items_in c.args.entries.now) c.args.value.now o) (some_of c.args.count (λ z. omega (arith, c.if-count-eq0.false, z))))
