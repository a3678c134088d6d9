use Rattle.std.proofs.Common.{◌≡◌, ap, subst, sym}
use Rattle.std.specs.Prelude.{T}
use Rattle.std.specs.FinMap.{is_sorted}
use Rattle.df_value.specs.CellOrder.{cell_cmp, cell_cmp_total}
use Rattle.df_tree.specs.Leaves.{items_in}
use Rattle.df_counts.specs.Counts.{some_count}
use Rattle.df_counts.specs.Entries.{entries_of}
use Rattle.df_counts.proofs.Edits.{sorted_edit}
use Rattle.df_counts.proofs.Outcomes.{either_way}
use Rattle.df_counts.proofs.counts.Counts.set_at.Goals as goal

pub invariant_of-self : goal.invariant_of-self
invariant_of-self c =
    let sorted : T (is_sorted cell_cmp (items_in c.in-Some.entries.seq)) = subst (λ es. T (is_sorted cell_cmp es)) (ap entries_of c.in-Some.is) c.self.invariant in
    either_way (λ e. items_in c.set_at.new.entries ≡ items_in c.in-Some.entries.seq) c.set_at.result c.set_at.ensures
    (λ u made. subst (λ es. T (is_sorted cell_cmp es)) (sym made) (sorted_edit cell_cmp_total _ c.args.value.now (some_count c.args.count) sorted))
    (λ e same. subst (λ es. T (is_sorted cell_cmp es)) (sym same) sorted)
