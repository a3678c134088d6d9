use Rattle.std.proofs.Common.{ℕ, ◌%◌, ◌^◌, cond, ap, subst, sym, ◌∙◌}
use Rattle.std.specs.Prelude.{T}
use Rattle.std.specs.List.{sum_by}
use Rattle.std.specs.FinMap.{is_sorted}
use Rattle.df_value.specs.CellOrder.{cell_cmp}
use Rattle.df_counts.specs.Entries.{entries_of}
use Rattle.df_counts.specs.Places.{is_below}
use Rattle.df_counts.specs.declared.totals.Totals.{Totals}
use Rattle.df_counts.proofs.PlaceLemmas.{partitioned}
use Rattle.df_counts.proofs.TotalSums.{values_where}
use Rattle.df_counts.proofs.counts.Counts.values_below.Goals as goal

pub measure_before-requires : goal.measure_before-requires
measure_before-requires c = partitioned c.args.value.now _ (subst (λ es. T (is_sorted cell_cmp es)) (ap entries_of c.in-Some.is) c.self.invariant)

pub returns-in-Some : goal.returns-in-Some
returns-in-Some c =
    let values : Totals → ℕ = λ t. t.values in
    ap values c.measure_before.ensures ∙ values_where (is_below c.args.value.now) _ ∙ ap (λ es. sum_by (λ e. cond (is_below c.args.value.now e) 1 0) es % 2 ^ 64) (sym (ap entries_of c.in-Some.is) ∙ c.self.view_is)
