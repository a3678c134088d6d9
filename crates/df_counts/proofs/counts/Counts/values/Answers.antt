use Rattle.std.proofs.Common.{ℕ, ◌%◌, ◌^◌, length, ap, sym, ◌∙◌}
use Rattle.df_counts.specs.Entries.{entries_of}
use Rattle.df_counts.specs.declared.totals.Totals.{Totals}
use Rattle.df_counts.proofs.TotalSums.{total_values}
use Rattle.df_counts.proofs.counts.Counts.values.Goals as goal

pub returns-in-Some : goal.returns-in-Some
returns-in-Some c =
    let values : Totals → ℕ = λ t. t.values in
    ap values c.measure.ensures ∙ total_values _ ∙ ap (λ es. length es % 2 ^ 64) (sym (ap entries_of c.in-Some.is) ∙ c.self.view_is)
