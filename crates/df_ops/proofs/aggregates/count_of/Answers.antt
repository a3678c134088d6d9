use Rattle.std.proofs.Common.{◌≡◌, ◌∙◌, refl, Bool, true, false}
use Rattle.std.specs.Prelude.{not}
use Rattle.std.proofs.lemmas.List.Filters.{length-filter_both}
use Rattle.std.proofs.lemmas.List.{length-map}
use Rattle.df_value.specs.Rows.{cell_at}
use Rattle.df_expr.specs.Value.{is_null}
use Rattle.df_ops.specs.Aggregates.{cells_of}
use Rattle.df_ops.proofs.AggregateLaws.{count_is_count}
use Rattle.df_ops.proofs.aggregates.count_of.Goals as goal

not_not : (b : Bool) → b ≡ not (not b)
not_not true = refl
not_not false = refl

pub returns-clause-with_nulls : goal.returns-clause-with_nulls
returns-clause-with_nulls c =
    let cells = cells_of c.args.index c.args.rows.now in
    rw c.count_non_null.ensures.value
    (length-filter_both (λ x. not (is_null x)) is_null (λ x. not_not (is_null x)) cells ∙ length-map c.args.rows.now (cell_at c.args.index))

pub returns-clause-counts : goal.returns-clause-counts
returns-clause-counts c = count_is_count
