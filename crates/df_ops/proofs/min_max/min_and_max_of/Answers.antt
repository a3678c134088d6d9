use Rattle.std.proofs.Common.{◌∙◌, sym, ap}
use Rattle.std.specs.Prelude.{option_map}
use Rattle.df_ops.specs.declared.min_max.MinMax.TheVariants as min_max
use Rattle.df_ops.specs.Aggregates.{cells_of, non_null}
use Rattle.df_ops.proofs.MinMaxFacts.{in_order, none_non_null}
use Rattle.df_ops.proofs.min_max.min_and_max_of.Goals as goal

pub returns-in-Some-min_or_max_of-clause-in_order : goal.returns-in-Some-min_or_max_of-clause-in_order
returns-in-Some-min_or_max_of-clause-in_order c =
    in_order (non_null (cells_of c.args.index c.args.rows.now)) c.in-Some.least.now c.in-Some-min_or_max_of.greatest.now
    (sym c.min_or_max_of.ensures ∙ ap (option_map (λ x. x.now)) c.in-Some.is)
    (sym c.min_or_max_of-in-Some.ensures ∙ ap (option_map (λ x. x.now)) c.in-Some-min_or_max_of.is)

pub returns-in-None-min_or_max_of-clause-none : goal.returns-in-None-min_or_max_of-clause-none
returns-in-None-min_or_max_of-clause-none c =
    none_non_null min_max.Max (non_null (cells_of c.args.index c.args.rows.now))
    (sym c.min_or_max_of-in-Some.ensures ∙ ap (option_map (λ x. x.now)) c.in-None-min_or_max_of.is)

pub returns-in-None-clause-none : goal.returns-in-None-clause-none
returns-in-None-clause-none c =
    none_non_null min_max.Min (non_null (cells_of c.args.index c.args.rows.now)) (sym c.min_or_max_of.ensures ∙ ap (option_map (λ x. x.now)) c.in-None.is)
