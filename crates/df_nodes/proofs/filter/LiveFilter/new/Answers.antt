use Rattle.std.proofs.Common.{◌∙◌, subst}
use Rattle.df_expr.specs.Physical.{IsPhysical}
use Rattle.df_nodes.proofs.SameOutputs.{filtered_is, filtered_rows}
use Rattle.df_nodes.proofs.filter.LiveFilter.new.Goals as goal

pub returns-clause-output : goal.returns-clause-output
returns-clause-output c t =
    let p = c.in_ok-predicate.predicate in
    filtered_is c.args.schema.now c.args.predicate.now p
    (subst (λ columns. IsPhysical c.args.predicate.now columns p) (c.as_slice.ensures ∙ c.columns.ensures.value) c.in_ok-predicate.ensures) t

pub returns-clause-rows : goal.returns-clause-rows
returns-clause-rows c t =
    let p = c.in_ok-predicate.predicate in
    filtered_rows c.args.schema.now c.args.predicate.now p
    (subst (λ columns. IsPhysical c.args.predicate.now columns p) (c.as_slice.ensures ∙ c.columns.ensures.value) c.in_ok-predicate.ensures) t
