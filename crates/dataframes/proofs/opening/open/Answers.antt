use Rattle.std.proofs.Common.{◌∙◌, inr, length, subst}
use Rattle.df_versions.specs.Histories.{schemas_of}
use Rattle.dataframes.proofs.ClosingFacts.{if-err}
use Rattle.dataframes.specs.Closing.{IsServed, IsUnfinished}
use Rattle.dataframes.proofs.opening.open.Goals as goal

pub returns-in-Ok-clause-refused : goal.returns-in-Ok-clause-refused
returns-in-Ok-clause-refused g c =
    let parts = c.into_parts-schemas in
    let schemas = c.in-Ok.ensures.history ∙ (c.from_vec-schemas.ensures ∙ parts.ensures.schemas) in
    if-err c.serve.result (IsServed (schemas_of c.in-Ok.opened.1.0) parts.result.1.items) (IsUnfinished c.args.builder (length c.args.workers.watchers.items)) c.serve.ensures.refused
    (λ fault h. inr
    (subst (λ s. IsServed s c.args.builder.views fault) schemas (subst (λ vs. IsServed (schemas_of c.in-Ok.opened.1.0) vs fault) parts.ensures.views h)))
