use Rattle.std.proofs.Common.{◌≡◌, ◌∙◌, ap, length, subst, sym}
use Rattle.dataframes.specs.Books.{InOrder}
use Rattle.dataframes.proofs.DesksFacts.{first-counted, first-ordered, if-ok}
use Rattle.dataframes.proofs.opening.open_hall.Goals as goal

pub returns-in-Ok-clause-desks : goal.returns-in-Ok-clause-desks
returns-in-Ok-clause-desks g c =
    let first = subst InOrder (sym c.in-Ok.ensures.desks) (first-ordered (length c.args.schemas)) in
    if-ok c.with_schemas.result _ _ c.with_schemas.ensures.both (λ o e. subst (λ x. InOrder x.1.1) (sym e.0) first)

pub returns-in-Ok-clause-count : goal.returns-in-Ok-clause-count
returns-in-Ok-clause-count g c =
    let first = ap length c.in-Ok.ensures.desks ∙ first-counted (length c.args.schemas) in
    if-ok c.with_schemas.result _ _ c.with_schemas.ensures.both (λ o e. subst (λ x. length x.1.1 ≡ length c.args.schemas) (sym e.0) first)
