use Rattle.std.proofs.Common.{ap, ◌∙◌, sym, ◌++◌, ◌∷◌, [], Some, None}
use Rattle.df_column.proofs.Masks.{masked_push, masked_null}
use Rattle.df_column.proofs.masked.Masked.push.Goals as goal

pub returns-in_ok-push-in-Some : goal.returns-in_ok-push-in-Some
returns-in_ok-push-in-Some g c =
    rw c.in_ok-push-in-Some.ensures.items
    (masked_push c.self.inside.nulls.items c.self.inside.values.items c.in-Some.value c.self.invariant
    ∙ ap (λ ts. ts ++ Some c.in-Some.value ∷ []) c.self.view_is ∙ ap (λ o. c.args.self.now ++ o ∷ []) (sym c.in-Some.is))

pub returns-in_ok-push_null-in-None : goal.returns-in_ok-push_null-in-None
returns-in_ok-push_null-in-None g c =
    rw (c.in_ok-push_null-in-None.ensures.nulls, c.in_ok-push_null-in-None.ensures.values)
    (masked_null c.self.inside.nulls.items c.self.inside.values.items c.args.filler c.self.invariant
    ∙ ap (λ ts. ts ++ None ∷ []) c.self.view_is ∙ ap (λ o. c.args.self.now ++ o ∷ []) (sym c.in-None.is))
