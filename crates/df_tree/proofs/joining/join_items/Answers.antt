use Rattle.std.proofs.Common.{ap, ◌∙◌, ◌++◌, refl}
use Rattle.df_tree.proofs.JoinLemmas.{put_as}
use Rattle.df_tree.proofs.Outcomes.{if_ok_then}
use Rattle.df_tree.proofs.joining.join_items.Goals as goal

pub returns : goal.returns
returns g c =
    if_ok_then c.push_items.result c.push_items.ensures
    (λ _ h. put_as {I = g.row.I.Denot} _ _ _ _ _ _ refl (c.in_ok-append.ensures.items ∙ ap (λ l. l ++ c.in_ok-rest.rest.items) c.in_ok-made.ensures ∙ ap (λ l. c.args.front.now ++ l) c.in_ok-rest.ensures) h)
