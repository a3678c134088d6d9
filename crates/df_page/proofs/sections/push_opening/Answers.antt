use Rattle.df_page.proofs.MarkupFacts.{then, then_ok}
use Rattle.df_page.proofs.sections.push_opening.Goals as goal

pub returns : goal.returns
returns c = then_ok _ _ _ _ _ _ (then _ _ _ _ _ c.in_ok-push_tags.ensures c.in_ok-push_size.ensures) c.push_tags-2.ensures
