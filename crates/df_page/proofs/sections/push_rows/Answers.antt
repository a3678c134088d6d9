use Rattle.df_page.proofs.MarkupFacts.{then, then_ok}
use Rattle.df_page.proofs.sections.push_rows.Goals as goal

pub returns : goal.returns
returns c = then_ok _ _ _ _ _ _ (then _ _ _ _ _ c.in_ok-push_tags.ensures c.in_ok-push_each_row.ensures) c.push_tags-2.ensures
