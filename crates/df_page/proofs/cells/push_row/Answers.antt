use Rattle.df_page.proofs.MarkupFacts.{then, then_ok}
use Rattle.df_page.proofs.cells.push_row.Goals as goal

pub returns : goal.returns
returns c = then_ok _ _ _ _ _ _ (then _ _ _ _ _ c.in_ok-push_row_tag.ensures.value c.in_ok-push_cells.ensures) c.push_tags.ensures
