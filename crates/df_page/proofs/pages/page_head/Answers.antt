use Rattle.df_page.specs.Pages.{head_of}
use Rattle.df_page.proofs.MarkupFacts.{from_none, then}
use Rattle.df_page.proofs.pages.page_head.Goals as goal

pub returns : goal.returns
unfolding head_of
returns c = from_none _ _ _ c.new-out.ensures.items (then _ _ _ _ _ c.in_ok-push_first.ensures (then _ _ _ _ _ c.in_ok-push_reload.ensures c.in_ok-push_title.ensures))
