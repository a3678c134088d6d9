use Rattle.df_page.proofs.pages.push_reload.Goals as goal

pub returns-then-reload : goal.returns-then-reload
returns-then-reload c = rw c.if-reload.true c.push_tags.ensures
