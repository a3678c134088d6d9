use Rattle.df_page.proofs.marks.push_known.Goals as goal

pub returns-in-None : goal.returns-in-None
returns-in-None c = rw c.in-None.is c.push_tags.ensures
