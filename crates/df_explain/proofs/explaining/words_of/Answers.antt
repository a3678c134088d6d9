use Rattle.df_explain.proofs.explaining.words_of.Goals as goal

pub returns-in-Plan : goal.returns-in-Plan
returns-in-Plan c = rw c.in-Plan.is c.view_words.ensures

pub returns-in-Memory : goal.returns-in-Memory
returns-in-Memory c = rw c.in-Memory.is c.behind_name-in-Memory.ensures
