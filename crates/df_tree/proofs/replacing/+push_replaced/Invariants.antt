use Rattle.df_tree.proofs.replacing.+push_replaced.Given as goal

abbrev pub decreases-push_replaced : goal.decreases-push_replaced
decreases-push_replaced g l = l.seq.now.1
