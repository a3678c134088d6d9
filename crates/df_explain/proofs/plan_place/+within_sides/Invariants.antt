use Rattle.df_explain.proofs.plan_place.+within_sides.Given as goal

abbrev pub decreases-within_sides : goal.decreases-within_sides
decreases-within_sides l = l.most
