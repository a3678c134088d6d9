use Rattle.df_live.proofs.view.LiveView.over_nothing.Goals as goal

pub of_tree-requires-clause-fresh : goal.of_tree-requires-clause-fresh
of_tree-requires-clause-fresh c = rw (c.plan-root.ensures.value, c.as_slice.ensures, c.frames-frames.ensures.value) at c.in-Ok.ensures

pub of_tree-requires-clause-checks : goal.of_tree-requires-clause-checks
of_tree-requires-clause-checks c = c.plan-root.ensures.sound
