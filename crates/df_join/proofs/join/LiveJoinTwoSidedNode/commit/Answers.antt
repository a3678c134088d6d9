use Rattle.df_join.proofs.join.LiveJoinTwoSidedNode.commit.Goals as goal

pub returns-clause-over : goal.returns-clause-over
returns-clause-over c l r h = record { scans = h.scans; left = c.put_all.ensures.over c.args.self.now.rule.indices.left l h.left; right = c.put_all-2.ensures.over c.args.self.now.rule.indices.right r h.right }
