use Rattle.std.proofs.Common.{◌+◌, ◌*◌, max}
use Rattle.df_live.specs.declared.tree.LiveTree.{size-LiveTree}
use Rattle.df_live.proofs.tree.LiveTree.+prepared.Given as goal

abbrev pub decreases-prepared : goal.decreases-prepared
decreases-prepared l = 2 * size-LiveTree l.self.now

abbrev pub decreases-prepared_over : goal.decreases-prepared_over
decreases-prepared_over l = 2 * size-LiveTree l.input.now + 1

abbrev pub decreases-prepared_join : goal.decreases-prepared_join
decreases-prepared_join l = 2 * max (size-LiveTree l.left.now) (size-LiveTree l.right.now) + 1
