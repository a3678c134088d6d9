use Rattle.std.proofs.Common.{◌+◌, ◌*◌}
use Rattle.df_tree.proofs.joining.+join.Given as goal

abbrev pub decreases-join : goal.decreases-join
decreases-join g l = 2 * (l.front.now.1 + l.behind.now.1) + 1

abbrev pub decreases-join_last : goal.decreases-join_last
decreases-join_last g l = 2 * (l.front.now.1 + l.behind.now.1)

abbrev pub decreases-join_first : goal.decreases-join_first
decreases-join_first g l = 2 * (l.front.now.1 + l.behind.now.1)
