use Rattle.std.proofs.Common.{◌≡◌, take, map}
use Rattle.df_value.specs.Rows.{cell_at}
use Rattle.df_ops.specs.Ranks.{min_rank_of}
use Rattle.df_ops.proofs.ranks.all_min_ranked.Given as goal

abbrev pub invariant-loop-row : goal.invariant-loop-row
invariant-loop-row l = l.ranks.items ≡ map (λ r. min_rank_of l.index l.rows (cell_at l.index r)) (take l.row-index l.rows)
