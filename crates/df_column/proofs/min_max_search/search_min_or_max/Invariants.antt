use Rattle.df_column.specs.BlockMinMax.{IsMinOrMaxBeside}
use Rattle.df_column.proofs.min_max_search.search_min_or_max.Given as goal

abbrev pub invariant-loop-at : goal.invariant-loop-at
invariant-loop-at g l = IsMinOrMaxBeside l.which (g.C.Ranked.cells l.column) l.at l.fn.search.high l.best
