use Rattle.std.proofs.Common.{[], ◌∷◌, arith, subst, sym}
use Rattle.df_nodes.specs.Sliding.{IsSmall}
use Rattle.df_nodes.proofs.WindowTotals.{small_totals}
use Rattle.df_nodes.proofs.sliding.push_totals.Goals as goal

pub joined-requires-clause-first : goal.joined-requires-clause-first
joined-requires-clause-first c =
    subst IsSmall (sym (c.in_ok-own.ensures.value c.args.kind)) (small_totals c.args.kind (c.args.cell.now ∷ []) (omega arith) (c.of_cell.ensures.word, tt))
