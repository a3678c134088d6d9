use Rattle.std.proofs.Common.{[], ◌∷◌, ap, arith, ◌∙◌, refl, subst, sym}
use Rattle.df_nodes.specs.Sliding.{IsSmall, joined_totals}
use Rattle.df_nodes.proofs.WindowMoves.{pushed_window, small_younger}
use Rattle.df_nodes.proofs.WindowTotals.{small_totals}
use Rattle.df_nodes.proofs.sliding.SlidingWindow.push.Goals as goal

pub joined-requires-clause-first : goal.joined-requires-clause-first
joined-requires-clause-first c = small_younger c.args.rolling.now c.args.self.now c.requires.ready

pub joined-requires-clause-second : goal.joined-requires-clause-second
joined-requires-clause-second c =
    let kind = c.args.rolling.now.kind in
    subst IsSmall (sym (c.in_ok-own.ensures.value kind)) (small_totals kind (c.in_ok-cell.cell ∷ []) (omega arith) (c.of_cell.ensures.word, tt))

pub returns-clause-over : goal.returns-clause-over
returns-clause-over c rows lt at h =
    let kind = c.args.rolling.now.kind in
    pushed_window c.args.rolling.now rows c.args.self.now _ c.in_ok-cell.cell c.args.row.now h lt at c.in_ok-cell.ensures c.of_cell.ensures.word refl refl refl refl
    c.in_ok-push.ensures.items
    (c.in_ok-self.ensures ∙ ap (joined_totals kind c.args.self.now.totals) (c.in_ok-own.ensures.value kind))
