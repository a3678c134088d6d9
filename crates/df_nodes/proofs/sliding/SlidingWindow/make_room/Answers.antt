use Rattle.std.proofs.Common.{◌≡◌, ◌-◌, ap, arith, ◌∙◌, length, refl, take}
use Rattle.df_nodes.proofs.WindowMoves.{passed_window}
use Rattle.df_nodes.proofs.sliding.SlidingWindow.make_room.Goals as goal

pub returns-clause-over : goal.returns-clause-over
returns-clause-over c rows h =
    let turned = c.turn.new.self in
    let ok = turned.older.ok in
    let long : c.len.result ≡ length turned.older.items = omega arith in
    passed_window c.args.rolling.now rows turned _ (c.in_ok-turn.ensures.over rows h) c.in_ok-turn.ensures.some refl refl refl
    (c.truncate.ensures.items ∙ ap (λ n. take (n - 1) turned.older.items) long) refl refl
