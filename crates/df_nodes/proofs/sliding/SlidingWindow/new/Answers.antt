use Rattle.std.proofs.Common.{[], ◌∷◌, ◌++◌, ap, ◌∙◌, refl}
use Rattle.df_nodes.proofs.WindowMoves.{empty_window}
use Rattle.df_nodes.proofs.sliding.SlidingWindow.new.Goals as goal

pub returns-clause-over : goal.returns-clause-over
returns-clause-over c r rows within =
    empty_window r rows _ refl refl within
    (c.in_ok-push.ensures.items ∙ ap (λ l. l ++ c.none.result ∷ []) c.in_ok-older.ensures.items ∙ ap (λ t. t ∷ []) (c.none.ensures r.kind))
    c.new.ensures.items (c.none-2.ensures r.kind)
