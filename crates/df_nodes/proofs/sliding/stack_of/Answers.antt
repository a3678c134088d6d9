use Rattle.std.proofs.Common.{◌≡◌, ◌+◌, ◌-◌, [], ◌∷◌, ◌++◌, ap, arith, ◌∙◌, drop, get_or, length, length-drop, subst, sym}
use Rattle.std.proofs.lemmas.List.{drop_all, drop_more}
use Rattle.df_nodes.specs.Sliding.{IsSmall, stacked}
use Rattle.df_nodes.proofs.WindowTotals.{small_totals, stacked_last, stacked_length, stacked_more, words_drop}
use Rattle.df_nodes.proofs.sliding.stack_of.Goals as goal

pub loop-at-init : goal.loop-at-init
loop-at-init c =
    c.in_ok-push.ensures.items
    ∙ ap (λ l. l ++ c.none.result ∷ []) c.in_ok-stack.ensures.items
    ∙ ap (λ t. t ∷ []) (c.none.ensures c.args.kind)
    ∙ ap (stacked c.args.kind) (sym (drop_all (length c.args.cells.now - 0) c.args.cells.now (omega arith)))

pub push_totals-requires-clause-some : goal.push_totals-requires-clause-some
push_totals-requires-clause-some c =
    let cells = c.args.cells.now in
    let long = ap length c.loop-at.invariant ∙ stacked_length c.args.kind (drop (length cells - c.loop-at.at) cells) in
    omega arith

pub push_totals-requires-clause-small : goal.push_totals-requires-clause-small
push_totals-requires-clause-small c d =
    let cells = c.args.cells.now in
    let kind = c.args.kind in
    let n = length cells - c.loop-at.at in
    let few = c.requires.few in
    let long = length-drop n cells in
    subst IsSmall (sym (ap (λ l. get_or l (length l - 1) d) c.loop-at.invariant ∙ stacked_last kind (drop n cells) d))
    (small_totals kind (drop n cells) (omega arith) (words_drop n cells c.requires.words))

pub loop-at-preserved : goal.loop-at-preserved
loop-at-preserved c =
    let cells = c.args.cells.now in
    let kind = c.args.kind in
    let x = c.index-cells-cells.result in
    let n = length cells - (c.loop-at.at + 1) in
    let here : get_or cells n x ≡ x = sym (c.index-cells-cells.is ∙ ap (λ i. get_or cells i x) (omega arith)) in
    let next : n + 1 ≡ length cells - c.loop-at.at = omega arith in
    stacked_more kind x (drop (length cells - c.loop-at.at) cells) c.loop-at.stack.items c.push_totals.new.stack.items c.loop-at.invariant c.in_ok-push_totals.ensures
    ∙ ap (stacked kind) (sym (drop_more cells n x (omega arith) ∙ ap (λ y. y ∷ drop (n + 1) cells) here ∙ ap (λ i. x ∷ drop i cells) next))
