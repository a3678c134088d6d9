use Rattle.std.proofs.Common.{ap, arith, ◌∙◌, length, refl, subst, sym}
use Rattle.df_nodes.specs.Sliding.{AreWords, stacked, totals_of}
use Rattle.df_nodes.proofs.WindowMoves.{turned_window}
use Rattle.df_nodes.proofs.WindowTotals.{stacked_length}
use Rattle.df_nodes.proofs.sliding.SlidingWindow.turn.Goals as goal

pub returns-clause-over : goal.returns-clause-over
returns-clause-over c rows h =
    let kind = c.args.rolling.now.kind in
    let past = c.if-self.false in
    turned_window c.args.rolling.now rows c.args.self.now _ h (omega arith) refl refl refl
    (c.in_ok-self.ensures ∙ ap (stacked kind) c.deref.ensures.value) c.clear.ensures.items (c.none.ensures kind)

pub returns-clause-ready : goal.returns-clause-ready
returns-clause-ready c =
    let kind = c.args.rolling.now.kind in
    let past = c.if-self.false in
    let ready = c.requires.ready in
    let ordered = ready.ordered in
    let long = ready.younger in
    let some = c.requires.some in
    let stack = ap length (c.in_ok-self.ensures ∙ ap (stacked kind) c.deref.ensures.value) ∙ stacked_length kind c.args.self.now.younger.items in
    let none = ap length c.clear.ensures.items in
    record {
      ordered = omega arith;
      younger_last = omega arith;
      few = ready.few;
      older = omega arith;
      younger = omega arith;
      totals = c.none.ensures kind ∙ ap (totals_of kind) (sym c.clear.ensures.items);
      words = subst AreWords (sym c.clear.ensures.items) tt;
    }
