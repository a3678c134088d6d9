use Rattle.std.proofs.Common.{◌≡◌, ◌∙◌, ap, arith, length, max, sym}
use Rattle.std.specs.Prelude.{slice_set}
use Rattle.std.proofs.lemmas.Option.{slice_get-get_or}
use Rattle.df_state.specs.Changes.{change_at}
use Rattle.df_state.proofs.StateFacts.{change-set}
use Rattle.df_session.proofs.NumberFacts.{changed-past}
use Rattle.df_session.proofs.numbers.Numbers.raise.Goals as goal

pub returns-then-frame-len : goal.returns-then-frame-len
returns-then-frame-len c =
    let ns = c.self.inside.next.items in
    let at = c.args.frame in
    let one = c.index.result.now in
    let raised = max c.args.end in
    let there = slice_get-get_or ns at one (omega (arith, c.if-frame-len.true, c.len.ensures)) in
    ap (slice_set ns at) (c.max.ensures ∙ ap raised c.index.ensures)
    ∙ (sym (change-set raised ns at _ there) ∙ ap (change_at at raised) c.self.view_is)

pub returns-else-frame-len : goal.returns-else-frame-len
returns-else-frame-len c =
    let ns = c.self.inside.next.items in
    let past = changed-past (max c.args.end) c.args.frame ns (omega (arith, c.if-frame-len.false, c.len.ensures)) in
    sym (ap (change_at c.args.frame (max c.args.end)) (sym c.self.view_is) ∙ (past ∙ c.self.view_is))
