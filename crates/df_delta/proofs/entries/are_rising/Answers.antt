use Rattle.std.proofs.Common.{arith, ap, sym, ◌∙◌, ◌-◌, ◌+◌, ◌≡◌}
use Rattle.std.specs.Prelude.{◌&&◌}
use Rattle.df_delta.proofs.Rising.{rises_from, rising_step, rising_end}
use Rattle.df_delta.proofs.entries.are_rising.Goals as goal

pub loop-at-preserved : goal.loop-at-preserved
loop-at-preserved c =
    let es = c.args.entries.now in
    let at = c.loop-at.at in
    let e : at ≡ at + 1 - 1 = omega arith in
    c.loop-at.invariant
    ∙ rising_step es at _ _ (omega arith) c.loop-at-test.true c.index-entries-at.is c.index-entries-at-in-loop-at.is
    ∙ ap (λ b. b && rises_from at es) (sym c.is_before.ensures ∙ c.if-not-is_before.false)
    ∙ ap (λ n. rises_from n es) e

pub returns-then-not-is_before : goal.returns-then-not-is_before
returns-then-not-is_before c =
    let es = c.args.entries.now in
    let at = c.loop-at.at in
    sym (c.loop-at.invariant
    ∙ rising_step es at _ _ (omega arith) c.loop-at-test.true c.index-entries-at.is c.index-entries-at-in-loop-at.is
    ∙ ap (λ b. b && rises_from at es) (sym c.is_before.ensures ∙ c.if-not-is_before.true))

pub returns : goal.returns
returns c = sym (c.loop-at.invariant ∙ rising_end c.args.entries.now c.loop-at.at (omega (arith, c.loop-at-test.false)))
