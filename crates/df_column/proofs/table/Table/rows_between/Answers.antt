use Rattle.std.proofs.Common.{◌≡◌, ◌∙◌, ap, arith, drop, take}
use Rattle.std.specs.FinMap as finite
use Rattle.df_column.proofs.Bounds.{between_more, between_none}
use Rattle.df_column.proofs.table.Table.rows_between.Goals as goal

pub loop-at-init : goal.loop-at-init
loop-at-init c = c.in_ok-out.ensures.items ∙ between_none (finite.values c.args.self.now.rows) c.args.low

pub loop-at-preserved : goal.loop-at-preserved
loop-at-preserved c =
    let rows = finite.entries c.args.self.now.rows in
    let long = finite.len-entries c.args.self.now.rows in
    c.in_ok-push.ensures.items ∙ between_more rows c.loop-at.out.items c.args.low c.loop-at.at _ (omega arith) (omega arith) c.in_ok-row.ensures c.loop-at.invariant

pub returns : goal.returns
returns c =
    let end = c.loop-at.auto.at-end c.requires.ordered in
    let last : c.loop-at.at ≡ c.args.high = omega (arith, end, c.loop-at-test.false) in
    c.loop-at.invariant ∙ ap (λ n. drop c.args.low (take n (finite.values c.args.self.now.rows))) last
