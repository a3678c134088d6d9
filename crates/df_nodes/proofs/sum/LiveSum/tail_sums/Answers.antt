use Rattle.std.proofs.Common.{◌∙◌, ◌^◌, ap, arith, pos, subst, sym}
use Rattle.std.specs.Prelude.{◌≤ℤ◌}
use Rattle.std.specs.FinMap as finite
use Rattle.std.specs.Int.{w128}
use Rattle.std.proofs.lemmas.Int.{ints, to_z-of_z}
use Rattle.df_nodes.specs.Sums.{sum_to}
use Rattle.df_nodes.proofs.SumStarts.{if_ok, no_shift, was_read}
use Rattle.df_nodes.proofs.sum.LiveSum.tail_sums.Goals as goal

pub sum_before-requires : goal.sum_before-requires
sum_before-requires c =
    let len = finite.len-entries c.args.input.now.rows in
    let within = c.lower_bound-start.ensures.within in
    omega (arith, len, within)

pub sums_from-requires-clause-within : goal.sums_from-requires-clause-within
sums_from-requires-clause-within c =
    let len = finite.len-entries c.args.input.now.rows in
    let within = c.lower_bound-start.ensures.within in
    omega (arith, len, within)

pub returns-then-is_within-clause-exact : goal.returns-then-is_within-clause-exact
returns-then-is_within-clause-exact c =
    let n = c.args.self.now in
    let u = c.args.input.now.rows in
    let start = c.lower_bound-start.result in
    let before = c.unwrap_or-before.result in
    let whole = to_z-of_z w128 before (omega (arith, ints)) in
    let small = subst (λ b. b ≤ℤ pos (2 ^ 123)) whole (c.is_within.ensures c.if-is_within.true).1 in
    if_ok c.sums_from.result _ _ c.sums_from.ensures.from (λ s h has.
    no_shift s.before (sum_to n.index u s.start)
    (h.2 ∙ whole
    ∙ was_read c.in_ok-sum_before.field-0 (sum_to n.index u start) before c.unwrap_or-before.ensures small (c.in_ok-sum_before.ensures c.args.first c.lower_bound-start.ensures.before has)
    ∙ ap (sum_to n.index u) (sym h.1)))
