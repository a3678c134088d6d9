-- A plan that checks has few nodes.
use Rattle.std.proofs.Common.{◌≡◌, ℕ, ◌+◌, ◌*◌, ◌^◌, ◌≤◌, max, List, subst, arith}
use Rattle.std.specs.Prelude.{Ok}
use Rattle.std.proofs.Math.Pow.{pow_mono}
use Rattle.std.proofs.Math.Nat.{pow-suc}
use Rattle.df_value.specs.Schemas.{Columns}
use Rattle.df_expr.specs.declared.meter.Meter.{Meter}
use Rattle.df_plan.specs.Checks.{plan_check, plan_levels, plan_levels_step}
use Rattle.df_plan.specs.declared.plan.Plan.{Plan}
use Rattle.df_plan.specs.declared.plan.Plan.TheOpen.{Plan-F}
use Rattle.df_plan.specs.declared.plan.Plan.TheFolds.{fold-roll-Plan, ind-Plan, map-Plan}
use Rattle.df_plan.specs.declared.plan.Plan.TheViews.{roll-Plan}
use Rattle.df_live.specs.Fresh.{IsAtMost, nodes, nodes_step}
use Rattle.df_live.proofs.Parts.{within_limits}

abbrev AreFew : Plan → Type 0
AreFew p = nodes p + 1 ≤ 2 ^ plan_levels p

doubled : (l : ℕ) → 2 ^ (1 + l) ≡ 2 * 2 ^ l
doubled l = grind (arith, pow-suc 2 l)

one_more : (n l : ℕ) → n + 1 ≤ 2 ^ l → 1 + n + 1 ≤ 2 ^ (1 + l)
one_more n l h = omega (arith, h, doubled l)

two_more : (m n k l : ℕ) → m + 1 ≤ 2 ^ k → n + 1 ≤ 2 ^ l → 1 + (m + n) + 1 ≤ 2 ^ (1 + max k l)
two_more m n k l h g =
    let left : 2 ^ k ≤ 2 ^ max k l = pow_mono (omega arith) in
    let right : 2 ^ l ≤ 2 ^ max k l = pow_mono (omega arith) in
    omega (arith, h, g, left, right, doubled (max k l))

step : (y : Plan-F ((p : Plan) × AreFew p)) → AreFew (roll-Plan (map-Plan ((p : Plan) × AreFew p) Plan (λ p. p.0) y))
step (Plan-F.Scan f) = rw (fold-roll-Plan ℕ nodes_step, fold-roll-Plan ℕ plan_levels_step) (omega arith)
step (Plan-F.Filter a p) = rw (fold-roll-Plan ℕ nodes_step, fold-roll-Plan ℕ plan_levels_step) (one_more (nodes a.0) (plan_levels a.0) a.1)
step (Plan-F.Select a items) = rw (fold-roll-Plan ℕ nodes_step, fold-roll-Plan ℕ plan_levels_step) (one_more (nodes a.0) (plan_levels a.0) a.1)
step (Plan-F.WithColumns a items) = rw (fold-roll-Plan ℕ nodes_step, fold-roll-Plan ℕ plan_levels_step) (one_more (nodes a.0) (plan_levels a.0) a.1)
step (Plan-F.GroupBy a keys aggs) = rw (fold-roll-Plan ℕ nodes_step, fold-roll-Plan ℕ plan_levels_step) (one_more (nodes a.0) (plan_levels a.0) a.1)
step (Plan-F.Join a b h keys nulls_equal) =
    rw (fold-roll-Plan ℕ nodes_step, fold-roll-Plan ℕ plan_levels_step) (two_more (nodes a.0) (nodes b.0) (plan_levels a.0) (plan_levels b.0) a.1 b.1)
step (Plan-F.Rolling a output k column w m) = rw (fold-roll-Plan ℕ nodes_step, fold-roll-Plan ℕ plan_levels_step) (one_more (nodes a.0) (plan_levels a.0) a.1)
step (Plan-F.CumSum a output column) = rw (fold-roll-Plan ℕ nodes_step, fold-roll-Plan ℕ plan_levels_step) (one_more (nodes a.0) (plan_levels a.0) a.1)
step (Plan-F.Rank a output k column) = rw (fold-roll-Plan ℕ nodes_step, fold-roll-Plan ℕ plan_levels_step) (one_more (nodes a.0) (plan_levels a.0) a.1)

are_few : (p : Plan) → AreFew p
are_few = ind-Plan AreFew (λ x y is. subst (λ z. AreFew (roll-Plan z)) is (step y))

pub few_nodes : (p : Plan) (schemas : List Columns) (cs : Columns) → plan_check p schemas ≡ Ok cs → nodes p ≤ 2 ^ 12
few_nodes p schemas cs h =
    let most : 2 ^ plan_levels p ≤ 2 ^ 12 = pow_mono (within_limits p schemas cs h).0 in
    omega (arith, are_few p, most)

pub of_few_nodes : (m : Meter) (n : ℕ) → n ≤ 2 ^ 12 → IsAtMost m (n * 2 ^ 82) → IsAtMost m (2 ^ 94)
of_few_nodes m n few h = (omega (arith, few, h.0), omega (arith, few, h.1), omega (arith, few, h.2), omega (arith, few, h.3))
