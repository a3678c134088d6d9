-- The inputs of a plan that checks, check.
use Rattle.std.proofs.Common.{◌≡◌, ℕ, ◌+◌, ◌≤◌, max, Bool, true, false, List, refl, sym, ◌∙◌, arith}
use Rattle.std.specs.Prelude.{Ok, Err, nat_lt, if◌then◌else◌}
use Rattle.std.proofs.lemmas.Bool.Decides.{nat_tests}
use Rattle.df_value.specs.Outcomes.{then_next}
use Rattle.df_value.specs.Schemas.{Columns}
use Rattle.df_plan.specs.Checks.{CheckResult, columns_of, plan_check, plan_levels, plan_scans}
use Rattle.df_plan.specs.declared.fault.PlanFault.TheVariants as fault
use Rattle.df_plan.specs.declared.plan.Plan.{Plan}
use Rattle.df_plan.proofs.Found.{checked_columns, then_ok}

-- a plan that checks is within its limits
limits :
    (deep wide : Bool) (c : CheckResult) (cs : Columns) →
    (if deep then Err fault.TooDeep else if wide then Err fault.TooManyScans else c) ≡ Ok cs → (deep ≡ false) × (wide ≡ false)
limits true wide c cs h = cc h
limits false true c cs h = cc h
limits false false c cs h = (cc, cc)

pub within_limits : (p : Plan) (schemas : List Columns) (cs : Columns) → plan_check p schemas ≡ Ok cs → (plan_levels p ≤ 12) × (plan_scans p ≤ 3)
within_limits p schemas cs h =
    let is = limits (nat_lt 12 (plan_levels p)) (nat_lt 3 (plan_scans p)) (columns_of p schemas) cs h in
    (grind (arith, is.0), grind (arith, is.1))

not_above : (a n : ℕ) → n ≤ a → nat_lt a n ≡ false
not_above a n le = grind (arith, nat_tests)

inside : (deep wide : Bool) (c : CheckResult) → deep ≡ false → wide ≡ false →
    (if deep then Err fault.TooDeep else if wide then Err fault.TooManyScans else c) ≡ c
inside false false c d w = refl
inside true wide c d w = cc d
inside false true c d w = cc w

pub checks_from : (p : Plan) (schemas : List Columns) (cs : Columns) → plan_levels p ≤ 12 → plan_scans p ≤ 3 → columns_of p schemas ≡ Ok cs → plan_check p schemas ≡ Ok cs
checks_from p schemas cs levels scans h =
    inside (nat_lt 12 (plan_levels p)) (nat_lt 3 (plan_scans p)) (columns_of p schemas) (not_above 12 (plan_levels p) levels) (not_above 3 (plan_scans p) scans) ∙ h

-- the one input, and what the node's check gives of its columns
pub part_checks :
    (schemas : List Columns) (p i : Plan) (next : Columns → CheckResult) (cs : Columns) → plan_check p schemas ≡ Ok cs →
    columns_of p schemas ≡ then_next (columns_of i schemas) next → plan_levels p ≡ 1 + plan_levels i → plan_scans p ≡ plan_scans i →
    (is : Columns) × ((plan_check i schemas ≡ Ok is) × (next is ≡ Ok cs))
part_checks schemas p i next cs h columns levels scans =
    let limits = within_limits p schemas cs h in
    let input = then_ok (columns_of i schemas) next cs (sym columns ∙ checked_columns p schemas cs h) in
    (input.0, (checks_from i schemas input.0 (omega (arith, limits.0, levels)) (omega (arith, limits.1, scans)) input.1.0, input.1.1))

-- both inputs of a join
pub both_check :
    (schemas : List Columns) (p l r : Plan) (next : Columns → Columns → CheckResult) (cs : Columns) → plan_check p schemas ≡ Ok cs →
    columns_of p schemas ≡ then_next (columns_of l schemas) (λ ls. then_next (columns_of r schemas) (next ls)) →
    plan_levels p ≡ 1 + max (plan_levels l) (plan_levels r) → plan_scans p ≡ plan_scans l + plan_scans r →
    (ls rs : Columns) × ((plan_check l schemas ≡ Ok ls) × ((plan_check r schemas ≡ Ok rs) × (next ls rs ≡ Ok cs)))
both_check schemas p l r next cs h columns levels scans =
    let limits = within_limits p schemas cs h in
    let first = then_ok (columns_of l schemas) (λ ls. then_next (columns_of r schemas) (next ls)) cs (sym columns ∙ checked_columns p schemas cs h) in
    let second = then_ok (columns_of r schemas) (next first.0) cs first.1.1 in
    let le : plan_levels l ≤ 12 = omega (arith, limits.0, levels) in
    let re : plan_levels r ≤ 12 = omega (arith, limits.0, levels) in (
      first.0,
      second.0,
      (
        checks_from l schemas first.0 le (omega (arith, limits.1, scans)) first.1.0,
        (checks_from r schemas second.0 re (omega (arith, limits.1, scans)) second.1.0, second.1.1),
      ),
    )
