use Rattle.std.proofs.Common.{◌≡◌, ◌∙◌, ap, arith, cond, subst, sym, ◌+◌, ◌%◌, ◌^◌, ℕ, Some}
use Rattle.std.proofs.Common.{rules}
use Rattle.std.specs.Prelude.{unwrap_or}
use Rattle.std.specs.BTreeMap.{BTreeMap, Updates}
use Rattle.std.specs.Option.{option_copied}
use Rattle.df_value.specs.CellEq.{cell_eq}
use Rattle.df_value.specs.CellOrder.{cell_cmp}
use Rattle.df_value.specs.declared.cell.Cell.{Cell}
use Rattle.df_ranks.specs.Rises.{is_value, rise_of}
use Rattle.df_ranks.proofs.RiseSteps.{raised_at}
use Rattle.df_ranks.proofs.rises.raise.Goals as goal

pub returns-in-Some-get_mut : goal.returns-in-Some-get_mut
returns-in-Some-get_mut c = λ v.
    let old = c.args.rises.now in
    let by = c.args.by in
    let key = c.in-Some.value.now in
    let raised = (c.in-Some-get_mut.rise.now + by) % 2 ^ 64 in
    let rise : c.in-Some-get_mut.rise.now ≡ rise_of old key = ap (λ o. unwrap_or o 0) c.in-Some-get_mut.ensures.value in
    raised_at old (c.get_mut.follows.lender raised) key raised by ((c.get_mut.follows.holds raised).3 (search rules)) (ap (λ n. (n + by) % 2 ^ 64) rise) v
    ∙ ap (λ o. cond (is_value v (option_copied o)) ((rise_of old v + by) % 2 ^ 64) (rise_of old v)) (sym c.in-Some.is)

pub returns : goal.returns
returns c = λ v.
    let old = c.args.rises.now in
    let by = c.args.by in
    let key : c.in_ok-value.value ≡ c.in-Some.value.now = c.in_ok-value.ensures.value in
    let none : 0 ≡ rise_of old c.in-Some.value.now = ap (λ o. unwrap_or o 0) c.in_default-get_mut.ensures.value in
    let first : by ≡ (rise_of old c.in_ok-value.value + by) % 2 ^ 64 = omega (arith, c.ranges.by.fits, none, ap (rise_of old) key) in
    let updates = subst (λ (m : BTreeMap Cell ℕ). Updates cell_cmp m c.insert.new.self c.in_ok-value.value (Some by)) c.get_mut.follows.holds-at-none c.in_ok-insert.ensures.updates in
    raised_at old c.insert.new.self c.in_ok-value.value by by updates first v
    ∙ ap (λ k. cond (cell_eq k v) ((rise_of old v + by) % 2 ^ 64) (rise_of old v)) key
    ∙ ap (λ o. cond (is_value v (option_copied o)) ((rise_of old v + by) % 2 ^ 64) (rise_of old v)) (sym c.in-Some.is)
