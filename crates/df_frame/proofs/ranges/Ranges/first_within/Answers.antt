use Rattle.std.proofs.Common.{◌≡◌, ◌+◌, ◌∙◌, cond, ap, sym}
use Rattle.std.specs.Prelude.{find, nat_lt, Some, None}
use Rattle.std.specs.List.{range_with_len}
use Rattle.std.proofs.lemmas.Bool.{le-ltb, lt-ltb}
use Rattle.df_frame.specs.Numbers.{has_number}
use Rattle.df_frame.proofs.RangeSearch.{least-found, least_in}
use Rattle.df_frame.proofs.ranges.Ranges.first_within.Goals as goal
use Rattle.df_frame.proofs.ranges.Ranges.first_within.Goals.{After-first_behind}

-- what is found of the first range that ends behind the first number
least :
    (c : After-first_behind) →
    least_in c.args.first c.args.len c.first_behind.result ≡ find (λ n. has_number c.args.self.now n) (range_with_len c.args.first c.args.len)
least c =
    let first = c.args.first in
    let len = c.args.len in
    ap (least_in first len) (c.first_behind.ensures ∙ ap (find (λ r. nat_lt first (r.first + r.len))) c.as_slice.ensures.value)
    ∙ (sym (least-found first len c.self.inside.ranges.items c.self.invariant)
    ∙ ap (λ ns. find (λ k. has_number ns k) (range_with_len first len)) c.self.view_is)

pub returns-in_err-range : goal.returns-in_err-range
returns-in_err-range c = c.from_residual.ensures ∙ (ap (least_in c.args.first c.args.len) (sym c.in_err-range.was) ∙ least (goal.at.returns-in_err-range c).After-first_behind)

pub returns-then-number-first : goal.returns-then-number-first
returns-then-number-first c =
    let first = c.args.first in
    let len = c.args.len in
    let number = c.first_from-number.result in
    ap (λ b. cond b (Some number) None) (sym (lt-ltb number (first + len) c.if-number-first.true))
    ∙ (ap (λ n. cond (nat_lt n (first + len)) (Some n) None) c.first_from-number.ensures
    ∙ (ap (least_in first len) (sym c.in_ok-range.was) ∙ least (goal.at.returns-then-number-first c).After-first_behind))

pub returns : goal.returns
returns c =
    let first = c.args.first in
    let len = c.args.len in
    let number = c.first_from-number.result in
    ap (λ b. cond b (Some number) None) (sym (le-ltb number (first + len) c.if-number-first.false))
    ∙ (ap (λ n. cond (nat_lt n (first + len)) (Some n) None) c.first_from-number.ensures
    ∙ (ap (least_in first len) (sym c.in_ok-range.was) ∙ least (goal.at.returns c).After-first_behind))
