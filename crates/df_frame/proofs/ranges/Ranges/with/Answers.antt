use Rattle.std.proofs.Common.{◌≡◌, ◌<◌, ◌∙◌, sym, arith, append_assoc}
use Rattle.std.specs.Prelude.{find, None}
use Rattle.std.specs.List.{range_with_len}
use Rattle.std.proofs.lemmas.Bool.Decides.{nat_tests}
use Rattle.std.proofs.lemmas.Result.{IfOk-weaker}
use Rattle.df_frame.specs.Numbers.{has_number, put_from}
use Rattle.df_frame.specs.Ranges.{all_numbers, ranges_below, ranges_from}
use Rattle.df_frame.proofs.RangeFacts.{ranges-put}
use Rattle.df_frame.proofs.RangesApart.{below-from, none-from}
use Rattle.df_frame.proofs.Rising.{put-nothing}
use Rattle.df_frame.proofs.ranges.Ranges.with.Goals as goal

pub returns-then-len-eq0 : goal.returns-then-len-eq0
returns-then-len-eq0 c =
    let same : put_from (λ n. n) c.args.first (range_with_len c.args.first c.args.len) c.args.self.now ≡ c.args.self.now =
    rw c.if-len-eq0.true (put-nothing c.args.first c.args.self.now c.requires.rising) in
    IfOk-weaker c.copy.result _ _ (λ all e. e ∙ sym same) c.copy.ensures

pub add-requires-clause-behind : goal.add-requires-clause-behind
add-requires-clause-behind c =
    let items = c.self.inside.ranges.items in
    let some : 0 < c.args.len = grind (arith, nat_tests) in
    let free : find (λ m. has_number (all_numbers items) m) (range_with_len c.args.first c.args.len) ≡ None = rw c.self.view_is c.requires.free in
    rw (c.in_ok-add_below.ensures, c.new-all.ensures, c.as_slice-ranges.ensures.value) (none-from c.args.first c.args.len items some free)

pub add_from-requires-clause-behind : goal.add_from-requires-clause-behind
add_from-requires-clause-behind c =
    let items = c.self.inside.ranges.items in
    let some : 0 < c.args.len = grind (arith, nat_tests) in
    let free : find (λ m. has_number (all_numbers items) m) (range_with_len c.args.first c.args.len) ≡ None = rw c.self.view_is c.requires.free in
    rw (c.in_ok-add.ensures, c.in_ok-add_below.ensures, c.new-all.ensures, c.as_slice-ranges.ensures.value)
    (below-from c.args.first c.args.len items some c.self.invariant free (none-from c.args.first c.args.len items some free))

pub returns : goal.returns
returns c =
    let items = c.self.inside.ranges.items in
    let some : 0 < c.args.len = grind (arith, nat_tests) in
    let free : find (λ m. has_number (all_numbers items) m) (range_with_len c.args.first c.args.len) ≡ None = rw c.self.view_is c.requires.free in
    rw (c.in_ok-add_from.ensures, c.in_ok-add.ensures, c.in_ok-add_below.ensures, c.new-all.ensures, c.as_slice-ranges.ensures.value, ← c.self.view_is)
    (append_assoc (all_numbers (ranges_below c.args.first items)) (range_with_len c.args.first c.args.len) (all_numbers (ranges_from c.args.first items)) ∙ sym (ranges-put c.args.first c.args.len items some free))
