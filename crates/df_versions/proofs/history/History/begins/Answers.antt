use Rattle.std.proofs.Common.{◌≤◌, ◌<◌, ap, subst, arith, length, List}
use Rattle.std.proofs.lemmas.Bool.Decides.{nat_tests}
use mathlib.Core.List.{IsPrefix}
use Rattle.df_state.specs.declared.state.State.{State}
use Rattle.df_versions.proofs.Prefixes.{prefix_shorter}
use Rattle.df_versions.proofs.history.History.begins.Goals as goal

pub returns-clause-begins : goal.returns-clause-begins
returns-clause-begins c = λ short.
    let both = c.learn.new.self.log in
    let this : IsPrefix c.self.inside.seen.log both = subst (λ (l : List State). IsPrefix l both) (ap (λ s. s.log) c.again-both.ensures) c.learn.ensures.2 in
    let less : c.self.inside.states ≤ c.other.inside.states = grind (arith, nat_tests, short) in
    let lengths : length c.self.inside.seen.log ≤ length c.other.inside.seen.log = omega (arith, less, c.self.invariant.0, c.other.invariant.0) in
    let found : IsPrefix c.self.inside.seen.log c.other.inside.seen.log = prefix_shorter c.self.inside.seen.log c.other.inside.seen.log both this c.learn.ensures.3 lengths in
    subst (λ (l : List State). IsPrefix l c.args.other.now.1) (ap (λ p. p.1) c.self.view_is) (subst (λ (l : List State). IsPrefix c.self.inside.seen.log l) (ap (λ p. p.1) c.other.view_is) found)

pub returns-clause-ends : goal.returns-clause-ends
returns-clause-ends c = λ long.
    let both = c.learn.new.self.log in
    let this : IsPrefix c.self.inside.seen.log both = subst (λ (l : List State). IsPrefix l both) (ap (λ s. s.log) c.again-both.ensures) c.learn.ensures.2 in
    let less : c.other.inside.states < c.self.inside.states = grind (arith, nat_tests, long) in
    let lengths : length c.other.inside.seen.log ≤ length c.self.inside.seen.log = omega (arith, less, c.self.invariant.0, c.other.invariant.0) in
    let found : IsPrefix c.other.inside.seen.log c.self.inside.seen.log = prefix_shorter c.other.inside.seen.log c.self.inside.seen.log both c.learn.ensures.3 this lengths in
    subst (λ (l : List State). IsPrefix l c.args.self.now.1) (ap (λ p. p.1) c.other.view_is) (subst (λ (l : List State). IsPrefix c.other.inside.seen.log l) (ap (λ p. p.1) c.self.view_is) found)

pub returns-clause-longer : goal.returns-clause-longer
returns-clause-longer c = λ long.
    let less : c.other.inside.states < c.self.inside.states = grind (arith, nat_tests, long) in
    let lengths : length c.other.inside.seen.log < length c.self.inside.seen.log = omega (arith, less, c.self.invariant.0, c.other.invariant.0) in
    subst (λ (l : List State). length l < length c.args.self.now.1) (ap (λ p. p.1) c.other.view_is) (subst (λ (l : List State). length c.other.inside.seen.log < length l) (ap (λ p. p.1) c.self.view_is) lengths)
