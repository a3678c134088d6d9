use Rattle.std.proofs.Common.{◌≡◌, [], ◌∷◌, ◌∙◌, subst, sym}
use Rattle.std.specs.Map.Iter.{deref}
use Rattle.std.proofs.lemmas.Map.Iter.{rest_more, rest_all}
use Rattle.df_value.specs.CellOrder.{cell_cmp}
use Rattle.df_counts.proofs.Rises.{keys_rise}
use Rattle.df_ranks.specs.Counts.{changes_weight}
use Rattle.df_ranks.proofs.ChangedValues.{AreAmong, among_all, among_rest, is_changed, same_everywhere, same_under}
use Rattle.df_ranks.proofs.reach.first_change.Goals as goal

pub loop-value-init : goal.loop-value-init
loop-value-init c =
    let old = c.args.old.now in
    let new = c.args.new.now in
    let rises = c.args.rises.now in
    record {
      can_next = tt;
      is_finite = tt;
      among = subst (AreAmong c.args.kind old new) (sym (c.into_iter-value-iterator.ensures.into_iter_gives ∙ c.keys-value-items.ensures.rest))
          (among_all c.args.kind old new rises.entries (keys_rise cell_cmp rises.entries c.keys-value-items.ensures.ordered) c.requires);
    }

pub loop-value-preserved : goal.loop-value-preserved
loop-value-preserved c =
    let old = c.args.old.now in
    let new = c.args.new.now in
    let all : c.loop-value.value-iterator ≡ c.in-Some.value.now ∷ c.next.new.self = rest_more deref _ _ c.next.result c.in-Some.value c.in-Some.is c.next.ensures.steps in
    let looked : changes_weight c.args.kind c.find.result c.find-in-loop-value.result ≡ is_changed c.args.kind old new c.in-Some.value.now = λ i. changes_weight c.args.kind (c.find.ensures i) (c.find-in-loop-value.ensures i) in
    record {
      can_next = tt;
      is_finite = tt;
      among = among_rest c.args.kind old new c.in-Some.value.now c.next.new.self (subst (AreAmong c.args.kind old new) all c.loop-value.invariant.among) (sym looked ∙ sym c.is_changed.ensures ∙ c.if-is_changed.false);
    }

pub returns-then-is_changed : goal.returns-then-is_changed
returns-then-is_changed c =
    let old = c.args.old.now in
    let new = c.args.new.now in
    let all : c.loop-value.value-iterator ≡ c.in-Some.value.now ∷ c.next.new.self = rest_more deref _ _ c.next.result c.in-Some.value c.in-Some.is c.next.ensures.steps in
    same_under c.args.kind old new c.in-Some.value.now c.next.new.self (subst (AreAmong c.args.kind old new) all c.loop-value.invariant.among)

pub returns : goal.returns
returns c =
    let old = c.args.old.now in
    let new = c.args.new.now in
    let none : c.loop-value.value-iterator ≡ [] = rest_all deref _ _ c.next.result c.in-None.is c.next.ensures.steps in
    same_everywhere c.args.kind old new (subst (AreAmong c.args.kind old new) none c.loop-value.invariant.among)
