use Rattle.std.proofs.Common.{length, ap, sym, ◌∙◌, arith}
use Rattle.df_tree.specs.Leaves.{items, rank_of, rank_of_link, leaves_of, leaves_of_link}
use Rattle.df_tree.proofs.LevelLemmas.{halved_count, halved_second}
use Rattle.df_tree.proofs.seq.Seq.halved.Goals as goal

pub overflow_sub-self : goal.overflow_sub-self
overflow_sub-self g c =
    let halved = halved_second {I = g.row.I.Denot} c.in_ok-second-in-Own.field-0 c.in-Some.second (leaves_of c.deref_mut-node.result.now) (leaves_of c.halved_node.new.node) (rank_of c.deref_mut-node.result.now) c.in-Some.is c.in_ok-second-in-Own.ensures.halved in
    let sum = halved_count {I = g.row.I.Denot} (leaves_of c.deref_mut-node.result.now) (leaves_of c.halved_node.new.node) c.in-Some.second halved.kept in
    let own = ap (λ n. length (items (leaves_of n))) c.deref_mut-node.ensures.value ∙ sym (ap (λ l. length (items (leaves_of_link l))) c.in-Own.is) ∙ ap length c.own.ensures.kept.items in
    let second = ap (λ v. length (items v.0)) c.second.view_is in
    omega (arith, sum, own, second, c.second.invariant.counted, c.self.invariant.counted)

pub invariant_of-self-in-Own : goal.invariant_of-self-in-Own
invariant_of-self-in-Own g c =
    let halved = halved_second {I = g.row.I.Denot} c.in_ok-second-in-Own.field-0 c.in-Some.second (leaves_of c.deref_mut-node.result.now) (leaves_of c.halved_node.new.node) (rank_of c.deref_mut-node.result.now) c.in-Some.is c.in_ok-second-in-Own.ensures.halved in
    let sum = halved_count {I = g.row.I.Denot} (leaves_of c.deref_mut-node.result.now) (leaves_of c.halved_node.new.node) c.in-Some.second halved.kept in
    let own = ap (λ n. length (items (leaves_of n))) c.deref_mut-node.ensures.value ∙ sym (ap (λ l. length (items (leaves_of_link l))) c.in-Own.is) ∙ ap length c.own.ensures.kept.items in
    let second = ap (λ v. length (items v.0)) c.second.view_is in
    let high = ap (λ n. rank_of n) c.deref_mut-node.ensures.value ∙ sym (ap (λ l. rank_of_link l) c.in-Own.is) ∙ c.own.ensures.rank in
    record {
      counted = omega (arith, sum, own, second, c.second.invariant.counted, c.self.invariant.counted);
      ranked = c.self.invariant.ranked ∙ sym high ∙ sym c.in_ok-second-in-Own.ensures.rank;
      few = c.self.invariant.few;
      measured = c.measure_in-self-inside.ensures;
      level = c.in_ok-second-in-Own.ensures.level;
    }
