use Rattle.df_tree.proofs.LeafLemmas.{take_past}
use Rattle.df_tree.specs.Leaves.{items, leaves_of_parts}
use Rattle.std.proofs.Common.{◌≡◌, ◌≤◌, ◌-◌, ◌/◌, length, drop, arith, length-drop, sym, ap, ◌∙◌}
use Rattle.df_tree.proofs.HalfLemmas.{leaves_halves}
use Rattle.df_tree.proofs.PlanLemmas.{kept_eq}
use Rattle.df_tree.proofs.LevelLemmas.{front_piece, back_piece}
use Rattle.df_tree.proofs.halving.halved_parts.Goals as goal

pub returns-clause-halved : goal.returns-clause-halved
returns-clause-halved g c =
    let front = front_piece {I = g.row.I.Denot} c.args.parts.now.items c.split_off.new.self.items _ c.in_ok-tail.ensures.items c.requires.level (omega (arith, c.requires.many, c.len-mid.ensures, c.args.parts.now.ok)) (omega (arith, c.requires.many, c.len-mid.ensures, c.args.parts.now.ok)) in
    let back = back_piece {I = g.row.I.Denot} c.args.parts.now.items c.in_ok-tail.tail.items _ c.in_ok-tail.ensures.tail c.requires.level (omega (arith, c.requires.many, c.len-mid.ensures, c.args.parts.now.ok)) in
    record {
      kept = kept_eq {I = g.row.I.Denot} _ _ (sym (leaves_halves {I = g.row.I.Denot} c.args.parts.now.items c.split_off.new.self.items c.in_ok-tail.tail.items _ c.in_ok-tail.ensures.items c.in_ok-tail.ensures.tail));
      first = front.1.1;
      part = record { rank_is = back.1.0; some = back.1.1 };
    }

pub returns-clause-rank : goal.returns-clause-rank
returns-clause-rank g c =
    let front = front_piece {I = g.row.I.Denot} c.args.parts.now.items c.split_off.new.self.items _ c.in_ok-tail.ensures.items c.requires.level (omega (arith, c.requires.many, c.len-mid.ensures, c.args.parts.now.ok)) (omega (arith, c.requires.many, c.len-mid.ensures, c.args.parts.now.ok)) in
    front.1.0

pub returns-clause-level : goal.returns-clause-level
returns-clause-level g c =
    let front = front_piece {I = g.row.I.Denot} c.args.parts.now.items c.split_off.new.self.items _ c.in_ok-tail.ensures.items c.requires.level (omega (arith, c.requires.many, c.len-mid.ensures, c.args.parts.now.ok)) (omega (arith, c.requires.many, c.len-mid.ensures, c.args.parts.now.ok)) in
    front.0

pub invariant_of-result : goal.invariant_of-result
invariant_of-result g c =
    let back = back_piece {I = g.row.I.Denot} c.args.parts.now.items c.in_ok-tail.tail.items _ c.in_ok-tail.ensures.tail c.requires.level (omega (arith, c.requires.many, c.len-mid.ensures, c.args.parts.now.ok)) in
    let ks = c.deref.result.now in
    let mid = c.len-mid.result / 2 in
    let many : length (drop mid ks) ≤ length ks - mid = let n = length-drop mid ks in omega (arith, n) in
    let same : c.deref.result.now ≡ c.args.parts.now.items = c.deref.ensures.value in
    record {
      counted = c.in-Some.ensures ∙ ap (λ ks. length (items {I = g.row.I.Denot} (leaves_of_parts {I = g.row.I.Denot} ks))) (take_past _ _ many ∙ ap (drop mid) same ∙ sym c.in_ok-tail.ensures.tail);
      ranked = c.rank_in-rank.ensures;
      few = omega (arith, c.rank_in-rank.ensures, back.1.0, c.requires.few);
      measured = c.measure_in-measure.ensures;
      level = back.0;
    }
