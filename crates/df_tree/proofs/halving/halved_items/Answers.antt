use Rattle.std.proofs.Common.{◌++◌, length, ap, ◌∙◌, arith, rules, refl}
use Rattle.df_tree.proofs.LeafLemmas.{items-one}
use Rattle.df_tree.proofs.HalfLemmas.{kept_halves}
use Rattle.df_tree.proofs.halving.halved_items.Goals as goal

pub invariant_of-result : goal.invariant_of-result
invariant_of-result g c =
    let n = ap length (items-one {I = g.row.I.Denot} c.append.new.self.items 0) in
    record {
      counted = omega (arith, n, c.append.new.self.ok, c.in-Ok.ensures.len, c.in_ok-made.ensures.len, c.len-count.ensures);
      ranked = refl;
      few = omega arith;
      measured = search rules;
      level = tt;
    }

pub returns : goal.returns
returns g c =
    let n = ap length (items-one {I = g.row.I.Denot} c.append.new.self.items 0) in
    record {
      kept = kept_halves {I = g.row.I.Denot} c.args.items.now.items c.split_off.new.self.items c.append.new.self.items _ _ _ _
          c.in_ok-tail.ensures.items (c.in-Ok.ensures.items ∙ ap (λ l. l ++ c.in_ok-tail.tail.items) c.in_ok-made.ensures.items ∙ c.in_ok-tail.ensures.tail)
          (omega (arith, c.in_ok-tail.ensures.len, c.in_ok-tail.ensures.capacity, c.args.items.now.ok, c.len-mid.ensures))
          (omega (arith, c.in_ok-tail.ensures.len, c.in_ok-tail.ensures.tail_len, c.in_ok-tail.ensures.capacity, c.in-Ok.ensures.len, c.in-Ok.ensures.capacity, c.in_ok-made.ensures.len, c.in_ok-made.ensures.capacity, c.capacity.ensures, c.args.items.now.ok, c.len-mid.ensures));
      first = let m = ap length (items-one {I = g.row.I.Denot} c.split_off.new.self.items 0) in omega (arith, m, c.split_off.new.self.ok, c.in_ok-tail.ensures.len, c.args.items.now.ok, c.len-mid.ensures, c.requires);
      part = record { rank_is = refl; some = omega (arith, n, c.append.new.self.ok, c.in-Ok.ensures.len, c.in_ok-made.ensures.len, c.in_ok-tail.ensures.tail_len, c.args.items.now.ok, c.len-mid.ensures, c.requires) };
    }
