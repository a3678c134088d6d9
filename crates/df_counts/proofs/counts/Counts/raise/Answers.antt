use Rattle.std.proofs.Common.{◌≡◌, ℕ, ◌∷◌, refl}
use Rattle.std.specs.Map.Iter.{deref_pair}
use Rattle.std.proofs.lemmas.Map.Iter.{rest_more}
use Rattle.df_value.specs.declared.cell.Cell.{Cell}
use Rattle.df_value.specs.CellOrder.{cell_cmp}
use Rattle.df_counts.proofs.Rises.{keys_rise, raised_more}
use Rattle.df_counts.proofs.counts.Counts.raise.Goals as goal

pub loop-value-preserved : goal.loop-value-preserved
loop-value-preserved c =
    let item : Cell × ℕ = (c.in-Some.value.now, c.in-Some.rise.now) in
    let all : c.loop-value.value-iterator ≡ item ∷ c.next.new.self = rest_more deref_pair _ _ c.next.result (c.in-Some.value, c.in-Some.rise) c.in-Some.is c.next.ensures.steps in
    record {
      can_next = tt;
      is_finite = tt;
      leads = raised_more c.args.self.now c.loop-value.raised c.set_count.new.self _ c.next.new.self _ item.0 item.1 c.count.result _ all c.count.ensures refl c.in_ok-set_count.ensures c.loop-value.invariant.leads;
    }

pub returns-clause-rising : goal.returns-clause-rising
returns-clause-rising c = keys_rise cell_cmp c.args.rises.now.entries c.iter-value-items.ensures.ordered
