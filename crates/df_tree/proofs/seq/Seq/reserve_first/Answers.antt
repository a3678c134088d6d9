use Rattle.std.proofs.Common.{ℕ, ◌+◌, ◌-◌, ◌∷◌, [], ap, ◌∙◌, arith}
use Rattle.std.specs.Prelude.{min, vec_len, vec_capacity}
use Rattle.df_tree.specs.Leaves.{items_in}
use Rattle.df_tree.proofs.LeafLemmas.{items-one}
use Rattle.df_tree.proofs.seq.Seq.reserve_first.Goals as goal

pub returns-clause-kept : goal.returns-clause-kept
returns-clause-kept g c =
    let items = c.in_ok-items.items in
    ap (items_in {I = g.row.I.Denot}) c.in_ok-self.ensures ∙ items-one {I = g.row.I.Denot} items.items 0 ∙ c.in_ok-items.ensures.items

pub returns-clause-reserved : goal.returns-clause-reserved
returns-clause-reserved g c =
    let items = c.in_ok-items.items in
    let room : ℕ = min 1 (vec_capacity items - vec_len items) + 1 in
    record {
      room = room;
      leaf = ap (λ k. k.0) c.in_ok-self.ensures ∙ ap (λ l. (l, room) ∷ []) c.in_ok-items.ensures.items;
      reserved = omega (arith, c.in_ok-items.ensures.len, c.in_ok-items.ensures.capacity);
      rank = ap (λ k. k.1) c.in_ok-self.ensures;
    }
