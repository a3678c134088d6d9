use Rattle.std.proofs.Common.{◌∙◌, ◌++◌, [], ap, append-nil, append_assoc, arith, length, length-append, sym}
use Rattle.df_column.proofs.block_list.BlockList.run_at.Goals as goal

pub run_at-requires : goal.run_at-requires
run_at-requires c = omega (arith, c.if-at-first.true, c.blocks-first.ensures.value)

pub returns-then-at-first : goal.returns-then-at-first
returns-then-at-first c =
    let h = c.run_at.ensures in
    record {
      front = h.front;
      rest = h.rest ++ c.self.inside.tail;
      cut = sym c.self.view_is ∙ ap (λ bs. bs ++ c.self.inside.tail) h.cut ∙ append_assoc h.front _ c.self.inside.tail ∙ ap (λ bs. h.front ++ bs) (append_assoc c.run_at.result.0.now h.rest c.self.inside.tail);
      at_is = h.at_is;
      inside = h.inside;
    }

pub returns-else-at-first : goal.returns-else-at-first
returns-else-at-first c =
    let long = ap length (sym c.self.view_is) ∙ length-append c.self.inside.leaves c.self.inside.tail in
    record {
      front = c.self.inside.leaves;
      rest = [];
      cut = sym c.self.view_is ∙ ap (λ bs. c.self.inside.leaves ++ bs) (sym (append-nil c.self.inside.tail));
      at_is = omega (arith, c.if-at-first.false, c.blocks-first.ensures.value);
      inside = omega (arith, c.if-at-first.false, c.blocks-first.ensures.value, long, c.requires);
    }
