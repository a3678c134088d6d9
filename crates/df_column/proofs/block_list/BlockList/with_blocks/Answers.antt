use Rattle.std.proofs.Common.{◌≡◌, ◌∙◌, ◌++◌, ap, append_assoc, append-nil, arith, drop, sym, take}
use Rattle.df_column.proofs.ListParts.{none_between, take_longer}
use Rattle.df_column.proofs.block_list.BlockList.with_blocks.Goals as goal

pub loop-at-init : goal.loop-at-init
loop-at-init c = record {
  above = omega arith;
  within = c.requires.ordered;
  blocks = sym (ap (λ bs. c.args.self ++ bs) (none_between c.args.other.now c.args.low) ∙ append-nil c.args.self);
}

pub loop-at-preserved : goal.loop-at-preserved
loop-at-preserved c =
    let made = c.in_ok-list.ensures in
    let h = c.loop-at.invariant in
    record {
      above = omega (arith, h.above, made.more);
      within = made.within;
      blocks = made.blocks ∙ ap (λ bs. bs ++ drop c.loop-at.at (take c.in_ok-list.next c.args.other.now)) h.blocks
          ∙ append_assoc c.args.self (drop c.args.low (take c.loop-at.at c.args.other.now)) _
          ∙ ap (λ bs. c.args.self ++ bs) (take_longer c.args.other.now c.args.low c.loop-at.at c.in_ok-list.next h.above (omega (arith, made.more)));
    }

pub returns : goal.returns
returns c =
    let e : c.loop-at.at ≡ c.args.high = omega (arith, c.loop-at.invariant.within, c.loop-at-test.false) in
    c.loop-at.invariant.blocks ∙ ap (λ n. c.args.self ++ drop c.args.low (take n c.args.other.now)) e
