use Rattle.std.proofs.Common.{◌≡◌, ◌∙◌, ◌≤◌, true, false, ap, arith, length, map, rules, subst, sym}
use Rattle.std.specs.Arc.{arc_value}
use Rattle.std.specs.List.Sorted.{IsPartitionPoint, IsPartitionedBy}
use Rattle.std.proofs.lemmas.Fn.{always_returns_same}
use Rattle.df_column.specs.BlockLists.{HaveRows}
use Rattle.df_column.proofs.Places.{mapped_length}
use Rattle.df_column.proofs.TagBlocks.{begins_at_head, blocks_parted, begins_by, none_begun, parted_of, point_of, some_begun}
use Rattle.df_column.proofs.run.Run.block_of_tag.Goals as goal

record AreParted (c : goal.After-checked_sub) : Type 0 where
  within : c.partition_point-begun.result ≤ length c.args.self.now
  some : HaveRows c.args.self.now
  parts : IsPartitionPoint (λ b. begins_by c.args.tag b ≡ true) (λ b. begins_by c.args.tag b ≡ false) c.args.self.now c.partition_point-begun.result

are_parted : (c : goal.After-checked_sub) → AreParted c
are_parted c =
    let arcs = c.deref-blocks.result.now in
    let tag = c.args.tag in
    let n = c.partition_point-begun.result in
    let is = ap (map arc_value) c.deref-blocks.ensures.value ∙ c.self.view_is in
    let some = subst HaveRows c.self.view_is c.self.invariant.some in
    let facts = c.partition_point-begun.ensures in
    let l = mapped_length arc_value arcs in
    let e = ap length is in
    let parted = parted_of arc_value (begins_by tag) arcs (subst (IsPartitionedBy (begins_by tag)) (sym is) (blocks_parted tag c.args.self.now some c.requires)) in
    let parts = facts.partitioned (λ a. begins_by tag (arc_value a)) (always_returns_same _ _ _ (λ a r g called. search (rules, begins_at_head))) parted in
    record {
      within = omega (arith, facts.bound, l, e);
      some = some;
      parts = subst (λ bs. IsPartitionPoint (λ b. begins_by tag b ≡ true) (λ b. begins_by tag b ≡ false) bs n) is (point_of arc_value (begins_by tag) arcs n facts.bound parts);
    }

pub returns-clause-some : goal.returns-clause-some
returns-clause-some c =
    let p = are_parted c in
    some_begun c.args.tag c.args.self.now c.partition_point-begun.result p.within p.some c.requires p.parts c.checked_sub.result c.checked_sub.ensures

pub returns-clause-none : goal.returns-clause-none
returns-clause-none c =
    let p = are_parted c in
    none_begun c.args.tag c.args.self.now c.partition_point-begun.result p.within p.some c.requires p.parts c.checked_sub.result c.checked_sub.ensures
