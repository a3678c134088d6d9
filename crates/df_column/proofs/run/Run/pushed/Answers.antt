use Rattle.std.proofs.Common.{◌≡◌, ◌∙◌, ◌+◌, ◌++◌, ◌∷◌, ◌<◌, [], ap, arith, length, map, subst, sym}
use Rattle.std.specs.Arc.{arc_value}
use Rattle.df_column.specs.BlockLists.{HaveRows, last_of}
use Rattle.df_column.specs.Blocks.{ends_of, rows_of_blocks}
use Rattle.df_column.proofs.BlockListLemmas.{some_append}
use Rattle.df_column.proofs.LeafEnds.{ends_push, rows_there}
use Rattle.df_column.proofs.ListParts.{map_push}
use Rattle.df_column.proofs.run.Run.pushed.Goals as goal

pub overflow_add-end : goal.overflow_add-end
overflow_add-end c =
    let n = c.last_end.ensures ∙ ap last_of c.deref.ensures.value ∙ rows_there _ _ c.self.invariant.ends_are ∙ ap (λ bs. length (rows_of_blocks bs)) c.self.view_is in
    let t = c.len.ensures ∙ ap length c.tags.ensures.tags ∙ ap (λ b. length b.tags) c.deref-2.ensures in
    omega (arith, n, t, c.requires)

pub invariant_of-result : goal.invariant_of-result
invariant_of-result c =
    let b = arc_value c.args.block in
    let bs = map arc_value c.self.inside.blocks.items in
    let n = c.last_end.ensures ∙ ap last_of c.deref.ensures.value ∙ rows_there _ _ c.self.invariant.ends_are in
    let t = c.len.ensures ∙ ap length c.tags.ensures.tags ∙ ap (λ b. length b.tags) c.deref-2.ensures in
    let more : map arc_value c.push-2.new.self.items ≡ bs ++ b ∷ [] = ap (map arc_value) c.in_ok-push-2.ensures.items ∙ map_push arc_value c.self.inside.blocks.items c.args.block in
    record {
      some = subst HaveRows (sym more) (some_append bs (b ∷ []) c.self.invariant.some (subst (λ p. 0 < length p.tags) c.deref-2.ensures c.tags.ensures.some, tt));
      ends_are = c.in_ok-push.ensures.items ∙ ap (λ es. es ++ (c.last_end.result + c.len.result) ∷ []) c.self.invariant.ends_are
          ∙ ap (λ k. ends_of 0 bs ++ k ∷ []) (λ i. n i + t i) ∙ sym (ends_push bs b) ∙ ap (ends_of 0) (sym more);
    }
