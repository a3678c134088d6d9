use Rattle.std.proofs.Common.{◌≡◌, ◌∙◌, ◌+◌, ap, arith, get_or, length}
use Rattle.std.specs.Arc.{arc_value}
use Rattle.df_column.specs.Blocks.{BlockParts, ends_of}
use Rattle.df_column.specs.Pools.{start_at}
use Rattle.df_column.proofs.SpotLemmas.{length_ends}
use Rattle.df_column.proofs.TagBlocks.{end_behind_start}
use Rattle.df_column.proofs.run.Run.start.Goals as goal

pub index-requires : goal.index-requires
index-requires c =
    let ends = c.self.invariant.ends_are ∙ ap (ends_of 0) c.self.view_is in
    let l = ap length ends ∙ length_ends 0 c.args.self.now in
    omega (arith, l, c.requires)

end_is : (c : goal.After-len) → c.index.result.now ≡ start_at 0 (ends_of 0 c.args.self.now) c.args.block + c.len.result
end_is c =
    let ends = c.self.invariant.ends_are ∙ ap (ends_of 0) c.self.view_is in
    let b = arc_value c.get.result.now in
    let tags = c.len.ensures ∙ ap length c.tags.ensures.tags ∙ ap (λ (p : BlockParts). length p.tags) (c.deref.ensures ∙ c.get.ensures b) in
    let end = c.index.ensures ∙ ap (λ es. get_or es c.args.block c.index.result.now) ends ∙ end_behind_start 0 c.args.self.now c.args.block c.index.result.now b c.requires in
    omega (arith, tags, end)

pub overflow_sub-result : goal.overflow_sub-result
overflow_sub-result c = let e = end_is c in omega (arith, e)

pub returns-clause-value : goal.returns-clause-value
returns-clause-value c = let e = end_is c in omega (arith, e)
