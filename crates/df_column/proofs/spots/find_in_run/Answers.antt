use Rattle.std.proofs.Common.{◌≡◌, ◌∙◌, ℕ, List, ap, arith, get_or, length}
use Rattle.std.specs.Arc.{arc_value}
use Rattle.df_column.specs.Blocks.{BlockParts, rows_of_blocks}
use Rattle.df_column.proofs.SpotLemmas.{block_length}
use Rattle.df_column.proofs.TagBlocks.{gap_in_block, place_in_block, sorted_in_block}
use Rattle.df_column.proofs.TagRuns.{gap_above}
use Rattle.df_column.proofs.spots.find_in_run.Goals as goal

pub returns-in_default-clause-absent : goal.returns-in_default-clause-absent
returns-in_default-clause-absent c = gap_above (rows_of_blocks c.args.run.now) c.args.tag c.in_default.ensures.none

-- the block that is searched is that of the run
searched : (bs : List BlockParts) (at : ℕ) (b shared : BlockParts) → b ≡ shared → ((d : BlockParts) → shared ≡ get_or bs at d) → b ≡ get_or bs at b
searched bs at b shared e is = e ∙ is b

pub find_in_block-requires : goal.find_in_block-requires
find_in_block-requires c =
    let bs = c.args.run.now in
    let b = c.deref.result.now in
    sorted_in_block bs c.args.tag c.in-Some.block b c.start-start.result c.in-Some.ensures.some (searched bs c.in-Some.block b (arc_value c.get.result.now) c.deref.ensures c.get.ensures) c.start-start.ensures.value c.requires

pub overflow_add-result : goal.overflow_add-result
overflow_add-result c =
    let b = c.deref.result.now in
    let is = ap (λ (p : BlockParts). length p.tags) (searched c.args.run.now c.in-Some.block b (arc_value c.get.result.now) c.deref.ensures c.get.ensures) in
    let few = c.start-start.ensures.few b in
    let l = block_length b in
    omega (arith, is, few, l, c.in-Ok.ensures.found.in_range)

pub overflow_add-result-in-Err : goal.overflow_add-result-in-Err
overflow_add-result-in-Err c =
    let b = c.deref.result.now in
    let is = ap (λ (p : BlockParts). length p.tags) (searched c.args.run.now c.in-Some.block b (arc_value c.get.result.now) c.deref.ensures c.get.ensures) in
    let few = c.start-start.ensures.few b in
    let l = block_length b in
    omega (arith, is, few, l, c.in-Err.ensures.absent.in_range)

pub returns-in-Ok-clause-found : goal.returns-in-Ok-clause-found
returns-in-Ok-clause-found c =
    let bs = c.args.run.now in
    let b = c.deref.result.now in
    place_in_block bs c.args.tag c.in-Some.block b c.start-start.result c.in-Some.ensures.some (searched bs c.in-Some.block b (arc_value c.get.result.now) c.deref.ensures c.get.ensures) c.start-start.ensures.value c.in-Ok.row c.in-Ok.ensures.found

pub returns-in-Err-clause-absent : goal.returns-in-Err-clause-absent
returns-in-Err-clause-absent c =
    let bs = c.args.run.now in
    let b = c.deref.result.now in
    gap_in_block bs c.args.tag c.in-Some.block b c.start-start.result c.in-Some.ensures.some (searched bs c.in-Some.block b (arc_value c.get.result.now) c.deref.ensures c.get.ensures) c.start-start.ensures.value c.in-Err.row c.in-Err.ensures.absent
