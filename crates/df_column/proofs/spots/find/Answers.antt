use Rattle.std.proofs.Common.{arith}
use Rattle.df_column.specs.Blocks.{rows_of_blocks}
use Rattle.df_column.proofs.TagRuns.{gap_above, gap_in_run, place_in_run, sorted_run}
use Rattle.df_column.proofs.spots.find.Goals as goal

pub returns-in_default-clause-absent : goal.returns-in_default-clause-absent
returns-in_default-clause-absent c = gap_above (rows_of_blocks c.args.blocks.now) c.args.tag c.in_default.ensures.none

pub find_in_run-requires : goal.find_in_run-requires
find_in_run-requires c = sorted_run c.args.blocks.now c.in-Some.run'.now c.args.tag c.in-Some.before c.requires.sorted c.in-Some.ensures.run

pub returns-in-Ok-clause-found : goal.returns-in-Ok-clause-found
returns-in-Ok-clause-found c = place_in_run c.args.blocks.now c.in-Some.run'.now c.args.tag c.in-Some.before c.in-Ok.at c.in-Some.ensures.run c.in-Ok.ensures.found

pub returns-in-Err-clause-absent : goal.returns-in-Err-clause-absent
returns-in-Err-clause-absent c = gap_in_run c.args.blocks.now c.in-Some.run'.now c.args.tag c.in-Some.before c.in-Err.at c.in-Some.ensures.run c.in-Err.ensures.absent

pub overflow_add-result : goal.overflow_add-result
overflow_add-result c =
    omega (arith, c.in-Some.ensures.few, c.in-Ok.ensures.found.in_range)

pub overflow_add-result-in-Err : goal.overflow_add-result-in-Err
overflow_add-result-in-Err c =
    omega (arith, c.in-Some.ensures.few, c.in-Err.ensures.absent.in_range)

pub returns-in-Ok-clause-few : goal.returns-in-Ok-clause-few
returns-in-Ok-clause-few c =
    omega (arith, c.in-Some.ensures.few, c.in-Ok.ensures.found.in_range)
