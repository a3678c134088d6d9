use Rattle.df_column.specs.Blocks.{rows_of_blocks}
use Rattle.df_column.proofs.Bounds.{upper_at_gap, upper_at_place}
use Rattle.df_column.proofs.spots.rows_up_to.Goals as goal

pub returns-in-Ok : goal.returns-in-Ok
returns-in-Ok c = upper_at_place (rows_of_blocks c.args.blocks.now) c.args.tag c.in-Ok.at c.requires c.in-Ok.ensures.found

pub returns-in-Err : goal.returns-in-Err
returns-in-Err c = upper_at_gap (rows_of_blocks c.args.blocks.now) c.args.tag c.in-Err.at c.in-Err.ensures.absent
