use Rattle.std.proofs.Common.{refl}
use Rattle.df_column.specs.Blocks.{ends_of}
use Rattle.df_column.proofs.SharedLemmas.{under_ends}
use Rattle.df_column.proofs.spots.whole_blocks_below.Goals as goal

pub returns : goal.returns
returns c = λ n le. under_ends c.args.blocks.now (ends_of 0 c.args.blocks.now) c.rows_below.result c.spot.result.block n c.args.tag refl c.spot.ensures.block c.rows_below.ensures le
