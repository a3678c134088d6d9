use Rattle.std.proofs.Common.{◌<◌, arith, refl}
use Rattle.df_column.specs.Blocks.{ends_of}
use Rattle.df_column.proofs.SharedLemmas.{above_all, above_last}
use Rattle.df_column.proofs.spots.blocks_up_to.Goals as goal

pub returns-in-0 : goal.returns-in-0
returns-in-0 c = λ n le. above_all c.args.blocks.now c.rows_up_to.result n c.args.tag c.in-0.is c.rows_up_to.ensures

pub returns-in_default : goal.returns-in_default
returns-in_default c = λ n le.
    let some : 0 < c.rows_up_to.result = omega (arith, c.in_default) in
    above_last c.args.blocks.now (ends_of 0 c.args.blocks.now) c.rows_up_to.result c.spot.result.block n c.args.tag refl some c.spot.ensures.block c.rows_up_to.ensures (omega (arith, le))
