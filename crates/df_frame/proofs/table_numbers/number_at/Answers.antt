use Rattle.std.proofs.Common.{arith}
use Rattle.df_frame.proofs.FrameTableFacts.{number-below, table-length, tag-read}
use Rattle.df_frame.proofs.table_numbers.number_at.Goals as goal

pub tag-requires : goal.tag-requires
tag-requires c = omega (arith, table-length c.args.table.now.rows, c.requires.within)

pub overflow_sub-result : goal.overflow_sub-result
overflow_sub-result c =
    let first = tag-read c.args.table.now.rows c.requires.numbered c.args.place c.requires.within c.tag.result c.tag.ensures in
    omega (arith, first)

pub overflow_cast-result : goal.overflow_cast-result
overflow_cast-result c =
    let first = tag-read c.args.table.now.rows c.requires.numbered c.args.place c.requires.within c.tag.result c.tag.ensures in
    let below = number-below c.args.table.now.rows c.requires.numbered c.args.place c.requires.within in
    omega (arith, first, below)

pub returns : goal.returns
returns c =
    let first = tag-read c.args.table.now.rows c.requires.numbered c.args.place c.requires.within c.tag.result c.tag.ensures in
    omega (arith, first)
