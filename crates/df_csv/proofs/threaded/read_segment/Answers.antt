use Rattle.df_csv.proofs.PickedFacts.{picked}
use Rattle.df_csv.proofs.SegmentFacts.{rows_texts}
use Rattle.df_csv.proofs.threaded.read_segment.Goals as goal

pub read_rows-requires-clause-texts : goal.read_rows-requires-clause-texts
read_rows-requires-clause-texts c =
    let (plain, rows) = rw c.in-Some.is at c.in_ok-reader.ensures in
    rw rows (rows_texts c.args.at c.args.segment.now c.requires.1)

pub returns-in-Ok : goal.returns-in-Ok
returns-in-Ok c =
    let (plain, rows) = rw c.in-Some.is at c.in_ok-reader.ensures in
    picked c.args.layout.now.width c.args.layout.now.indices.items 1 _ c.in-Ok.part (rw (rows, c.as_slice.ensures.value) at c.in-Ok.ensures)
