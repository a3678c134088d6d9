use Rattle.std.proofs.Common.{arith}
use Rattle.std.proofs.lemmas.Slice.Zip.{AllZip-long}
use Rattle.df_hall.proofs.totals.frame_count.Goals as goal

pub returns-clause-count : goal.returns-clause-count
returns-clause-count g c =
    let legal = c.accepted_book-book.ensures.legal in
    let few = legal.few_frames in
    let long = AllZip-long _ _ _ legal.frames in
    let far = c.loop-frame.invariant in
    let ended = c.loop-frame-test.false in
    omega (arith, few, long, far, ended)
