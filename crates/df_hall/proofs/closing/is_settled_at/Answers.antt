use Rattle.std.proofs.Common.{arith}
use Rattle.df_state.proofs.SoundFrames.{accepted-few, deleted-few}
use Rattle.df_hall.proofs.closing.is_settled_at.Goals as goal

pub sums-accepted-requires-clause-accepted : goal.sums-accepted-requires-clause-accepted
sums-accepted-requires-clause-accepted g c =
    let legal = c.requires.legal in
    let few = legal.few_frames in
    let accepted = accepted-few _ _ legal.frames in
    let most = c.requires.books.most_accepted in
    omega (arith, few, accepted, most)

pub sums-accepted-requires-clause-deleted : goal.sums-accepted-requires-clause-deleted
sums-accepted-requires-clause-deleted g c =
    let legal = c.requires.legal in
    let few = legal.few_frames in
    let accepted = accepted-few _ _ legal.frames in
    let deleted = deleted-few _ _ legal.frames in
    let most = c.requires.books.most_deleted in
    omega (arith, few, accepted, deleted, most)
