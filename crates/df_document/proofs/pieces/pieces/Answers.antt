use Rattle.std.proofs.Common.{add-one}
use Rattle.df_csv.specs.Sources.{chunks_of}
use Rattle.df_document.proofs.PlaceFacts.{take_more_at}
use Rattle.df_document.proofs.pieces.pieces.Goals as goal

pub loop-n-preserved : goal.loop-n-preserved
loop-n-preserved c =
    let more = take_more_at (chunks_of c.args.source.now) c.loop-n.n c.in_ok-chunk.field-0 c.in_ok-chunk.ensures in
    rw (add-one, c.in_ok-push.ensures.items, c.loop-n.invariant, more)
