use Rattle.std.proofs.Common.{◌≡◌, ◌+◌, ◌-◌, subst, arith}
use Rattle.df_hall.specs.Rooms.{HasRoomFor}
use Rattle.df_hall.proofs.TotalsFacts.{holds-more, less-room}
use Rattle.df_hall.proofs.totals.TotalsRoom.totals.Goals as goal

pub put-requires-clause-room : goal.put-requires-clause-room
put-requires-clause-room g c =
    let few = c.frame_count-frame-end.ensures.few in
    let more = c.loop-frame-test.true in
    less-room (8 - c.loop-frame.frame) 1 c.loop-frame.room c.loop-frame.invariant.0 (omega (arith, few, more))

pub loop-frame-preserved : goal.loop-frame-preserved
loop-frame-preserved g c =
    let few = c.frame_count-frame-end.ensures.few in
    let count = c.frame_count-frame-end.ensures.count in
    let more = c.loop-frame-test.true in
    let next : 8 - c.loop-frame.frame ≡ (8 - (c.loop-frame.frame + 1)) + 1 = omega (arith, few, more) in
    let k = c.put.ensures in (
      k.room (8 - (c.loop-frame.frame + 1)) (subst (λ n. HasRoomFor n c.loop-frame.room) next c.loop-frame.invariant.0),
      holds-more c.loop-frame.room c.put.new.self c.args.catalogue.now.state.frames c.loop-frame.frame (omega (arith, more, count)) c.loop-frame.invariant.1
          k.accepted k.deleted k.live,
    )
