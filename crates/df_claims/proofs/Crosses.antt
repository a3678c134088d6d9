-- Claims may be shared by threads, and a seat may go to another thread.
use denote.Param.Send.{IsSend, IsSync, sendable}
use Rattle.std.proofs.Crossing.{crosses}
use Rattle.atomic_table.proofs.shared.Seat.TheSendSync as seat
use Rattle.df_claims.specs.contracts.claims.Claims as Claims
use Rattle.df_claims.specs.contracts.claims.ClaimSeat as ClaimSeat
use Rattle.df_claims.proofs.claims.Claims.TheSendSync as claims

pub claims_send : IsSend Claims.the_row
claims_send = claims.the_send

pub claims_sync : IsSync Claims.the_row
claims_sync = claims.the_sync

pub seat_send : IsSend ClaimSeat.the_row
seat_send = search (sendable, crosses, seat.the_send) depth 20
