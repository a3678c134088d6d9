-- The outcomes of jobs, and runs that they are joined to, may go to another thread.
use denote.Param.Send.{IsSend, sendable}
use Rattle.std.proofs.Crossing.{crosses}
use Rattle.df_value.proofs.chunk.Piece.TheSendSync as piece
use Rattle.df_value.proofs.row.Row.TheSendSync as row
use Rattle.df_column.proofs.Crossing.{table_send, table_sync}
use Rattle.df_column.specs.contracts.entry.Entry as Entry
use Rattle.df_delta.specs.contracts.delta.Delta as Delta
use Rattle.df_delta.specs.contracts.delta.Delta.TheInside as DeltaInside
use Rattle.df_frame.specs.contracts.prepared.PreparedRun as PreparedRun
use Rattle.df_frame.specs.contracts.prepared.PreparedRun.TheInside as PreparedInside
use Rattle.df_frame.specs.contracts.stored.StoredChunk as StoredChunk
use Rattle.df_frame.specs.contracts.stored.StoredChunk.TheInside as StoredInside
use Rattle.df_jobs.specs.contracts.made.KeptPiece as KeptPiece
use Rattle.df_jobs.specs.contracts.made.Made as Made
use Rattle.df_jobs.specs.contracts.made.Made.TheInside as MadeInside
use Rattle.df_jobs.specs.contracts.jobs.Outcome as Outcome
use Rattle.df_jobs.specs.contracts.joining.Joined as Joined

stored_inside_send : IsSend StoredInside.the_row
stored_inside_send = search (sendable, crosses, table_send, table_sync) depth 40

stored_send : IsSend StoredChunk.the_row
stored_send = let i = stored_inside_send in search sendable depth 20

kept_send : IsSend (KeptPiece.the_field).row
kept_send = let s = stored_send in search (sendable, crosses, piece.the_field_send) depth 40

made_inside_send : IsSend MadeInside.the_row
made_inside_send = let k = kept_send in search sendable depth 20

made_send : IsSend Made.the_row
made_send = let i = made_inside_send in search sendable depth 20

pub outcome_send : IsSend (Outcome.the_field).row
outcome_send = let m = made_send in search (sendable, crosses) depth 40

entry_send : IsSend (Entry.the_field).row
entry_send = search (sendable, crosses, row.the_send) depth 20

delta_inside_send : IsSend DeltaInside.the_row
delta_inside_send = let e = entry_send in search (sendable, crosses, table_send, table_sync) depth 40

delta_send : IsSend Delta.the_row
delta_send = let i = delta_inside_send in search sendable depth 20

prepared_inside_send : IsSend PreparedInside.the_row
prepared_inside_send = let d = delta_send in search (sendable, crosses, table_send, table_sync) depth 40

prepared_send : IsSend PreparedRun.the_row
prepared_send = let i = prepared_inside_send in search sendable depth 20

pub joined_send : IsSend (Joined.the_field).row
joined_send = let p = prepared_send in let o = outcome_send in search (sendable, crosses) depth 40
