-- Threads may share the schemas of frames and the columns of views.
use denote.Param.Send.{IsSync, sendable}
use Rattle.std.proofs.Crossing.{crosses}
use Rattle.df_value.proofs.schema.Schema.TheSendSync as schema
use Rattle.df_value.specs.contracts.list.List as Items
use Rattle.df_value.specs.contracts.schema.Schema as Schema

pub schemas_sync : IsSync (Items.the_row Schema.the_row)
schemas_sync = let s = schema.the_sync in search (sendable, crosses) depth 30
