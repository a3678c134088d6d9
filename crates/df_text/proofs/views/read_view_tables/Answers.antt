use Rattle.std.proofs.Common.{arith}
use Rattle.toml.specs.View.{view}
use Rattle.df_text.specs.Document.{view_of}
use Rattle.df_text.proofs.ReadSteps.{read_more, read_whole}
use Rattle.df_text.proofs.views.read_view_tables.Goals as goal

pub loop-table-preserved : goal.loop-table-preserved
loop-table-preserved c =
    read_more view (view_of c.args.frames.now) c.args.tables.now c.loop-table.table-index _ c.loop-table.views.items _ c.table-item.result _
    (omega arith) c.table-item.is c.loop-table.invariant (rw c.as_slice.ensures.value at c.in_ok-spec.ensures) c.in_ok-push.ensures.items

pub returns : goal.returns
returns c =
    read_whole view (view_of c.args.frames.now) c.args.tables.now c.loop-table.table-index _ c.loop-table.views.items _
    (omega arith) c.loop-table.invariant c.from_vec.ensures
