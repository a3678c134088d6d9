use Rattle.std.proofs.Common.{arith}
use Rattle.toml.specs.View.{table_view}
use Rattle.df_text.proofs.NextView.{next_where_room}
use Rattle.df_text.proofs.views.read_next_view.Goals as goal

pub returns : goal.returns
returns c =
    let a = c.args in
    let room = next_where_room a.frames.now a.before.now a.name.now a.source.now a.steps.now (table_view c.in_ok-table.table) c.in_ok-table.ensures
    (omega (arith, c.if-before-ge-MOST_VIEWS.false)) in
    rw (room, c.in_ok-few_steps.ensures) c.named_view.ensures
