use Rattle.std.proofs.Common.{◌∙◌, map, ap}
use Rattle.df_column.specs.Tables.{entry_change}
use Rattle.df_delta.specs.SameRows.{with_change}
use Rattle.df_frame.proofs.deltas.push_row.Goals as goal

pub returns-clause-added : goal.returns-clause-added
returns-clause-added c =
    c.in_ok-push_change.ensures.added ∙ ap (λ old. with_change (map entry_change c.args.entries.now.items) c.args.tag old c.args.new) c.in_ok-old.ensures
