use Rattle.std.proofs.Common.{ap, map, subst, sym, ◌∙◌}
use Rattle.df_column.specs.Tables.{entry_change}
use Rattle.df_delta.specs.Deltas.{IsDelta}
use Rattle.df_delta.proofs.Fitting.{changes_of}
use Rattle.df_live.proofs.tree_delta.copy_of.Goals as goal

pub from_entries-requires : goal.from_entries-requires
from_entries-requires c = subst IsDelta (sym c.in_ok-entries.ensures) c.entries.ensures.sound

pub returns : goal.returns
returns c =
    c.from_entries.ensures
    ∙ changes_of c.args.delta.now c.in_ok-entries.entries.items (ap (map entry_change) c.in_ok-entries.ensures ∙ c.entries.ensures.all)
