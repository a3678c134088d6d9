use Rattle.std.proofs.Common.{◌∙◌}
use Rattle.df_delta.proofs.NoteMaps.{notes_with, sorted_notes}
use Rattle.df_delta.proofs.notes.Notes.put.Goals as goal

pub invariant_of-self : goal.invariant_of-self
invariant_of-self c = sorted_notes _ c.insert.ensures.ordered

pub returns-in-Ok : goal.returns-in-Ok
returns-in-Ok c m taken =
    notes_with c.self.inside.notes.entries c.insert.new.self.entries m c.args.tag c.args.note c.self.invariant
    (sorted_notes _ c.insert.ensures.ordered) (c.in-Ok.ensures.updates.0) (c.self.view_is ∙ taken)
