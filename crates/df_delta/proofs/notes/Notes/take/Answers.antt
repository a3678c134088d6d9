use Rattle.std.proofs.Common.{◌∙◌, ap, sym}
use Rattle.std.specs.FinMap as finite
use Rattle.std.specs.Option.{option_map}
use Rattle.df_delta.specs.NotedRows.{note_change}
use Rattle.df_delta.proofs.NoteMaps.{get_note, notes_without, sorted_notes}
use Rattle.df_delta.proofs.notes.Notes.take.Goals as goal

pub invariant_of-self : goal.invariant_of-self
invariant_of-self c = sorted_notes _ c.remove.ensures.ordered

pub returns-clause-noted : goal.returns-clause-noted
returns-clause-noted c =
    ap (option_map note_change) c.remove.ensures.value
    ∙ sym (get_note c.self.inside.notes.entries c.args.tag c.self.invariant)
    ∙ ap (λ m. finite.get m c.args.tag) c.self.view_is

pub returns-clause-rest : goal.returns-clause-rest
returns-clause-rest c =
    notes_without c.self.inside.notes.entries c.remove.new.self.entries c.args.tag c.self.invariant
    (sorted_notes _ c.remove.ensures.ordered) c.remove.ensures.updates.0
    ∙ ap (λ m. finite.remove m c.args.tag) c.self.view_is
