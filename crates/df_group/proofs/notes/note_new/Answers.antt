use Rattle.std.proofs.Common.{◌∙◌, ap, sym}
use mathlib.Core.Bool.{false≢true}
use Rattle.std.specs.FinMap as finite
use Rattle.df_column.specs.Tags.{tag_cmp}
use Rattle.df_delta.proofs.KeyedChanges.{on_ok_then}
use Rattle.df_group.specs.Grouped.{at_tag}
use Rattle.df_group.specs.NotedSides.{noted_new}
use Rattle.df_group.proofs.Members.{first_row, no_entry}
use Rattle.df_group.proofs.NotedSides.{new_is_noted}
use Rattle.df_group.proofs.notes.note_new.Goals as goal

pub returns-then-is_empty : goal.returns-then-is_empty
returns-then-is_empty c q = sym (ap (λ e. noted_new (finite.get c.args.notes.now q) (at_tag tag_cmp q e)) (no_entry c.args.group.now (c.is_empty.ensures.0 c.if-is_empty.true)))

pub returns : goal.returns
returns c = on_ok_then c.note_new.result c.note_new.ensures (λ e q.
    new_is_noted c.args.notes.now c.note_new.new.self c.tag.result q c.in_ok-row.row e
    ∙ ap (λ e. noted_new (finite.get c.args.notes.now q) (at_tag tag_cmp q e))
    (sym (first_row c.args.group.now c.tag.result c.in_ok-row.row (λ z. false≢true (sym c.if-is_empty.false ∙ c.is_empty.ensures.1 z)) c.tag.ensures c.in_ok-row.ensures)))
