use Rattle.std.proofs.Common.{◌≡◌, ◌∙◌, ap, subst, sym}
use Rattle.std.specs.Prelude.{T}
use Rattle.std.specs.FinMap as finite
use Rattle.std.proofs.lemmas.List.{map-id}
use Rattle.std.proofs.lemmas.Map.Iter.{iter_end}
use Rattle.df_column.specs.declared.tag.Tag.{Tag}
use Rattle.df_delta.specs.declared.notes.Note.{Note}
use Rattle.df_column.specs.Tags.{tag_cmp}
use Rattle.df_delta.specs.Notes.{leaned}
use Rattle.df_delta.specs.SameRows.{same_row, with_change}
use Rattle.df_delta.proofs.NoteMaps.{lean_list, lean_all, lean_push, lean_sorted}
use Rattle.df_delta.proofs.notes.Notes.into_delta.Goals as goal

pub loop-tag-preserved : goal.loop-tag-preserved
loop-tag-preserved c = record {
  changes = c.in_ok-push_change.ensures.added
      ∙ ap (λ es. with_change es c.in-Some.tag c.in-Some.note.old c.in-Some.note.new) c.loop-tag.invariant.changes
      ∙ sym (lean_push c.loop-tag.yielded (c.in-Some.tag, c.in-Some.note));
  rows = c.in_ok-push_change.ensures.rows c.loop-tag.invariant.rows;
}

pub from_entries-requires : goal.from_entries-requires
from_entries-requires c =
    let all : c.loop-tag.yielded ≡ c.self.inside.notes.entries = sym (map-id _) ∙ (iter_end (λ (p : Tag × Note). p) c.self.inside.notes.entries c.loop-tag.yielded _ _ _ _ c.into_iter-tag-iterator.ensures.into_iter_gives.0 c.loop-tag.yielded_by c.in-None.is c.next.ensures.steps).0 in
    record {
      rising = subst (λ es. T (finite.is_sorted tag_cmp es)) (sym (c.loop-tag.invariant.changes ∙ ap lean_list all)) (lean_sorted c.self.inside.notes.entries c.self.invariant);
      rows = c.loop-tag.invariant.rows;
    }

pub returns : goal.returns
returns c =
    let all : c.loop-tag.yielded ≡ c.self.inside.notes.entries = sym (map-id _) ∙ (iter_end (λ (p : Tag × Note). p) c.self.inside.notes.entries c.loop-tag.yielded _ _ _ _ c.into_iter-tag-iterator.ensures.into_iter_gives.0 c.loop-tag.yielded_by c.in-None.is c.next.ensures.steps).0 in
    c.from_entries.ensures
    ∙ ap finite.from_sorted (c.loop-tag.invariant.changes ∙ ap lean_list all)
    ∙ lean_all c.self.inside.notes.entries c.self.invariant
    ∙ ap (leaned same_row) c.self.view_is
