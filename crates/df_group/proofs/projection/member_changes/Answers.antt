use Rattle.std.proofs.Common.{◌≡◌, ◌∙◌, ℕ, List, [], ◌∷◌, map, Option, Some, ap, refl, subst, sym}
use Rattle.std.specs.Prelude.{T}
use Rattle.std.specs.FinMap as finite
use Rattle.df_value.specs.declared.cell.Cell.{Cell}
use Rattle.df_column.specs.Changes.{Change}
use Rattle.df_column.specs.Tables.{AreRising, entry_change}
use Rattle.df_column.specs.Tags.{tag_cmp}
use Rattle.df_column.specs.declared.entry.Entry.{Entry}
use Rattle.df_column.specs.declared.tag.Tag.{Tag}
use Rattle.df_delta.specs.ChangeOf.{row_wise_change}
use Rattle.df_delta.specs.SameRows.{same_row}
use Rattle.df_delta.proofs.Collected.{is_sorted-collected}
use Rattle.df_group.specs.Projections.{change_entry, projected_changes, projected_entries, projected_row}
use Rattle.df_group.proofs.projection.member_changes.Goals as goal

-- the entries of the changes of entries are these
same_entries : (es : List Entry) → map change_entry (map entry_change es) ≡ es
same_entries [] = refl
same_entries (e ∷ es) = ap (λ l. e ∷ l) (same_entries es)

-- entries of the projected changes are the projected entries
made_entries : (all : Option (List (Option ℕ))) (indices : List (Option ℕ)) (es made : List Entry) → all ≡ Some indices
    → map entry_change made ≡ projected_changes indices (map entry_change es) → made ≡ projected_entries all es
made_entries all indices es made is e =
    sym (same_entries made) ∙ ap (map change_entry) e ∙ ap (λ (o : Option (List (Option ℕ))). projected_entries o es) (sym is)

-- they rise with the tags of the entries
still_rising : (indices : List (Option ℕ)) (es made : List Entry) → map entry_change made ≡ projected_changes indices (map entry_change es) → AreRising es → AreRising made
still_rising indices es made e rising =
    subst (λ (cs : List (Tag × Change (List Cell))). T (finite.is_sorted tag_cmp cs)) (sym e)
    (is_sorted-collected tag_cmp (λ _. row_wise_change same_row (projected_row indices)) (map entry_change es) rising)

pub returns-in_ok-projected-in-Some-clause-entries : goal.returns-in_ok-projected-in-Some-clause-entries
returns-in_ok-projected-in-Some-clause-entries c =
    made_entries c.args.indices.now c.as_slice.result.now c.deref.result.now c.in_ok-projected-in-Some.field-0.items
    (c.in-Some.is ∙ ap (λ indices. Some indices) (sym c.as_slice.ensures)) c.in_ok-projected-in-Some.ensures
    ∙ ap (projected_entries c.args.indices.now) c.deref.ensures.value

pub returns-in_ok-projected-in-Some-clause-rising : goal.returns-in_ok-projected-in-Some-clause-rising
returns-in_ok-projected-in-Some-clause-rising c rising =
    still_rising c.as_slice.result.now c.deref.result.now c.in_ok-projected-in-Some.field-0.items c.in_ok-projected-in-Some.ensures
    (subst AreRising (sym c.deref.ensures.value) rising)
