-- What is kept of the rows of an input follows what is kept of their changes.
use Rattle.std.proofs.Common.{◌≡◌, ℕ, true, false, cond, List, [], ◌∷◌, map, Option, Some, None, IsTrue, refl, sym, ap, subst, ◌∙◌}
use Rattle.std.specs.Option.{IfSome, option_and_then}
use Rattle.std.specs.FinMap as finite
use Rattle.df_value.specs.declared.cell.Cell.{Cell}
use Rattle.df_value.specs.Rows.{row_eq, row_fits}
use Rattle.df_value.specs.Schemas.{Columns}
use Rattle.df_column.specs.Changes.{Change, applied}
use Rattle.df_column.specs.TagOrder.{tag_total, tag_same}
use Rattle.df_column.specs.Tables.{TaggedRows, entry_change}
use Rattle.df_column.specs.Tags.{tag_cmp}
use Rattle.df_column.specs.declared.entry.Entry.{Entry}
use Rattle.df_column.specs.declared.tag.Tag.{Tag}
use Rattle.df_delta.specs.ChangeOf.{row_wise_change}
use Rattle.df_delta.specs.Deltas.{Changes, RowsFit}
use Rattle.df_delta.specs.Differences.{Fits}
use Rattle.df_delta.specs.Keyed.{of_key}
use Rattle.df_delta.specs.SameRows.{same_row}
use Rattle.df_delta.proofs.ChangeOf.{row_wise_diff}
use Rattle.df_delta.proofs.Collected.{entries-collected, get-collected}
use Rattle.df_delta.proofs.SameRows.{same_row_yes, same_row_no}
use Rattle.df_ops.specs.Groups.{key_of}
use Rattle.df_group.specs.GroupRows.{members_of}
use Rattle.df_group.specs.Projections.{change_entry, projected_changes, projected_delta, projected_entries, projected_row, projected_rows}

-- changes that fit rows fit what is kept of them
pub projected_fits : (indices : Option (List (Option ℕ))) (t : TaggedRows) (d : Changes) → Fits t d → Fits (projected_rows indices t) (projected_delta indices d)
projected_fits None t d fits = fits
projected_fits (Some indices) t d fits = (row_wise_diff same_row same_row_yes same_row_no (projected_row indices) tag_total tag_same t d fits).fits

-- and lead from what is kept before to what is kept afterwards
pub projected_gives : (indices : Option (List (Option ℕ))) (t : TaggedRows) (d : Changes) → Fits t d → applied (projected_rows indices t) (projected_delta indices d) ≡ projected_rows indices (applied t d)
projected_gives None t d fits = refl
projected_gives (Some indices) t d fits = (row_wise_diff same_row same_row_yes same_row_no (projected_row indices) tag_total tag_same t d fits).gives

changes_of_entries : (changes : List (Tag × Change (List Cell))) → map entry_change (map change_entry changes) ≡ changes
changes_of_entries [] = refl
changes_of_entries (c ∷ cs) = ap (λ rest. c ∷ rest) (changes_of_entries cs)

-- the entries that are kept of those of a delta are those of what is kept of the delta
pub projected_entries_are : (indices : Option (List (Option ℕ))) (d : Changes) (entries : List Entry) → map entry_change entries ≡ finite.entries d → map entry_change (projected_entries indices entries) ≡ finite.entries (projected_delta indices d)
projected_entries_are None d entries e = e
projected_entries_are (Some indices) d entries e =
    changes_of_entries (projected_changes indices (map entry_change entries))
    ∙ ap (projected_changes indices) e
    ∙ sym (entries-collected tag_cmp (λ _. row_wise_change same_row (projected_row indices)) d)

pub no_projected_entries : (indices : Option (List (Option ℕ))) → projected_entries indices [] ≡ []
no_projected_entries None = refl
no_projected_entries (Some indices) = refl

module _ (columns : Columns) (keys : List (Option ℕ)) (k : List Cell) where
  abbrev own : List Cell → Option (List Cell)
  own = of_key (key_of keys) row_eq k

  get_member : (t : TaggedRows) (q : Tag) → finite.get (members_of keys k t) q ≡ option_and_then own (finite.get t q)
  get_member t q = get-collected tag_cmp (λ _. own) tag_same t q

  abbrev Fit : Option (List Cell) → Type 0
  Fit o = IfSome o (λ row. IsTrue (row_fits columns row))

  own_fits : (f : List Cell → Option (List Cell)) (o : Option (List Cell)) → Fit (option_and_then f o) → Fit (option_and_then f (option_and_then own o))
  own_fits f None h = tt
  own_fits f (Some row) h = elim (row_eq (key_of keys row) k) as (λ b. Fit (option_and_then f (cond b (Some row) None))) [ true ↦ h | false ↦ tt ]

  -- where what is kept of all rows fits, that of the key's rows does
  pub members_fit : (indices : Option (List (Option ℕ))) (t : TaggedRows) → RowsFit columns (projected_rows indices t) → RowsFit columns (projected_rows indices (members_of keys k t))
  members_fit None t fit = record { at = λ q. subst Fit (sym (get_member t q)) (whole (finite.get t q) (fit.at q)) }
    where
      whole : (o : Option (List Cell)) → Fit o → Fit (option_and_then own o)
      whole None h = tt
      whole (Some row) h = elim (row_eq (key_of keys row) k) as (λ b. Fit (cond b (Some row) None)) [ true ↦ h | false ↦ tt ]
  members_fit (Some indices) t fit = record {
    at = λ q.
        let row = projected_row indices in
        subst Fit (sym (get-collected tag_cmp (λ _. row) tag_same (members_of keys k t) q ∙ ap (option_and_then row) (get_member t q)))
        (own_fits row (finite.get t q) (subst Fit (get-collected tag_cmp (λ _. row) tag_same t q) (fit.at q)));
  }
