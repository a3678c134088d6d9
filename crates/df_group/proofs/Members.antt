-- The members of a group, before and after a change.
use Rattle.std.proofs.Common.{◌≡◌, ℕ, ◌<◌, ◌≤◌, Bool, true, false, cond, List, [], ◌∷◌, map, length, get_or, Option, Some, None, refl, sym, ap, subst, ◌∙◌}
use Rattle.std.specs.Prelude.{◌==◌, T, slice_get, unwrap_or}
use Rattle.std.specs.Option.{option_and_then}
use Rattle.std.proofs.lemmas.Bool.{eqb-true}
use Rattle.std.proofs.lemmas.List.{get_or-map, length-map, nil_from_length}
use Rattle.std.proofs.lemmas.Option.{slice_get_past, unwrap_or-slice_get}
use Rattle.std.specs.FinMap as finite
use Rattle.df_value.specs.declared.cell.Cell.{Cell}
use Rattle.df_value.specs.declared.cell.Cell.TheVariants as cell
use Rattle.df_value.specs.Rows.{cell_at, row_eq}
use Rattle.df_column.specs.Changes.{applied}
use Rattle.df_column.specs.TagOrder.{tag_total, tag_same}
use Rattle.df_column.specs.Tables.{TableParts, TaggedRows, after_entries, entry_change, new_rows_fit}
use Rattle.df_column.specs.Tags.{tag_cmp}
use Rattle.df_column.specs.declared.entry.Entry.{Entry}
use Rattle.df_column.specs.declared.tag.Tag.{Tag}
use Rattle.df_delta.specs.Collected.{collected, collected_list}
use Rattle.df_delta.specs.Deltas.{Changes, RowsFit}
use Rattle.df_delta.specs.Keyed.{of_key}
use Rattle.df_delta.proofs.Collected.{entries-collected, get-collected}
use Rattle.df_delta.proofs.Fitting.{changes_of, new_rows_of}
use Rattle.df_ops.specs.Aggregates.{cells_of}
use Rattle.df_ops.specs.Groups.{key_of}
use Rattle.df_group.specs.GroupIndex.{edited_table, entry_of, row_of_group, row_of_rows, first_entry, group_in, group_with, members_now, non_empty, totals_now, totals_of}
use Rattle.df_group.specs.GroupRows.{members_of}
use Rattle.df_group.specs.Grouped.{group_entry}
use Rattle.df_group.specs.Projections.{member_cells, projected_row, projected_rows}
use Rattle.df_group.specs.declared.group.Group.{Group}
use Rattle.df_group.specs.declared.grouping.Grouping.{Grouping}

-- of no rows none are made
none_made : (make : List Cell → Option (List Cell)) → collected {R = tag_cmp} (λ _. make) finite.empty ≡ finite.empty
none_made make = finite.same_map tag_total tag_same _ _ (λ q. get-collected tag_cmp (λ _. make) tag_same finite.empty q ∙ ap (option_and_then make) (finite.get-empty tag_cmp q) ∙ sym (finite.get-empty tag_cmp q))

none_projected : (p : Option (List (Option ℕ))) → projected_rows p finite.empty ≡ finite.empty
none_projected None = refl
none_projected (Some indices) = none_made (projected_row indices)

-- the entries, each with the cells that its member has
abbrev with_member_cells : Option (List (Option ℕ)) → List (Tag × List Cell) → List (Tag × List Cell)
with_member_cells p es = map (λ e. (e.0, member_cells p e.1)) es

all_cells : (es : List (Tag × List Cell)) → es ≡ with_member_cells None es
all_cells [] = refl
all_cells (e ∷ es) = ap (λ es. e ∷ es) (all_cells es)

cells_at : (indices : List (Option ℕ)) (es : List (Tag × List Cell)) → collected_list (λ _. projected_row indices) es ≡ with_member_cells (Some indices) es
cells_at indices [] = refl
cells_at indices (e ∷ es) = ap (λ es. (e.0, key_of indices e.1) ∷ es) (cells_at indices es)

entries_projected : (p : Option (List (Option ℕ))) (m : TaggedRows) → finite.entries (projected_rows p m) ≡ with_member_cells p (finite.entries m)
entries_projected None m = all_cells (finite.entries m)
entries_projected (Some indices) m = entries-collected tag_cmp (λ _. projected_row indices) m ∙ cells_at indices (finite.entries m)

values_projected : (p : Option (List (Option ℕ))) (es : List (Tag × List Cell)) → map (λ e. e.1) (with_member_cells p es) ≡ map (member_cells p) (map (λ e. e.1) es)
values_projected p [] = refl
values_projected p (e ∷ es) = ap (λ rows. member_cells p e.1 ∷ rows) (values_projected p es)

module _ (g : Grouping) (k : List Cell) where
  abbrev parts : TaggedRows → TableParts
  parts m = record { schema = g.members.schema; rows = m }

  pub members_now_is : (m : TaggedRows) → members_now g (non_empty (group_with g k (parts m))) ≡ parts m
  members_now_is m = elim (finite.len m == 0) as (λ b. (finite.len m == 0) ≡ b → members_now g (cond b None (Some (group_with g k (parts m)))) ≡ parts m) [
    | true ↦ λ e. ap parts (sym (finite.empty_of_len m (eqb-true (finite.len m) 0 e)))
    | false ↦ λ e. refl
  ] refl

  -- the totals of a group are those of its members
  pub totals_now_are : (m : TaggedRows) → totals_now g (non_empty (group_with g k (parts m))) ≡ totals_of g (finite.values m)
  totals_now_are m = elim (finite.len m == 0) as (λ b. (finite.len m == 0) ≡ b → totals_now g (cond b None (Some (group_with g k (parts m)))) ≡ totals_of g (finite.values m)) [
    | true ↦ λ e. ap (λ es. totals_of g (map (λ e. e.1) es)) (sym (nil_from_length (finite.entries m) (sym (finite.len-entries m) ∙ eqb-true (finite.len m) 0 e)))
    | false ↦ λ e. refl
  ] refl

  -- the table of the members after changes whose rows fit
  pub edited_members : (m : TaggedRows) (d : Changes) (entries : List Entry) → map entry_change entries ≡ finite.entries d → RowsFit g.members.schema (applied m d) → edited_table (parts m) entries ≡ parts (applied m d)
  edited_members m d entries e fit =
      taken (new_rows_fit g.members.schema entries) (new_rows_of g.members.schema m d entries e fit)
      ∙ ap (λ c. parts (applied m c)) (changes_of d entries e)
    where
      taken : (b : Bool) → T b → cond b (after_entries (parts m) entries) (parts m) ≡ after_entries (parts m) entries
      taken true h = refl
      taken false h = absurd h

  pub no_members : members_of g.key_indices k finite.empty ≡ finite.empty
  no_members = none_made (of_key (key_of g.key_indices) row_eq k)

  -- where there are no rows, no key has a group
  pub no_group : non_empty (group_in g k finite.empty) ≡ None
  no_group =
      ap (λ m. non_empty (group_with g k (parts (projected_rows g.members.indices m)))) no_members
      ∙ ap (λ m. non_empty (group_with g k (parts m))) (none_projected g.members.indices)
      ∙ ap (λ n. cond (n == 0) None (Some (group_with g k (parts finite.empty)))) (finite.len-empty tag_cmp (List Cell))

  first_is : (es : List (Tag × List Cell)) → first_entry (row_of_group g k (map (λ e. e.1) (with_member_cells g.members.indices es))) (with_member_cells g.members.indices es) ≡ group_entry (row_of_rows g) k es
  first_is [] = refl
  first_is (e ∷ es) = ap (λ rows. Some (e.0, row_of_group g k rows)) (values_projected g.members.indices (e ∷ es))

  -- what the group of the key gives to the output
  pub entry_is : (t : TaggedRows) → entry_of (Some (group_in g k t)) ≡ group_entry (row_of_rows g) k (finite.entries (members_of g.key_indices k t))
  entry_is t =
      ap (λ es. first_entry (row_of_group g k (map (λ e. e.1) es)) es) (entries_projected g.members.indices (members_of g.key_indices k t))
      ∙ first_is (finite.entries (members_of g.key_indices k t))

pub entry_of-non_empty : (group : Group) → entry_of (non_empty group) ≡ entry_of (Some group)
entry_of-non_empty group =
    let m = group.members.rows in
    elim (finite.len m == 0) as (λ b. (finite.len m == 0) ≡ b → entry_of (cond b None (Some group)) ≡ entry_of (Some group)) [
      | true ↦ λ e. sym (ap (first_entry group.row) (nil_from_length (finite.entries m) (sym (finite.len-entries m) ∙ eqb-true (finite.len m) 0 e)))
      | false ↦ λ e. refl
    ] refl

pub empty_group : (group : Group) → finite.len group.members.rows ≡ 0 → non_empty group ≡ None
empty_group group e = ap (λ n. cond (n == 0) None (Some group)) e

pub live_group : (group : Group) → (finite.len group.members.rows ≡ 0 → ⊥) → non_empty group ≡ Some group
live_group group ne = elim (finite.len group.members.rows == 0) as (λ b. (finite.len group.members.rows == 0) ≡ b → cond b None (Some group) ≡ Some group) [
  | true ↦ λ e. absurd (ne (eqb-true (finite.len group.members.rows) 0 e))
  | false ↦ λ e. refl
] refl

-- a group without members gives nothing to the output
pub no_entry : (group : Group) → finite.len group.members.rows ≡ 0 → entry_of (Some group) ≡ None
no_entry group e = ap (first_entry group.row) (nil_from_length (finite.entries group.members.rows) (sym (finite.len-entries group.members.rows) ∙ e))

first_of : (es : List (Tag × List Cell)) (tag : Tag) (own row : List Cell) → (length es ≡ 0 → ⊥) → ((d : Tag × List Cell) → tag ≡ (get_or es 0 d).0) → row ≡ own → first_entry own es ≡ Some (tag, row)
first_of [] tag own row ne is same = absurd (ne refl)
first_of (e ∷ es) tag own row ne is same = λ i. Some (sym (is e) i, sym same i)

-- and one with members a row at the first tag
pub first_row : (group : Group) (tag : Tag) (row : List Cell) → (finite.len group.members.rows ≡ 0 → ⊥) → ((d : Tag × List Cell) → tag ≡ (get_or (finite.entries group.members.rows) 0 d).0) → row ≡ group.row
    → entry_of (Some group) ≡ Some (tag, row)
first_row group tag row ne is same = first_of (finite.entries group.members.rows) tag group.row row (λ e. ne (finite.len-entries group.members.rows ∙ e)) is same

-- how many members there are
pub values_length : (m : TaggedRows) → length (finite.values m) ≡ finite.len m
values_length m = length-map (finite.entries m) (λ e. e.1) ∙ sym (finite.len-entries m)

pub cells_length : (index : Option ℕ) (m : TaggedRows) → length (cells_of index (finite.values m)) ≡ finite.len m
cells_length index m = length-map (finite.values m) (cell_at index) ∙ values_length m

-- the cell at an index of the member at a place
pub cell_past : (index : Option ℕ) (m : TaggedRows) (place : ℕ) → finite.len m ≤ place → cell.Null ≡ unwrap_or (slice_get (cells_of index (finite.values m)) place) cell.Null
cell_past index m place past = sym (ap (λ o. unwrap_or o cell.Null) (slice_get_past (cells_of index (finite.values m)) place (subst (λ n. n ≤ place) (sym (cells_length index m)) past)))

pub cell_here : (index : Option ℕ) (m : TaggedRows) (place : ℕ) (row : List Cell) → place < finite.len m → ((d : Tag × List Cell) → row ≡ (get_or (finite.entries m) place d).1) → cell_at index row ≡ unwrap_or (slice_get (cells_of index (finite.values m)) place) cell.Null
cell_here index m place row lt is =
    let d : Tag × List Cell = (record { first = 0; second = 0; third = 0 }, row) in
    let in_entries : place < length (finite.entries m) = subst (λ n. place < n) (finite.len-entries m) lt in
    let in_values : place < length (finite.values m) = subst (λ n. place < n) (sym (values_length m)) lt in
    sym
    (unwrap_or-slice_get (cells_of index (finite.values m)) place cell.Null
    ∙ get_or-map (cell_at index) (finite.values m) place row cell.Null in_values
    ∙ ap (cell_at index) (get_or-map (λ e. e.1) (finite.entries m) place d row in_entries ∙ sym (is d)))
