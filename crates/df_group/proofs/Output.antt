-- The output of a live group-by, and its notes.
use Rattle.std.proofs.Common.{◌≡◌, ℕ, suc, true, List, drop, Option, Some, sym, ap, subst, ◌∙◌}
use Rattle.std.specs.Prelude.{slice_get}
use Rattle.std.specs.FinMap as finite
use Rattle.indexmap.specs.IndexMap.{IndexMap, get, keys}
use Rattle.df_value.specs.declared.cell.Cell.{Cell}
use Rattle.df_value.specs.Rows.{row_eq}
use Rattle.df_value.specs.RowEq.{row_eq-Decides}
use Rattle.df_column.specs.Changes.{Change}
use Rattle.df_column.specs.TagOrder.{tag_total, tag_same}
use Rattle.df_column.specs.Tables.{TaggedRows}
use Rattle.df_column.specs.Tags.{tag_cmp}
use Rattle.df_column.specs.declared.tag.Tag.{Tag}
use Rattle.df_delta.specs.Deltas.{Changes}
use Rattle.df_delta.specs.Differences.{IsDiff}
use Rattle.df_delta.specs.Notes.{IsNote, leaned}
use Rattle.df_delta.specs.SameRows.{same_row}
use Rattle.df_delta.proofs.NoteDiffs.{diff_of_notes}
use Rattle.df_delta.proofs.SameRows.{same_row_yes, same_row_no}
use Rattle.df_ops.specs.Groups.{key_of}
use Rattle.df_group.specs.GroupIndex.{IsIndexOf, LeadsTo, entry_of, row_of_rows, group_in, non_empty, output_at, output_of, staged_or}
use Rattle.df_group.specs.GroupRows.{members_of}
use Rattle.df_group.specs.Grouped.{at_tag, group_entry}
use Rattle.df_group.specs.NotedSides.{both_sides, noted_new, noted_old}
use Rattle.df_group.specs.declared.group.Group.{Group}
use Rattle.df_group.specs.declared.grouping.Grouping.{Grouping}
use Rattle.df_group.proofs.Groups.{Agree, groups_lead}
use Rattle.df_group.proofs.IndexMaps.{at_place, not_among}
use Rattle.df_group.proofs.Members.{entry_is, entry_of-non_empty}
use Rattle.df_group.proofs.NotedSides.{notes_more}

row_eq-yes : (a b : List Cell) → row_eq a b ≡ true → a ≡ b
row_eq-yes a b e = (row_eq-Decides a b).0 e

module _ (g : Grouping) where
  -- what the group of a key gives to the output over an input
  gives : (k : List Cell) (t : TaggedRows) → entry_of (non_empty (group_in g k t)) ≡ group_entry (row_of_rows g) k (finite.entries (members_of g.key_indices k t))
  gives k t = entry_of-non_empty (group_in g k t) ∙ entry_is g k t

module _ (g : Grouping) {S : Type 0} where
  -- a group that is not staged gives what it gave
  agree : (index staged : IndexMap (List Cell) Group S) (t u : TaggedRows) → IsIndexOf g index t → LeadsTo g index staged u
      → Agree tag_same (key_of g.key_indices) row_eq row_eq-yes (row_of_rows g) (keys staged) t u
  agree index staged t u over leads = record {
    at = λ k n.
        let same : non_empty (group_in g k t) ≡ non_empty (group_in g k u) = sym (over.at k) ∙ sym (ap (λ s. staged_or s (get row_eq index k)) (not_among staged k n)) ∙ leads.at k in
        sym (gives g k t) ∙ ap entry_of same ∙ gives g k u;
  }

  -- notes of what the staged groups had and get give the change of the output
  pub output_diff : (index staged : IndexMap (List Cell) Group S) (t u : TaggedRows) (notes : Changes) → IsIndexOf g index t → LeadsTo g index staged u
      → ((q : Tag) → finite.get notes q ≡ both_sides (output_at g (keys staged) t q) (output_at g (keys staged) u q))
      → IsDiff (output_of g t) (output_of g u) (leaned same_row notes)
  output_diff index staged t u notes over leads noted = diff_of_notes tag_total tag_same same_row same_row_yes same_row_no (output_of g t) (output_of g u) notes (λ q.
      subst (λ c. IsNote c (finite.get (output_of g t) q) (finite.get (output_of g u) q)) (sym (noted q))
      (groups_lead tag_same (key_of g.key_indices) row_eq row_eq-yes (row_of_rows g) (keys staged) t u (agree index staged t u over leads) q))

  -- the notes of one more group
  pub noted_more : (index staged : IndexMap (List Cell) Group S) (t u : TaggedRows) (i : ℕ) (k : List Cell) (group : Group) (q : Tag) (old new : Option (Change (List Cell)))
      → IsIndexOf g index t → LeadsTo g index staged u → slice_get staged.entries i ≡ Some (k, group) → get row_eq staged k ≡ Some group
      → old ≡ both_sides (output_at g (drop (suc i) (keys staged)) t q) (output_at g (drop (suc i) (keys staged)) u q)
      → new ≡ noted_new (noted_old old (at_tag tag_cmp q (entry_of (get row_eq index k)))) (at_tag tag_cmp q (entry_of (Some group)))
      → new ≡ both_sides (output_at g (drop i (keys staged)) t q) (output_at g (drop i (keys staged)) u q)
  noted_more index staged t u i k group q old new over leads place is e f =
      let row_in = λ (t : TaggedRows). group_entry (row_of_rows g) k (finite.entries (members_of g.key_indices k t)) in
      let before : entry_of (get row_eq index k) ≡ row_in t = ap entry_of (over.at k) ∙ gives g k t in
      let same : non_empty group ≡ non_empty (group_in g k u) = sym (ap (λ s. staged_or s (get row_eq index k)) is) ∙ leads.at k in
      let after : entry_of (Some group) ≡ row_in u = sym (entry_of-non_empty group) ∙ ap entry_of same ∙ gives g k u in
      let ks = drop (suc i) (keys staged) in
      f ∙ (λ j. noted_new (noted_old (e j) (at_tag tag_cmp q (before j))) (at_tag tag_cmp q (after j)))
      ∙ notes_more (output_at g ks t q) (output_at g ks u q) (at_tag tag_cmp q (row_in t)) (at_tag tag_cmp q (row_in u))
      ∙ ap (λ ks. both_sides (output_at g ks t q) (output_at g ks u q)) (sym (at_place staged.entries i k group place))
