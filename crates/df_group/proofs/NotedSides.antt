-- Notes of the rows that groups had and get.
use Rattle.std.proofs.Common.{◌≡◌, true, false, cond, Option, Some, None, refl, sym, ap, subst, ◌∙◌}
use Rattle.std.specs.Prelude.{T}
use Rattle.std.specs.Ordering.{eq_by_cmp}
use Rattle.std.specs.FinMap as finite
use Rattle.df_value.specs.declared.cell.Cell.{Cell}
use Rattle.std.proofs.Common.{List}
use Rattle.df_column.specs.TagOrder.{tag_total, tag_same}
use Rattle.df_column.specs.Tags.{tag_cmp}
use Rattle.df_column.specs.declared.tag.Tag.{Tag}
use Rattle.df_delta.specs.Deltas.{Changes}
use Rattle.df_delta.specs.Notes.{IsNote, new_of, old_of}
use Rattle.df_delta.proofs.Collected.{equal_from_is_eq}
use Rattle.df_group.specs.Grouped.{at_tag, first_some}
use Rattle.df_group.specs.NotedSides.{both_sides, noted_new, noted_old}

pub both_sides_note : {Y : Type 0} (a b : Option Y) → IsNote (both_sides a b) a b
both_sides_note None None = refl
both_sides_note None (Some b) = (refl, refl)
both_sides_note (Some a) b = (refl, refl)

tied : (q tag : Tag) → eq_by_cmp tag_cmp q tag ≡ true → q ≡ tag
tied q tag b = tag_same q tag (equal_from_is_eq _ (subst T (sym b) tt))

pub old_is_noted : (old new : Changes) (tag q : Tag) (row : List Cell)
    → new ≡ finite.insert old tag (record { old = Some row; new = new_of (finite.get old tag) })
    → finite.get new q ≡ noted_old (finite.get old q) (at_tag tag_cmp q (Some (tag, row)))
old_is_noted old new tag q row e =
    ap (λ m. finite.get m q) e
    ∙ finite.get-insert tag_total old tag _ q
    ∙ elim (eq_by_cmp tag_cmp q tag) as (λ b. eq_by_cmp tag_cmp q tag ≡ b → cond b (Some (record { old = Some row; new = new_of (finite.get old tag) })) (finite.get old q) ≡ noted_old (finite.get old q) (cond b (Some row) None)) [
      | true ↦ λ b. ap (λ k. Some (record { old = Some row; new = new_of (finite.get old k) })) (sym (tied q tag b))
      | false ↦ λ b. refl
    ] refl

pub new_is_noted : (old new : Changes) (tag q : Tag) (row : List Cell)
    → new ≡ finite.insert old tag (record { old = old_of (finite.get old tag); new = Some row })
    → finite.get new q ≡ noted_new (finite.get old q) (at_tag tag_cmp q (Some (tag, row)))
new_is_noted old new tag q row e =
    ap (λ m. finite.get m q) e
    ∙ finite.get-insert tag_total old tag _ q
    ∙ elim (eq_by_cmp tag_cmp q tag) as (λ b. eq_by_cmp tag_cmp q tag ≡ b → cond b (Some (record { old = old_of (finite.get old tag); new = Some row })) (finite.get old q) ≡ noted_new (finite.get old q) (cond b (Some row) None)) [
      | true ↦ λ b. ap (λ k. Some (record { old = old_of (finite.get old k); new = Some row })) (sym (tied q tag b))
      | false ↦ λ b. refl
    ] refl

-- the notes of one more group
pub notes_more : {Y : Type 0} (x y a b : Option Y) → noted_new (noted_old (both_sides x y) a) b ≡ both_sides (first_some a x) (first_some b y)
notes_more None None None None = refl
notes_more None None None (Some b) = refl
notes_more None None (Some a) None = refl
notes_more None None (Some a) (Some b) = refl
notes_more None (Some y) None None = refl
notes_more None (Some y) None (Some b) = refl
notes_more None (Some y) (Some a) None = refl
notes_more None (Some y) (Some a) (Some b) = refl
notes_more (Some x) y None None = refl
notes_more (Some x) y None (Some b) = refl
notes_more (Some x) y (Some a) None = refl
notes_more (Some x) y (Some a) (Some b) = refl
