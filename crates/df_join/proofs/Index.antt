-- What the members of a side have of a key.
use Rattle.std.proofs.Common.{◌≡◌, ℕ, true, false, cond, List, Option, Some, None, refl, sym, ap, subst, ◌∙◌}
use Rattle.std.specs.Option.{option_and_then}
use Rattle.std.specs.FinMap as finite
use Rattle.indexmap.specs.IndexMap.{get}
use Rattle.df_value.specs.Rows.{row_eq}
use Rattle.df_column.specs.TagOrder.{tag_total, tag_same}
use Rattle.df_column.specs.Tables.{TableParts, TaggedRows}
use Rattle.df_column.specs.Tags.{tag_cmp}
use Rattle.df_delta.specs.Collected.{kept}
use Rattle.df_ops.specs.Groups.{key_of}
use Rattle.df_join.specs.Joined.{matches}
use Rattle.df_join.specs.Keyed.{IsIndexOf, LeadsTo, group_of, rows_or_empty}
use Rattle.df_join.specs.RowNotes.{keyed_rows}
use Rattle.df_join.specs.Rules.{Cells, is_null_key, key_or_null}
use Rattle.df_join.specs.declared.keyed.KeyedTables.{KeyedTables}
use Rattle.df_join.specs.declared.members.Members.{Members}
use Rattle.df_join.specs.declared.rule.JoinRule.{JoinRule}
use Rattle.df_join.proofs.Groups.{row_yes, swap, rows-table_or_none, rows-staged, rows-kept}
use Rattle.df_join.proofs.Joined.{get-kept}

module _ (rule : JoinRule) (indices : List (Option ℕ)) where
  -- the rows of a key that is not null are those of its group
  other : (k h : Cells) → is_null_key rule k ≡ false → row_eq h k ≡ matches row_eq (key_or_null rule k) (key_or_null rule h)
  other k h known =
      elim (is_null_key rule h) as (λ b. is_null_key rule h ≡ b → row_eq h k ≡ matches row_eq (Some k) (cond b None (Some h))) [
        | true ↦ λ b. unlike b
        | false ↦ λ b. swap h k
      ] refl
      ∙ sym (ap (λ b. matches row_eq (cond b None (Some k)) (key_or_null rule h)) known)
    where
      unlike : is_null_key rule h ≡ true → row_eq h k ≡ false
      unlike null = elim (row_eq h k) as (λ b. row_eq h k ≡ b → b ≡ false) [
        | true ↦ λ e. let both : is_null_key rule k ≡ true = subst (λ n. is_null_key rule n ≡ true) (row_yes h k e) null in cc (known, both)
        | false ↦ λ e. refl
      ] refl

  pub group_is : (k : Cells) (t : TaggedRows) → is_null_key rule k ≡ false → group_of indices k t ≡ keyed_rows rule indices k t
  group_is k t known = λ i. kept (λ (y : Cells). other k (key_of indices y) known i) t

  none_of : (t : TaggedRows) → finite.empty ≡ kept (λ _. false) t
  none_of t = finite.same_map tag_total tag_same _ _ (λ q. finite.get-empty tag_cmp q ∙ sym (get-kept (λ _. false) t q ∙ nothing (finite.get t q)))
    where
      nothing : (f : Option Cells) → option_and_then (λ (x : Cells). cond false (Some x) None) f ≡ None
      nothing None = refl
      nothing (Some x) = refl

  pub null_rows : (t : TaggedRows) (k : Cells) → is_null_key rule k ≡ true → finite.empty ≡ keyed_rows rule indices k t
  null_rows t k null = none_of t ∙ (λ i. kept (λ (y : Cells). sym (ap (λ b. matches row_eq (cond b None (Some k)) (key_or_null rule (key_of indices y))) null) i) t)

  pub known_rows : (members : Members) (t : TaggedRows) (k : Cells) → is_null_key rule k ≡ false → IsIndexOf indices members t → rows_or_empty (get row_eq members.keyed.tables k) ≡ keyed_rows rule indices k t
  known_rows members t k known over = ap rows_or_empty (over.at k) ∙ rows-table_or_none members.empty.schema (group_of indices k t) ∙ group_is k t known

  -- the same of members with what is staged over them
  pub staged_rows : (members : Members) (staged : KeyedTables) (t : TaggedRows) (k : Cells) (m : TableParts) → is_null_key rule k ≡ false → LeadsTo indices members staged t → get row_eq staged.tables k ≡ Some m → m.rows ≡ keyed_rows rule indices k t
  staged_rows members staged t k m known leads e = sym (rows-staged (get row_eq staged.tables k) (get row_eq members.keyed.tables k) m e) ∙ ap rows_or_empty (leads.at k) ∙ rows-table_or_none members.empty.schema (group_of indices k t) ∙ group_is k t known

  pub kept_rows : (members : Members) (staged : KeyedTables) (t : TaggedRows) (k : Cells) → is_null_key rule k ≡ false → LeadsTo indices members staged t → get row_eq staged.tables k ≡ None → rows_or_empty (get row_eq members.keyed.tables k) ≡ keyed_rows rule indices k t
  kept_rows members staged t k known leads e = sym (rows-kept (get row_eq staged.tables k) (get row_eq members.keyed.tables k) e) ∙ ap rows_or_empty (leads.at k) ∙ rows-table_or_none members.empty.schema (group_of indices k t) ∙ group_is k t known
