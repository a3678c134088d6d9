-- Both sides change together.
use Rattle.std.proofs.Common.{◌≡◌, ◌≤◌, ◌+◌, ◌*◌, ℕ, Bool, List, Option, Some, None, IsTrue, refl, sym, ap, subst, ◌∙◌, arith}
use Rattle.std.specs.Prelude.{T}
use Rattle.std.specs.Option.{IfSome}
use Rattle.std.specs.Map.{lookup}
use Rattle.std.specs.FinMap as finite
use Rattle.indexmap.specs.IndexMap.{get, IsUnchanged}
use Rattle.df_expr.specs.declared.meter.Meter.{Meter}
use Rattle.df_value.specs.Rows.{row_eq, row_fits}
use Rattle.df_value.specs.declared.cell.CellType.{CellType}
use Rattle.df_column.specs.Changes.{Change, applied}
use Rattle.df_column.specs.TagOrder.{tag_total, tag_same}
use Rattle.df_column.specs.Tables.{TableParts, TaggedRows, new_row_fits}
use Rattle.df_column.specs.declared.tag.Tag.{Tag}
use Rattle.df_delta.specs.Deltas.{Changes, RowsFit}
use Rattle.df_delta.specs.Diff.{diff}
use Rattle.df_delta.specs.Differences.{Fits, IsDiff}
use Rattle.df_delta.specs.Inputs.{MayFollowBoth}
use Rattle.df_delta.specs.Notes.{leaned}
use Rattle.df_delta.specs.SameRows.{same_row}
use Rattle.df_delta.specs.Work.{IsWithin, plus}
use Rattle.df_delta.proofs.Changes.{IsChange, after_change, change_at, diff_of_applied, get-applied}
use Rattle.df_delta.proofs.Fitting.{all_entries}
use Rattle.df_delta.proofs.NoteDiffs.{diff_of_notes}
use Rattle.df_delta.proofs.SameRows.{len-diff, same_row_yes, same_row_no}
use Rattle.df_join.specs.Keyed.{IsIndexOf, LeadsTo, group_of, staged_or, table_or_none}
use Rattle.df_join.specs.Probes.{Grows, probes}
use Rattle.df_join.specs.RowNotes.{AreSides, Leads, NewFit, joined_by_key}
use Rattle.df_join.specs.Rules.{Cells}
use Rattle.df_join.specs.Sides.{AreInputs, AreScans, IsAsBefore, IsOver, IsRowTag, IsStagedAsBefore, LeadsOver, LeadsToBoth, is_one, join_output}
use Rattle.df_join.specs.Spread.{HasKeys, IsLeftTag, IsRightTag, IsTagOver}
use Rattle.df_join.specs.declared.join.LiveJoin.{LiveJoin}
use Rattle.df_join.specs.declared.join.StagedJoin.{StagedJoin}
use Rattle.df_join.specs.declared.keyed.KeyedTables.{KeyedTables}
use Rattle.df_join.specs.declared.members.Members.{Members}
use Rattle.df_join.proofs.LeftSide.{leads_nothing}
use Rattle.df_join.proofs.Shape.{keys_from}
use Rattle.df_join.proofs.Tags.{left_tag, right_tag}

-- the keys of a diff are keys of the tables that it leads between
pub diff_keys : (P : Tag → Type 0) (t u : TaggedRows) (d : Changes) → HasKeys P t → HasKeys P u → IsDiff t u d → HasKeys P d
diff_keys P t u d h k is = record { at = λ q. one_of (P q) (finite.get d q) (finite.get t q) (finite.get u q) (change_at tag_total tag_same t u d is q) (h.at q) (k.at q) }
  where
    one_of : (A : Type 0) (c : Option (Change Cells)) (a b : Option Cells) → IsChange c a b → IfSome a (λ _. A) → IfSome b (λ _. A) → IfSome c (λ _. A)
    one_of A None a b is x y = tt
    one_of A (Some c) (Some a) b is x y = x
    one_of A (Some c) None (Some b) is x y = y
    one_of A (Some c) None None is x y = absurd (is.2 refl)

-- the new rows of changes fit where the rows that they lead to do
new_from : (schema : List (List ℕ × CellType)) (row : Option Cells) → IfSome row (λ r. IsTrue (row_fits schema r)) → T (new_row_fits schema row)
new_from schema None h = tt
new_from schema (Some r) h = subst T (sym h) tt

change_new : (schema : List (List ℕ × CellType)) (c : Option (Change Cells)) (a : Option Cells) → IfSome (after_change c a) (λ r. IsTrue (row_fits schema r)) → IfSome c (λ c. T (new_row_fits schema c.new))
change_new schema None a h = tt
change_new schema (Some c) a h = new_from schema c.new h

pub new_fit : (schema : List (List ℕ × CellType)) (t : TaggedRows) (d : Changes) → RowsFit schema (applied t d) → NewFit schema (finite.entries d)
new_fit schema t d fit = all_entries (λ c. new_row_fits schema c.new) (finite.entries d) (finite.entries_sorted d) (λ q.
    subst (λ o. IfSome o (λ c. T (new_row_fits schema c.new))) (finite.get-entries d q)
    (change_new schema (finite.get d q) (finite.get t q)
    (subst (λ o. IfSome o (λ r. IsTrue (row_fits schema r))) (get-applied tag_total tag_same t d q) (fit.at q))))

module _ (j : LiveJoin) where
  abbrev one : Bool
  one = is_one j.left_scans

  module _ (l r : TaggedRows) (d e : Changes) (h : MayFollowBoth (IsOver j) (AreInputs j) l d r e) where
    to_left : (q : Tag) → IsTagOver j.left_scans q → IsLeftTag one q
    to_left q k = left_tag j.left_scans q (omega (arith, h.over.scans.right, h.over.scans.both)) k.ends

    row_tag : (q : Tag) → IsTagOver j.right_scans q → IsRowTag one q
    row_tag q k = record { part = right_tag j.left_scans j.right_scans q h.over.scans.left h.over.scans.right h.over.scans.both k.ends; begins = k.begins }

    pub left_delta_keys : HasKeys (IsLeftTag one) d
    left_delta_keys = keys_from (IsTagOver j.left_scans) (IsLeftTag one) d to_left (diff_keys (IsTagOver j.left_scans) l (applied l d) d h.before.left_tags h.after.left_tags (diff_of_applied tag_total tag_same l d h.lean_left h.fits_left))

    pub right_delta_keys : HasKeys (IsRowTag one) e
    right_delta_keys = keys_from (IsTagOver j.right_scans) (IsRowTag one) e row_tag (diff_keys (IsTagOver j.right_scans) r (applied r e) e h.before.right_tags h.after.right_tags (diff_of_applied tag_total tag_same r e h.lean_right h.fits_right))

    -- what was noted of the right side leads on from its beginning
    pub over_right : (unstaged staged : KeyedTables) (none notes : Changes)
        → LeadsTo j.rule.indices.right j.right unstaged r → none ≡ finite.empty
        → ((from l' r' : TaggedRows) → HasKeys (IsRowTag one) e → Fits r' e → NewFit j.right.empty.schema (finite.entries e) → LeadsOver j unstaged none from l' r' → LeadsOver j staged notes from l' (applied r' e))
        → LeadsOver j staged notes (join_output j l r) l (applied r e)
    over_right unstaged staged none notes first empty step =
        step (join_output j l r) l r right_delta_keys h.fits_right (new_fit j.right.empty.schema r e h.after.right_fits)
        (record {
          left_keys = keys_from (IsTagOver j.left_scans) (IsLeftTag one) l to_left h.before.left_tags;
          right_keys = keys_from (IsTagOver j.right_scans) (IsRowTag one) r row_tag h.before.right_tags;
          left = h.over.left;
          right = first;
          leads = leads_nothing (join_output j l r) none empty;
        })

    -- and then of the left side, over the right one as it will be
    pub over_left : (staged : KeyedTables) (notes more : Changes) → LeadsOver j staged notes (join_output j l r) l (applied r e)
        → ((from l' r' : TaggedRows) → AreSides one j.rule j.right staged l' r' → HasKeys (IsLeftTag one) d → Fits l' d → Leads notes from (join_output j l' r') → Leads more from (join_output j (applied l' d) r'))
        → Leads more (join_output j l r) (join_output j (applied l d) (applied r e))
    over_left staged notes more over step =
        step (join_output j l r) l (applied r e)
        (record { left_keys = over.left_keys; right_keys = keys_from (IsRowTag one) (IsRightTag one) (applied r e) (λ q k. k.part) over.right_keys; over = over.right })
        left_delta_keys h.fits_left over.leads

    pub left_new_fit : NewFit j.left.empty.schema (finite.entries d)
    left_new_fit = new_fit j.left.empty.schema l d h.after.left_fits

    pub leads_to_both : (left right : KeyedTables) → LeadsTo j.rule.indices.left j.left left (applied l d) → LeadsTo j.rule.indices.right j.right right (applied r e) → LeadsToBoth j (record { left = left; right = right }) (applied l d) (applied r e)
    leads_to_both left right l' r' = record { scans = h.over.scans; left = l'; right = r' }

    within_allowed : (old new : ℕ) → Grows old new (8 * (finite.len d + finite.len e)) → new ≤ old + 8 * (finite.len (diff same_row l (applied l d)) + finite.len (diff same_row r (applied r e)))
    within_allowed old new grows = subst (λ (n : ℕ). new ≤ old + 8 * (n + finite.len (diff same_row r (applied r e)))) (len-diff l d h.lean_left h.fits_left)
        (subst (λ (n : ℕ). new ≤ old + 8 * (finite.len d + n)) (len-diff r e h.lean_right h.fits_right) grows.1)

    -- eight probes for each tag at which a side differs, and nothing else
    pub within_meter : (meter : Meter) (new : ℕ) → Grows meter.probes new (8 * (finite.len d + finite.len e))
        → IsWithin (record { evals = meter.evals; finishes = meter.finishes; probes = new; windows = meter.windows }) (plus meter (probes (8 * (finite.len (diff same_row l (applied l d)) + finite.len (diff same_row r (applied r e))))))
    within_meter meter new grows = (omega arith, omega arith, within_allowed meter.probes new grows, omega arith)

pub diff_from_notes : (notes : Changes) (t u : TaggedRows) → Leads notes t u → IsDiff t u (leaned same_row notes)
diff_from_notes notes t u leads = diff_of_notes tag_total tag_same same_row same_row_yes same_row_no t u notes leads.at

-- more room changes nothing else
leads_again : (indices : List (Option ℕ)) (old new : Members) (staged : KeyedTables) (t : TaggedRows) → new.empty ≡ old.empty → IsUnchanged old.keyed.tables new.keyed.tables → LeadsTo indices old staged t → LeadsTo indices new staged t
leads_again indices old new staged t empty same over = record {
  empty = ap (λ e. e.rows) empty ∙ over.empty;
  at = λ k. ap (λ (es : List (Cells × TableParts)). staged_or (get row_eq staged.tables k) (lookup (row_eq k) es)) same ∙ over.at k ∙ ap (λ (e : TableParts). table_or_none e.schema (group_of indices k t)) (sym empty);
}

index_again : (indices : List (Option ℕ)) (old new : Members) (t : TaggedRows) → new.empty ≡ old.empty → IsUnchanged old.keyed.tables new.keyed.tables → IsIndexOf indices old t → IsIndexOf indices new t
index_again indices old new t empty same over = record {
  empty = ap (λ e. e.rows) empty ∙ over.empty;
  at = λ k. ap (λ (es : List (Cells × TableParts)). lookup (row_eq k) es) same ∙ over.at k ∙ ap (λ (e : TableParts). table_or_none e.schema (group_of indices k t)) (sym empty);
}

staged_again : (indices : List (Option ℕ)) (members : Members) (old new : KeyedTables) (t : TaggedRows) → IsUnchanged old.tables new.tables → LeadsTo indices members old t → LeadsTo indices members new t
staged_again indices members old new t same over = record {
  empty = over.empty;
  at = λ k. ap (λ (es : List (Cells × TableParts)). staged_or (lookup (row_eq k) es) (get row_eq members.keyed.tables k)) same ∙ over.at k;
}

-- the same tables lead to the same rows
pub staged_both_again : (join : LiveJoin) (old new : StagedJoin) → IsStagedAsBefore old new → (l r : TaggedRows) → LeadsToBoth join old l r → LeadsToBoth join new l r
staged_both_again join old new same l r h = record {
  scans = h.scans;
  left = staged_again join.rule.indices.left join.left old.left new.left l same.left h.left;
  right = staged_again join.rule.indices.right join.right old.right new.right r same.right h.right;
}

module _ (old new : LiveJoin) (same : IsAsBefore old new) where
  pub over_again : (l r : TaggedRows) → IsOver old l r → IsOver new l r
  over_again l r h = record {
    scans = subst (λ n. AreScans n new.right_scans) (sym same.left_scans) (subst (AreScans old.left_scans) (sym same.right_scans) h.scans);
    left = subst (λ rule. IsIndexOf rule.indices.left new.left l) (sym same.rule) (index_again old.rule.indices.left old.left new.left l same.left_empty same.left h.left);
    right = subst (λ rule. IsIndexOf rule.indices.right new.right r) (sym same.rule) (index_again old.rule.indices.right old.right new.right r same.right_empty same.right h.right);
  }

  pub leads_both_again : (staged : StagedJoin) (l r : TaggedRows) → LeadsToBoth old staged l r → LeadsToBoth new staged l r
  leads_both_again staged l r h = record {
    scans = subst (λ n. AreScans n new.right_scans) (sym same.left_scans) (subst (AreScans old.left_scans) (sym same.right_scans) h.scans);
    left = subst (λ rule. LeadsTo rule.indices.left new.left staged.left l) (sym same.rule) (leads_again old.rule.indices.left old.left new.left staged.left l same.left_empty same.left h.left);
    right = subst (λ rule. LeadsTo rule.indices.right new.right staged.right r) (sym same.rule) (leads_again old.rule.indices.right old.right new.right staged.right r same.right_empty same.right h.right);
  }

-- what a join gives depends on its scans and its rule
pub output_again : (old new : LiveJoin) (l r : TaggedRows) → new.left_scans ≡ old.left_scans → new.rule ≡ old.rule → join_output new l r ≡ join_output old l r
output_again old new l r scans rule = λ i. joined_by_key (is_one (scans i)) (rule i) l r
