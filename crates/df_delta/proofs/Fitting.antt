-- The new rows of a delta fit where the rows that it leads to do.
use Rattle.std.proofs.Common.{◌≡◌, ◌↔◌, ℕ, Bool, true, false, cond, List, [], ◌∷◌, map, Option, Some, None, Result, Ok, Err, IfOk, IsTrue, refl, sym, ap, subst, ◌∙◌}
use Rattle.std.specs.Prelude.{T, not}
use Rattle.std.specs.List.{list_all}
use Rattle.std.proofs.lemmas.Bool.{false≢true}
use Rattle.std.specs.Option.{IfSome}
use Rattle.std.specs.Ordering.{eq_by_cmp, is_eq}
use Rattle.std.specs.Cmp.{tied_itself}
use Rattle.std.specs.FinMap as finite
use Rattle.std.specs.FinMap.Entries.{below_all}
use Rattle.df_value.specs.Rows.{row_fits}
use Rattle.df_value.specs.declared.cell.Cell.{Cell}
use Rattle.df_value.specs.declared.cell.CellType.{CellType}
use Rattle.df_column.specs.Changes.{Change, applied}
use Rattle.df_column.specs.TagOrder.{tag_total, tag_same}
use Rattle.df_column.specs.Tables.{NewRowsFit, TableParts, TaggedRows, after_entries, entry_change, new_row_fits, new_rows_fit}
use Rattle.df_column.specs.Tags.{tag_cmp}
use Rattle.df_column.specs.declared.entry.Entry.{Entry}
use Rattle.df_column.specs.declared.tag.Tag.{Tag}
use Rattle.df_delta.specs.Deltas.{Changes, RowsFit}
use Rattle.df_delta.proofs.Changes.{after_change, get-applied}
use Rattle.df_delta.proofs.Collected.{T-first, T-second, T-both, find_below_all, equal_from_is_eq}

-- what holds of each look-up holds of each entry
module _ {X : Type 0} (p : X → Bool) where
  pub all_entries : (es : List (Tag × X)) → T (finite.is_sorted tag_cmp es) → ((q : Tag) → IfSome (finite.find tag_cmp q es) (λ x. T (p x))) → T (list_all (λ e. p e.1) es)
  all_entries [] h found = tt
  all_entries (e ∷ es) h found =
      let here : T (p e.1) = subst (λ b. IfSome (cond b (Some e.1) (finite.find tag_cmp e.0 es)) (λ x. T (p x))) (ap is_eq (tied_itself tag_total e.0)) (found e.0) in
      T-both _ _ here (all_entries es (T-second _ _ h) (λ q. later q (eq_by_cmp tag_cmp q e.0) refl (found q)))
    where
      later : (q : Tag) (b : Bool) → eq_by_cmp tag_cmp q e.0 ≡ b → IfSome (cond b (Some e.1) (finite.find tag_cmp q es)) (λ x. T (p x)) → IfSome (finite.find tag_cmp q es) (λ x. T (p x))
      later q true t k =
          let key : q ≡ e.0 = tag_same q e.0 (equal_from_is_eq _ (subst T (sym t) tt)) in
          subst (λ o. IfSome o (λ x. T (p x))) (sym (find_below_all tag_cmp q es (subst (λ k. T (below_all tag_cmp k es)) (sym key) (T-first _ _ h)))) tt
      later q false t k = k

new_row_from : (schema : List (List ℕ × CellType)) (row : Option (List Cell)) → IfSome row (λ r. IsTrue (row_fits schema r)) → T (new_row_fits schema row)
new_row_from schema None h = tt
new_row_from schema (Some r) h = subst T (sym h) tt

change_fits : (schema : List (List ℕ × CellType)) (c : Option (Change (List Cell))) (a : Option (List Cell)) → IfSome (after_change c a) (λ r. IsTrue (row_fits schema r)) → IfSome c (λ c. T (new_row_fits schema c.new))
change_fits schema None a h = tt
change_fits schema (Some c) a h = new_row_from schema c.new h

-- the new rows of the entries fit
pub new_rows_of : (schema : List (List ℕ × CellType)) (rows : TaggedRows) (d : Changes) (entries : List Entry) → map entry_change entries ≡ finite.entries d → RowsFit schema (applied rows d) → NewRowsFit schema entries
new_rows_of schema rows d entries e fit =
    over_map entries
    (subst (λ es. T (list_all (λ c. new_row_fits schema c.1.new) es)) (sym e)
    (all_entries (λ c. new_row_fits schema c.new) (finite.entries d) (finite.entries_sorted d) (λ q.
    subst (λ o. IfSome o (λ c. T (new_row_fits schema c.new))) (finite.get-entries d q)
    (change_fits schema (finite.get d q) (finite.get rows q)
    (subst (λ o. IfSome o (λ r. IsTrue (row_fits schema r))) (get-applied tag_total tag_same rows d q) (fit.at q))))))
  where
    over_map : (es : List Entry) → T (list_all (λ c. new_row_fits schema c.1.new) (map entry_change es)) → T (list_all (λ x. new_row_fits schema x.new) es)
    over_map [] h = tt
    over_map (x ∷ es) h = T-both _ _ (T-first (new_row_fits schema x.new) _ h) (over_map es (T-second (new_row_fits schema x.new) _ h))

-- the entries of a delta as a map are the delta
pub changes_of : (d : Changes) (entries : List Entry) → map entry_change entries ≡ finite.entries d → finite.from_sorted (map entry_change entries) ≡ d
changes_of d entries e =
    finite.same_entries_map _ _ (finite.entries-from_sorted tag_cmp (map entry_change entries) (subst (λ es. T (finite.is_sorted tag_cmp es)) (sym e) (finite.entries_sorted d)) ∙ e)

-- a table that was made has rows equal to these
pub applied_where : {E : Type 0} (made : Result TableParts E) (t : TableParts) (rows : TaggedRows) → t.rows ≡ rows → IfOk made (λ m. m ≡ t) → IfOk made (λ m. m.rows ≡ rows)
applied_where (Ok m) t rows e is = ap (λ m. m.rows) is ∙ e
applied_where (Err f) t rows e is = tt

-- where changes of a table without rows leave it some, these are the rows that they make
pub made_rows :
    (none made : TableParts) (entries : List Entry) (d : Changes) (is_empty : Bool) → none.rows ≡ finite.empty → finite.from_sorted (map entry_change entries) ≡ d →
    (NewRowsFit none.schema entries → made ≡ after_entries none entries) → (not (new_rows_fit none.schema entries) ≡ true → made ≡ none) →
    IsTrue is_empty ↔ (finite.len made.rows ≡ 0) → is_empty ≡ false → made.rows ≡ applied finite.empty d
made_rows none made entries d is_empty without is fitting unlike test some = by_fit (new_rows_fit none.schema entries) refl where
  by_fit : (b : Bool) → new_rows_fit none.schema entries ≡ b → made.rows ≡ applied finite.empty d
  by_fit true e =
      ap (λ (t : TableParts). t.rows) (fitting (subst T (sym e) tt))
      ∙ (ap (λ t. applied t (finite.from_sorted (map entry_change entries))) without ∙ ap (applied finite.empty) is)
  by_fit false e =
      let same = ap (λ (t : TableParts). t.rows) (unlike (ap not e)) ∙ without in
      absurd (false≢true (sym some ∙ test.1 (ap finite.len same ∙ finite.len-empty tag_cmp (List Cell))))
