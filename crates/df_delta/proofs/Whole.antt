-- The rows of a table as changes of nothing.
use Rattle.std.proofs.Common.{◌≡◌, List, [], ◌∷◌, map, Option, Some, None, refl, sym, ap, subst, ◌∙◌}
use Rattle.std.specs.Prelude.{T, ◌||◌, is_some}
use Rattle.std.specs.List.{list_all}
use Rattle.std.specs.Option.{option_and_then}
use Rattle.std.specs.FinMap as finite
use Rattle.df_value.specs.declared.cell.Cell.{Cell}
use Rattle.df_column.specs.Changes.{Change}
use Rattle.df_column.specs.TagOrder.{tag_total, tag_same}
use Rattle.df_column.specs.Tables.{TaggedRows, entry_change}
use Rattle.df_column.specs.Tags.{tag_cmp}
use Rattle.df_column.specs.declared.entry.Entry.{Entry}
use Rattle.df_column.specs.declared.tag.Tag.{Tag}
use Rattle.df_delta.specs.Collected.{collected, collected_list}
use Rattle.df_delta.specs.Deltas.{IsDelta, coming, has_row}
use Rattle.df_delta.specs.Differences.{IsDiff}
use Rattle.df_delta.proofs.Changes.{IsChange, diff_from_changes}
use Rattle.df_delta.proofs.Collected.{T-both, get-collected, is_sorted-collected}

abbrev comes : List Cell → Option (Change (List Cell))
comes row = Some (record { old = None; new = Some row })

change_of_row : (x : Option (List Cell)) → IsChange (option_and_then comes x) None x
change_of_row None = refl
change_of_row (Some x) = (refl, refl, λ e. cc e)

collected_diff : (t : TaggedRows) → IsDiff finite.empty t (collected (λ _. comes) t)
collected_diff t = diff_from_changes tag_total tag_same finite.empty t _ (λ q.
    subst (λ c. IsChange c (finite.get (finite.empty {R = tag_cmp}) q) (finite.get t q)) (sym (get-collected tag_cmp (λ _. comes) tag_same t q))
    (subst (λ a. IsChange (option_and_then comes (finite.get t q)) a (finite.get t q)) (sym (finite.get-empty tag_cmp q)) (change_of_row (finite.get t q))))

all_come : (rows : List (Tag × List Cell)) → map coming rows ≡ collected_list (λ _. comes) rows
all_come [] = refl
all_come (r ∷ rows) = ap (λ later. coming r ∷ later) (all_come rows)

abbrev first_or : List (Tag × Change (List Cell)) → Tag × Change (List Cell)
first_or [] = (record { first = 0; second = 0; third = 0 }, record { old = None; new = None })
first_or (c ∷ cs) = c

abbrev rest_of : List (Tag × Change (List Cell)) → List (Tag × Change (List Cell))
rest_of [] = []
rest_of (c ∷ cs) = cs

comes_row : (old new : Option (List Cell)) {row : List Cell} → new ≡ Some row → T (is_some old || is_some new)
comes_row None new e = subst (λ n. T (is_some n)) (sym e) tt
comes_row (Some a) new e = tt

module _ (t : TaggedRows) (entries : List Entry) (e : map entry_change entries ≡ map coming (finite.entries t)) where
  whole : map entry_change entries ≡ collected_list (λ _. comes) (finite.entries t)
  whole = e ∙ all_come (finite.entries t)

  -- the changes are the diff from no rows
  pub whole_diff : IsDiff finite.empty t (finite.from_sorted (map entry_change entries))
  whole_diff = subst (IsDiff finite.empty t) (sym (ap finite.from_sorted whole)) (collected_diff t)

  have_rows : (rows : List (Tag × List Cell)) (es : List Entry) → map entry_change es ≡ map coming rows → T (list_all has_row es)
  have_rows [] [] same = tt
  have_rows [] (x ∷ es) same = cc same
  have_rows (r ∷ rows) [] same = cc same
  have_rows (r ∷ rows) (x ∷ es) same = T-both _ _ (comes_row x.old x.new (ap (λ l. (first_or l).1.new) same)) (have_rows rows es (ap rest_of same))

  -- and its entries are those of a delta
  pub whole_delta : IsDelta entries
  whole_delta = record {
    rising = subst (λ es. T (finite.is_sorted tag_cmp es)) (sym whole) (is_sorted-collected tag_cmp (λ _. comes) (finite.entries t) (finite.entries_sorted t));
    rows = have_rows (finite.entries t) entries e;
  }
