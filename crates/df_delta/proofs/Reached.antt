-- The changes at the tags that an operator reaches are its delta, where its output differs at no other tag.
use Rattle.std.proofs.Common.{◌≡◌, Bool, true, false, cond, List, [], ◌∷◌, map, Option, Some, None, refl, sym, ap, subst, ◌∙◌}
use Rattle.std.specs.Prelude.{T, ◌||◌}
use Rattle.std.specs.List.{cons_option}
use Rattle.std.specs.Option.{option_and_then, option_map}
use Rattle.std.specs.Ordering.{eq_by_cmp}
use Rattle.std.specs.FinMap as finite
use Rattle.df_value.specs.declared.cell.Cell.{Cell}
use Rattle.df_column.specs.Changes.{Change}
use Rattle.df_column.specs.TagOrder.{tag_total, tag_same}
use Rattle.df_column.specs.Tables.{TaggedRows}
use Rattle.df_column.specs.Tags.{tag_cmp}
use Rattle.df_column.specs.declared.tag.Tag.{Tag}
use Rattle.df_delta.specs.ChangeOf.{change_of}
use Rattle.df_delta.specs.Collected.{collected_list}
use Rattle.df_delta.specs.Differences.{IsDiff}
use Rattle.df_delta.specs.Reached.{are_rising, changes_at, is_reached}
use Rattle.df_delta.specs.SameRows.{same_row}
use Rattle.df_delta.proofs.ChangeOf.{change_of_leads}
use Rattle.df_delta.proofs.Changes.{IsChange, diff_from_changes}
use Rattle.df_delta.proofs.Collected.{find-collected, is_sorted-collected}
use Rattle.df_delta.proofs.SameRows.{same_row_yes, same_row_no}

module _ (t u : TaggedRows) where
  abbrev change : Tag → Bool → Option (Change (List Cell))
  change q b = change_of same_row (finite.get t q) (finite.get u q)

  collected_at : (qs : List Tag) → changes_at t u qs ≡ collected_list change (map (λ q. (q, true)) qs)
  collected_at [] = refl
  collected_at (q ∷ qs) = ap (cons_option (option_map (λ c. (q, c)) (change q true))) (collected_at qs)

  pub sorted_changes : (qs : List Tag) → T (are_rising qs) → T (finite.is_sorted tag_cmp (changes_at t u qs))
  sorted_changes qs rising = subst (λ es. T (finite.is_sorted tag_cmp es)) (sym (collected_at qs)) (is_sorted-collected tag_cmp change (map (λ q. (q, true)) qs) rising)

  -- a tag that is reached is found among them
  found : (qs : List Tag) (q : Tag) → finite.find tag_cmp q (map (λ q. (q, true)) qs) ≡ cond (is_reached qs q) (Some true) None
  found [] q = refl
  found (r ∷ qs) q =
      elim (eq_by_cmp tag_cmp q r) as (λ b. cond b (Some true) (finite.find tag_cmp q (map (λ q. (q, true)) qs)) ≡ cond (b || is_reached qs q) (Some true) None) [
        | true ↦ refl
        | false ↦ found qs q
      ]

  pub reached_diff : (qs : List Tag) → T (are_rising qs) → ((q : Tag) → is_reached qs q ≡ false → finite.get t q ≡ finite.get u q)
      → IsDiff t u (finite.from_sorted (changes_at t u qs))
  reached_diff qs rising same = diff_from_changes tag_total tag_same t u _ (λ q.
      subst (λ c. IsChange c (finite.get t q) (finite.get u q))
      (sym (finite.get-from_sorted tag_cmp (changes_at t u qs) q (sorted_changes qs rising)
      ∙ ap (finite.find tag_cmp q) (collected_at qs)
      ∙ find-collected tag_cmp change tag_same q (map (λ q. (q, true)) qs) rising
      ∙ ap (option_and_then (change q)) (found qs q)))
      (at q (is_reached qs q) refl))
    where
      at : (q : Tag) (b : Bool) → is_reached qs q ≡ b → IsChange (option_and_then (change q) (cond b (Some true) None)) (finite.get t q) (finite.get u q)
      at q true e = change_of_leads same_row same_row_yes same_row_no (finite.get t q) (finite.get u q)
      at q false e = same q e
