-- A rolling column is the same before and after a delta at each tag that no change reaches.
use Rattle.std.proofs.Common.{◌≡◌, ◌-◌, not, List, filter, Option, Some, None, false, refl, ap, ◌∙◌, arith}
use Rattle.std.specs.Prelude.{T, ◌&&◌}
use Rattle.std.specs.FinMap as finite
use Rattle.std.specs.FinMap.Entries.{is_sorted-where_key}
use Rattle.df_value.specs.declared.cell.Cell.{Cell}
use Rattle.df_ops.specs.Windows.{rolling_cell}
use Rattle.df_column.specs.Bounds.{is_below}
use Rattle.df_column.specs.Changes.{Change}
use Rattle.df_column.specs.Tables.{TaggedRows}
use Rattle.df_column.specs.Tags.{tag_cmp}
use Rattle.df_column.specs.declared.tag.Tag.{Tag}
use Rattle.df_delta.specs.Reached.{is_reached}
use Rattle.df_delta.proofs.Collected.{T-first, T-second}
use Rattle.df_nodes.specs.Rolling.{put_at, reached, rolling_output, rolling_value}
use Rattle.df_nodes.specs.declared.rolling.Rolling.{Rolling}
use Rattle.df_nodes.proofs.PrefixValues.{none_at, same_before, value_at}
use Rattle.df_nodes.proofs.TagTests.{not_below_itself}
use Rattle.df_nodes.proofs.Unreached.{IsNear, found_behind, near_parts, same_unreached}
use Rattle.df_nodes.proofs.UpTo.{Rows, found_far, same_where, same_window}

module _ (r : Rolling) (t u : TaggedRows) where
  abbrev Same : Tag → Type 0
  Same q = finite.get (rolling_output r t) q ≡ finite.get (rolling_output r u) q

  -- a tag behind a change has w rows behind the change
  near : (a q : Tag) (rows : Rows) → IsNear r.w t u a q rows → Same q
  near a q rows h = by_row (finite.get u q) refl
    where
      lt : T (is_below a q)
      lt = (near_parts h).0

      same_q : finite.get t q ≡ finite.get u q
      same_q = h.same q lt (not_below_itself q)

      by_row : (o : Option (List Cell)) → finite.get u q ≡ o → Same q
      by_row None e = none_at (put_at r.places) (rolling_value r) r.index t u q (same_q ∙ e) e
      by_row (Some y) e =
          let later = filter (λ x. is_below a x.0) rows in
          let far = found_far later (r.w - 1) q y (is_sorted-where_key tag_cmp (is_below a) rows h.sorted) (found_behind h y e lt) (near_parts h).1 in
          let many = h.many in
          value_at (put_at r.places) (rolling_value r) r.index t u q same_q
          (ap (rolling_cell r.kind r.m)
          (same_window r.w r.index a q t u lt
          (same_where t u (λ x. is_below a x && not (is_below q x)) (λ x k. h.same x (T-first (is_below a x) _ k) (T-second (is_below a x) _ k))) (omega arith)))

  pub same_windows : (notes : List (Tag × Change (List Cell))) → T (finite.is_sorted tag_cmp notes) → ((x : Tag) → finite.find tag_cmp x notes ≡ None → finite.get t x ≡ finite.get u x)
      → (q : Tag) → is_reached (reached r.w (finite.entries u) notes) q ≡ false → finite.get (rolling_output r t) q ≡ finite.get (rolling_output r u) q
  same_windows = same_unreached r.w t u Same (same_before (put_at r.places) (rolling_value r) r.index t u) near
