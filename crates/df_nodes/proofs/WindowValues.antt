-- What a rolling column gives at the rows of its input, and the changes of its output.
use Rattle.std.proofs.Common.{◌≡◌, ℕ, ◌+◌, ◌<◌, ◌≤◌, List, [], ◌∷◌, ◌++◌, length, map, take, drop, get_or, Option, Some, None, IfNone, IfSome, refl, sym, ap, ◌∙◌, arith, append_assoc, length-take}
use Rattle.std.specs.List.{cons_option}
use Rattle.std.specs.Option.{option_map}
use Rattle.std.specs.Cmp.{tied_itself}
use Rattle.std.specs.FinMap as finite
use Rattle.std.proofs.lemmas.List.{drop-append-le, map_push, take_more}
use Rattle.df_value.specs.declared.cell.Cell.{Cell}
use Rattle.df_column.specs.Changes.{Change}
use Rattle.df_column.specs.Places.{IsPlace}
use Rattle.df_column.specs.TagOrder.{tag_total}
use Rattle.df_column.specs.Tables.{TaggedRows}
use Rattle.df_column.specs.Tags.{tag_cmp}
use Rattle.df_column.specs.declared.tag.Tag.{Tag}
use Rattle.df_delta.specs.Reached.{changes_at}
use Rattle.df_delta.specs.ChangeOf.{change_of}
use Rattle.df_delta.specs.SameRows.{same_row, with_change}
use Rattle.df_nodes.specs.Rolling.{put_at, rolling_output, rolling_value}
use Rattle.df_nodes.specs.Sliding.{output_row}
use Rattle.df_nodes.specs.declared.rolling.Rolling.{Rolling}
use Rattle.df_nodes.proofs.PrefixValues.{at_place, no_row}

module _ (r : Rolling) (u : TaggedRows) (q : Tag) where
  -- the row at the index of a tag
  pub run_row : (at : ℕ) → at < length (finite.entries u) → ((d : Tag × List Cell) → q ≡ (get_or (finite.entries u) at d).0)
      → output_row r (finite.values u) (Some at) ≡ finite.get (rolling_output r u) q
  run_row at lt is =
      sym (at_place (put_at r.places) (rolling_value r) r.index u at q (record { in_range = lt; here = λ d. ap (λ k. tag_cmp k q) (sym (is d)) ∙ tied_itself tag_total q }))

  pub place_inside : (o : Option ℕ) → IfSome o (IsPlace tag_cmp (finite.entries u) q) → IfSome o (λ i. i < finite.len u)
  place_inside None p = tt
  place_inside (Some i) p =
      let len = finite.len-entries u in
      let lt = p.in_range in
      omega arith

  -- the row at a tag, if it is there
  pub found_row : (o : Option ℕ) → IfSome o (IsPlace tag_cmp (finite.entries u) q) → IfNone o (finite.get u q ≡ None)
      → output_row r (finite.values u) o ≡ finite.get (rolling_output r u) q
  found_row None p none = sym (no_row (put_at r.places) (rolling_value r) r.index u q none)
  found_row (Some i) p none = sym (at_place (put_at r.places) (rolling_value r) r.index u i q p)

-- the changes at some tags, one by one
module _ (t u : TaggedRows) where
  pub changes_append : (qs ps : List Tag) → changes_at t u (qs ++ ps) ≡ changes_at t u qs ++ changes_at t u ps
  changes_append [] ps = refl
  changes_append (q ∷ qs) ps =
      let c = option_map (λ c. (q, c)) (change_of same_row (finite.get t q) (finite.get u q)) in
      ap (cons_option c) (changes_append qs ps) ∙ joined c (changes_at t u qs) (changes_at t u ps)
    where
      joined : (c : Option (Tag × Change (List Cell))) (xs ys : List (Tag × Change (List Cell))) → cons_option c (xs ++ ys) ≡ cons_option c xs ++ ys
      joined None xs ys = refl
      joined (Some c) xs ys = refl

  pub one_more : (made old before : List (Tag × Change (List Cell))) (qs rs : List Tag) (q : Tag) (new : Option (List Cell)) → made ≡ with_change old q (finite.get t q) new → new ≡ finite.get u q
      → old ≡ before ++ changes_at t u qs → rs ≡ qs ++ q ∷ [] → made ≡ before ++ changes_at t u rs
  one_more made old before qs rs q new is same so_far more =
      is ∙ ap (with_change old q (finite.get t q)) same
      ∙ ap (λ l. l ++ changes_at t u (q ∷ [])) so_far
      ∙ append_assoc before (changes_at t u qs) (changes_at t u (q ∷ []))
      ∙ ap (λ l. before ++ l) (sym (changes_append qs (q ∷ [])) ∙ ap (changes_at t u) (sym more))

-- the tag of the next row of a run
pub next_tag : (rows : List (Tag × List Cell)) (from at : ℕ) (q : Tag) → from ≤ at → at < length rows → ((d : Tag × List Cell) → q ≡ (get_or rows at d).0)
    → map (λ x. x.0) (drop from (take (at + 1) rows)) ≡ map (λ x. x.0) (drop from (take at rows)) ++ q ∷ []
next_tag rows from at q le lt is =
    let d : Tag × List Cell = (q, []) in
    let long = length-take at rows in
    ap (λ l. map (λ x. x.0) (drop from l)) (take_more rows at d lt)
    ∙ ap (map (λ x. x.0)) (drop-append-le from (take at rows) (get_or rows at d ∷ []) (omega arith))
    ∙ map_push (λ x. x.0) (drop from (take at rows)) (get_or rows at d)
    ∙ ap (λ k. map (λ x. x.0) (drop from (take at rows)) ++ k ∷ []) (sym (is d))
