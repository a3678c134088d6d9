-- The tags that no change of a delta reaches.
use Rattle.std.proofs.Common.{◌≡◌, ℕ, ◌-◌, ◌≤◌, Bool, true, false, cond, not, List, [], ◌∷◌, ◌++◌, length, map, take, filter, Some, None, refl, sym, ap, ◌∙◌, arith}
use Rattle.std.specs.Prelude.{T, ◌&&◌, ◌||◌}
use Rattle.std.specs.List.{list_any}
use Rattle.std.specs.Ordering.{eq_by_cmp}
use Rattle.std.specs.FinMap as finite
use Rattle.std.specs.FinMap.Entries.{find-where_key, is_sorted-where_key}
use Rattle.df_value.specs.declared.cell.Cell.{Cell}
use Rattle.df_column.specs.Bounds.{is_below}
use Rattle.df_column.specs.Changes.{Change}
use Rattle.df_column.specs.TagOrder.{tag_same}
use Rattle.df_column.specs.Tables.{TaggedRows}
use Rattle.df_column.specs.Tags.{tag_cmp}
use Rattle.df_column.specs.declared.tag.Tag.{Tag}
use Rattle.df_delta.specs.Reached.{is_reached}
use Rattle.df_delta.proofs.Collected.{T-first, T-second}
use Rattle.df_nodes.specs.Prefixes.{rows_up_to}
use Rattle.df_nodes.specs.Rolling.{reached, reached_by, rows_before}
use Rattle.df_nodes.proofs.Filters.{fewer_of_filter, filter_length, filter_twice}
use Rattle.df_nodes.proofs.TagTests.{above_if_other, below_trans, find_before, from_true, not_from_false, other_if_below, up_to_below}
use Rattle.df_nodes.proofs.UpTo.{Rows, rows_behind}

abbrev Notes : Type 0
Notes = List (Tag × Change (List Cell))

either_false : (a b : Bool) → (a || b) ≡ false → (a ≡ false) × (b ≡ false)
either_false true b e = cc
either_false false b e = (refl, e)

any_parts : {X : Type 0} (p : X → Bool) (xs ys : List X) → list_any p (xs ++ ys) ≡ false → (list_any p xs ≡ false) × (list_any p ys ≡ false)
any_parts p [] ys e = (refl, e)
any_parts p (x ∷ xs) ys e =
    let first = either_false (p x) (list_any p (xs ++ ys)) e in
    let rest = any_parts p xs ys first.1 in
    (ap (λ b. b || list_any p xs) first.0 ∙ rest.0, rest.1)

-- a tag that is none of those of rows is not found there
unfound : (rows : Rows) (q : Tag) → is_reached (map (λ r. r.0) rows) q ≡ false → finite.find tag_cmp q rows ≡ None
unfound [] q e = refl
unfound (r ∷ rows) q e =
    let first = either_false (eq_by_cmp tag_cmp q r.0) (is_reached (map (λ r. r.0) rows) q) e in
    ap (λ b. cond b (Some r.1) (finite.find tag_cmp q rows)) first.0 ∙ unfound rows q first.1

-- what is known of a tag behind a change, up to the next one, that the change does not reach
pub record IsNear (w : ℕ) (t u : TaggedRows) (a q : Tag) (rows : Rows) : Type 0 where
  pub sorted : T (finite.is_sorted tag_cmp rows)
  pub from : T (not (is_below q a))
  pub out : is_reached (reached_by w a rows) q ≡ false
  pub found : (y : List Cell) → finite.get u q ≡ Some y → finite.find tag_cmp q rows ≡ Some y
  pub many : length (rows_up_to q (filter (λ x. is_below a x.0) rows)) ≤ length (rows_behind a q (finite.entries u))
  pub few : length rows ≤ length (finite.entries u)
  pub same : (x : Tag) → T (is_below a x) → T (not (is_below q x)) → finite.get t x ≡ finite.get u x

-- it is not the change's own tag, and not reached behind it
pub near_parts : {w : ℕ} {t u : TaggedRows} {a q : Tag} {rows : Rows} → IsNear w t u a q rows
    → T (is_below a q) × (finite.find tag_cmp q (take (w - 1) (filter (λ x. is_below a x.0) rows)) ≡ None)
near_parts {w} {t} {u} {a} {q} {rows} h =
    let parts = either_false (eq_by_cmp tag_cmp q a) (is_reached (map (λ x. x.0) (take (w - 1) (filter (λ x. is_below a x.0) rows))) q) h.out in
    (above_if_other a q h.from parts.0, unfound (take (w - 1) (filter (λ x. is_below a x.0) rows)) q parts.1)

-- a row at the tag is found among those behind the change
pub found_behind : {w : ℕ} {t u : TaggedRows} {a q : Tag} {rows : Rows} → IsNear w t u a q rows → (y : List Cell) → finite.get u q ≡ Some y → T (is_below a q)
    → finite.find tag_cmp q (filter (λ x. is_below a x.0) rows) ≡ Some y
found_behind {w} {t} {u} {a} {q} {rows} h y e lt =
    find-where_key tag_cmp (is_below a) q (λ x e. ap (is_below a) (sym (tag_same q x e))) rows
    ∙ ap (λ b. cond b (finite.find tag_cmp q rows) None) (is_true _ lt) ∙ h.found y e
  where
    is_true : (b : Bool) → T b → b ≡ true
    is_true true h = refl
    is_true false h = absurd h

-- what holds before all changes, and near each one, holds at each tag that no change reaches
module _ (w : ℕ) (t u : TaggedRows) (Same : Tag → Type 0)
    (before : (q : Tag) → ((x : Tag) → T (not (is_below q x)) → finite.get t x ≡ finite.get u x) → Same q)
    (near : (a q : Tag) (rows : Rows) → IsNear w t u a q rows → Same q) where
  -- from a change on
  from_change : (a : Tag) (c : Change (List Cell)) (notes : Notes) → T (finite.is_sorted tag_cmp ((a, c) ∷ notes))
      → ((x : Tag) → T (is_below a x) → finite.find tag_cmp x notes ≡ None → finite.get t x ≡ finite.get u x)
      → (q : Tag) → T (not (is_below q a)) → is_reached (reached w (finite.entries u) ((a, c) ∷ notes)) q ≡ false → Same q
  from_change a c [] sorted same q le out =
      let parts = any_parts (eq_by_cmp tag_cmp q) (reached_by w a (finite.entries u)) [] out in
      let twice = ap length (filter_twice (λ x. not (is_below q x.0)) (λ x. is_below a x.0) (finite.entries u)) in
      near a q (finite.entries u) (record {
        sorted = finite.entries_sorted u;
        from = le;
        out = parts.0;
        found = λ y e. sym (finite.get-entries u q) ∙ e;
        many = omega arith;
        few = omega arith;
        same = λ x lt le. same x lt refl;
      })
  from_change a c (n ∷ notes) sorted same q le out =
      by_case (from_change n.0 n.1 notes (T-second _ _ sorted) (λ x lt none. same x (below_trans a n.0 x next lt) (ap (λ b. cond b (Some n.1) (finite.find tag_cmp x notes)) (apart x lt) ∙ none)) q)
      (is_below q n.0) refl
    where
      next : T (is_below a n.0)
      next = T-first (is_below a n.0) _ (T-first _ _ sorted)

      apart : (x : Tag) → T (is_below n.0 x) → eq_by_cmp tag_cmp x n.0 ≡ false
      apart x lt = other_if_below n.0 x lt

      parts : (is_reached (reached_by w a (rows_before (n ∷ notes) (finite.entries u))) q ≡ false) × (is_reached (reached w (finite.entries u) (n ∷ notes)) q ≡ false)
      parts = any_parts (eq_by_cmp tag_cmp q) (reached_by w a (rows_before (n ∷ notes) (finite.entries u))) (reached w (finite.entries u) (n ∷ notes)) out

      by_case : (T (not (is_below q n.0)) → is_reached (reached w (finite.entries u) (n ∷ notes)) q ≡ false → Same q) → (b : Bool) → is_below q n.0 ≡ b → Same q
      by_case rest true e =
          let lower = filter (λ x. is_below x.0 n.0) (finite.entries u) in
          let twice = ap length (filter_twice (λ x. not (is_below q x.0)) (λ x. is_below a x.0) lower) in
          let fewer = fewer_of_filter (λ x. is_below a x.0 && not (is_below q x.0)) (λ x. is_below x.0 n.0) (finite.entries u) in
          let less = filter_length (λ x. is_below x.0 n.0) (finite.entries u) in
          near a q lower (record {
            sorted = is_sorted-where_key tag_cmp (λ x. is_below x n.0) (finite.entries u) (finite.entries_sorted u);
            from = le;
            out = parts.0;
            found = λ y f. find-where_key tag_cmp (λ x. is_below x n.0) q (λ x g. ap (λ k. is_below k n.0) (sym (tag_same q x g))) (finite.entries u)
                ∙ ap (λ b. cond b (finite.find tag_cmp q (finite.entries u)) None) e ∙ sym (finite.get-entries u q) ∙ f;
            many = omega arith;
            few = omega arith;
            same = λ x lt low. same x lt (find_before x n notes (T-second _ _ sorted) (up_to_below x q n.0 low (from_true _ e)));
          })
      by_case rest false e = rest (not_from_false _ e) parts.1

  -- at each tag that no change reaches
  pub same_unreached : (notes : Notes) → T (finite.is_sorted tag_cmp notes) → ((x : Tag) → finite.find tag_cmp x notes ≡ None → finite.get t x ≡ finite.get u x)
      → (q : Tag) → is_reached (reached w (finite.entries u) notes) q ≡ false → Same q
  same_unreached [] sorted same q out = before q (λ x le. same x refl)
  same_unreached (n ∷ notes) sorted same q out = by_case (is_below q n.0) refl
    where
      by_case : (b : Bool) → is_below q n.0 ≡ b → Same q
      by_case true e = before q (λ x le. same x (find_before x n notes sorted (up_to_below x q n.0 le (from_true _ e))))
      by_case false e =
          from_change n.0 n.1 notes sorted (λ x lt none. same x (ap (λ b. cond b (Some n.1) (finite.find tag_cmp x notes)) (other_if_below n.0 x lt) ∙ none)) q (not_from_false _ e) out
