-- Which tags of a join a changed row of one side reaches.
use Rattle.std.proofs.Common.{◌≡◌, Bool, true, false, cond, Option, Some, None, refl, sym, ap, subst, ◌∙◌}
use Rattle.std.specs.Prelude.{◌||◌}
use Rattle.std.specs.Option.{option_and_then, option_map}
use Rattle.std.specs.Ordering.{eq_by_cmp}
use Rattle.std.specs.FinMap.{FinMap, get, same_map}
use Rattle.df_column.specs.declared.tag.Tag.{Tag}
use Rattle.df_column.specs.Changes.{Change}
use Rattle.df_column.specs.Tags.{tag_cmp}
use Rattle.df_column.specs.Changes.{set_at}
use Rattle.df_delta.specs.Notes.{IsNote}
use Rattle.df_join.specs.Steps.{both_sides}
use Rattle.df_column.specs.TagOrder.{tag_total, tag_same}
use Rattle.df_delta.proofs.Changes.{get-set_at}
use Rattle.df_join.specs.Spread.{IsLeftTag, IsRightTag, no_tag, tag_left, tag_right, HasKeys}
use Rattle.df_join.specs.Joined.{matches, Join, right_rows, left_rows, beside, joined}
use Rattle.df_join.specs.Steps.{beside_at, left_notes, right_notes, HasRightKey}
use Rattle.df_join.proofs.Spread.{tied}
use Rattle.df_join.proofs.Joined.{get-kept, beside_pair, get-joined}

pub both_sides_lead : {Y : Type 0} (a b : Option Y) → IsNote (both_sides a b) a b
both_sides_lead None None = refl
both_sides_lead None (Some b) = (refl, refl)
both_sides_lead (Some a) b = (refl, refl)

or_none : {Z : Type 0} (b : Bool) (x y : Option Z) (c : Option (Change Z)) → (b ≡ true → IsNote c x y) → (b ≡ false → x ≡ y) → IsNote (cond b c None) x y
or_none true x y c h k = h refl
or_none false x y c h k = k refl

or_false : (a b : Bool) → (a || b) ≡ false → (a ≡ false) × (b ≡ false)
or_false true b e = cc e
or_false false b e = (refl, e)

module _ {X Y Z G : Type 0} (j : Join X Y Z G) (one : Bool) where
  -- the left side changes at one tag
  pub left_step : (l : FinMap tag_cmp X) (r : FinMap tag_cmp Y) (p : Tag) (new : Option X) → HasKeys (IsLeftTag one) l → HasKeys (IsLeftTag one) (set_at l p new) → HasKeys (IsRightTag one) r
      → (q : Tag) → IsNote (left_notes j one r p (get l p) new q) (get (joined j one l r) q) (get (joined j one (set_at l p new) r) q)
  left_step l r p new left after right q =
      let v = tag_right one q in
      let was : get (joined j one l r) q ≡ beside_at j one r (get l (tag_left one q)) v = get-joined j one l r left right q in
      let is : get (joined j one (set_at l p new) r) q ≡ beside_at j one r (cond (eq_by_cmp tag_cmp (tag_left one q) p) new (get l (tag_left one q))) v =
      get-joined j one (set_at l p new) r after right q ∙ ap (λ x. beside_at j one r x v) (get-set_at tag_total l p new (tag_left one q)) in
      subst (λ z. IsNote (left_notes j one r p (get l p) new q) z (get (joined j one (set_at l p new) r) q)) (sym was)
      (subst (λ z. IsNote (left_notes j one r p (get l p) new q) (beside_at j one r (get l (tag_left one q)) v) z) (sym is)
      (elim (eq_by_cmp tag_cmp (tag_left one q) p) as (λ b. eq_by_cmp tag_cmp (tag_left one q) p ≡ b → IsNote (cond b (both_sides (beside_at j one r (get l p) v) (beside_at j one r new v)) None) (beside_at j one r (get l (tag_left one q)) v) (beside_at j one r (cond b new (get l (tag_left one q))) v)) [
        | true ↦ λ b. subst (λ k. IsNote (both_sides (beside_at j one r (get l p) v) (beside_at j one r new v)) (beside_at j one r (get l k) v) (beside_at j one r new v)) (sym (tied (tag_left one q) p b)) (both_sides_lead _ _)
        | false ↦ λ b. refl
      ] refl))

  -- a right row that has another key is not among a key's rows
  not_among : (k h : Option G) (y : Option Y) → matches j.same_key k h ≡ false → HasRightKey j one h y → option_and_then (λ y. cond (matches j.same_key k (j.right_key y)) (Some y) None) y ≡ None
  not_among k h None n has = refl
  not_among k h (Some y) n has = ap (λ b. cond b (Some y) None) (ap (matches j.same_key k) has ∙ n)

  -- the rows of another key stay
  pub other_rows : (r : FinMap tag_cmp Y) (s : Tag) (new : Option Y) (k h : Option G) → matches j.same_key k h ≡ false → HasRightKey j one h (get r s) → HasRightKey j one h new → right_rows j k (set_at r s new) ≡ right_rows j k r
  other_rows r s new k h n old_key new_key = same_map tag_total tag_same _ _ (λ u.
      get-kept (λ y. matches j.same_key k (j.right_key y)) (set_at r s new) u
      ∙ ap (option_and_then (λ y. cond (matches j.same_key k (j.right_key y)) (Some y) None)) (get-set_at tag_total r s new u)
      ∙ elim (eq_by_cmp tag_cmp u s) as (λ b. eq_by_cmp tag_cmp u s ≡ b → option_and_then (λ y. cond (matches j.same_key k (j.right_key y)) (Some y) None) (cond b new (get r u)) ≡ option_and_then (λ y. cond (matches j.same_key k (j.right_key y)) (Some y) None) (get r u)) [
        | true ↦ λ b. not_among k h new n new_key ∙ sym (ap (λ u. option_and_then (λ y. cond (matches j.same_key k (j.right_key y)) (Some y) None) (get r u)) (tied u s b) ∙ not_among k h (get r s) n old_key)
        | false ↦ λ b. refl
      ] refl
      ∙ sym (get-kept (λ y. matches j.same_key k (j.right_key y)) r u))

  -- and a key's rows at other tags
  same_elsewhere : (r : FinMap tag_cmp Y) (s : Tag) (new : Option Y) (k : Option G) (u : Tag) → eq_by_cmp tag_cmp u s ≡ false → get (right_rows j k r) u ≡ get (right_rows j k (set_at r s new)) u
  same_elsewhere r s new k u other =
      get-kept (λ y. matches j.same_key k (j.right_key y)) r u
      ∙ ap (option_and_then (λ y. cond (matches j.same_key k (j.right_key y)) (Some y) None)) (sym (get-set_at tag_total r s new u ∙ ap (λ b. cond b new (get r u)) other))
      ∙ sym (get-kept (λ y. matches j.same_key k (j.right_key y)) (set_at r s new) u)

  module _ (yes : (a b : G) → j.same_key a b ≡ true → a ≡ b) where
    same_matches : (k h : Option G) → matches j.same_key k h ≡ true → k ≡ h
    same_matches None h e = cc e
    same_matches (Some a) None e = cc e
    same_matches (Some a) (Some b) e = ap Some (yes a b e)

    module _ (r : FinMap tag_cmp Y) (s : Tag) (new : Option Y) (h : Option G) (old_key : HasRightKey j one h (get r s)) (new_key : HasRightKey j one h new) where
      abbrev notes_for : Tag → X → Option (Change Z)
      notes_for v x = cond (eq_by_cmp tag_cmp v s || eq_by_cmp tag_cmp v no_tag) (both_sides (get (beside j x (right_rows j h r)) v) (get (beside j x (right_rows j h (set_at r s new))) v)) None

      -- a left row of the key
      led_of_key : (x : X) (v : Tag) → IsNote (notes_for v x) (get (beside j x (right_rows j h r)) v) (get (beside j x (right_rows j h (set_at r s new))) v)
      led_of_key x v = or_none (eq_by_cmp tag_cmp v s || eq_by_cmp tag_cmp v no_tag) _ _ _
          (λ b. both_sides_lead _ _)
          (λ b.
          let other = or_false (eq_by_cmp tag_cmp v s) (eq_by_cmp tag_cmp v no_tag) b in
          beside_pair j x (right_rows j h r) v other.1
          ∙ ap (option_map (λ y. j.row x (Some y))) (same_elsewhere r s new h v other.0)
          ∙ sym (beside_pair j x (right_rows j h (set_at r s new)) v other.1))

      led_row : (v : Tag) (x : Option X) → IsNote (option_and_then (notes_for v) (option_and_then (λ x. cond (matches j.same_key (j.left_key x) h) (Some x) None) x)) (beside_at j one r x v) (beside_at j one (set_at r s new) x v)
      led_row v None = refl
      led_row v (Some x) = elim (matches j.same_key (j.left_key x) h) as (λ b. matches j.same_key (j.left_key x) h ≡ b → IsNote (option_and_then (notes_for v) (cond b (Some x) None)) (beside_at j one r (Some x) v) (beside_at j one (set_at r s new) (Some x) v)) [
        | true ↦ λ b. subst (λ k. IsNote (notes_for v x) (get (beside j x (right_rows j k r)) v) (get (beside j x (right_rows j k (set_at r s new))) v)) (sym (same_matches (j.left_key x) h b)) (led_of_key x v)
        | false ↦ λ b. ap (λ m. get (beside j x m) v) (sym (other_rows r s new (j.left_key x) h b old_key new_key))
      ] refl

      -- the right side changes at one tag, where the rows before and after have one key
      pub right_step : (l : FinMap tag_cmp X) → HasKeys (IsLeftTag one) l → HasKeys (IsRightTag one) r → HasKeys (IsRightTag one) (set_at r s new)
          → (q : Tag) → IsNote (right_notes j one (left_rows j h l) s (right_rows j h r) (right_rows j h (set_at r s new)) q) (get (joined j one l r) q) (get (joined j one l (set_at r s new)) q)
      right_step l left right after q =
          let v = tag_right one q in
          subst (λ z. IsNote (right_notes j one (left_rows j h l) s (right_rows j h r) (right_rows j h (set_at r s new)) q) z (get (joined j one l (set_at r s new)) q)) (sym (get-joined j one l r left right q))
          (subst (λ z. IsNote (right_notes j one (left_rows j h l) s (right_rows j h r) (right_rows j h (set_at r s new)) q) (beside_at j one r (get l (tag_left one q)) v) z) (sym (get-joined j one l (set_at r s new) left after q))
          (subst (λ f. IsNote (option_and_then (notes_for v) f) (beside_at j one r (get l (tag_left one q)) v) (beside_at j one (set_at r s new) (get l (tag_left one q)) v)) (sym (get-kept (λ x. matches j.same_key (j.left_key x) h) l (tag_left one q)))
          (led_row v (get l (tag_left one q)))))
