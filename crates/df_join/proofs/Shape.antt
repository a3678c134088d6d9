-- The tags of a join over a and b scans are tags over a + b scans.
use Rattle.std.proofs.Common.{◌≤◌, ◌+◌, ℕ, Option, Some, None, nat_eq, refl, sym, subst, arith}
use Rattle.std.specs.Option.{IfSome, option_and_then}
use Rattle.std.specs.FinMap.{FinMap, get}
use Rattle.df_column.specs.declared.tag.Tag.{Tag}
use Rattle.df_column.specs.Tags.{tag_cmp}
use Rattle.df_join.specs.Spread.{IsLeftTag, IsRightTag, IsZeroPast, IsTagOver, HasKeys, tag_left, tag_right}
use Rattle.df_join.specs.Joined.{Join, right_rows, beside, joined}
use Rattle.df_join.proofs.Tags.{left_tag, right_tag, joined_tag, combine_parts}
use Rattle.df_join.proofs.Joined.{HasKeys-matches, get-joined}

pub keys_from : {X : Type 0} (P Q : Tag → Type 0) (t : FinMap tag_cmp X) → ((q : Tag) → P q → Q q) → HasKeys P t → HasKeys Q t
keys_from P Q t f h = record { at = λ q. one (get t q) (P q) (Q q) (f q) (h.at q) }
  where
    one : {X : Type 0} (x : Option X) (A B : Type 0) → (A → B) → IfSome x (λ _. A) → IfSome x (λ _. B)
    one None A B f h = tt
    one (Some x) A B f h = f h

module _ {X Y Z G : Type 0} (j : Join X Y Z G) (a b : ℕ) (ha : 1 ≤ a) (hb : 1 ≤ b) (le : a + b ≤ 3) (l : FinMap tag_cmp X) (r : FinMap tag_cmp Y) (left : HasKeys (IsTagOver a) l) (right : HasKeys (IsTagOver b) r) where
  pub left_keys : HasKeys (IsLeftTag (nat_eq a 1)) l
  left_keys = keys_from (IsTagOver a) (IsLeftTag (nat_eq a 1)) l (λ q h. left_tag a q (omega arith) h.ends) left

  pub right_keys : HasKeys (IsRightTag (nat_eq a 1)) r
  right_keys = keys_from (IsTagOver b) (IsRightTag (nat_eq a 1)) r (λ q h. right_tag a b q ha hb le h.ends) right

  zero_past : HasKeys (IsZeroPast b) r
  zero_past = keys_from (IsTagOver b) (IsZeroPast b) r (λ q h. h.ends) right

  pub joined_keys : HasKeys (IsTagOver (a + b)) (joined j (nat_eq a 1) l r)
  joined_keys = record {
    at = λ q. subst (λ f. IfSome f (λ _. IsTagOver (a + b) q)) (sym (get-joined j (nat_eq a 1) l r left_keys right_keys q))
        (whole q (get l (tag_left (nat_eq a 1) q)) (left.at (tag_left (nat_eq a 1) q)));
  }
    where
      pair : (q : Tag) (z : Option Z) → IsTagOver a (tag_left (nat_eq a 1) q) → IfSome z (λ _. IsZeroPast b (tag_right (nat_eq a 1) q)) → IfSome z (λ _. IsTagOver (a + b) q)
      pair q None h k = tt
      pair q (Some z) h k = subst (IsTagOver (a + b)) (combine_parts (nat_eq a 1) q) (joined_tag a b (tag_left (nat_eq a 1) q) (tag_right (nat_eq a 1) q) ha hb le h k)

      whole : (q : Tag) (x : Option X) → IfSome x (λ _. IsTagOver a (tag_left (nat_eq a 1) q)) → IfSome (option_and_then (λ x. get (beside j x (right_rows j (j.left_key x) r)) (tag_right (nat_eq a 1) q)) x) (λ _. IsTagOver (a + b) q)
      whole q None h = tt
      whole q (Some x) h = pair q (get (beside j x (right_rows j (j.left_key x) r)) (tag_right (nat_eq a 1) q)) h
          ((HasKeys-matches j (IsZeroPast b) (record { first = λ _. refl; second = λ _. refl; third = λ _. refl }) r zero_past x).at (tag_right (nat_eq a 1) q))
