-- One row of a side goes or comes: its notes fit the join before and give the join after.
use Rattle.std.proofs.Common.{◌≡◌, Bool, true, false, cond, not, List, [], ◌∷◌, ◌++◌, Option, Some, None, refl, sym, ap, subst, ◌∙◌}
use Rattle.std.specs.Prelude.{T, ◌==◌, ◌||◌, ◌&&◌}
use Rattle.std.specs.Option.{IfSome, option_map, option_and_then}
use Rattle.std.specs.Ordering.{eq_by_cmp, is_eq}
use Rattle.std.specs.Cmp.{tied_itself}
use Rattle.std.specs.declared.cmp.Ordering.TheVariants.{Less}
use Rattle.std.proofs.lemmas.Bool.{eqb-true}
use Rattle.std.specs.FinMap.{FinMap, is_sorted, same_map, get, get-empty, find, entries, len, empty_of_len}
use Rattle.df_column.specs.declared.tag.Tag.{Tag}
use Rattle.df_join.specs.Rules.{Cells}
use Rattle.df_column.specs.Changes.{Change}
use Rattle.df_column.specs.Tables.{TaggedRows}
use Rattle.df_column.specs.Tags.{tag_cmp}
use Rattle.df_column.specs.Changes.{set_at, applied_list}
use Rattle.df_join.specs.RowNotes.{FitsList}
use Rattle.df_delta.specs.Notes.{IsNote}
use Rattle.df_join.specs.Steps.{both_sides}
use Rattle.df_column.specs.TagOrder.{tag_total, tag_same}
use Rattle.df_delta.proofs.Changes.{get-set_at}
use Rattle.df_join.proofs.Groups.{row_itself, row_yes}
use Rattle.df_ops.specs.Groups.{key_of}
use Rattle.df_value.specs.Rows.{row_eq}
use Rattle.df_join.specs.Spread.{IsLeftTag, IsRightTag, no_tag, tag_left, tag_right, HasKeys}
use Rattle.df_join.specs.Joined.{matches, Join, right_rows, left_rows, alone, beside, joined}
use Rattle.df_join.specs.Steps.{left_notes, HasRightKey}
use Rattle.df_join.specs.declared.rule.JoinRule.{JoinRule}
use Rattle.df_delta.specs.Notes.{moved}
use Rattle.df_join.specs.Rules.{by_key, is_null_key, joined_row, keeps_left, key_or_null}
use Rattle.df_join.specs.RowNotes.{Note, row_before, row_after, left_list, right_list}
use Rattle.df_join.proofs.Spread.{tied}
use Rattle.df_join.proofs.Joined.{get-kept, HasKeys-kept, get-alone, get-beside, beside_pair}
use Rattle.df_join.proofs.Steps.{left_step, right_step}
use Rattle.df_join.proofs.Fits.{notes_fit, notes_give}
use Rattle.df_join.proofs.Lists.{sides, sorted_left, find_left, sorted_right, find_right}

pub keys_set_at : {X : Type 0} (P : Tag → Type 0) (t : FinMap tag_cmp X) (k : Tag) (v : Option X) → HasKeys P t → P k → HasKeys P (set_at t k v)
keys_set_at P t k v h here = record {
  at = λ q. subst (λ f. IfSome f (λ _. P q)) (sym (get-set_at tag_total t k v q))
      (elim (eq_by_cmp tag_cmp q k) as (λ b. eq_by_cmp tag_cmp q k ≡ b → IfSome (cond b v (get t q)) (λ _. P q)) [
        | true ↦ λ b. any (P q) v (subst P (sym (tied q k b)) here)
        | false ↦ λ b. h.at q
      ] refl);
}
  where
    any : {Y : Type 0} (A : Type 0) (f : Option Y) → A → IfSome f (λ _. A)
    any A None a = tt
    any A (Some y) a = a

pub get_here : {X : Type 0} (t : FinMap tag_cmp X) (k : Tag) (v : Option X) → get (set_at t k v) k ≡ v
get_here t k v = get-set_at tag_total t k v k ∙ ap (λ r. cond (is_eq r) v (get t k)) (tied_itself tag_total k)

module _ (one : Bool) (rule : JoinRule) where
  abbrev j : Join Cells Cells Cells Cells
  j = by_key rule

  abbrev keeps : Bool
  keeps = keeps_left rule.how

  abbrev Moves : TaggedRows → TaggedRows → List Note → Type 0
  Moves t u ns = FitsList t ns × (applied_list t ns ≡ u)

  moves_from_led : (t u : TaggedRows) (ns : List Note) → T (is_sorted tag_cmp ns) → ((q : Tag) → IsNote (find tag_cmp q ns) (get t q) (get u q)) → Moves t u ns
  moves_from_led t u ns h led = (notes_fit t u ns h led, notes_give t u ns h led)

  module _ (l r : TaggedRows) (left : HasKeys (IsLeftTag one) l) (right : HasKeys (IsRightTag one) r) where
    -- a left row goes or comes
    pub left_moves : (goes : Bool) (p : Tag) (x : Cells) → IsLeftTag one p → get l p ≡ row_before goes x
        → Moves (joined j one l r) (joined j one (set_at l p (row_after goes x)) r) (left_list rule one keeps goes p x (entries (right_rows j (key_or_null rule (key_of rule.indices.left x)) r)))
    left_moves goes p x is stood =
        let m = right_rows j (key_or_null rule (key_of rule.indices.left x)) r in
        let keys : HasKeys (IsRightTag one) m = HasKeys-kept (IsRightTag one) (λ (y : Cells). matches row_eq (key_or_null rule (key_of rule.indices.left x)) (key_or_null rule (key_of rule.indices.right y))) r right in
        moves_from_led _ _ (left_list rule one keeps goes p x (entries m)) (sorted_left one rule goes p x m is keys) (λ q.
        subst (λ c. IsNote c (get (joined j one l r) q) (get (joined j one (set_at l p (row_after goes x)) r) q))
        (ap (λ o. left_notes j one r p o (row_after goes x) q) stood ∙ both goes p x q ∙ sym (find_left one rule goes p x m is keys q))
        (left_step j one l r p (row_after goes x) left (keys_set_at (IsLeftTag one) l p (row_after goes x) left is) right q))
      where
        both : (goes : Bool) (p : Tag) (x : Cells) (q : Tag) → left_notes j one r p (row_before goes x) (row_after goes x) q
            ≡ cond (eq_by_cmp tag_cmp (tag_left one q) p) (sides goes (get (beside j x (right_rows j (key_or_null rule (key_of rule.indices.left x)) r)) (tag_right one q)) None) None
        both true p x q = refl
        both false p x q = refl

  one_side : (goes : Bool) (z : Cells) → sides goes (Some z) None ≡ Some (moved goes z)
  one_side true z = refl
  one_side false z = refl

  no_sides : (goes : Bool) → ◌≡◌ {A = Option (Change Cells)} None (sides goes None None)
  no_sides true = refl
  no_sides false = refl

  lone_side : (goes k b : Bool) (z : Cells) → cond (k && b) (Some (moved (not goes) z)) None ≡ sides goes None (cond b (cond k (Some z) None) None)
  lone_side goes true true z = sym (other goes)
    where
      other : (goes : Bool) → sides goes None (Some z) ≡ Some (moved (not goes) z)
      other true = refl
      other false = refl
  lone_side goes true false z = no_sides goes
  lone_side goes false true z = no_sides goes
  lone_side goes false false z = no_sides goes

  pub or_true : (a b : Bool) → b ≡ true → (a || b) ≡ true
  or_true true b e = refl
  or_true false b e = e

  module _ (s : Tag) (y : Cells) (after : tag_cmp no_tag s ≡ Less) where
    apart : eq_by_cmp tag_cmp no_tag s ≡ false
    apart = ap is_eq after

    pub not_both : (v : Tag) → eq_by_cmp tag_cmp v no_tag ≡ true → eq_by_cmp tag_cmp v s ≡ false
    not_both v e = ap (λ v. eq_by_cmp tag_cmp v s) (tied v no_tag e) ∙ apart

    record IsFullAndRest (full rest : TaggedRows) : Type 0 where
      full_s : get full s ≡ Some y
      rest_s : get rest s ≡ None
      full_none : get full no_tag ≡ None
      rest_none : get rest no_tag ≡ None

    pub some_len : (full : TaggedRows) → get full s ≡ Some y → (len full == 0) ≡ false
    some_len full e = elim (len full == 0) as (λ b. (len full == 0) ≡ b → b ≡ false) [
      | true ↦ λ b. let none : get full s ≡ None = ap (λ m. get m s) (empty_of_len full (eqb-true (len full) 0 b)) ∙ get-empty tag_cmp s in cc (e, none)
      | false ↦ λ b. refl
    ] refl

    two_is : (goes : Bool) (full rest : TaggedRows) → IsFullAndRest full rest → (x : Cells) (v : Tag)
        → find tag_cmp v (cond (keeps && (len rest == 0)) ((no_tag, moved (not goes) (joined_row rule x None)) ∷ []) [] ++ (s, moved goes (joined_row rule x (Some y))) ∷ [])
        ≡ cond (eq_by_cmp tag_cmp v s || eq_by_cmp tag_cmp v no_tag) (sides goes (get (beside j x full) v) (get (beside j x rest) v)) None
    two_is goes full rest h x v =
        let c1 = moved goes (joined_row rule x (Some y)) in
        let c2 = moved (not goes) (joined_row rule x None) in
        let lone = keeps && (len rest == 0) in
        find_two lone c1 c2 v
        ∙ elim (eq_by_cmp tag_cmp v no_tag) as (λ b. eq_by_cmp tag_cmp v no_tag ≡ b → cond b (cond lone (Some c2) None) (cond (eq_by_cmp tag_cmp v s) (Some c1) None) ≡ cond (eq_by_cmp tag_cmp v s || b) (sides goes (get (beside j x full) v) (get (beside j x rest) v)) None) [
          | true ↦ λ b.
              let here = tied v no_tag b in
              let a : get (beside j x full) v ≡ None = get-beside j x full v ∙ (λ i. cond (some_len full h.full_s i) (get (alone j x) v) (option_map (λ y. joined_row rule x (Some y)) ((ap (get full) here ∙ h.full_none) i))) in
              let e : get (beside j x rest) v ≡ cond (len rest == 0) (cond keeps (Some (joined_row rule x None)) None) None =
              get-beside j x rest v ∙ (λ i. cond (len rest == 0) ((get-alone j x v ∙ ap (λ b. cond b (cond keeps (Some (joined_row rule x None)) None) None) b) i) (option_map (λ y. joined_row rule x (Some y)) ((ap (get rest) here ∙ h.rest_none) i))) in
              lone_side goes keeps (len rest == 0) (joined_row rule x None)
              ∙ (λ i. sides goes (sym a i) (sym e i))
              ∙ sym (ap (λ b. cond b (sides goes (get (beside j x full) v) (get (beside j x rest) v)) None) (or_true (eq_by_cmp tag_cmp v s) true refl))
          | false ↦ λ b. elim (eq_by_cmp tag_cmp v s) as (λ d. eq_by_cmp tag_cmp v s ≡ d → cond d (Some c1) None ≡ cond (d || false) (sides goes (get (beside j x full) v) (get (beside j x rest) v)) None) [
            | true ↦ λ d.
                let here = tied v s d in
                let a : get (beside j x full) v ≡ Some (joined_row rule x (Some y)) = beside_pair j x full v b ∙ ap (option_map (λ y. joined_row rule x (Some y))) (ap (get full) here ∙ h.full_s) in
                let e : get (beside j x rest) v ≡ None = beside_pair j x rest v b ∙ ap (option_map (λ y. joined_row rule x (Some y))) (ap (get rest) here ∙ h.rest_s) in
                sym ((λ i. sides goes (a i) (e i)) ∙ one_side goes (joined_row rule x (Some y)))
            | false ↦ λ d. refl
          ] refl
        ] refl
      where
        find_two : (lone : Bool) (c1 c2 : Change Cells) (v : Tag) → find tag_cmp v (cond lone ((no_tag, c2) ∷ []) [] ++ (s, c1) ∷ []) ≡ cond (eq_by_cmp tag_cmp v no_tag) (cond lone (Some c2) None) (cond (eq_by_cmp tag_cmp v s) (Some c1) None)
        find_two true c1 c2 v = refl
        find_two false c1 c2 v = elim (eq_by_cmp tag_cmp v no_tag) as (λ b. eq_by_cmp tag_cmp v no_tag ≡ b → cond (eq_by_cmp tag_cmp v s) (Some c1) None ≡ cond b None (cond (eq_by_cmp tag_cmp v s) (Some c1) None)) [
          | true ↦ λ b. ap (λ d. cond d (Some c1) None) (not_both v b)
          | false ↦ λ b. refl
        ] refl

    -- a key that is not null matches itself
    itself : is_null_key rule (key_of rule.indices.right y) ≡ false → matches row_eq (key_or_null rule (key_of rule.indices.right y)) (key_or_null rule (key_of rule.indices.right y)) ≡ true
    itself known = ap (λ b. matches row_eq (cond b None (Some (key_of rule.indices.right y))) (cond b None (Some (key_of rule.indices.right y)))) known ∙ row_itself (key_of rule.indices.right y)

    pub at_key : is_null_key rule (key_of rule.indices.right y) ≡ false → (t : TaggedRows) (there : Bool) → get t s ≡ cond there (Some y) None → get (right_rows j (key_or_null rule (key_of rule.indices.right y)) t) s ≡ cond there (Some y) None
    at_key known t there e =
        get-kept (λ (z : Cells). matches row_eq (key_or_null rule (key_of rule.indices.right y)) (key_or_null rule (key_of rule.indices.right z))) t s
        ∙ ap (option_and_then (λ (z : Cells). cond (matches row_eq (key_or_null rule (key_of rule.indices.right y)) (key_or_null rule (key_of rule.indices.right z))) (Some z) None)) e
        ∙ elim there as (λ b. option_and_then (λ (z : Cells). cond (matches row_eq (key_or_null rule (key_of rule.indices.right y)) (key_or_null rule (key_of rule.indices.right z))) (Some z) None) (cond b (Some y) None) ≡ cond b (Some y) None) [
          | true ↦ ap (λ b. cond b (Some y) None) (itself known)
          | false ↦ refl
        ]

    pub none_at : (t : TaggedRows) → get t no_tag ≡ None → get (right_rows j (key_or_null rule (key_of rule.indices.right y)) t) no_tag ≡ None
    none_at t e = get-kept (λ (z : Cells). matches row_eq (key_or_null rule (key_of rule.indices.right y)) (key_or_null rule (key_of rule.indices.right z))) t no_tag ∙ ap (option_and_then (λ (z : Cells). cond (matches row_eq (key_or_null rule (key_of rule.indices.right y)) (key_or_null rule (key_of rule.indices.right z))) (Some z) None)) e

    module _ (l r : TaggedRows) (left : HasKeys (IsLeftTag one) l) (right : HasKeys (IsRightTag one) r) (is : IsRightTag one s) (none : get r no_tag ≡ None) where
      abbrev next : Bool → TaggedRows
      next goes = set_at r s (row_after goes y)

      none_next : (goes : Bool) → get (next goes) no_tag ≡ None
      none_next goes = get-set_at tag_total r s (row_after goes y) no_tag ∙ ap (λ b. cond b (row_after goes y) (get r no_tag)) apart ∙ none

      abbrev among : TaggedRows → TaggedRows
      among t = right_rows j (key_or_null rule (key_of rule.indices.right y)) t

      -- the key's rows with the row, and without
      abbrev with_row : Bool → TaggedRows
      with_row goes = cond goes (among r) (among (next goes))

      abbrev without_row : Bool → TaggedRows
      without_row goes = cond goes (among (next goes)) (among r)

      parts : is_null_key rule (key_of rule.indices.right y) ≡ false → (goes : Bool) → get r s ≡ row_before goes y → IsFullAndRest (with_row goes) (without_row goes)
      parts known true stood = record { full_s = at_key known r true stood; rest_s = at_key known (next true) false (get_here r s None); full_none = none_at r none; rest_none = none_at (next true) (none_next true) }
      parts known false stood = record { full_s = at_key known (next false) true (get_here r s (Some y)); rest_s = at_key known r false stood; full_none = none_at (next false) (none_next false); rest_none = none_at r none }

      has_before : (goes : Bool) → get r s ≡ row_before goes y → HasRightKey j one (key_or_null rule (key_of rule.indices.right y)) (get r s)
      has_before true e = subst (HasRightKey j one (key_or_null rule (key_of rule.indices.right y))) (sym e) refl
      has_before false e = subst (HasRightKey j one (key_or_null rule (key_of rule.indices.right y))) (sym e) tt

      has_after : (goes : Bool) → HasRightKey j one (key_or_null rule (key_of rule.indices.right y)) (row_after goes y)
      has_after true = tt
      has_after false = refl

      in_order : (goes : Bool) (x : Cells) (v : Tag) → sides goes (get (beside j x (with_row goes)) v) (get (beside j x (without_row goes)) v) ≡ both_sides (get (beside j x (among r)) v) (get (beside j x (among (next goes))) v)
      in_order true x v = refl
      in_order false x v = refl

      -- a right row goes or comes
      pub right_moves : (goes : Bool) → is_null_key rule (key_of rule.indices.right y) ≡ false → get r s ≡ row_before goes y
          → Moves (joined j one l r) (joined j one l (next goes)) (right_list rule one (keeps && (len (without_row goes) == 0)) goes s y (entries (left_rows j (key_or_null rule (key_of rule.indices.right y)) l)))
      right_moves goes known stood =
          let lone = keeps && (len (without_row goes) == 0) in
          let xs = left_rows j (key_or_null rule (key_of rule.indices.right y)) l in
          let keys : HasKeys (IsLeftTag one) xs = HasKeys-kept (IsLeftTag one) (λ (x : Cells). matches row_eq (key_or_null rule (key_of rule.indices.left x)) (key_or_null rule (key_of rule.indices.right y))) l left in
          moves_from_led _ _ (right_list rule one lone goes s y (entries xs)) (sorted_right one rule goes lone s y after is xs keys) (λ q.
          subst (λ c. IsNote c (get (joined j one l r) q) (get (joined j one l (next goes)) q))
          (sym (λ i. option_and_then (λ x. cond (eq_by_cmp tag_cmp (tag_right one q) s || eq_by_cmp tag_cmp (tag_right one q) no_tag) (in_order goes x (tag_right one q) i) None) (get xs (tag_left one q)))
          ∙ sym (λ i. option_and_then (λ x. two_is goes (with_row goes) (without_row goes) (parts known goes stood) x (tag_right one q) i) (get xs (tag_left one q)))
          ∙ sym (find_right one rule goes lone s y after is xs keys q))
          (right_step j one row_yes r s (row_after goes y) (key_or_null rule (key_of rule.indices.right y)) (has_before goes stood) (has_after goes) l left right (keys_set_at (IsRightTag one) r s (row_after goes y) right is) q))

      -- a null key is no left row's
      no_left : is_null_key rule (key_of rule.indices.right y) ≡ true → (q : Tag) → get (left_rows j (key_or_null rule (key_of rule.indices.right y)) l) q ≡ None
      no_left null q = ap (λ b. get (left_rows j (cond b None (Some (key_of rule.indices.right y))) l) q) null ∙ get-kept (λ (x : Cells). matches row_eq (key_or_null rule (key_of rule.indices.left x)) None) l q ∙ nobody (get l q)
        where
          unmatched : (k : Option Cells) → matches row_eq k None ≡ false
          unmatched None = refl
          unmatched (Some k) = refl

          nobody : (f : Option Cells) → option_and_then (λ (x : Cells). cond (matches row_eq (key_or_null rule (key_of rule.indices.left x)) None) (Some x) None) f ≡ None
          nobody None = refl
          nobody (Some x) = ap (λ b. cond b (Some x) None) (unmatched (key_or_null rule (key_of rule.indices.left x)))

      -- so a right row with one changes nothing
      pub right_null : (goes : Bool) → is_null_key rule (key_of rule.indices.right y) ≡ true → get r s ≡ row_before goes y → joined j one l r ≡ joined j one l (next goes)
      right_null goes null stood = same_map tag_total tag_same _ _ (λ q.
          subst (λ f. IsNote (option_and_then (λ x. cond (eq_by_cmp tag_cmp (tag_right one q) s || eq_by_cmp tag_cmp (tag_right one q) no_tag) (both_sides (get (beside j x (among r)) (tag_right one q)) (get (beside j x (among (next goes))) (tag_right one q))) None) f) (get (joined j one l r) q) (get (joined j one l (next goes)) q))
          (no_left null (tag_left one q))
          (right_step j one row_yes r s (row_after goes y) (key_or_null rule (key_of rule.indices.right y)) (has_before goes stood) (has_after goes) l left right (keys_set_at (IsRightTag one) r s (row_after goes y) right is) q))
