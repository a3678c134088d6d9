-- A right row takes the place of another of its key: its notes fit the join before and give the join after.
use Rattle.std.proofs.Common.{◌≡◌, Bool, true, false, cond, List, [], ◌∷◌, ◌++◌, Option, Some, None, refl, sym, ap, subst, ◌∙◌}
use Rattle.std.specs.Prelude.{T, ◌||◌}
use Rattle.std.specs.Option.{IfSome, option_map, option_and_then}
use Rattle.std.specs.Ordering.{eq_by_cmp}
use Rattle.std.specs.declared.cmp.Ordering.TheVariants.{Less}
use Rattle.std.specs.FinMap.{entries, entries_sorted, entries-from_sorted, find, from_sorted, get, get-entries, get-from_sorted, is_sorted, len}
use Rattle.df_column.specs.Changes.{applied_list, set_at}
use Rattle.df_column.specs.TagOrder.{tag_total}
use Rattle.df_column.specs.Tables.{TaggedRows, new_row_fits}
use Rattle.df_column.specs.Tags.{tag_cmp}
use Rattle.df_column.specs.declared.tag.Tag.{Tag}
use Rattle.df_delta.specs.Deltas.{Changes}
use Rattle.df_delta.specs.Notes.{IsNote}
use Rattle.df_delta.proofs.Changes.{get-set_at}
use Rattle.df_ops.specs.Groups.{key_of}
use Rattle.df_value.specs.Rows.{row_eq}
use Rattle.df_join.specs.Joined.{Join, alone, beside, joined, left_rows, matches, right_rows}
use Rattle.df_join.specs.Keyed.{IsIndexOf, LeadsTo}
use Rattle.df_join.specs.RowNotes.{CanMove, FitsList, Leads, Note, Noted, joined_by_key, keyed_rows, replaced_list, replaced_pair}
use Rattle.df_join.specs.Rules.{Cells, by_key, is_null_key, joined_row, key_or_null}
use Rattle.df_join.specs.Sides.{IsRowTag, LeadsOver, is_one}
use Rattle.df_join.specs.Spread.{HasKeys, IsLeftTag, IsRightTag, combine, no_tag, rekeyed, spread_list, tag_left, tag_right}
use Rattle.df_join.specs.Steps.{HasRightKey, both_sides}
use Rattle.df_join.specs.declared.join.LiveJoin.{LiveJoin}
use Rattle.df_join.specs.declared.keyed.KeyedTables.{KeyedTables}
use Rattle.df_join.specs.declared.rule.JoinRule.{JoinRule}
use Rattle.df_join.proofs.Fits.{notes_fit, notes_give}
use Rattle.df_join.proofs.Groups.{row_yes}
use Rattle.df_join.proofs.Index.{null_rows}
use Rattle.df_join.proofs.Joined.{HasKeys-kept, beside_pair, entries-empty, get-beside}
use Rattle.df_join.proofs.Moves.{at_key, get_here, keys_set_at, none_at, not_both, or_true, right_null, some_len}
use Rattle.df_join.proofs.RightSide.{after_none, left_is, no_row}
use Rattle.df_join.proofs.Shape.{keys_from}
use Rattle.df_join.proofs.Spread.{all_keys, find_list, sorted_list, tied}
use Rattle.df_join.proofs.Staging.{set_twice}
use Rattle.df_join.proofs.Steps.{right_step}

module _ (one : Bool) (rule : JoinRule) (s : Tag) (y z : Cells) (after : tag_cmp no_tag s ≡ Less) where
  abbrev j : Join Cells Cells Cells Cells
  j = by_key rule

  -- the note of a left row, at the right row's tag
  abbrev own : Cells → List Note
  own x = (s, replaced_pair rule x y z) ∷ []

  abbrev own_map : Cells → Changes
  own_map x = from_sorted (own x)

  list_is : (es : List (Tag × Cells)) → replaced_list rule one s y z es ≡ spread_list one own_map es
  list_is [] = refl
  list_is (e ∷ es) = (λ i. here i ++ list_is es i)
    where
      here : (combine one e.0 s, replaced_pair rule e.1 y z) ∷ [] ≡ rekeyed one e.0 (entries (own_map e.1))
      here = sym (ap (rekeyed one e.0) (entries-from_sorted tag_cmp (own e.1) tt))

  -- where both rows stand at the tag among their key's rows, and none at the tag of no row
  own_is : (m n : TaggedRows) → get m s ≡ Some y → get n s ≡ Some z → get m no_tag ≡ None → get n no_tag ≡ None → (x : Cells) (v : Tag)
      → find tag_cmp v (own x) ≡ cond (eq_by_cmp tag_cmp v s || eq_by_cmp tag_cmp v no_tag) (both_sides (get (beside j x m) v) (get (beside j x n) v)) None
  own_is m n ms ns m_none n_none x v =
      let c = replaced_pair rule x y z in
      elim (eq_by_cmp tag_cmp v no_tag) as (λ b. eq_by_cmp tag_cmp v no_tag ≡ b → cond (eq_by_cmp tag_cmp v s) (Some c) None ≡ cond (eq_by_cmp tag_cmp v s || b) (both_sides (get (beside j x m) v) (get (beside j x n) v)) None) [
        | true ↦ λ b.
            let here = tied v no_tag b in
            let before : get (beside j x m) v ≡ None = get-beside j x m v ∙ (λ i. cond (some_len one rule s y after m ms i) (get (alone j x) v) (option_map (λ y. joined_row rule x (Some y)) ((ap (get m) here ∙ m_none) i))) in
            let behind : get (beside j x n) v ≡ None = get-beside j x n v ∙ (λ i. cond (some_len one rule s z after n ns i) (get (alone j x) v) (option_map (λ y. joined_row rule x (Some y)) ((ap (get n) here ∙ n_none) i))) in
            ap (λ d. cond d (Some c) None) (not_both one rule s y after v b)
            ∙ sym (λ i. both_sides (before i) (behind i))
            ∙ sym (ap (λ d. cond d (both_sides (get (beside j x m) v) (get (beside j x n) v)) None) (or_true one rule (eq_by_cmp tag_cmp v s) true refl))
        | false ↦ λ b. elim (eq_by_cmp tag_cmp v s) as (λ d. eq_by_cmp tag_cmp v s ≡ d → cond d (Some c) None ≡ cond (d || false) (both_sides (get (beside j x m) v) (get (beside j x n) v)) None) [
          | true ↦ λ d.
              let here = tied v s d in
              let before : get (beside j x m) v ≡ Some (joined_row rule x (Some y)) = beside_pair j x m v b ∙ ap (option_map (λ y. joined_row rule x (Some y))) (ap (get m) here ∙ ms) in
              let behind : get (beside j x n) v ≡ Some (joined_row rule x (Some z)) = beside_pair j x n v b ∙ ap (option_map (λ y. joined_row rule x (Some y))) (ap (get n) here ∙ ns) in
              sym (λ i. both_sides (before i) (behind i))
          | false ↦ λ d. refl
        ] refl
      ] refl

  module _ (is : IsRightTag one s) where
    own_keys : (x : Cells) → HasKeys (IsRightTag one) (own_map x)
    own_keys x = record { at = λ v. subst (λ f. IfSome f (λ _. IsRightTag one v)) (sym (get-from_sorted tag_cmp (own x) v tt)) (key v) }
      where
        key : (v : Tag) → IfSome (find tag_cmp v (own x)) (λ _. IsRightTag one v)
        key v = elim (eq_by_cmp tag_cmp v s) as (λ b. eq_by_cmp tag_cmp v s ≡ b → IfSome (cond b (Some (replaced_pair rule x y z)) None) (λ _. IsRightTag one v)) [
          | true ↦ λ b. subst (IsRightTag one) (sym (tied v s b)) is
          | false ↦ λ b. tt
        ] refl

    module _ (xs : TaggedRows) (left : HasKeys (IsLeftTag one) xs) where
      sorted_notes : T (is_sorted tag_cmp (replaced_list rule one s y z (entries xs)))
      sorted_notes = subst (λ es. T (is_sorted tag_cmp es)) (sym (list_is (entries xs))) (sorted_list one own_map own_keys (entries xs) (all_keys (IsLeftTag one) xs left) (entries_sorted xs))

      find_note : (q : Tag) → find tag_cmp q (replaced_list rule one s y z (entries xs)) ≡ option_and_then (λ x. find tag_cmp (tag_right one q) (own x)) (get xs (tag_left one q))
      find_note q =
          ap (find tag_cmp q) (list_is (entries xs))
          ∙ find_list one own_map own_keys q (entries xs) (all_keys (IsLeftTag one) xs left) (entries_sorted xs)
          ∙ ap (option_and_then (λ x. get (own_map x) (tag_right one q))) (sym (get-entries xs (tag_left one q)))
          ∙ (λ i. option_and_then (λ x. get-from_sorted tag_cmp (own x) (tag_right one q) tt i) (get xs (tag_left one q)))

    module _ (l r : TaggedRows) (left : HasKeys (IsLeftTag one) l) (right : HasKeys (IsRightTag one) r) (none : get r no_tag ≡ None) (same : key_of rule.indices.right y ≡ key_of rule.indices.right z) (stood : get r s ≡ Some y) where
      abbrev key : Cells
      key = key_of rule.indices.right y

      abbrev next : TaggedRows
      next = set_at r s (Some z)

      abbrev among : TaggedRows → TaggedRows
      among t = right_rows j (key_or_null rule key) t

      none_at_tag : (v : Option Cells) → get (set_at r s v) no_tag ≡ None
      none_at_tag v = get-set_at tag_total r s v no_tag ∙ elim (eq_by_cmp tag_cmp no_tag s) as (λ b. eq_by_cmp tag_cmp no_tag s ≡ b → cond b v (get r no_tag) ≡ None) [
        | true ↦ λ b. let never : true ≡ false = sym b ∙ ap Rattle.std.specs.Ordering.is_eq after in cc never
        | false ↦ λ b. none
      ] refl

      has_before : HasRightKey j one (key_or_null rule key) (get r s)
      has_before = subst (HasRightKey j one (key_or_null rule key)) (sym stood) refl

      has_after : HasRightKey j one (key_or_null rule key) (Some z)
      has_after = ap (key_or_null rule) (sym same)

      abbrev notes : List Note
      notes = replaced_list rule one s y z (entries (left_rows j (key_or_null rule key) l))

      module _ (known : is_null_key rule key ≡ false) where
        new_here : get (among next) s ≡ Some z
        new_here = subst (λ k. get (right_rows j (key_or_null rule k) next) s ≡ Some z) (sym same)
            (at_key one rule s z after (subst (λ k. is_null_key rule k ≡ false) same known) next true (get_here r s (Some z)))

        led : (q : Tag) → IsNote (find tag_cmp q notes) (get (joined j one l r) q) (get (joined j one l next) q)
        led q =
            let xs = left_rows j (key_or_null rule key) l in
            let keys : HasKeys (IsLeftTag one) xs = HasKeys-kept (IsLeftTag one) (λ (x : Cells). matches row_eq (key_or_null rule (key_of rule.indices.left x)) (key_or_null rule key)) l left in
            subst (λ c. IsNote c (get (joined j one l r) q) (get (joined j one l next) q))
            (sym (λ i. option_and_then (λ x. own_is (among r) (among next) (at_key one rule s y after known r true stood) new_here (none_at one rule s y after r none) (none_at one rule s y after next (none_at_tag (Some z))) x (tag_right one q) i) (get xs (tag_left one q)))
            ∙ sym (find_note xs keys q))
            (right_step j one row_yes r s (Some z) (key_or_null rule key) has_before has_after l left right (keys_set_at (IsRightTag one) r s (Some z) right is) q)

        notes_sorted : T (is_sorted tag_cmp notes)
        notes_sorted = sorted_notes (left_rows j (key_or_null rule key) l) (HasKeys-kept (IsLeftTag one) (λ (x : Cells). matches row_eq (key_or_null rule (key_of rule.indices.left x)) (key_or_null rule key)) l left)

        notes_fit_join : FitsList (joined j one l r) notes
        notes_fit_join = notes_fit (joined j one l r) (joined j one l next) notes notes_sorted led

        notes_give_join : applied_list (joined j one l r) notes ≡ joined j one l next
        notes_give_join = notes_give (joined j one l r) (joined j one l next) notes notes_sorted led

      -- rows of a null key change nothing
      null_stays : is_null_key rule key ≡ true → joined j one l r ≡ joined j one l next
      null_stays null =
          right_null one rule s y after l r left right is none true null stood
          ∙ right_null one rule s z after l (set_at r s None) left (keys_set_at (IsRightTag one) r s None right is) is (none_at_tag None) false (subst (λ k. is_null_key rule k ≡ true) same null) (get_here r s None)
          ∙ ap (joined j one l) (set_twice r s None (Some z))

      -- the notes of the pairs follow the right row
      pub noted_replaced : (a b : Changes) (from : TaggedRows) → Noted a b (replaced_list rule one s y z (entries (keyed_rows rule rule.indices.left key l)))
          → Leads a from (joined_by_key one rule l r) → Leads b from (joined_by_key one rule l next)
      noted_replaced a b from noted leads =
          elim (is_null_key rule key) as (λ b'. is_null_key rule key ≡ b' → Leads b from (joined_by_key one rule l next)) [
            | true ↦ λ null.
                let nothing : replaced_list rule one s y z (entries (keyed_rows rule rule.indices.left key l)) ≡ [] = ap (λ t. replaced_list rule one s y z (entries t)) (sym (null_rows rule rule.indices.left l key null)) ∙ ap (replaced_list rule one s y z) entries-empty in
                let noted' : Noted a b [] = subst (Noted a b) nothing noted in
                subst (Leads b from) (null_stays null) (noted'.after from (joined_by_key one rule l r) leads tt)
            | false ↦ λ known.
                let noted' : Noted a b notes = subst (Noted a b) (λ i. replaced_list rule one s y z (entries (sym (left_is rule key l) i))) noted in
                subst (Leads b from) (notes_give_join known) (noted'.after from (joined_by_key one rule l r) leads (notes_fit_join known))
          ] refl

module _ (j : LiveJoin) where
  abbrev one : Bool
  one = is_one j.left_scans

  -- a right row takes the place of another of its key
  pub right_replaced : (a b : Changes) (tag : Tag) (y z key : Cells) → key ≡ key_of j.rule.indices.right y → key_of j.rule.indices.right y ≡ key_of j.rule.indices.right z
      → (from l r : TaggedRows) (s mid t : KeyedTables)
      → (CanMove j.right.empty.schema j.rule.indices.right true tag y key r → LeadsTo j.rule.indices.right j.right s r → LeadsTo j.rule.indices.right j.right mid (set_at r tag None))
      → (CanMove j.right.empty.schema j.rule.indices.right false tag z key (set_at r tag None) → LeadsTo j.rule.indices.right j.right mid (set_at r tag None) → LeadsTo j.rule.indices.right j.right t (set_at (set_at r tag None) tag (Some z)))
      → (IsIndexOf j.rule.indices.left j.left l → Noted a b (replaced_list j.rule one tag y z (entries (keyed_rows j.rule j.rule.indices.left key l))))
      → IsRowTag one tag → get r tag ≡ Some y → T (new_row_fits j.right.empty.schema (Some z)) → LeadsOver j s a from l r → LeadsOver j t b from l (set_at r tag (Some z))
  right_replaced a b tag y z k key_is same from l r s mid t goes comes noted is stood fits h =
      let right : HasKeys (IsRightTag one) r = keys_from (IsRowTag one) (IsRightTag one) r (λ q k. k.part) h.right_keys in
      let without : LeadsTo j.rule.indices.right j.right mid (set_at r tag None) = goes (record { key_is = key_is; stood = stood; fits = tt }) h.right in
      record {
        left_keys = h.left_keys;
        right_keys = keys_set_at (IsRowTag one) r tag (Some z) h.right_keys is;
        left = h.left;
        right = subst (LeadsTo j.rule.indices.right j.right t) (set_twice r tag None (Some z)) (comes (record { key_is = key_is ∙ same; stood = get_here r tag None; fits = fits }) without);
        leads = noted_replaced one j.rule tag y z (after_none tag is.begins) is.part l r h.left_keys right (no_row one r h.right_keys) same stood a b from
            (subst (λ k. Noted a b (replaced_list j.rule one tag y z (entries (keyed_rows j.rule j.rule.indices.left k l)))) key_is (noted h.left)) h.leads;
      }
