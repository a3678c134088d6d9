-- The lists of notes of one row that goes or comes.
use Rattle.std.proofs.Common.{◌≡◌, ℕ, Bool, true, false, cond, not, List, [], ◌∷◌, ◌++◌, map, Option, Some, None, refl, sym, ap, subst, ◌∙◌}
use Rattle.std.specs.Prelude.{T, ◌==◌, ◌&&◌}
use Rattle.std.specs.Option.{IfSome, option_map, option_and_then}
use Rattle.std.specs.Ordering.{eq_by_cmp, is_lt}
use Rattle.std.specs.declared.cmp.Ordering.TheVariants.{Less}
use Rattle.std.specs.FinMap.{get, find, entries, entries_sorted, is_sorted, from_sorted, entries-from_sorted, get-from_sorted, get-entries, empty, insert, put, len, len-entries, entries-insert}
use Rattle.df_column.specs.declared.tag.Tag.{Tag}
use Rattle.df_join.specs.Rules.{Cells}
use Rattle.df_column.specs.Changes.{Change}
use Rattle.df_column.specs.Tables.{TaggedRows}
use Rattle.df_delta.specs.Deltas.{Changes}
use Rattle.df_column.specs.Tags.{tag_cmp}
use Rattle.df_delta.specs.Collected.{collected, collected_list}
use Rattle.df_join.specs.Steps.{both_sides}
use Rattle.df_column.specs.TagOrder.{tag_total, tag_same}
use Rattle.df_delta.proofs.Collected.{get-collected, entries-collected}
use Rattle.df_join.specs.declared.rule.JoinRule.{JoinRule}
use Rattle.df_join.specs.Spread.{IsLeftTag, IsRightTag, no_tag, tag_left, tag_right, combine, HasKeys, rekeyed, spread_list}
use Rattle.df_join.specs.Joined.{alone, beside}
use Rattle.df_delta.specs.Notes.{moved}
use Rattle.df_join.specs.Rules.{by_key, joined_row, keeps_left}
use Rattle.df_join.specs.RowNotes.{Note, pair_notes, lone_notes, left_list, right_list}
use Rattle.df_join.proofs.Tags.{no_right}
use Rattle.df_join.proofs.Spread.{tied, all_keys, sorted_rekeyed, find_rekeyed, sorted_list, find_list}
use Rattle.df_join.proofs.Joined.{entries-empty, HasKeys-beside}

-- the change of a row that goes or comes
abbrev pub sides : Bool → Option Cells → Option Cells → Option (Change Cells)
sides true a b = both_sides a b
sides false a b = both_sides b a

sides_one : (goes : Bool) (a : Option Cells) → option_map (moved goes) a ≡ sides goes a None
sides_one true None = refl
sides_one true (Some z) = refl
sides_one false None = refl
sides_one false (Some z) = refl

collected_all : {X Y : Type 0} (f : X → Y) (es : List (Tag × X)) → collected_list (λ _ x. Some (f x)) es ≡ map (λ e. (e.0, f e.1)) es
collected_all f [] = refl
collected_all f (e ∷ es) = ap (λ fs. (e.0, f e.1) ∷ fs) (collected_all f es)

map_all : (f : Cells → Change Cells) (a : Option Cells) → option_and_then (λ z. Some (f z)) a ≡ option_map f a
map_all f None = refl
map_all f (Some z) = refl

module _ (one : Bool) (rule : JoinRule) (goes : Bool) where
  abbrev keeps : Bool
  keeps = keeps_left rule.how

  abbrev changes_of : Cells → TaggedRows → Changes
  changes_of x m = collected (λ _ z. Some (moved goes z)) (beside (by_key rule) x m)

  pairs_moved : (p : Tag) (x : Cells) (fs : List (Tag × Cells)) → pair_notes rule one goes p x fs ≡ rekeyed one p (map (λ (e : Tag × Cells). (e.0, moved goes e.1)) (map (λ (e : Tag × Cells). (e.0, joined_row rule x (Some e.1))) fs))
  pairs_moved p x [] = refl
  pairs_moved p x (f ∷ fs) = ap (λ ns. (combine one p f.0, moved goes (joined_row rule x (Some f.1))) ∷ ns) (pairs_moved p x fs)

  left_is : (p : Tag) (x : Cells) (m : TaggedRows) → left_list rule one keeps goes p x (entries m) ≡ rekeyed one p (entries (changes_of x m))
  left_is p x m =
      ap (λ (n : ℕ). cond (n == 0) (lone_notes rule one keeps goes p x) (pair_notes rule one goes p x (entries m))) (sym (len-entries m))
      ∙ elim (len m == 0) as (λ b. cond b (lone_notes rule one keeps goes p x) (pair_notes rule one goes p x (entries m)) ≡ rekeyed one p (map (λ (e : Tag × Cells). (e.0, moved goes e.1)) (entries {R = tag_cmp} (cond b (alone (by_key rule) x) (collected (λ _ y. Some (joined_row rule x (Some y))) m))))) [
        | true ↦ elim keeps as (λ k. cond k ((combine one p no_tag, moved goes (joined_row rule x None)) ∷ []) [] ≡ rekeyed one p (map (λ (e : Tag × Cells). (e.0, moved goes e.1)) (entries {R = tag_cmp} (cond k (insert empty no_tag (joined_row rule x None)) empty)))) [
          | true ↦ sym (ap (λ es. rekeyed one p (map (λ (e : Tag × Cells). (e.0, moved goes e.1)) es)) (entries-insert tag_total empty no_tag (joined_row rule x None) ∙ ap (put tag_cmp no_tag (joined_row rule x None)) entries-empty))
          | false ↦ sym (ap (λ es. rekeyed one p (map (λ (e : Tag × Cells). (e.0, moved goes e.1)) es)) entries-empty)
        ]
        | false ↦ pairs_moved p x (entries m) ∙ sym (ap (λ es. rekeyed one p (map (λ (e : Tag × Cells). (e.0, moved goes e.1)) es)) (entries-collected tag_cmp (λ _ y. Some (joined_row rule x (Some y))) m ∙ collected_all (λ y. joined_row rule x (Some y)) (entries m)))
      ]
      ∙ sym (ap (rekeyed one p) (entries-collected tag_cmp (λ _ z. Some (moved goes z)) (beside (by_key rule) x m) ∙ collected_all (moved goes) (entries (beside (by_key rule) x m))))

  get_changes : (x : Cells) (m : TaggedRows) (v : Tag) → get (changes_of x m) v ≡ sides goes (get (beside (by_key rule) x m) v) None
  get_changes x m v = get-collected tag_cmp (λ _ z. Some (moved goes z)) tag_same (beside (by_key rule) x m) v ∙ map_all (moved goes) (get (beside (by_key rule) x m) v) ∙ sides_one goes (get (beside (by_key rule) x m) v)

  keys_changes : (x : Cells) (m : TaggedRows) → HasKeys (IsRightTag one) m → HasKeys (IsRightTag one) (changes_of x m)
  keys_changes x m h = record {
    at = λ v. subst (λ f. IfSome f (λ _. IsRightTag one v)) (sym (get-collected tag_cmp (λ _ z. Some (moved goes z)) tag_same (beside (by_key rule) x m) v))
        (still (IsRightTag one v) (get (beside (by_key rule) x m) v) ((HasKeys-beside (by_key rule) (IsRightTag one) (no_right one) x m h).at v));
  }
    where
      still : (A : Type 0) (f : Option Cells) → IfSome f (λ _. A) → IfSome (option_and_then (λ z. Some (moved goes z)) f) (λ _. A)
      still A None h = tt
      still A (Some z) h = h

  module _ (p : Tag) (x : Cells) (m : TaggedRows) (left : IsLeftTag one p) (right : HasKeys (IsRightTag one) m) where
    pub sorted_left : T (is_sorted tag_cmp (left_list rule one keeps goes p x (entries m)))
    sorted_left = subst (λ es. T (is_sorted tag_cmp es)) (sym (left_is p x m))
        (sorted_rekeyed one p (entries (changes_of x m)) left (all_keys (IsRightTag one) (changes_of x m) (keys_changes x m right)) (entries_sorted (changes_of x m)))

    pub find_left : (q : Tag) → find tag_cmp q (left_list rule one keeps goes p x (entries m)) ≡ cond (eq_by_cmp tag_cmp (tag_left one q) p) (sides goes (get (beside (by_key rule) x m) (tag_right one q)) None) None
    find_left q =
        ap (find tag_cmp q) (left_is p x m)
        ∙ find_rekeyed one q p (entries (changes_of x m)) left (all_keys (IsRightTag one) (changes_of x m) (keys_changes x m right))
        ∙ ap (λ c. cond (eq_by_cmp tag_cmp (tag_left one q) p) c None) (sym (get-entries (changes_of x m) (tag_right one q)) ∙ get_changes x m (tag_right one q))

  -- of a right row
  module _ (lone : Bool) (s : Tag) (y : Cells) (after : tag_cmp no_tag s ≡ Less) (right : IsRightTag one s) where
    abbrev two : Cells → List Note
    two x = cond lone ((no_tag, moved (not goes) (joined_row rule x None)) ∷ []) [] ++ (s, moved goes (joined_row rule x (Some y))) ∷ []

    abbrev two_map : Cells → Changes
    two_map x = from_sorted (two x)

    two_sorted : (x : Cells) → T (is_sorted tag_cmp (two x))
    two_sorted x = elim lone as (λ b. T (is_sorted tag_cmp (cond b ((no_tag, moved (not goes) (joined_row rule x None)) ∷ []) [] ++ (s, moved goes (joined_row rule x (Some y))) ∷ []))) [
      | true ↦ subst (λ r. T ((is_lt r && true) && true)) (sym after) tt
      | false ↦ tt
    ]

    right_is : (es : List (Tag × Cells)) → right_list rule one lone goes s y es ≡ spread_list one two_map es
    right_is [] = refl
    right_is (e ∷ es) = (λ i. here i ++ right_is es i)
      where
        here : lone_notes rule one lone (not goes) e.0 e.1 ++ (combine one e.0 s, moved goes (joined_row rule e.1 (Some y))) ∷ [] ≡ rekeyed one e.0 (entries (two_map e.1))
        here =
            elim lone as (λ b. lone_notes rule one b (not goes) e.0 e.1 ++ (combine one e.0 s, moved goes (joined_row rule e.1 (Some y))) ∷ []
            ≡ rekeyed one e.0 (cond b ((no_tag, moved (not goes) (joined_row rule e.1 None)) ∷ []) [] ++ (s, moved goes (joined_row rule e.1 (Some y))) ∷ [])) [ true ↦ refl | false ↦ refl ]
            ∙ sym (ap (rekeyed one e.0) (entries-from_sorted tag_cmp (two e.1) (two_sorted e.1)))

    sorted_two_keys : (x : Cells) → HasKeys (IsRightTag one) (two_map x)
    sorted_two_keys x = record { at = λ v. subst (λ f. IfSome f (λ _. IsRightTag one v)) (sym (get-from_sorted tag_cmp (two x) v (two_sorted x))) (key v) }
      where
        at_s : (v : Tag) → IfSome (find tag_cmp v ((s, moved goes (joined_row rule x (Some y))) ∷ [])) (λ _. IsRightTag one v)
        at_s v = elim (eq_by_cmp tag_cmp v s) as (λ b. eq_by_cmp tag_cmp v s ≡ b → IfSome (cond b (Some (moved goes (joined_row rule x (Some y)))) None) (λ _. IsRightTag one v)) [
          | true ↦ λ b. subst (IsRightTag one) (sym (tied v s b)) right
          | false ↦ λ b. tt
        ] refl

        key : (v : Tag) → IfSome (find tag_cmp v (two x)) (λ _. IsRightTag one v)
        key v = elim lone as (λ l. IfSome (find tag_cmp v (cond l ((no_tag, moved (not goes) (joined_row rule x None)) ∷ []) [] ++ (s, moved goes (joined_row rule x (Some y))) ∷ [])) (λ _. IsRightTag one v)) [
          | true ↦ elim (eq_by_cmp tag_cmp v no_tag) as (λ b. eq_by_cmp tag_cmp v no_tag ≡ b → IfSome (cond b (Some (moved (not goes) (joined_row rule x None))) (find tag_cmp v ((s, moved goes (joined_row rule x (Some y))) ∷ []))) (λ _. IsRightTag one v)) [
            | true ↦ λ b. subst (IsRightTag one) (sym (tied v no_tag b)) (no_right one)
            | false ↦ λ b. at_s v
          ] refl
          | false ↦ at_s v
        ]

    module _ (xs : TaggedRows) (left : HasKeys (IsLeftTag one) xs) where
      pub sorted_right : T (is_sorted tag_cmp (right_list rule one lone goes s y (entries xs)))
      sorted_right = subst (λ es. T (is_sorted tag_cmp es)) (sym (right_is (entries xs))) (sorted_list one two_map sorted_two_keys (entries xs) (all_keys (IsLeftTag one) xs left) (entries_sorted xs))

      pub find_right : (q : Tag) → find tag_cmp q (right_list rule one lone goes s y (entries xs)) ≡ option_and_then (λ x. find tag_cmp (tag_right one q) (two x)) (get xs (tag_left one q))
      find_right q =
          ap (find tag_cmp q) (right_is (entries xs))
          ∙ find_list one two_map sorted_two_keys q (entries xs) (all_keys (IsLeftTag one) xs left) (entries_sorted xs)
          ∙ ap (option_and_then (λ x. get (two_map x) (tag_right one q))) (sym (get-entries xs (tag_left one q)))
          ∙ (λ i. option_and_then (λ x. get-from_sorted tag_cmp (two x) (tag_right one q) (two_sorted x) i) (get xs (tag_left one q)))
