-- What stands in a join, and its rows in order.
use Rattle.std.proofs.Common.{◌≡◌, Bool, true, false, cond, List, [], ◌∷◌, ◌++◌, map, length, Option, Some, None, refl, sym, ap, subst, ◌∙◌}
use Rattle.std.specs.Prelude.{◌==◌}
use Rattle.std.specs.List.{flat_map, filter, filter_map, cons_option}
use Rattle.std.specs.Option.{IfSome, option_and_then, option_map}
use Rattle.std.specs.Ordering.{eq_by_cmp}
use Rattle.std.proofs.lemmas.Bool.{eqb-true}
use Rattle.std.proofs.lemmas.List.{map-append, nil_from_length}
use Rattle.std.specs.FinMap.{FinMap, get, entries, empty, insert, put, len, get-empty, get-insert, entries-insert, len-entries, len-empty, empty_of_len}
use Rattle.df_column.specs.declared.tag.Tag.{Tag}
use Rattle.df_column.specs.Tags.{tag_cmp}
use Rattle.df_delta.specs.Collected.{collected, kept}
use Rattle.df_join.specs.Joined.{rows_of}
use Rattle.df_column.specs.TagOrder.{tag_total, tag_same}
use Rattle.df_delta.proofs.Collected.{get-collected, values-collected}
use Rattle.df_join.specs.Spread.{IsLeftTag, IsRightTag, no_tag, tag_left, tag_right, HasKeys, rekeyed, spread_list}
use Rattle.df_join.specs.Joined.{matches, Join, right_rows, alone, beside, joined, or_alone, join}
use Rattle.df_join.proofs.Tags.{no_right}
use Rattle.df_join.proofs.Spread.{tied, entries-spread, get-spread}

map_by_all : {A B : Type 0} (f : A → B) (m : Option A) → option_and_then (λ y. Some (f y)) m ≡ option_map f m
map_by_all f None = refl
map_by_all f (Some y) = refl

filter_map_by_test : {A : Type 0} (p : A → Bool) (xs : List A) → filter_map (λ x. cond (p x) (Some x) None) xs ≡ filter p xs
filter_map_by_test p [] = refl
filter_map_by_test p (x ∷ xs) = elim (p x) as (λ b. cons_option (cond b (Some x) None) (filter_map (λ x. cond (p x) (Some x) None) xs) ≡ cond b (x ∷ filter p xs) (filter p xs)) [ true ↦ ap (λ ys. x ∷ ys) (filter_map_by_test p xs) | false ↦ filter_map_by_test p xs ]

filter_map_all : {A B : Type 0} (f : A → B) (xs : List A) → filter_map (λ x. Some (f x)) xs ≡ map f xs
filter_map_all f [] = refl
filter_map_all f (x ∷ xs) = ap (λ ys. f x ∷ ys) (filter_map_all f xs)

pub entries-empty : {X : Type 0} → entries (empty {X = X} {R = tag_cmp}) ≡ []
entries-empty {X} = nil_from_length (entries empty) (sym (len-entries empty) ∙ len-empty tag_cmp X)

pub get-kept : {X : Type 0} (p : X → Bool) (t : FinMap tag_cmp X) (q : Tag) → get (kept p t) q ≡ option_and_then (λ x. cond (p x) (Some x) None) (get t q)
get-kept p t q = get-collected tag_cmp (λ _ x. cond (p x) (Some x) None) tag_same t q

pub rows_of-kept : {X : Type 0} (p : X → Bool) (t : FinMap tag_cmp X) → rows_of (kept p t) ≡ filter p (rows_of t)
rows_of-kept p t = values-collected (λ x. cond (p x) (Some x) None) t ∙ filter_map_by_test p (rows_of t)

pub HasKeys-kept : {X : Type 0} (P : Tag → Type 0) (p : X → Bool) (t : FinMap tag_cmp X) → HasKeys P t → HasKeys P (kept p t)
HasKeys-kept {X = X} P p t h = record { at = λ q. subst (λ f. IfSome f (λ _. P q)) (sym (get-kept p t q)) (one (get t q) q (h.at q)) }
  where
    one : (f : Option X) (q : Tag) → IfSome f (λ _. P q) → IfSome (option_and_then (λ x. cond (p x) (Some x) None) f) (λ _. P q)
    one None q h = tt
    one (Some x) q h = elim (p x) as (λ b. IfSome (cond b (Some x) None) (λ _. P q)) [ true ↦ h | false ↦ tt ]

-- the rows of a table of pairs
rows_of-rekeyed : {Y : Type 0} (one : Bool) (p : Tag) (es : List (Tag × Y)) → map (λ e. e.1) (rekeyed one p es) ≡ map (λ e. e.1) es
rows_of-rekeyed one p [] = refl
rows_of-rekeyed one p (e ∷ es) = ap (λ ys. e.1 ∷ ys) (rows_of-rekeyed one p es)

rows_of-spread_list : {X Y : Type 0} (one : Bool) (g : X → FinMap tag_cmp Y) (es : List (Tag × X)) → map (λ e. e.1) (spread_list one g es) ≡ flat_map (λ x. rows_of (g x)) (map (λ e. e.1) es)
rows_of-spread_list one g [] = refl
rows_of-spread_list one g (e ∷ es) =
    map-append (λ e. e.1) (rekeyed one e.0 (entries (g e.1))) (spread_list one g es)
    ∙ (λ i. rows_of-rekeyed one e.0 (entries (g e.1)) i ++ rows_of-spread_list one g es i)

flat_map_same : {A B : Type 0} (f g : A → List B) → ((x : A) → f x ≡ g x) → (xs : List A) → flat_map f xs ≡ flat_map g xs
flat_map_same f g e xs = λ i. flat_map (λ x. e x i) xs

module _ {X Y Z G : Type 0} (j : Join X Y Z G) where
  pub get-alone : (x : X) (v : Tag) → get (alone j x) v ≡ cond (eq_by_cmp tag_cmp v no_tag) (cond j.keeps_left (Some (j.row x None)) None) None
  get-alone x v = elim j.keeps_left as (λ b. get {R = tag_cmp} (cond b (insert empty no_tag (j.row x None)) empty) v ≡ cond (eq_by_cmp tag_cmp v no_tag) (cond b (Some (j.row x None)) None) None) [
    | true ↦ get-insert tag_total empty no_tag (j.row x None) v ∙ ap (cond (eq_by_cmp tag_cmp v no_tag) (Some (j.row x None))) (get-empty tag_cmp v)
    | false ↦ get-empty tag_cmp v ∙ elim (eq_by_cmp tag_cmp v no_tag) as (λ b. ◌≡◌ {A = Option Z} None (cond b None None)) [ true ↦ refl | false ↦ refl ]
  ]

  get_pairs : (x : X) (m : FinMap tag_cmp Y) (v : Tag) → get (collected {R = tag_cmp} (λ _ y. Some (j.row x (Some y))) m) v ≡ option_map (λ y. j.row x (Some y)) (get m v)
  get_pairs x m v = get-collected tag_cmp (λ _ y. Some (j.row x (Some y))) tag_same m v ∙ map_by_all (λ y. j.row x (Some y)) (get m v)

  pub get-beside : (x : X) (m : FinMap tag_cmp Y) (v : Tag) → get (beside j x m) v ≡ cond (len m == 0) (get (alone j x) v) (option_map (λ y. j.row x (Some y)) (get m v))
  get-beside x m v = elim (len m == 0) as (λ b. get {R = tag_cmp} (cond b (alone j x) (collected (λ _ y. Some (j.row x (Some y))) m)) v ≡ cond b (get (alone j x) v) (option_map (λ y. j.row x (Some y)) (get m v))) [
    | true ↦ refl
    | false ↦ get_pairs x m v
  ]

  -- at the tag of a right row: its pair
  pub beside_pair : (x : X) (m : FinMap tag_cmp Y) (v : Tag) → eq_by_cmp tag_cmp v no_tag ≡ false → get (beside j x m) v ≡ option_map (λ y. j.row x (Some y)) (get m v)
  beside_pair x m v other = get-beside x m v ∙ elim (len m == 0) as (λ b. (len m == 0) ≡ b → cond b (get (alone j x) v) (option_map (λ y. j.row x (Some y)) (get m v)) ≡ option_map (λ y. j.row x (Some y)) (get m v)) [
    | true ↦ λ b.
        get-alone x v ∙ ap (λ c. cond c (cond j.keeps_left (Some (j.row x None)) None) None) other
        ∙ sym (ap (λ m. option_map (λ y. j.row x (Some y)) (get m v)) (empty_of_len m (eqb-true (len m) 0 b)) ∙ ap (option_map (λ y. j.row x (Some y))) (get-empty tag_cmp v))
    | false ↦ λ b. refl
  ] refl

  module _ (P : Tag → Type 0) (base : P no_tag) where
    HasKeys-alone : (x : X) → HasKeys P (alone j x)
    HasKeys-alone x = record {
      at = λ v. subst (λ f. IfSome f (λ _. P v)) (sym (get-alone x v))
          (elim (eq_by_cmp tag_cmp v no_tag) as (λ b. eq_by_cmp tag_cmp v no_tag ≡ b → IfSome (cond b (cond j.keeps_left (Some (j.row x None)) None) None) (λ _. P v)) [
            | true ↦ λ b. elim j.keeps_left as (λ c. IfSome (cond c (Some (j.row x None)) None) (λ _. P v)) [ true ↦ subst P (sym (tied v no_tag b)) base | false ↦ tt ]
            | false ↦ λ b. tt
          ] refl);
    }

    HasKeys-pairs : (x : X) (m : FinMap tag_cmp Y) → HasKeys P m → HasKeys P (collected {R = tag_cmp} (λ _ y. Some (j.row x (Some y))) m)
    HasKeys-pairs x m h = record { at = λ v. subst (λ f. IfSome f (λ _. P v)) (sym (get_pairs x m v)) (mapped (P v) (get m v) (h.at v)) }
      where
        mapped : (A : Type 0) (f : Option Y) → IfSome f (λ _. A) → IfSome (option_map (λ y. j.row x (Some y)) f) (λ _. A)
        mapped A None h = tt
        mapped A (Some y) h = h

    pub HasKeys-beside : (x : X) (m : FinMap tag_cmp Y) → HasKeys P m → HasKeys P (beside j x m)
    HasKeys-beside x m h = elim (len m == 0) as (λ b. HasKeys P (cond b (alone j x) (collected (λ _ y. Some (j.row x (Some y))) m))) [
      | true ↦ HasKeys-alone x
      | false ↦ HasKeys-pairs x m h
    ]

    pub HasKeys-matches : (r : FinMap tag_cmp Y) → HasKeys P r → (x : X) → HasKeys P (beside j x (right_rows j (j.left_key x) r))
    HasKeys-matches r h x = HasKeys-beside x (right_rows j (j.left_key x) r) (HasKeys-kept P (λ y. matches j.same_key (j.left_key x) (j.right_key y)) r h)

  module _ (one : Bool) where
    module _ (l : FinMap tag_cmp X) (r : FinMap tag_cmp Y) (left : HasKeys (IsLeftTag one) l) (right : HasKeys (IsRightTag one) r) where
      pub get-joined : (q : Tag) → get (joined j one l r) q ≡ option_and_then (λ x. get (beside j x (right_rows j (j.left_key x) r)) (tag_right one q)) (get l (tag_left one q))
      get-joined q = get-spread one (λ x. beside j x (right_rows j (j.left_key x) r)) (HasKeys-matches (IsRightTag one) (no_right one) r right) l left q

      -- the rows in the order of their tags are the join of the rows
      pub rows_of-joined : rows_of (joined j one l r) ≡ join j (rows_of l) (rows_of r)
      rows_of-joined =
          ap (map (λ e. e.1)) (entries-spread one (λ x. beside j x (right_rows j (j.left_key x) r)) (HasKeys-matches (IsRightTag one) (no_right one) r right) l left)
          ∙ rows_of-spread_list one (λ x. beside j x (right_rows j (j.left_key x) r)) (entries l)
          ∙ flat_map_same (λ x. rows_of (beside j x (right_rows j (j.left_key x) r))) (λ x. or_alone j x (map (λ y. j.row x (Some y)) (filter (λ y. matches j.same_key (j.left_key x) (j.right_key y)) (rows_of r))))
          (λ x. rows_of-beside x (right_rows j (j.left_key x) r) ∙ ap (λ ys. or_alone j x (map (λ y. j.row x (Some y)) ys)) (rows_of-kept (λ y. matches j.same_key (j.left_key x) (j.right_key y)) r))
          (rows_of l)
        where
          rows_of-alone : (x : X) → rows_of (alone j x) ≡ or_alone j x []
          rows_of-alone x = elim j.keeps_left as (λ b. rows_of {R = tag_cmp} (cond b (insert empty no_tag (j.row x None)) empty) ≡ cond b (j.row x None ∷ []) []) [
            | true ↦ ap (map (λ e. e.1)) (entries-insert tag_total empty no_tag (j.row x None)) ∙ ap (λ es. map (λ e. e.1) (put tag_cmp no_tag (j.row x None) es)) entries-empty
            | false ↦ ap (map (λ e. e.1)) entries-empty
          ]

          non_nil : (x : X) (es : List (Tag × Y)) → (length es == 0) ≡ false → map (λ y. j.row x (Some y)) (map (λ e. e.1) es) ≡ or_alone j x (map (λ y. j.row x (Some y)) (map (λ e. e.1) es))
          non_nil x [] e = cc e
          non_nil x (f ∷ es) e = refl

          rows_of-beside : (x : X) (m : FinMap tag_cmp Y) → rows_of (beside j x m) ≡ or_alone j x (map (λ y. j.row x (Some y)) (rows_of m))
          rows_of-beside x m = elim (len m == 0) as (λ b. (len m == 0) ≡ b → rows_of {R = tag_cmp} (cond b (alone j x) (collected (λ _ y. Some (j.row x (Some y))) m)) ≡ or_alone j x (map (λ y. j.row x (Some y)) (rows_of m))) [
            | true ↦ λ b. rows_of-alone x ∙ sym (ap (λ m. or_alone j x (map (λ y. j.row x (Some y)) (rows_of m))) (empty_of_len m (eqb-true (len m) 0 b)) ∙ ap (λ es. or_alone j x (map (λ y. j.row x (Some y)) (map (λ e. e.1) es))) entries-empty)
            | false ↦ λ b. values-collected (λ y. Some (j.row x (Some y))) m ∙ filter_map_all (λ y. j.row x (Some y)) (rows_of m) ∙ non_nil x (entries m) (subst (λ n. (n == 0) ≡ false) (len-entries m) b)
          ] refl
