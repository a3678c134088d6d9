-- Names among which others are put: each keeps its place, none stands twice, and what is found under a name that
-- nothing put has is what stood there.
use Rattle.std.proofs.Common.{◌≡◌, ℕ, Bool, true, false, ◌∙◌, cond, List, [], ◌∷◌, ◌++◌, map, filter, refl, ap, sym, subst, append_assoc, append-nil}
use Rattle.std.specs.Prelude.{Option, Some, None, not, unwrap_or, ◌||◌}
use Rattle.std.specs.List.{list_any}
use Rattle.std.specs.Str.{bytes_eq}
use Rattle.std.proofs.lemmas.Slice.Eq.{bytes_eq-Decides}
use Rattle.std.proofs.lemmas.List.Folds.{list_any-append}
use Rattle.std.proofs.lemmas.List.Elements.{filter-append}
use Rattle.df_value.specs.declared.cell.CellType.{CellType}
use Rattle.df_value.specs.Schemas.{doubled_column_after}
use Rattle.df_value.specs.Schemas.{Columns}
use Rattle.df_ops.specs.NamedColumns.{has_column, first_of_name, added_or_own, with_columns}
use Rattle.df_value.specs.Names.{AreDistinct, distinct-head, distinct-cons}
use Rattle.df_value.specs.Choices.{by_test, neither}
use Rattle.df_ops.proofs.Beside.{Beside, has_beside, append_beside, found_or}

-- what is found under a name has it
found_name : {T : Type 0} (name : List ℕ) (xs : List (List ℕ × T)) (d : List ℕ × T) → d.0 ≡ name → (unwrap_or (first_of_name name xs) d).0 ≡ name
found_name name [] d h = h
found_name {T} name (x ∷ xs) d h =
    rw (found_or (bytes_eq x.0 name) x d (first_of_name name xs))
    (by_test (λ (a : List ℕ × T). a.0 ≡ name) (bytes_eq x.0 name) x (unwrap_or (first_of_name name xs) d)
    (λ e. (bytes_eq-Decides x.0 name).0 e) (λ e. found_name name xs d h))

pub replaced_name : {T : Type 0} (added : List (List ℕ × T)) (own : List ℕ × T) → (added_or_own added own).0 ≡ own.0
replaced_name added own = found_name own.0 added own refl

none_at : {A : Type 0} (b c : Bool) (x : A) (o : Option A) → (b || c) ≡ false → (c ≡ false → o ≡ None) → cond b (Some x) o ≡ None
none_at true c x o h k = cc
none_at false c x o h k = k h

none_found : {T : Type 0} (name : List ℕ) (xs : List (List ℕ × T)) → has_column name xs ≡ false → first_of_name name xs ≡ None
none_found name [] h = refl
none_found name (x ∷ xs) h = none_at (bytes_eq x.0 name) (has_column name xs) x (first_of_name name xs) h (none_found name xs)

same_found :
    {A : Type 0} (b b' : Bool) (r o : A) (x y : Option A) → b' ≡ b → (b ≡ true → r ≡ o) → (b ≡ false → x ≡ y) →
    cond b' (Some r) x ≡ cond b (Some o) y
same_found true true r o x y e same rest = ap Some (same refl)
same_found true false r o x y e same rest = cc
same_found false true r o x y e same rest = cc
same_found false false r o x y e same rest = rest refl

pub or_later : (b c : Bool) → (b || c) ≡ true → b ≡ false → c ≡ true
or_later true c h e = cc
or_later false c h e = h

-- nothing put has the name, so what is found under it is what stood there
pub kept_own :
    {T : Type 0} (name : List ℕ) (added own ys : List (List ℕ × T)) → has_column name added ≡ false → has_column name own ≡ true →
    first_of_name name (map (added_or_own added) own ++ ys) ≡ first_of_name name own
kept_own name added [] ys h k = cc
kept_own name added (o ∷ own) ys h k =
    let none = none_found name added h in
    same_found (bytes_eq o.0 name) (bytes_eq (added_or_own added o).0 name) (added_or_own added o) o _ (first_of_name name own)
    (ap (λ n. bytes_eq n name) (replaced_name added o))
    (λ e. ap (λ u. unwrap_or u o) (subst (λ n. first_of_name n added ≡ None) (sym ((bytes_eq-Decides o.0 name).0 e)) none))
    (λ e. kept_own name added own ys h (or_later (bytes_eq o.0 name) (has_column name own) k e))

-- no name stands twice, where the columns seen stand before the list
abbrev Apart : Columns → Columns → Type 0
Apart seen cs = AreDistinct (λ c. c.0) seen cs

head_apart : (seen : Columns) (c : List ℕ × CellType) (cs : Columns) → Apart seen (c ∷ cs) → (has_column c.0 seen ≡ false) × Apart (seen ++ c ∷ []) cs
head_apart seen c cs h = distinct-head (λ c. c.0) seen c cs h

cons_apart : (seen : Columns) (c : List ℕ × CellType) (cs : Columns) → has_column c.0 seen ≡ false → Apart (seen ++ c ∷ []) cs → Apart seen (c ∷ cs)
cons_apart seen c cs e h = distinct-cons (λ c. c.0) seen c cs e h

abbrev OneName : List ℕ × CellType → List ℕ × CellType → Type 0
OneName c d = c.0 ≡ d.0

-- only the names count
apart_beside : (seen seen' cs cs' : Columns) → Beside OneName seen seen' → Beside OneName cs cs' → Apart seen cs → Apart seen' cs'
apart_beside seen seen' [] [] h k a = refl
apart_beside seen seen' [] (d ∷ ds) h k a = absurd k
apart_beside seen seen' (c ∷ cs) [] h k a = absurd k
apart_beside seen seen' (c ∷ cs) (d ∷ ds) h k a =
    let here = head_apart seen c cs a in
    let same : has_column c.0 seen ≡ has_column d.0 seen' = has_beside OneName (λ x y e. e) c.0 seen seen' h ∙ ap (λ n. has_column n seen') k.0 in
    cons_apart seen' d ds (sym same ∙ here.0)
    (apart_beside (seen ++ c ∷ []) (seen' ++ d ∷ []) cs ds (append_beside OneName seen seen' (c ∷ []) (d ∷ []) h (k.0, tt)) k.1 here.1)

replaced_names : (added own : Columns) → Beside OneName own (map (added_or_own added) own)
replaced_names added [] = tt
replaced_names added (o ∷ own) = (sym (replaced_name added o), replaced_names added own)

same_names : (cs : Columns) → Beside OneName cs cs
same_names [] = tt
same_names (c ∷ cs) = (refl, same_names cs)

append_apart : (seen xs ys : Columns) → Apart seen xs → Apart (seen ++ xs) ys → Apart seen (xs ++ ys)
append_apart seen [] ys h k = subst (λ (s : Columns). Apart s ys) (append-nil seen) k
append_apart seen (x ∷ xs) ys h k =
    let here = head_apart seen x xs h in
    let joined : (seen ++ x ∷ []) ++ xs ≡ seen ++ x ∷ xs = simp append_assoc in
    cons_apart seen x (xs ++ ys) here.0
    (append_apart (seen ++ x ∷ []) xs ys here.1 (subst (λ (s : Columns). Apart s ys) (sym joined) k))

both_false : (a b : Bool) → a ≡ false → b ≡ false → (a || b) ≡ false
both_false true b h k = cc
both_false false b h k = k

none_kept : {T : Type 0} (p q : T → Bool) (xs : List T) → list_any p xs ≡ false → list_any p (filter q xs) ≡ false
none_kept p q [] h = refl
none_kept {T} p q (x ∷ xs) h =
    let parts = neither (p x) (list_any p xs) h in
    by_test (λ (l : List T). list_any p l ≡ false) (q x) (x ∷ filter q xs) (filter q xs)
    (λ e. both_false (p x) (list_any p (filter q xs)) parts.0 (none_kept p q xs parts.1)) (λ e. none_kept p q xs parts.1)

is_new : (b : Bool) → not b ≡ true → b ≡ false
is_new true h = cc
is_new false h = refl

-- those of new names, after one's own
new_apart :
    (own seen added : Columns) → Apart seen added →
    Apart (own ++ filter (λ a. not (has_column a.0 own)) seen) (filter (λ a. not (has_column a.0 own)) added)
new_apart own seen [] h = refl
new_apart own seen (a ∷ as') h =
    let is : List ℕ × CellType → Bool = λ a. not (has_column a.0 own) in
    let here = head_apart seen a as' h in
    let rest = new_apart own (seen ++ a ∷ []) as' here.1 in
    let split : filter is (seen ++ a ∷ []) ≡ filter is seen ++ cond (is a) (a ∷ []) [] = filter-append is seen (a ∷ []) in
    by_test (λ (l : Columns). Apart (own ++ filter is seen) l) (is a) (a ∷ filter is as') (filter is as')
    (λ e. let taken : filter is (seen ++ a ∷ []) ≡ filter is seen ++ a ∷ [] = split ∙ ap (λ b. filter is seen ++ cond b (a ∷ []) []) e in
    let joined : own ++ (filter is seen ++ a ∷ []) ≡ (own ++ filter is seen) ++ a ∷ [] = sym (append_assoc own (filter is seen) (a ∷ [])) in
    let none : has_column a.0 (own ++ filter is seen) ≡ false =
    list_any-append (λ x. bytes_eq x.0 a.0) own (filter is seen)
    ∙ both_false (has_column a.0 own) (has_column a.0 (filter is seen)) (is_new (has_column a.0 own) e) (none_kept (λ x. bytes_eq x.0 a.0) is seen here.0) in
    cons_apart (own ++ filter is seen) a (filter is as') none
    (subst (λ (s : Columns). Apart s (filter is as')) (ap (λ s. own ++ s) taken ∙ joined) rest))
    (λ e. let passed : filter is (seen ++ a ∷ []) ≡ filter is seen = split ∙ (ap (λ b. filter is seen ++ cond b (a ∷ []) []) e ∙ append-nil (filter is seen)) in
    subst (λ (s : Columns). Apart (own ++ s) (filter is as')) passed rest)

-- where no two columns have one name, and no two of those that are put, no two of the result have one
pub with_columns-distinct : (own added : Columns) → doubled_column_after [] own ≡ None → doubled_column_after [] added ≡ None → doubled_column_after [] (with_columns own added) ≡ None
unfolding with_columns
with_columns-distinct own added h k =
    let new = filter (λ a. not (has_column a.0 own)) added in
    let nil : own ++ [] ≡ own = append-nil own in
    let after : Apart own new = subst (λ (s : Columns). Apart s new) nil (new_apart own [] added k) in
    apart_beside [] [] (own ++ new) (with_columns own added) tt
    (append_beside OneName own (map (added_or_own added) own) new new (replaced_names added own) (same_names new))
    (append_apart [] own new h after)
