-- The rows of a join whose columns have no name twice fit those columns.
use Rattle.std.proofs.Common.{◌≡◌, ℕ, ◌∙◌, Bool, true, false, cond, List, [], ◌∷◌, ◌++◌, map, filter, refl, ap, sym, subst, append_assoc, append-nil}
use Rattle.std.specs.Prelude.{IsTrue, Option, Some, None, ◌||◌, not, codes, option_map}
use Rattle.std.specs.List.{list_any, list_all, flat_map, AllByRecursion}
use Rattle.std.specs.Str.{bytes_eq}
use Rattle.std.proofs.lemmas.Slice.Eq.{bytes_eq-Decides}
use Rattle.std.proofs.lemmas.List.Folds.{list_any-append, list_all-append}
use Rattle.df_value.specs.declared.cell.Cell.{Cell}
use Rattle.df_value.specs.declared.cell.Cell.TheVariants as cell
use Rattle.df_value.specs.declared.cell.CellType.{CellType}
use Rattle.df_value.specs.declared.cell.CellType.TheVariants as dtype
use Rattle.df_value.specs.Cells.{fits_dtype}
use Rattle.df_value.specs.Rows.{row_fits, rows_fit, cell_at}
use Rattle.df_value.specs.Schemas.{doubled_column_after, column_index}
use Rattle.df_ops.specs.Groups.{key_of}
use Rattle.df_value.specs.Schemas.{Columns}
use Rattle.df_ops.specs.Joins.{is_key, columns_without_keys, right_column, columns_of_join, join_row, join_rows, keys_match, matches_of, nulls_for, left_beside, join_indices_of}
use Rattle.df_ops.specs.NamedColumns.{column_indices}
use Rattle.df_ops.specs.NamedColumns.{has_column, first_of_name}
use Rattle.df_ops.specs.declared.joins.How.{How}
use Rattle.df_ops.specs.declared.joins.How.TheVariants as how
use Rattle.df_plan.proofs.ColumnsFit.{column_fits, fits_both}
use Rattle.df_value.specs.Names.{AreDistinct, distinct-head}
use Rattle.df_value.specs.Choices.{by_test, neither}
use Rattle.df_plan.proofs.RowWiseSound.{first_of_two, second_of_two, both_true, map_all, filter_all}

abbrev Rows : Type 0
Rows = List (List Cell)

abbrev Col : Type 0
Col = List ℕ × CellType

suffixed_or : (b : Bool) (n : List ℕ) (t u : CellType) → (cond {A = Col} b (n ++ codes "_right", t) (n, t)).0 ≡ (cond {A = Col} b (n ++ codes "_right", u) (n, u)).0
suffixed_or true n t u = refl
suffixed_or false n t u = refl

-- a suffix is put by the name alone
beside_name : (left : Columns) (c d : Col) → c.0 ≡ d.0 → (right_column left c).0 ≡ (right_column left d).0
beside_name left c d e =
    ap (λ (n : List ℕ). (cond {A = Col} (has_column n left) (n ++ codes "_right", c.1) (n, c.1)).0) e
    ∙ suffixed_or (has_column d.0 left) d.0 c.1 d.1

dtype_or : (b : Bool) (n : List ℕ) (c : Col) → (cond {A = Col} b (n, c.1) c).1 ≡ c.1
dtype_or true n c = refl
dtype_or false n c = refl

beside_dtype : (left : Columns) (c : Col) → (right_column left c).1 ≡ c.1
beside_dtype left c = dtype_or (has_column c.0 left) (c.0 ++ codes "_right") c

-- no name stands twice, where the columns seen stand before the list
abbrev Apart : Columns → Columns → Type 0
Apart seen cs = AreDistinct (λ c. c.0) seen cs

head_apart : (seen : Columns) (c : Col) (cs : Columns) → Apart seen (c ∷ cs) → (has_column c.0 seen ≡ false) × Apart (seen ++ c ∷ []) cs
head_apart seen c cs h = distinct-head (λ c. c.0) seen c cs h

-- a name that none of those seen has is not this column's
abbrev Sees : Columns → Col → Type 0
Sees seen x = (name : List ℕ) → has_column name seen ≡ false → bytes_eq x.0 name ≡ false

sees_last : (seen : Columns) (x : Col) → Sees (seen ++ x ∷ []) x
sees_last seen x name h =
    let parts = neither (has_column name seen) (bytes_eq x.0 name || false) (sym (list_any-append (λ c. bytes_eq c.0 name) seen (x ∷ [])) ∙ h) in
    (neither (bytes_eq x.0 name) false parts.1).0

sees_more : (seen : Columns) (x y : Col) → Sees seen x → Sees (seen ++ y ∷ []) x
sees_more seen x y sees name h =
    sees name (neither (has_column name seen) (bytes_eq y.0 name || false) (sym (list_any-append (λ c. bytes_eq c.0 name) seen (y ∷ [])) ∙ h)).0

-- one that was seen has no name of a later one
unlike :
    (left : Columns) (x : Col) (seen os : Columns) → Sees seen x → Apart seen (map (right_column left) os) →
    AllByRecursion (λ (o : Col). bytes_eq x.0 (right_column left o).0 ≡ false) os
unlike left x seen [] sees h = tt
unlike left x seen (o ∷ os) sees h =
    let here = head_apart seen (right_column left o) (map (right_column left) os) h in
    (sees (right_column left o).0 here.0, unlike left x (seen ++ right_column left o ∷ []) os (sees_more seen x (right_column left o) sees) here.1)

both_each : {X : Type 0} (P Q R : X → Type 0) → ((x : X) → P x → Q x → R x) → (xs : List X) → AllByRecursion P xs → AllByRecursion Q xs → AllByRecursion R xs
both_each P Q R f [] h k = tt
both_each P Q R f (x ∷ xs) h k = (f x h.0 k.0, both_each P Q R f xs h.1 k.1)

passed : {X : Type 0} (p : X → Bool) (xs : List X) → AllByRecursion (λ x. p x ≡ true) (filter p xs)
passed p [] = tt
passed {X} p (x ∷ xs) =
    by_test (λ (l : List X). AllByRecursion (λ y. p y ≡ true) l) (p x) (x ∷ filter p xs) (filter p xs)
    (λ e. (e, passed p xs)) (λ e. passed p xs)

found_later : (b : Bool) (d c : Col) (o : Option Col) → (b ≡ true → ⊥) → o ≡ Some c → cond b (Some d) o ≡ Some c
found_later true d c o unlike h = absurd (unlike refl)
found_later false d c o unlike h = h

found_first : (b : Bool) (d : Col) (o : Option Col) → b ≡ true → cond b (Some d) o ≡ Some d
found_first true d o e = refl
found_first false d o e = cc

-- a column is the one that is found under its name
abbrev IsFound : Columns → Col → Type 0
IsFound right c = first_of_name c.0 right ≡ Some c

unlike_names : (left : Columns) (d o : Col) → bytes_eq (right_column left d).0 (right_column left o).0 ≡ false → bytes_eq d.0 o.0 ≡ true → ⊥
unlike_names left d o h e =
    let same = beside_name left d o ((bytes_eq-Decides d.0 o.0).0 e) in
    let test : bytes_eq (right_column left d).0 (right_column left o).0 ≡ true = (bytes_eq-Decides (right_column left d).0 (right_column left o).0).1 same in
    cc

unlike_keys : (keys : List (List ℕ)) (d o : Col) → not (is_key keys d) ≡ false → not (is_key keys o) ≡ true → bytes_eq d.0 o.0 ≡ true → ⊥
unlike_keys keys d o h k e =
    let same : not (is_key keys d) ≡ not (is_key keys o) =
    ap (λ (n : List ℕ). not (list_any (λ key. bytes_eq key n) keys)) ((bytes_eq-Decides d.0 o.0).0 e) in
    cc

-- where no name of the result stands twice, each right column that is no key is found under its name
each_found :
    (left : Columns) (keys : List (List ℕ)) (seen right : Columns) → Apart seen (map (right_column left) (columns_without_keys keys right)) →
    AllByRecursion (IsFound right) (columns_without_keys keys right)
each_found left keys seen [] h = tt
each_found left keys seen (d ∷ ds) h =
    let os = columns_without_keys keys ds in
    by_test (λ (l : Columns). Apart seen (map (right_column left) l) → AllByRecursion (IsFound (d ∷ ds)) l) (not (is_key keys d)) (d ∷ os) os
    (λ e a. let x = right_column left d in
    let here = head_apart seen x (map (right_column left) os) a in (
      found_first (bytes_eq d.0 d.0) d (first_of_name d.0 ds) ((bytes_eq-Decides d.0 d.0).1 refl),
      both_each (IsFound ds) (λ (o : Col). bytes_eq x.0 (right_column left o).0 ≡ false) (IsFound (d ∷ ds))
          (λ o f u. found_later (bytes_eq d.0 o.0) d o (first_of_name o.0 ds) (unlike_names left d o u) f) os
          (each_found left keys (seen ++ x ∷ []) ds here.1) (unlike left x (seen ++ x ∷ []) os (sees_last seen x) here.1),
    ))
    (λ e a. both_each (IsFound ds) (λ (o : Col). not (is_key keys o) ≡ true) (IsFound (d ∷ ds))
    (λ o f u. found_later (bytes_eq d.0 o.0) d o (first_of_name o.0 ds) (unlike_keys keys d o e u) f) os
    (each_found left keys seen ds a) (passed (λ c. not (is_key keys c)) ds))
    h

-- the cells of a right row at the indices of these columns fit them, also under their names in the result
rest_fits :
    (left right : Columns) (row : List Cell) → IsTrue (row_fits right row) → (os : Columns) → AllByRecursion (IsFound right) os →
    IsTrue (row_fits (map (right_column left) os) (key_of (column_indices right (map (λ c. c.0) os)) row))
rest_fits left right row fits [] h = refl
rest_fits left right row fits (o ∷ os) h =
    both_true (fits_dtype (right_column left o).1 (cell_at (column_index o.0 right) row)) _
    (subst (λ (t : CellType). IsTrue (fits_dtype t (cell_at (column_index o.0 right) row))) (sym (beside_dtype left o))
    (column_fits right row fits o.0 o.1 (ap (option_map (λ (c : Col). c.1)) h.0)))
    (rest_fits left right row fits os h.1)

null_fits : (t : CellType) → IsTrue (fits_dtype t cell.Null)
null_fits dtype.Int = refl
null_fits dtype.Wide = refl
null_fits dtype.Text = refl
null_fits dtype.Bool = refl
null_fits dtype.Frac = refl

nulls_fit : (left right os : Columns) → IsTrue (row_fits (map (right_column left) os) (nulls_for (column_indices right (map (λ c. c.0) os))))
nulls_fit left right [] = refl
nulls_fit left right (o ∷ os) = both_true (fits_dtype (right_column left o).1 cell.Null) _ (null_fits (right_column left o).1) (nulls_fit left right os)

put_fit :
    (h : How) (ls os : Columns) (l nulls : List Cell) (rs : Rows) → IsTrue (row_fits ls l) → IsTrue (row_fits os nulls) →
    IsTrue (list_all (row_fits os) rs) → IsTrue (list_all (row_fits (ls ++ os)) (left_beside h l nulls rs))
put_fit how.Inner ls os l nulls [] a b k = refl
put_fit how.Left ls os l nulls [] a b k = both_true (row_fits (ls ++ os) (l ++ nulls)) true (fits_both ls os l nulls a b) refl
put_fit how.Inner ls os l nulls (r ∷ rs) a b k =
    map_all (row_fits os) (row_fits (ls ++ os)) (λ q. l ++ q) (λ q h. fits_both ls os l q a h) (r ∷ rs) k
put_fit how.Left ls os l nulls (r ∷ rs) a b k =
    map_all (row_fits os) (row_fits (ls ++ os)) (λ q. l ++ q) (λ q h. fits_both ls os l q a h) (r ∷ rs) k

flat_map_all :
    (p q : List Cell → Bool) (f : List Cell → Rows) → ((r : List Cell) → IsTrue (p r) → IsTrue (list_all q (f r))) →
    (rs : Rows) → IsTrue (list_all p rs) → IsTrue (list_all q (flat_map f rs))
flat_map_all p q f keeps [] h = refl
flat_map_all p q f keeps (r ∷ rs) h =
    list_all-append q (f r) (flat_map f rs)
    ∙ both_true (list_all q (f r)) (list_all q (flat_map f rs)) (keeps r (first_of_two (p r) (list_all p rs) h))
    (flat_map_all p q f keeps rs (second_of_two (p r) (list_all p rs) h))

after_apart : (seen xs ys : Columns) → Apart seen (xs ++ ys) → Apart (seen ++ xs) ys
after_apart seen [] ys h = subst (λ (s : Columns). Apart s ys) (sym (append-nil seen)) h
after_apart seen (x ∷ xs) ys h =
    let joined : (seen ++ x ∷ []) ++ xs ≡ seen ++ x ∷ xs = append_assoc seen (x ∷ []) xs in
    subst (λ (s : Columns). Apart s ys) joined (after_apart (seen ++ x ∷ []) xs ys (head_apart seen x (xs ++ ys) h).1)

pub joined_fits :
    (h : How) (ls rs : Columns) (keys : List (List ℕ)) (nulls_equal : Bool) (lefts rights : Rows) → doubled_column_after [] (columns_of_join ls rs keys) ≡ None →
    IsTrue (rows_fit ls lefts) → IsTrue (rows_fit rs rights) →
    IsTrue (rows_fit (columns_of_join ls rs keys) (join_rows h (join_indices_of ls rs keys nulls_equal) lefts rights))
unfolding join_row
joined_fits h ls rs keys nulls_equal lefts rights apart left_fit right_fit =
    let os = columns_without_keys keys rs in
    let columns = map (right_column ls) os in
    let s = join_indices_of ls rs keys nulls_equal in
    let found = each_found ls keys ls rs (after_apart [] ls columns apart) in
    flat_map_all (row_fits ls) (row_fits (ls ++ columns)) (join_row h s rights)
    (λ l fits. put_fit h ls columns l (nulls_for s.rest) (map (key_of s.rest) (matches_of s.nulls_equal s.right (key_of s.left l) rights)) fits (nulls_fit ls rs os)
    (map_all (row_fits rs) (row_fits columns) (key_of s.rest) (λ r k. rest_fits ls rs r k os found) (matches_of s.nulls_equal s.right (key_of s.left l) rights)
    (filter_all (row_fits rs) (λ r. keys_match s.nulls_equal (key_of s.left l) (key_of s.right r)) rights right_fit)))
    lefts left_fit
