-- The distinct keys of rows: none stands twice, and the key of each row is among them.
use Rattle.std.proofs.Common.{◌≡◌, ◌≢◌, ℕ, ◌<◌, Bool, true, false, zero, suc, ◌||◌, ◌∙◌, List, [], ◌∷◌, ◌++◌, length, get_or, map, refl, ap, sym, subst, arith, All, AllPairs, Contains, Option}
use Rattle.std.specs.List.{list_any, IsDistinct}
use Rattle.std.proofs.lemmas.List.Folds.{list_any-append, Any-from_list_any}
use Rattle.std.proofs.lemmas.Map.Keys.{IsDistinct-push, IsDistinct-from_apart}
use Rattle.std.proofs.lemmas.Map.Made.{AllPairs-from_IsDistinct}
use Rattle.df_value.specs.Rows.{row_eq}
use Rattle.df_value.specs.declared.cell.Cell.{Cell}
use Rattle.df_value.specs.RowEq.{row_eq-Decides, row_eq-equivalence}
use Rattle.df_ops.specs.Groups.{distinct_after, keys_of, key_of}
use Rattle.df_value.specs.Choices.{either, by_test}

or_true : (a : Bool) → (a || true) ≡ true
or_true true = refl
or_true false = refl

-- a row that is among those seen stays
any_before : (x : List Cell) (xs ys : List (List Cell)) → list_any (row_eq x) xs ≡ true → list_any (row_eq x) (xs ++ ys) ≡ true
any_before x xs ys h = list_any-append (row_eq x) xs ys ∙ ap (λ b. b || list_any (row_eq x) ys) h

any_last : (x : List Cell) (xs : List (List Cell)) → list_any (row_eq x) (xs ++ x ∷ []) ≡ true
any_last x xs =
    let same : row_eq x x ≡ true = (row_eq-Decides x x).1 refl in
    list_any-append (row_eq x) xs (x ∷ []) ∙ (ap (λ b. list_any (row_eq x) xs || (b || false)) same ∙ or_true (list_any (row_eq x) xs))

keeps : (x : List Cell) (seen rs : List (List Cell)) → list_any (row_eq x) seen ≡ true → list_any (row_eq x) (distinct_after seen rs) ≡ true
keeps x seen [] h = h
keeps x seen (r ∷ rs) h =
    either (λ ks. list_any (row_eq x) ks ≡ true) (list_any (row_eq r) seen) _ _
    (keeps x seen rs h) (keeps x (seen ++ r ∷ []) rs (any_before x seen (r ∷ []) h))

-- what f gives of each row is among the distinct ones
pub found_after :
    (f : List Cell → List Cell) (seen rs : List (List Cell)) (k : ℕ) (d : List Cell) → k < length rs →
    list_any (row_eq (f (get_or rs k d))) (distinct_after seen (map f rs)) ≡ true
found_after f seen [] k d h = absurd (omega arith)
found_after f seen (r ∷ rs) zero d h =
    by_test (λ ks. list_any (row_eq (f r)) ks ≡ true) (list_any (row_eq (f r)) seen) _ _
    (λ e. keeps (f r) seen (map f rs) e)
    (λ e. keeps (f r) (seen ++ f r ∷ []) (map f rs) (any_last (f r) seen))
found_after f seen (r ∷ rs) (suc k) d h =
    either (λ ks. list_any (row_eq (f (get_or rs k d))) ks ≡ true) (list_any (row_eq (f r)) seen) _ _
    (found_after f seen rs k d (omega arith)) (found_after f (seen ++ f r ∷ []) rs k d (omega arith))

distinct_rows : (seen rs : List (List Cell)) → IsDistinct row_eq seen → IsDistinct row_eq (distinct_after seen rs)
distinct_rows seen [] h = h
distinct_rows seen (r ∷ rs) h =
    by_test (IsDistinct row_eq) (list_any (row_eq r) seen) _ _
    (λ e. distinct_rows seen rs h)
    (λ e. distinct_rows (seen ++ r ∷ []) rs (IsDistinct-push row_eq-equivalence seen r h e))

pub keys_of-IsDistinct : (indices : List (Option ℕ)) (rows : List (List Cell)) → IsDistinct row_eq (keys_of indices rows)
keys_of-IsDistinct indices rows =
    distinct_rows [] (map (key_of indices) rows) (IsDistinct-from_apart row_eq [] (λ i j d h k. absurd (omega arith)))

pub none_twice : (indices : List (Option ℕ)) (rows : List (List Cell)) → AllPairs (λ a b. a ≢ b) (keys_of indices rows)
none_twice indices rows = AllPairs-from_IsDistinct row_eq-Decides (keys_of indices rows) (keys_of-IsDistinct indices rows)

contained : (x : List Cell) (ks : List (List Cell)) → list_any (row_eq x) ks ≡ true → Contains ks x
contained x ks h =
    let at = Any-from_list_any (row_eq x) ks h in
    let same : x ≡ at.1 = (row_eq-Decides x at.1).0 at.4 in
    (at.0, at.2, subst (λ z. get_or ks at.0 z ≡ z) (sym same) at.3)

pub each_row : (indices : List (Option ℕ)) (rows : List (List Cell)) → All (λ r. Contains (keys_of indices rows) (key_of indices r)) rows
each_row indices rows k d h = contained _ (keys_of indices rows) (found_after (key_of indices) [] rows k d h)
