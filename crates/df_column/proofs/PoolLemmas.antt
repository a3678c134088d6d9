-- A walk along the texts of a pool, and a pool with one text more.
use Rattle.std.proofs.Common.{◌≡◌, ℕ, ◌+◌, ◌<◌, ◌≤◌, true, false, cond, List, [], ◌∷◌, ◌++◌, length, drop, get_or, Option, Some, None, refl, sym, ap, subst, ◌∙◌, arith}
use Rattle.std.specs.Prelude.{T, ◌==◌}
use Rattle.std.specs.List.{list_all}
use Rattle.std.specs.Option.{option_map}
use Rattle.std.specs.Cmp.Lexicographic.{pointwise}
use Rattle.std.specs.Str.{IsUtf8, is_utf8}
use Rattle.std.proofs.lemmas.Str.{is_utf8-from_IsUtf8}
use Rattle.df_column.specs.Pools.{IsPool, parts, place_of}
use Rattle.df_column.proofs.MergeLemmas.{drop_at, drop_past}
use Rattle.df_column.proofs.Parts.{all-push, parts-push, rising-push}

-- the place in the texts from an index on, told among all texts
abbrev pub place_from : ℕ → List ℕ → List (List ℕ) → Option ℕ
place_from i t ts = option_map (λ n. n + i) (place_of t (drop i ts))

pub place_from_next : (i : ℕ) (t : List ℕ) (ts : List (List ℕ)) → i < length ts → pointwise ◌==◌ (get_or ts i []) t ≡ false → place_from i t ts ≡ place_from (i + 1) t ts
place_from_next i t ts lt other =
    ap (λ us. option_map (λ n. n + i) (place_of t us)) (drop_at ts i [] lt)
    ∙ ap (λ b. option_map (λ n. n + i) (cond b (Some 0) (option_map (λ n. n + 1) (place_of t (drop (i + 1) ts))))) other
    ∙ step (place_of t (drop (i + 1) ts))
  where
    step : (o : Option ℕ) → option_map (λ n. n + i) (option_map (λ n. n + 1) o) ≡ option_map (λ n. n + (i + 1)) o
    step None = refl
    step (Some n) = let e : n + 1 + i ≡ n + (i + 1) = omega arith in ap Some e

pub place_from_here : (i : ℕ) (t : List ℕ) (ts : List (List ℕ)) → i < length ts → pointwise ◌==◌ (get_or ts i []) t ≡ true → place_from i t ts ≡ Some i
place_from_here i t ts lt same =
    ap (λ us. option_map (λ n. n + i) (place_of t us)) (drop_at ts i [] lt)
    ∙ ap (λ b. option_map (λ n. n + i) (cond b (Some 0) (option_map (λ n. n + 1) (place_of t (drop (i + 1) ts))))) same
    ∙ (let e : 0 + i ≡ i = omega arith in ap Some e)

pub place_from_end : (i : ℕ) (t : List ℕ) (ts : List (List ℕ)) → length ts ≤ i → place_from i t ts ≡ None
place_from_end i t ts le = ap (λ us. option_map (λ n. n + i) (place_of t us)) (drop_past ts i le)

-- the fields of a pool with one text more
pub pool_push : (bytes ends t : List ℕ) → IsPool bytes ends → IsUtf8 t → IsPool (bytes ++ t) (ends ++ length (bytes ++ t) ∷ [])
pool_push bytes ends t h utf8 = record {
  rising = rising-push 0 bytes t ends h.rising;
  utf8 = subst (λ ts. T (list_all is_utf8 ts)) (sym (parts-push 0 bytes t ends h.rising)) (all-push is_utf8 (parts 0 bytes ends) t h.utf8 (is_utf8-from_IsUtf8 t utf8));
}
