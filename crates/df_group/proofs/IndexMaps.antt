-- Maps whose keys are rows.
use Rattle.std.proofs.Math.ListN.{drop_of_length-le}
use Rattle.std.proofs.lemmas.List.{length-map, nil_from_length}
use mathlib.Core.Bool.{false≢true}
use Rattle.std.specs.Prelude.{Result, Ok, Err, OnOk, IsOk}
use Rattle.std.specs.Option.{IfSome}
use Rattle.std.proofs.Common.{subst, arith, ◌≤◌, ◌<◌}
use Rattle.std.proofs.Common.{◌≡◌, ℕ, zero, suc, Bool, true, false, cond, List, [], ◌∷◌, ◌++◌, drop, Option, Some, None, refl, sym, ap, ◌∙◌}
use Rattle.std.specs.Prelude.{◌||◌, is_some, slice_get}
use Rattle.std.specs.List.{list_any}
use Rattle.std.specs.Map.{lookup, keys_of}
use Rattle.indexmap.specs.IndexMap.{IndexMap, get, index_map_len, keys}
use Rattle.df_value.specs.declared.cell.Cell.{Cell}
use Rattle.df_value.specs.Rows.{row_eq}
use Rattle.df_value.specs.RowEq.{row_eq-equivalence}

abbrev Row : Type 0
Row = List Cell

module _ {X : Type 0} where
  lookup_last : (es : List (Row × X)) (k : Row) (x : X) (j : Row) → lookup (row_eq j) es ≡ None → row_eq j k ≡ true → lookup (row_eq j) (es ++ (k, x) ∷ []) ≡ Some x
  lookup_last [] k x j none e = ap (λ b. cond b (Some x) None) e
  lookup_last (f ∷ es) k x j none e = elim (row_eq j f.0) as (λ b. cond b (Some f.1) (lookup (row_eq j) es) ≡ None → cond b (Some f.1) (lookup (row_eq j) (es ++ (k, x) ∷ [])) ≡ Some x) [
    | true ↦ λ none. cc none
    | false ↦ λ none. lookup_last es k x j none e
  ] none

  is_some-lookup : (k : Row) (es : List (Row × X)) → is_some (lookup (row_eq k) es) ≡ list_any (row_eq k) (keys_of es)
  is_some-lookup k [] = refl
  is_some-lookup k (e ∷ es) = elim (row_eq k e.0) as (λ b. is_some (cond b (Some e.1) (lookup (row_eq k) es)) ≡ (b || list_any (row_eq k) (keys_of es))) [ true ↦ refl | false ↦ is_some-lookup k es ]

  none_from : (a : Option X) → is_some a ≡ false → a ≡ None
  none_from None e = refl
  none_from (Some x) e = cc e

  -- the keys from an entry on
  pub at_place : (es : List (Row × X)) (i : ℕ) (k : Row) (x : X) → slice_get es i ≡ Some (k, x) → drop i (keys_of es) ≡ k ∷ drop (suc i) (keys_of es)
  at_place [] i k x e = cc e
  at_place (f ∷ es) zero k x e = let p : f.0 ≡ k = cc e in ap (λ k. k ∷ keys_of es) p
  at_place (f ∷ es) (suc i) k x e = at_place es i k x e

  module _ {S : Type 0} where
    -- the entry that was taken from the end
    pub popped : (old rest : IndexMap Row X S) (key : Row) (x : X) → old.entries ≡ rest.entries ++ (key, x) ∷ []
        → ((k : Row) → get row_eq rest k ≡ cond (row_eq key k) None (get row_eq old k)) → (k : Row) → get row_eq old k ≡ cond (row_eq key k) (Some x) (get row_eq rest k)
    popped old rest key x e taken k = elim (row_eq key k) as (λ b. row_eq key k ≡ b → get row_eq old k ≡ cond b (Some x) (get row_eq rest k)) [
      | true ↦ λ b. ap (lookup (row_eq k)) e ∙ lookup_last rest.entries key x k (taken k ∙ ap (λ b. cond b None (get row_eq old k)) b) (row_eq-equivalence.symm k key ∙ b)
      | false ↦ λ b. sym (taken k ∙ ap (λ b. cond b None (get row_eq old k)) b)
    ] refl

    -- a key that is not among the keys has no value
    pub not_among : (m : IndexMap Row X S) (k : Row) → list_any (row_eq k) (keys m) ≡ false → get row_eq m k ≡ None
    not_among m k e = none_from (get row_eq m k) (is_some-lookup k m.entries ∙ e)

    pub get_of_none : (m : IndexMap Row X S) (k : Row) → m.entries ≡ [] → get row_eq m k ≡ None
    get_of_none m k e = ap (λ (es : List (Row × X)). lookup (row_eq k) es) e

-- where a result is Ok, what holds then holds
pub where_ok : {A E P : Type 0} (r : Result A E) → IsOk r → OnOk r P → P
where_ok (Ok a) is h = h
where_ok (Err e) is h = absurd (false≢true is)

-- the value of a key that was taken out, and those that are left
pub taken_has : {X : Type 0} (P : X → Type 0) (key : Row) (old rest : Option X) (x : X) → old ≡ cond (row_eq key key) (Some x) rest → IfSome old P → P x
taken_has P key old rest x is h = subst (λ o. IfSome o P) (is ∙ ap (λ b. cond b (Some x) rest) (row_eq-equivalence.refl key)) h

pub rest_has : {X : Type 0} (P : X → Type 0) (b : Bool) (old rest : Option X) → rest ≡ cond b None old → IfSome old P → IfSome rest P
rest_has P true old rest is h = subst (λ o. IfSome o P) (sym is) tt
rest_has P false old rest is h = subst (λ o. IfSome o P) (sym is) h

pub all_dropped : {X S : Type 0} (m : IndexMap Row X S) (n : ℕ) → n ≡ index_map_len m → drop n (keys m) ≡ []
all_dropped m n e = drop_of_length-le (keys m) (subst (λ l. l ≤ n) (e ∙ sym (length-map m.entries (λ e. e.0))) (omega arith))

pub none_left : {X S : Type 0} (m : IndexMap Row X S) (k : Row) → (0 < index_map_len m → ⊥) → get row_eq m k ≡ None
none_left m k h = get_of_none m k (nil_from_length m.entries (zero_of (index_map_len m) h))
  where
    zero_of : (n : ℕ) → (0 < n → ⊥) → n ≡ 0
    zero_of zero h = refl
    zero_of (suc n) h = absurd (h (omega arith))
