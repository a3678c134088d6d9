-- Changes of maps that are kept in the order of their keys. A tagged table is such a map, from tags to rows.
use Rattle.std.specs.Prelude.{◌≡◌, Bool, true, ◌&&◌, not, cond, List, [], ◌∷◌, Option, Some, None}
use Rattle.std.specs.Ordering.{eq_by_cmp, is_lt}
use Rattle.std.specs.declared.cmp.Ordering.{Ordering}
use Rattle.std.specs.FinMap.{FinMap, insert, remove, entries, put}
use Rattle.std.specs.FinMap.Entries.{where_key, below_all}

-- what stood at a key, and what stands there afterwards
pub record Change (X : Type 0) : Type 0 where
  pub old : Option X
  pub new : Option X

module _ {K X : Type 0} {R : K → K → Ordering} where
  -- t with this at the key k, or with nothing there
  abbrev pub set_at : FinMap R X → K → Option X → FinMap R X
  set_at t k None = remove t k
  set_at t k (Some x) = insert t k x

  -- t after each of these changes in turn
  abbrev pub applied_list : FinMap R X → List (K × Change X) → FinMap R X
  applied_list t [] = t
  applied_list t (e ∷ es) = applied_list (set_at t e.0 e.1.new) es

  -- t with the new value, or nothing, at each key that the changes name
  abbrev pub applied : FinMap R X → FinMap R (Change X) → FinMap R X
  applied t d = applied_list t (entries d)

-- the same of the lists of entries
module _ {K X : Type 0} (R : K → K → Ordering) where
  abbrev pub edit : List (K × X) → K → Option X → List (K × X)
  edit es k None = where_key R (λ x. not (eq_by_cmp R k x)) es
  edit es k (Some v) = put R k v es

  abbrev pub after_changes : List (K × X) → List (K × Change X) → List (K × X)
  after_changes es [] = es
  after_changes es (c ∷ cs) = after_changes (edit es c.0 c.1.new) cs

  -- es, but for a first entry at the key k
  abbrev pub rest_after : K → List (K × X) → List (K × X)
  rest_after k [] = []
  rest_after k (e ∷ es) = cond (eq_by_cmp R k e.0) es (e ∷ es)

  -- each key is below k
  abbrev pub all_under : K → List (K × X) → Bool
  all_under k [] = true
  all_under k (e ∷ es) = is_lt (R e.0 k) && all_under k es

  -- no key is below k
  abbrev pub all_from : K → List (K × X) → Bool
  all_from k [] = true
  all_from k (e ∷ es) = not (is_lt (R e.0 k)) && all_from k es

-- each key of the first list is below each key of the second
abbrev pub apart : {K X Y : Type 0} → (K → K → Ordering) → List (K × X) → List (K × Y) → Bool
apart R [] ys = true
apart R (x ∷ xs) ys = below_all R x.0 ys && apart R xs ys

-- the value at the key, if there is one
abbrev pub one_at : {K X : Type 0} → K → Option X → List (K × X)
one_at k None = []
one_at k (Some v) = (k, v) ∷ []

-- the list begins at the key k
abbrev pub IsHead : {K X : Type 0} → List (K × X) → K → Type 0
IsHead [] k = ⊥
IsHead (e ∷ es) k = e.0 ≡ k

-- the key of the first entry, or none
abbrev pub IsNext : {K X : Type 0} → List (K × X) → Option K → Type 0
IsNext es None = es ≡ []
IsNext es (Some k) = IsHead es k
