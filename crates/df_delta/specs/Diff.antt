-- The one lean delta that leads from a map to another.
use Rattle.std.specs.Prelude.{List, [], ◌∷◌, Option, Some, Bool}
use Rattle.std.specs.declared.cmp.Ordering.{Ordering}
use Rattle.std.specs.FinMap.{FinMap, get, insert, entries}
use Rattle.df_column.specs.Changes.{Change}
use Rattle.df_delta.specs.Collected.{collected}
use Rattle.df_delta.specs.Notes.{leaned}

module _ {K X : Type 0} {R : K → K → Ordering} where
  -- d, and a note at each of these entries of the later map
  abbrev pub filled : FinMap R X → FinMap R (Change X) → List (K × X) → FinMap R (Change X)
  filled t d [] = d
  filled t d (e ∷ es) = filled t (insert d e.0 (record { old = get t e.0; new = Some e.1 })) es

  -- a note at each entry of t and of u, without the idle ones
  abbrev pub diff : (Option X → Option X → Bool) → FinMap R X → FinMap R X → FinMap R (Change X)
  diff same t u = leaned same (filled t (collected (λ q x. Some (record { old = Some x; new = get u q })) t) (entries u))
