-- What leads from one map to another: changes that fit it, of which none is idle.
use Rattle.std.specs.Prelude.{◌≡◌, ◌≢◌}
use Rattle.std.specs.Option.{IfSome}
use Rattle.std.specs.declared.cmp.Ordering.{Ordering}
use Rattle.std.specs.FinMap.{FinMap, get}
use Rattle.df_column.specs.Changes.{Change, applied}

module _ {K X : Type 0} {R : K → K → Ordering} where
  -- what each change says that stood at its key stands there in t
  pub record Fits (t : FinMap R X) (d : FinMap R (Change X)) : Type 0 where
    pub at : (q : K) → IfSome (get d q) (λ c. c.old ≡ get t q)

  -- no change leaves what it found
  pub record IsLean (d : FinMap R (Change X)) : Type 0 where
    pub at : (q : K) → IfSome (get d q) (λ c. c.old ≢ c.new)

  -- d is the one lean delta that leads from t to u
  pub record IsDiff (t u : FinMap R X) (d : FinMap R (Change X)) : Type 0 where
    pub lean : IsLean d
    pub fits : Fits t d
    pub gives : applied t d ≡ u
