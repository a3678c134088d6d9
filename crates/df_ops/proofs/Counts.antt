-- Counts of evaluations over the items of a row and the rows of a table.
use Rattle.std.proofs.Common.{◌≡◌, ℕ, ◌+◌, ◌*◌, ◌∙◌, ap, add_assoc, arith}
use Rattle.std.specs.Prelude.{Result, Ok, Err, OnErr}
use Rattle.df_expr.specs.Meters.{with_evals}
use Rattle.df_expr.specs.declared.meter.Meter.{Meter}

-- one evaluation more
pub one_more : (n : ℕ) (old m new : Meter) → m ≡ with_evals n old → new ≡ with_evals 1 m → new ≡ with_evals (n + 1) old
one_more n old m new h k = k ∙ (ap (with_evals 1) h ∙ ap (λ (e : ℕ). record old { evals = e }) (add_assoc old.evals n 1))

-- one row more
pub row_more : (i size : ℕ) (m new : Meter) → m.evals ≡ i * size → new ≡ with_evals size m → new.evals ≡ (i + 1) * size
row_more i size m new h k = let e : new.evals ≡ m.evals + size = ap (λ (x : Meter). x.evals) k in omega arith

-- what holds anyway holds where the call failed
pub on_err : {A E : Type 0} (P : Type 0) (r : Result A E) → P → OnErr r P
on_err P (Ok x) p = tt
on_err P (Err e) p = p
