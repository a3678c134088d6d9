use Rattle.std.proofs.Common.{inl, subst}
use Rattle.dataframes.specs.Closing.{IsNotAdded}
use Rattle.dataframes.proofs.opening.serve.Goals as goal

pub returns-in-Err-clause-refused : goal.returns-in-Err-clause-refused
returns-in-Err-clause-refused g c =
    inl (subst (λ vs. IsNotAdded g.J.Naming.schemas vs c.in-Err.fault) c.as_slice.ensures.value c.in-Err.ensures.refused)
