use Rattle.std.proofs.Common.{◌*◌}
use Rattle.df_load_tests.specs.declared.pairs.Pairs.{Pairs}
use Rattle.df_load_tests.proofs.PairFacts.{jobs-few}
use Rattle.df_load_tests.proofs.pairs_load.PairsLoad.new.Goals as goal

pub invariant_of-result : goal.invariant_of-result
invariant_of-result c =
    let one = c.in_ok-new.field-0 in
    let other = c.in_ok-new-2.field-0 in
    record { few = record { few = jobs-few {S = Pairs} (λ s. s.schema) (λ s. s.step) (λ s. s.count) (λ s n. n * s.step) one other one.few other.few } }
