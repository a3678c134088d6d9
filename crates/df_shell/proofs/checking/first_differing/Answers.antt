use Rattle.std.proofs.Common.{subst, sym}
use Rattle.std.specs.Prelude.{IsOk}
use Rattle.df_state.specs.Reads.{view_rows_of}
use Rattle.df_shell.proofs.CheckFacts.{rows_there}
use Rattle.df_shell.proofs.checking.first_differing.Goals as goal

pub is_same-requires : goal.is_same-requires
is_same-requires g c =
    let s = c.args.catalogue.now.state in
    subst (λ n. IsOk (view_rows_of s n)) (sym c.name-item.is)
    (rows_there s c.args.names.now c.loop-name.name-index c.name-item.result c.requires.names c.loop-name-test.true)
