use Rattle.std.proofs.Common.{◌≡◌, take}
use Rattle.std.specs.Prelude.{None, find}
use Rattle.df_state.specs.Pictures.{view_rows_in}
use Rattle.df_session.specs.Asked.{plan_named}
use Rattle.df_shell.specs.Versions.{differs_from}
use Rattle.df_shell.proofs.version_reading.first_differing.Given as goal

abbrev pub invariant-loop-name : goal.invariant-loop-name
invariant-loop-name l =
    find (λ n. differs_from l.version.1 (plan_named l.definitions n) (view_rows_in l.version.1 n)) (take l.name-index l.names) ≡ None
