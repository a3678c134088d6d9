use Rattle.std.proofs.Common.{◌≡◌, drop}
use Rattle.df_plan.specs.JoinChecks.{keys_fault}
use Rattle.df_plan.proofs.join_checks.check_keys.Given as goal

abbrev pub invariant-loop-name : goal.invariant-loop-name
invariant-loop-name l = keys_fault l.left l.right l.keys ≡ keys_fault l.left l.right (drop l.name-index l.keys)
