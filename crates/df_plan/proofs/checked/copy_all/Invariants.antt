use Rattle.std.proofs.Common.{◌≡◌, take}
use Rattle.df_plan.proofs.checked.copy_all.Given as goal

abbrev pub invariant-loop-schema : goal.invariant-loop-schema
invariant-loop-schema l = l.copies.items ≡ take l.schema-index l.schemas
