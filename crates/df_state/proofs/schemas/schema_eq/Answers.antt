use Rattle.std.proofs.lemmas.Bool.Decides.{same_from_decides}
use Rattle.df_state.specs.Schemas.{schema_eq-Decides}
use Rattle.df_state.proofs.schemas.schema_eq.Goals as goal

pub returns : goal.returns
returns c = same_from_decides _ _ c.same.ensures (schema_eq-Decides c.args.a.now c.args.b.now)
