use Rattle.df_app.proofs.LoadedOutput.{derived-is-not-memory, no-other-fault}
use Rattle.df_app.proofs.loading.open_hall.Goals as goal

pub unreachable-requires-in-Err-DerivedType : goal.unreachable-requires-in-Err-DerivedType
unreachable-requires-in-Err-DerivedType g c =
    no-other-fault c.in_ok-schemas.schemas c.args.frames.now c.in-Err-DerivedType.field-0 c.in_ok-schemas.ensures
    c.requires.few c.requires.base c.in-Err-DerivedType.ensures.refused
    (derived-is-not-memory c.in-Err-DerivedType.field-0 c.in-Err-DerivedType.field-0-0 c.in-Err-DerivedType.field-0-is)
