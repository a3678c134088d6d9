use Rattle.std.proofs.Common.{length, subst, sym}
use Rattle.df_shell.proofs.DesksFacts.{InOrder, first-ordered}
use Rattle.df_shell.proofs.hall_shell.open.Goals as goal

pub serve-requires-clause-desks : goal.serve-requires-clause-desks
serve-requires-clause-desks g c κs within =
    subst InOrder (sym c.in-Ok.ensures.desks) (first-ordered (length c.in_ok-schemas.schemas))
