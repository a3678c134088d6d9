use Rattle.df_session.proofs.PlaceFacts.{place-bound}
use Rattle.df_session.proofs.view_changes.place_of.Goals as goal

pub returns : goal.returns
returns c = place-bound _ _ _ c.lower_bound.ensures
