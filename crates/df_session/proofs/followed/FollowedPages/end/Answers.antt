use Rattle.std.proofs.Common.{rules}
use Rattle.std.proofs.lemmas.Fn.{filter_same}
use Rattle.df_session.proofs.followed.FollowedPages.end.Goals as goal

pub returns-clause-pages : goal.returns-clause-pages
returns-clause-pages c = filter_same _ _ _ (λ x b f' k. search rules) _ _ c.retain.ensures.filtered
