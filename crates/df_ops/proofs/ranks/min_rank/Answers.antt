use Rattle.std.proofs.lemmas.Result.{IfOk-weaker}
use Rattle.df_ops.proofs.MinRankLaws.{min_ranked, agree, at_least, least, next}
use Rattle.df_ops.proofs.ranks.min_rank.Goals as goal

pub returns-clause-ranked : goal.returns-clause-ranked
returns-clause-ranked c =
    IfOk-weaker c.all_min_ranked.result _ _ (λ cells e. rw e (min_ranked c.args.index c.args.rows.now)) c.all_min_ranked.ensures

pub returns-clause-agree : goal.returns-clause-agree
returns-clause-agree c =
    IfOk-weaker c.all_min_ranked.result _ _ (λ cells e. rw e (agree c.args.index c.args.rows.now)) c.all_min_ranked.ensures

pub returns-clause-at_least : goal.returns-clause-at_least
returns-clause-at_least c =
    IfOk-weaker c.all_min_ranked.result _ _ (λ cells e. rw e (at_least c.args.index c.args.rows.now)) c.all_min_ranked.ensures

pub returns-clause-least : goal.returns-clause-least
returns-clause-least c =
    IfOk-weaker c.all_min_ranked.result _ _ (λ cells e. rw e (least c.args.index c.args.rows.now)) c.all_min_ranked.ensures

pub returns-clause-next : goal.returns-clause-next
returns-clause-next c =
    IfOk-weaker c.all_min_ranked.result _ _ (λ cells e. rw e (next c.args.index c.args.rows.now)) c.all_min_ranked.ensures
