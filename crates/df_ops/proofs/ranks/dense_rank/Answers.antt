use Rattle.std.proofs.lemmas.Result.{IfOk-weaker}
use Rattle.df_ops.proofs.RankLaws.{dense_ranked, agree, rise, within, greatest}
use Rattle.df_ops.proofs.ranks.dense_rank.Goals as goal

pub returns-clause-agree : goal.returns-clause-agree
returns-clause-agree c =
    IfOk-weaker c.all_ranked.result _ _ (λ cells e. rw e (agree c.args.index c.args.rows.now)) c.all_ranked.ensures

pub returns-clause-rise : goal.returns-clause-rise
returns-clause-rise c =
    IfOk-weaker c.all_ranked.result _ _ (λ cells e. rw e (rise c.args.index c.args.rows.now)) c.all_ranked.ensures

pub returns-clause-within : goal.returns-clause-within
returns-clause-within c =
    IfOk-weaker c.all_ranked.result _ _ (λ cells e. rw e (within c.args.index c.args.rows.now)) c.all_ranked.ensures

pub returns-clause-greatest : goal.returns-clause-greatest
returns-clause-greatest c =
    IfOk-weaker c.all_ranked.result _ _ (λ cells e. rw e (greatest c.args.index c.args.rows.now)) c.all_ranked.ensures

pub returns-clause-ranked : goal.returns-clause-ranked
returns-clause-ranked c =
    IfOk-weaker c.all_ranked.result _ _ (λ cells e. rw e (dense_ranked c.args.index c.args.rows.now)) c.all_ranked.ensures
