use Rattle.df_versions.specs.Histories.{IsLastStateBy}
use Rattle.df_store.proofs.LeftFacts.{state-of-load, unsettled-answer}
use Rattle.df_store.proofs.load.finish.Goals as goal

pub returns-clause-not_left : goal.returns-clause-not_left
returns-clause-not_left g c =
    unsettled-answer (λ k. k.state) (λ u. u.frame) (λ f. f.left) (λ f. f.cause) g.J.Naming.schemas c.args.desks.items c.args.catalogue c.ended-catalogue.result.0 c.settle.result
    c.conclude.result c.ended-catalogue.ensures.state c.conclude.ensures.missing c.settle.ensures.missing c.settle.ensures.books c.settle.ensures.legal (record { history = c.args.catalogue; over = c.ended-catalogue.ensures.over; last = c.ended-catalogue.ensures.state })

pub returns-clause-state : goal.returns-clause-state
returns-clause-state g c =
    let ended = c.ended-catalogue.ensures in
    state-of-load (λ k. k.state) (λ l. l.catalogue) (λ l. l.totals) (IsLastStateBy g.J.Naming.allows g.J.Naming.schemas) c.ended-catalogue.result.0 c.settle.result c.conclude.result
    c.conclude.ensures.loaded c.settle.ensures.catalogue
    (record { last = record { history = c.args.catalogue; over = ended.over; last = ended.state }; allowed = ended.allowed })
