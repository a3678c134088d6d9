use Rattle.df_store.proofs.LeftFacts.{given-left, given-not-left}
use Rattle.df_store.proofs.load.given_up.Goals as goal

pub returns-clause-left : goal.returns-clause-left
returns-clause-left g c =
    let s = c.settle.ensures in
    given-left (λ k. k.state) g.J.Naming.schemas c.args.desks.items c.args.catalogue c.ended-catalogue.result.0 c.settle.result c.ok.result c.ok.ensures.value c.ended-catalogue.ensures.state
    s.settled s.catalogue s.legal (record { history = c.args.catalogue; over = c.ended-catalogue.ensures.over; last = c.ended-catalogue.ensures.state }) s.books

pub returns-clause-not_left : goal.returns-clause-not_left
returns-clause-not_left g c =
    let s = c.settle.ensures in
    given-not-left (λ k. k.state) (λ u. u.frame) g.J.Naming.schemas c.args.desks.items c.args.catalogue c.ended-catalogue.result.0 c.settle.result c.ok.result c.ok.ensures.value
    c.ended-catalogue.ensures.state s.missing s.books s.legal (record { history = c.args.catalogue; over = c.ended-catalogue.ensures.over; last = c.ended-catalogue.ensures.state })
