use Rattle.dataframes.proofs.ClosingFacts.{view-added}
use Rattle.dataframes.proofs.opening.add_view.Goals as goal

pub returns-in_ok-schema_of-in-Ok-clause-registered : goal.returns-in_ok-schema_of-in-Ok-clause-registered
returns-in_ok-schema_of-in-Ok-clause-registered g c =
    let n = c.in_ok-name in
    view-added g.J.Naming.schemas c.args.books.now c.change_views-answer.new.self n.name n.plan c.args.view.now c.in-Ok.told n.ensures c.in-Ok.ensures
