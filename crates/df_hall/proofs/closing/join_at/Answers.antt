use Rattle.std.proofs.Common.{◌∙◌, ap, arith}
use Rattle.df_state.specs.Desks.{DeskParts}
use Rattle.df_hall.proofs.FirstFacts.{joined-first}
use Rattle.df_state.proofs.ListFacts.{same-default}
use Rattle.df_hall.proofs.closing.join_at.Goals as goal

pub returns-clause-first : goal.returns-clause-first
returns-clause-first g c =
    let low = c.in-Some.ensures.found.0 in
    let within = c.requires.within in
    let by_index = c.remove-desk.ensures.by_index in
    joined-first c.args.desks.now.items c.remove-desk.new.self.items c.args.at c.in-Some.to c.join.new.to low within by_index.2 by_index.0 by_index.1
    (λ (d : DeskParts). ap (λ (x : DeskParts). x.frame)
    c.join.ensures.joined ∙ ap (λ (x : DeskParts). x.frame)
    (c.index_mut.ensures.value ∙ (by_index.0 c.in-Some.to c.index_mut.result.now low
    ∙ same-default c.args.desks.now.items c.in-Some.to c.index_mut.result.now d (omega (arith, low, within)))))
    c.requires.behind
