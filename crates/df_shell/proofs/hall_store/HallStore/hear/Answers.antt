use Rattle.std.proofs.Common.{◌≡◌, ◌∙◌, ◌≤◌, ap, length, subst, sym}
use Rattle.df_shell.proofs.HallFacts.{heard}
use Rattle.df_shell.proofs.hall_store.HallStore.hear.Goals as goal
use Rattle.df_shell.proofs.hall_store.HallStore.hear.Given.{Over}

-- the reader knows what is told
known : (g : Over) (c : goal.Joined-self g) → c.learn.new.self.1.1 ≡ c.args.told
known g c =
    let old = c.self.inside.reader.1.1 in
    let long : length old ≤ length c.again.result =
    subst (λ t. length old ≤ length t) (sym c.again.ensures)
    (subst (λ p. length p ≤ length c.args.told) (sym (ap (λ p. p.told) c.self.view_is)) c.requires) in
    heard old c.learn.new.self.1.1 c.again.result c.learn.ensures.told.1 c.learn.ensures.longest long ∙ c.again.ensures

pub invariant_of-self : goal.invariant_of-self
invariant_of-self g c = (c.learn.ensures.same.0 ∙ c.self.invariant.0, known g c, c.self.invariant.2, c.self.invariant.3)

pub returns-clause-told : goal.returns-clause-told
returns-clause-told g c = known g c
