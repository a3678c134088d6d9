use Rattle.std.proofs.Common.{◌≡◌, ◌∙◌, ap, subst, sym, List, ◌++◌, ◌∷◌, [], length}
use Rattle.std.specs.Arc.{arc_value}
use Rattle.std.specs.Prelude.{option_map, Some}
use Rattle.df_state.specs.Pictures.{picture_of}
use Rattle.df_state.specs.declared.state.State.{State}
use Rattle.df_versions.specs.Histories.{AreAllowed, MayFollowBy, last_state}
use Rattle.df_versions.proofs.Histories.{allowed-more, follower-legal, follows-any, last_state-more}
use Rattle.df_versions.proofs.Prefixes.{longer_by_one}
use Rattle.df_versions.proofs.publisher.Publisher.publish.Goals as goal

pub invariant_of-put : goal.invariant_of-put
invariant_of-put g c =
    let v = arc_value c.in-Ok.version in
    let log : List State = c.self.inside.history.1 in
    let next : State = g.M.Plain.ask c.args.about.now in
    let added : c.again.result.1 ≡ log ++ next ∷ [] = ap (λ h. h.1) (c.again.ensures ∙ c.extended-history.ensures) in
    let made = c.in-Ok.ensures.ok ∙ c.new.ensures in
    let number : v.0 ≡ length log = ap (λ w. w.0) made ∙ c.len-number.ensures.length in
    let picture : picture_of next ≡ v.1 = sym (ap (λ w. w.1) made ∙ c.requires.picture) in
    record {
      counted = longer_by_one log c.again.result.1 next v.0 added (sym number);
      ends = ap (λ l. option_map picture_of (last_state l)) added ∙ (ap (option_map picture_of) (last_state-more log next) ∙ ap Some picture);
    }

pub extended-history-requires-clause-lawful : goal.extended-history-requires-clause-lawful
extended-history-requires-clause-lawful g c =
    let next : State = g.M.Plain.ask c.args.about.now in
    follows-any g.J.Naming.allows c.self.inside.history.1 next (subst (λ (l : List State). MayFollowBy g.J.Naming.allows l next) (sym c.self.view_is) c.requires.next)

pub of-requires-clause-allowed : goal.of-requires-clause-allowed
of-requires-clause-allowed g c =
    let log : List State = c.self.inside.history.1 in
    let next : State = g.M.Plain.ask c.args.about.now in
    let may = subst (λ (l : List State). MayFollowBy g.J.Naming.allows l next) (sym c.self.view_is) c.requires.next in
    let added : c.again-told.result.1 ≡ log ++ next ∷ [] = ap (λ h. h.1) (c.again-told.ensures ∙ c.extended-history.ensures) in
    subst (AreAllowed g.J.Naming.allows) (sym added) (allowed-more g.J.Naming.allows log next c.self.invariant.4 may)

pub new-requires : goal.new-requires
new-requires g c =
    let next : State = g.M.Plain.ask c.args.about.now in
    let may = subst (λ (l : List State). MayFollowBy g.J.Naming.allows l next) (sym c.self.view_is) c.requires.next in
    (next, follower-legal c.self.inside.history.1 next c.len-number.ensures.lawful (follows-any g.J.Naming.allows c.self.inside.history.1 next may), c.requires.picture)
