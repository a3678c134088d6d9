use Rattle.std.proofs.Common.{◌≡◌, ◌∙◌, ap, subst, sym}
use Rattle.std.specs.Arc.{arc_value}
use Rattle.left_right.specs.Sides.{view}
use Rattle.df_versions.specs.Histories.{IsHistory}
use Rattle.df_versions.specs.Shown.{Shows}
use Rattle.df_versions.proofs.Moves.{looks, one_book}
use Rattle.df_versions.proofs.ShownVersions.{shows}
use Rattle.df_versions.proofs.reader.look.Goals as goal

pub enter_as-requires : goal.enter_as-requires
enter_as-requires c = looks _ _

pub returns-in-Ok-try_clone-clause-same : goal.returns-in-Ok-try_clone-clause-same
returns-in-Ok-try_clone-clause-same c =
    ap (λ f. f.0) c.again-history.ensures ∙ (ap (λ p. p.history.0) c.get-published.ensures ∙ one_book _ _ (view c.args.inner.place).known c.in-Ok.ensures.1.0 c.requires)

pub returns-in-Ok-try_clone-clause-shows : goal.returns-in-Ok-try_clone-clause-shows
returns-in-Ok-try_clone-clause-shows c =
    let p = c.get-published.result.now in
    let history : c.again-history.result.1 ≡ p.history.1 = ap (λ h. h.1) c.again-history.ensures in
    let version : arc_value c.in-Ok-try_clone.version ≡ arc_value p.version = c.in-Ok-try_clone.ensures in
    subst (λ h. Shows h (arc_value c.in-Ok-try_clone.version)) (sym history)
    (subst (λ v. Shows p.history.1 v) (sym version) (shows p.history.1 (arc_value p.version) (subst IsHistory history c.len-states.ensures.lawful) p.ends p.counted))
