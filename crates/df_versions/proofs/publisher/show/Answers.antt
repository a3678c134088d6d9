use Rattle.std.proofs.Common.{◌≡◌, ◌∙◌, ap, subst, sym, drop, List}
use Rattle.df_versions.specs.declared.version.Published.{Published}
use Rattle.df_versions.specs.Newest.{newest}
use Rattle.df_versions.proofs.Moves.{turns}
use Rattle.df_versions.proofs.publisher.show.Goals as goal

pub publish_as-next-requires : goal.publish_as-next-requires
publish_as-next-requires g c next is =
    let w = c.loop.writer in
    let first = c.args.writer in
    let now = w.desk.shown.value in
    let kept : (newest now.history (drop w.behind w.log.items)).0 ≡ now.history.0 =
    subst (λ (p : Published). (newest p.history (drop w.behind w.log.items)).0 ≡ p.history.0) (sym c.loop.invariant.shown_is)
    (subst (λ (l : List Published). (newest first.desk.shown.value.history l).0 ≡ first.desk.shown.value.history.0) (sym c.loop.invariant.pending_is) c.requires) in
    turns _ _ now next (sym (ap (λ f. f.0) is ∙ kept))
