use Rattle.std.proofs.Common.{◌∙◌, List, ap, subst, ◌≡◌}
use Rattle.std.specs.FinMap as finite
use Rattle.std.specs.Prelude.{IfOk}
use Rattle.std.specs.declared.result.Result.{Result}
use Rattle.std.specs.declared.result.Result.TheVariants.{Ok, Err}
use Rattle.indexmap.specs.IndexMap.{get}
use Rattle.df_value.specs.Rows.{row_eq}
use Rattle.df_value.specs.declared.cell.Cell.{Cell}
use Rattle.df_column.specs.Changes.{applied}
use Rattle.df_delta.specs.Keyed.{kept_changes, keyed_changes}
use Rattle.df_ops.specs.Groups.{key_of}
use Rattle.df_group.proofs.Staged.{follow, leads, leads_still, rising_of}
use Rattle.df_group.proofs.live_group.LiveGroup.staged.Goals as goal

pub stage_all-requires-clause-rising : goal.stage_all-requires-clause-rising
stage_all-requires-clause-rising c k = rising_of (get row_eq c.in_ok-changes.changes k) (keyed_changes (key_of c.as_slice.result.now) k c.args.delta.now) (c.in_ok-changes.ensures.changes k)

both_then : {A B E : Type 0} (P : B → Type 0) (Q : A × B → Type 0) (r : Result (A × B) E) (a : A) (b : Result B E) → IfOk r (λ pair. ◌≡◌ {A = Result A E} (Ok a) (Ok pair.0)) → IfOk r (λ pair. b ≡ Ok pair.1) → IfOk b P → ((y : B) → P y → Q (a, y)) → IfOk r Q
both_then P Q (Ok pair) a b first second held then =
    let here : a ≡ pair.0 = cc first in
    subst (λ x. Q (x, pair.1)) here (then pair.1 (subst (λ o. IfOk o P) second held))
both_then P Q (Err e) a b first second held then = tt

pub returns-clause-diff : goal.returns-clause-diff
returns-clause-diff c = both_then _ _ _ _ _ c.both.ensures.first c.both.ensures.second c.changes_with_room-changes.ensures.diff (λ changes diff t over fits fit.
    let g = c.args.self.now.grouping in
    let d = c.args.delta.now in
    let kept : (k : List Cell) → kept_changes (get row_eq c.in_ok-changes.changes k) ≡ finite.entries (keyed_changes (key_of g.key_indices) k d) =
    λ k. c.in_ok-changes.ensures.changes k ∙ ap (λ indices. finite.entries (keyed_changes (key_of indices) k d)) c.as_slice.ensures in
    diff g t (applied t d) over (leads g t d fits fit c.args.self.now.index c.in_ok-groups.groups c.in_ok-changes.changes over kept
    (c.in_ok-groups.ensures.staged (follow g t d fits fit c.args.self.now.index c.in_ok-changes.changes over kept))))

pub returns-clause-staged : goal.returns-clause-staged
returns-clause-staged c = both_then _ _ _ _ _ c.both.ensures.first c.both.ensures.second c.changes_with_room-changes.ensures.room (λ changes room t over fits fit.
    let g = c.args.self.now.grouping in
    let d = c.args.delta.now in
    let kept : (k : List Cell) → kept_changes (get row_eq c.in_ok-changes.changes k) ≡ finite.entries (keyed_changes (key_of g.key_indices) k d) =
    λ k. c.in_ok-changes.ensures.changes k ∙ ap (λ indices. finite.entries (keyed_changes (key_of indices) k d)) c.as_slice.ensures in
    leads_still g c.args.self.now.index c.changes_with_room-changes.new.self.index c.in_ok-groups.groups (applied t d) c.changes_with_room-changes.ensures.contents
    (leads g t d fits fit c.args.self.now.index c.in_ok-groups.groups c.in_ok-changes.changes over kept
    (c.in_ok-groups.ensures.staged (follow g t d fits fit c.args.self.now.index c.in_ok-changes.changes over kept))))

pub returns-clause-room : goal.returns-clause-room
returns-clause-room c = both_then _ _ _ _ _ c.both.ensures.first c.both.ensures.second c.changes_with_room-changes.ensures.room (λ changes room. room)
