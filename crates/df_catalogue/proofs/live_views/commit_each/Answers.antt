use Rattle.std.proofs.Common.{rules, ◌≡◌, ℕ, ◌<◌, ◌≤◌, ◌++◌, ◌∷◌, [], List, append_assoc, drop, length, slice_index_or, refl, ap, sym, ◌∙◌, subst, arith}
use Rattle.std.proofs.lemmas.List.{append-nil, length-set, nil_from_length}
use Rattle.df_catalogue.specs.declared.views.View.{View}
use Rattle.df_live.specs.Views.{IsLive}
use Rattle.df_live.specs.declared.view.StagedView.{StagedView}
use Rattle.df_catalogue.specs.LiveViews.{changes_kept, changes_staged, AreStaged, HaveRoom}
use Rattle.df_catalogue.proofs.KeptFacts.{all_committed, committed_more, none_behind}
use Rattle.df_state.proofs.Partners.{length-last}
use Rattle.df_catalogue.proofs.ViewLists.{headings_set, room_pop, staged_pop, staged_last, live_more}
use Rattle.df_catalogue.proofs.live_views.commit_each.Goals as goal

pub loop-last-preserved : goal.loop-last-preserved
loop-last-preserved c =
    let views = c.loop-last.views in
    let rest = c.pop.new.self.items in
    let last = c.in-Some.last in
    let v = c.commit_view.new.view in
    let parts : c.loop-last.staged.items ≡ rest ++ last ∷ [] = c.in-Some.ensures.items in
    let at : c.len-at.result ≡ length rest = search rules in
    let short : length (rest ++ last ∷ []) ≤ length views = subst (λ ys. length ys ≤ length views) parts c.loop-last.invariant.short in
    let lt : length rest < length views = omega (arith, short, length-last rest last) in
    record {
      headings = headings_set views c.len-at.result v c.index-views-at.result c.commit_view.ensures.name c.commit_view.ensures.plan ∙ c.loop-last.invariant.headings;
      short = omega (arith, lt, length-set views c.len-at.result v);
      room = rw at (room_pop views rest v last (subst (λ ys. HaveRoom views ys) parts c.loop-last.invariant.room));
      leads = λ frames h. rw at (staged_pop views rest v last frames (subst (λ ys. AreStaged views ys frames) parts (c.loop-last.invariant.leads frames h)));
      live = λ frames h.
          let leads = subst (λ ys. AreStaged views ys frames) parts (c.loop-last.invariant.leads frames h) in
          let new : IsLive v.live frames = c.commit_view.ensures.live frames (rw at (staged_last views rest last c.index-views-at.result frames leads)) in
          rw at (live_more views rest v last frames lt
          (subst (λ ys. (k : ℕ) (d : View) → length ys ≤ k → k < length views → IsLive (slice_index_or views k d).live frames) parts (c.loop-last.invariant.live frames h)) new);
      changes =
          let was = c.loop-last.invariant.changes in
          let kept = subst (λ (ys : List StagedView). changes_kept (drop (length ys) views) ≡ changes_staged was.0) parts was.2 in (
            last ∷ was.0,
            was.1 ∙ (ap (λ ys. ys ++ was.0) parts ∙ append_assoc rest (last ∷ []) was.0),
            rw at (committed_more views rest v last was.0 lt c.commit_view.ensures.changes kept),
          );
    }

pub loop-last-init : goal.loop-last-init
loop-last-init c = record {
  headings = refl;
  short = omega (arith, c.requires.count);
  room = c.requires.room;
  leads = λ frames h. h;
  live = λ frames h k d from below. absurd (omega (arith, from, below, c.requires.count));
  changes = ([], sym (append-nil c.args.staged.items), none_behind c.args.views.now c.args.staged.items c.requires.count);
}

pub returns-clause-changes : goal.returns-clause-changes
returns-clause-changes c =
    let was = c.loop-last.invariant.changes in
    let none : c.loop-last.staged.items ≡ [] = nil_from_length c.loop-last.staged.items (search rules) in
    all_committed c.loop-last.views c.args.staged.items c.loop-last.staged.items was.0 none was.1 was.2

pub returns-clause-live : goal.returns-clause-live
returns-clause-live c frames h =
    let none : length c.loop-last.staged.items ≡ 0 = search rules in
    record { at = λ k d below. c.loop-last.invariant.live frames h k d (omega (arith, none)) below }
