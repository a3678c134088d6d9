use Rattle.std.proofs.Common.{◌≡◌, ℕ, ◌≤◌, ◌<◌, ◌++◌, List, drop, length, vec_len, slice_index_or}
use Rattle.df_column.specs.Tables.{TaggedRows}
use Rattle.df_catalogue.specs.declared.views.View.{View}
use Rattle.df_live.specs.Views.{IsLive}
use Rattle.df_live.specs.declared.view.StagedView.{StagedView}
use Rattle.df_catalogue.specs.LiveViews.{changes_kept, changes_staged, headings, AreStaged, HaveRoom}
use Rattle.df_catalogue.proofs.live_views.commit_each.Given as goal

abbrev pub invariant-loop-last : goal.invariant-loop-last
invariant-loop-last l = record {
  headings : headings l.views ≡ headings l.fn.views;
  short : length l.staged.items ≤ length l.views;
  room : HaveRoom l.views l.staged.items;
  leads : (frames : List TaggedRows) → AreStaged l.fn.views l.fn.staged.items frames → AreStaged l.views l.staged.items frames;
  live : (frames : List TaggedRows) → AreStaged l.fn.views l.fn.staged.items frames → (k : ℕ) (d : View) →
      length l.staged.items ≤ k → k < length l.views → IsLive (slice_index_or l.views k d).live frames;
  changes : (done : List StagedView) × (l.fn.staged.items ≡ l.staged.items ++ done) × (changes_kept (drop (length l.staged.items) l.views) ≡ changes_staged done);
}

abbrev pub decreases-loop-last : goal.decreases-loop-last
decreases-loop-last l = vec_len l.staged
