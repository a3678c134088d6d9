use Rattle.std.proofs.Common.{◌≡◌, List, length, take}
use Rattle.df_column.specs.Tables.{TaggedRows}
use Rattle.df_delta.specs.Work.{IsWithin, plus}
use Rattle.df_live.specs.Frames.{changed}
use Rattle.df_catalogue.specs.KeptChanges.{AreKept}
use Rattle.df_catalogue.specs.LiveViews.{changes_kept, changes_staged, headings, plans, AreChangesOf, AreLive, AreStaged, HaveRoom}
use Rattle.df_catalogue.specs.Work.{work_of_all}
use Rattle.df_catalogue.proofs.WorkFacts.{IsFew, work_from}
use Rattle.df_catalogue.proofs.live_views.prepare_each.Given as goal

abbrev pub invariant-loop-at : goal.invariant-loop-at
invariant-loop-at l = record {
  headings : headings l.views ≡ headings l.fn.views;
  live : (frames : List TaggedRows) → AreLive l.fn.views frames → AreLive l.views frames;
  count : length l.staged.items ≡ l.at;
  staged : (frames : List TaggedRows) → AreLive l.fn.views frames → AreChangesOf l.fn.views frames l.frame l.delta → AreStaged l.views l.staged.items (changed frames l.frame l.delta);
  room : HaveRoom l.views l.staged.items;
  few : IsFew l.meter l.at;
  work : (frames : List TaggedRows) → AreLive l.fn.views frames → AreChangesOf l.fn.views frames l.frame l.delta →
      IsWithin (plus l.meter (work_from (plans l.fn.views) l.at frames (changed frames l.frame l.delta))) (work_of_all (plans l.fn.views) frames (changed frames l.frame l.delta));
  changes : changes_kept l.views ≡ changes_kept l.fn.views;
  kept : (frames : List TaggedRows) → AreLive l.fn.views frames → AreChangesOf l.fn.views frames l.frame l.delta →
      AreKept l.keeps frames (changed frames l.frame l.delta) (take l.at (plans l.fn.views)) (changes_staged l.staged.items);
}
