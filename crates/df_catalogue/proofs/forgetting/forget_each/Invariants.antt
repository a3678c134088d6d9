use Rattle.std.proofs.Common.{◌≡◌, List, map, take}
use Rattle.df_column.specs.Tables.{TaggedRows}
use Rattle.df_catalogue.specs.KeptChanges.{none_kept}
use Rattle.df_catalogue.specs.LiveViews.{changes_kept, headings, view_state, AreLive}
use Rattle.df_catalogue.proofs.forgetting.forget_each.Given as goal

abbrev pub invariant-loop-at : goal.invariant-loop-at
invariant-loop-at l = record {
  same : headings l.views ≡ headings l.fn.views;
  live : (frames : List TaggedRows) → AreLive l.fn.views frames → AreLive l.views frames;
  kept : take l.at (changes_kept l.views) ≡ take l.at (none_kept (map view_state l.fn.views));
}
