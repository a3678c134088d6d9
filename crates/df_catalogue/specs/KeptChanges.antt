-- What a change of a catalogue did to its views, where that is kept: to the table of each view the one lean delta that leads
-- from it before to it afterwards. A change of the views did nothing of the kind, and leaves nothing kept.
use Rattle.std.specs.Prelude.{◌≡◌, ℕ, Bool, List, map, Option, None, option_map, Result, OnOk, OnErr}
use Rattle.std.specs.List.{AllZip}
use Rattle.df_column.specs.Tables.{TaggedRows}
use Rattle.df_delta.specs.Deltas.{Changes}
use Rattle.df_plan.specs.CheckedParts.{CheckedParts}
use Rattle.df_live.specs.KeptDiffs.{IsKeptDiff}
use Rattle.df_live.specs.Views.{value}
use Rattle.df_state.specs.declared.change.Change.{Change}
use Rattle.df_state.specs.declared.change.Change.TheVariants.{Append, Delete, Replace, Register, DropView}
use Rattle.df_state.specs.declared.fault.CatalogueFault.{CatalogueFault}
use Rattle.df_state.specs.declared.state.CatalogueParts.{CatalogueParts}
use Rattle.df_state.specs.declared.state.State.{State}
use Rattle.df_state.specs.declared.state.ViewState.{ViewState}
use Rattle.df_state.specs.Reads.{view_named}
use Rattle.df_catalogue.specs.declared.views.View.{View}
use Rattle.df_catalogue.specs.LiveViews.{changes_kept, headings, tagged_frames, view_state, AreLive}

-- what is kept of the changes of these plans' tables, where the frames become others
abbrev pub AreKept : Bool → List TaggedRows → List TaggedRows → List CheckedParts → List (Option Changes) → Type 0
AreKept keeps frames new_frames plans changes = AllZip (λ p d. IsKeptDiff keeps (value p frames) (value p new_frames) d) plans changes

-- of the changes of a state's views, each of which had its table over the frames of another state
abbrev pub AreKeptBetween : Bool → State → State → List (Option Changes) → Type 0
AreKeptBetween keeps s t changes = AreKept keeps (tagged_frames s.frames) (tagged_frames t.frames) (map (λ v. v.plan) t.views) changes

-- nothing is kept of any of these views' changes
abbrev pub none_kept : List ViewState → List (Option Changes)
none_kept views = map (λ v. None) views

-- what is kept where a change makes a state of another
abbrev pub AreKeptAt : Bool → Change → State → State → List (Option Changes) → Type 0
AreKeptAt keeps (Append f c) s t changes = AreKeptBetween keeps s t changes
AreKeptAt keeps (Delete f ns) s t changes = AreKeptBetween keeps s t changes
AreKeptAt keeps (Replace f rows) s t changes = AreKeptBetween keeps s t changes
AreKeptAt keeps (Register name p) s t changes = changes ≡ none_kept t.views
AreKeptAt keeps (DropView name) s t changes = changes ≡ none_kept t.views

-- what is kept is as it was, and so is whether changes are kept
pub record HasSameChanges (old new : CatalogueParts) : Type 0 where
  pub keeps : new.keeps ≡ old.keeps
  pub changes : new.changes ≡ old.changes

-- what a call that asks for a change makes of what is kept
pub record HasChangesOf {T : Type 0} (old : CatalogueParts) (change : Change) (result : Result T CatalogueFault) (new : CatalogueParts) : Type 0 where
  pub keeps : new.keeps ≡ old.keeps
  pub kept : OnOk result (AreKeptAt old.keeps change old.state new.state new.changes)
  pub same : OnErr result (new.changes ≡ old.changes)

-- the table of the view of a name, by the tags of its rows
abbrev pub tagged_table_of : State → List ℕ → Option TaggedRows
tagged_table_of s name = option_map (λ v. value v.plan (tagged_frames s.frames)) (view_named name s.views)

-- the same views over the same frames, and nothing is kept of their changes
pub record AreForgotten (old new : List View) : Type 0 where
  pub same : headings new ≡ headings old
  pub live : (frames : List TaggedRows) → AreLive old frames → AreLive new frames
  pub kept : changes_kept new ≡ none_kept (map view_state old)
