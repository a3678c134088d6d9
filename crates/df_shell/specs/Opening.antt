-- The catalogue that a store is opened with.
use Rattle.std.specs.Prelude.{[], None, false, map}
use Rattle.df_state.specs.declared.state.CatalogueParts.{CatalogueParts}
use Rattle.df_state.specs.States.{opening_of}
use Rattle.df_delta.specs.Work.{no_work}
use Rattle.df_session.specs.declared.definitions.Definitions.{Definitions}
use Rattle.df_text.specs.declared.document.FrameSpec.{FrameSpec}

-- a catalogue of empty frames with the document's schemas, without views, of which nothing was counted yet, over which
-- nothing is staged, and which keeps no changes
abbrev pub empty_catalogue : Definitions → CatalogueParts
empty_catalogue d = record {
  state = opening_of (map (λ (f : FrameSpec). f.schema) d.document.frames);
  work = no_work;
  staged = None;
  keeps = false;
  changes = [];
}
