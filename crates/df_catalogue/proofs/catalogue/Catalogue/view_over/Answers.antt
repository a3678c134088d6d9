use Rattle.std.proofs.Common.{◌≡◌, ◌∙◌, map, ap, sym, subst}
use Rattle.std.proofs.lemmas.Result.{IfOk-weaker}
use Rattle.df_live.specs.Frames.{AreFrames}
use Rattle.df_live.specs.Tables.{tables_of}
use Rattle.df_live.specs.Views.{IsLive}
use Rattle.df_state.specs.declared.state.State.{State}
use Rattle.df_frame.specs.FrameParts.{schemas_of, states_of}
use Rattle.df_frame.specs.FrameTables.{table_parts}
use Rattle.df_catalogue.specs.LiveViews.{tagged_frames}
use Rattle.df_catalogue.proofs.LiveFacts.{are-frames, tables-rows, tables-schemas}
use Rattle.df_state.proofs.StateFacts.{state-of}
use Rattle.df_catalogue.proofs.catalogue.Catalogue.view_over.Goals as goal

pub new-requires-clause-schemas : goal.new-requires-clause-schemas
new-requires-clause-schemas g c =
    let tables : c.deref.result.now ≡ map table_parts c.self.inside.frames.items =
    c.deref.ensures.value ∙ (c.in_ok-tables.ensures ∙ ap (map table_parts) c.as_slice.ensures.value) in
    ap (map (λ t. t.schema)) tables ∙ (tables-schemas c.self.inside.frames.items ∙ (ap (λ (s : State). s.schemas) (state-of c.self.view_is) ∙ sym c.requires))

pub new-requires-clause-frames : goal.new-requires-clause-frames
new-requires-clause-frames g c =
    let tables : c.deref.result.now ≡ map table_parts c.self.inside.frames.items =
    c.deref.ensures.value ∙ (c.in_ok-tables.ensures ∙ ap (map table_parts) c.as_slice.ensures.value) in
    let rows : tables_of c.deref.result.now ≡ tagged_frames (states_of c.self.inside.frames.items) = ap tables_of tables ∙ tables-rows c.self.inside.frames.items in
    subst (AreFrames c.args.plan.frames) (sym rows)
    (subst (λ ss. AreFrames ss (tagged_frames (states_of c.self.inside.frames.items))) (ap (λ (s : State). s.schemas) (state-of c.self.view_is) ∙ sym c.requires)
    (are-frames (schemas_of c.self.inside.frames.items) (states_of c.self.inside.frames.items) c.self.invariant.parts.legal.frames))

pub returns-clause-live : goal.returns-clause-live
returns-clause-live g c =
    let tables : c.deref.result.now ≡ map table_parts c.self.inside.frames.items =
    c.deref.ensures.value ∙ (c.in_ok-tables.ensures ∙ ap (map table_parts) c.as_slice.ensures.value) in
    let rows : tables_of c.deref.result.now ≡ tagged_frames c.args.self.now.state.frames =
    ap tables_of tables ∙ (tables-rows c.self.inside.frames.items ∙ ap (λ (s : State). tagged_frames s.frames) (state-of c.self.view_is)) in
    IfOk-weaker c.new.result _ _ (λ v h. subst (IsLive v) rows h) c.new.ensures.live
