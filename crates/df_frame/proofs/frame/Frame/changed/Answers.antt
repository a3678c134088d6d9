use Rattle.std.proofs.Common.{◌≡◌, ◌+◌, ◌∙◌, length, ap, sym, subst, arith}
use Rattle.df_column.specs.Changes.{applied}
use Rattle.df_delta.specs.Deltas.{RowsFit}
use Rattle.df_frame.specs.FrameChanges.{delta_in, frame_after}
use Rattle.df_frame.specs.FrameParts.{FrameParts}
use Rattle.df_frame.specs.FrameTables.{tagged_rows_of}
use Rattle.df_frame.proofs.Counting.{live-left}
use Rattle.df_frame.proofs.FrameChangeFacts.{frame-accepted, frame-deleted, numbered-after}
use Rattle.df_frame.proofs.FrameTableFacts.{frame-tabled, frame-tables, table-fits, table-is}
use Rattle.df_frame.proofs.frame.Frame.changed.Goals as goal

pub overflow_add-frame : goal.overflow_add-frame
overflow_add-frame c =
    let f = c.args.self.now.state in
    let sound = numbered-after c.args.change f c.accepted_rows.ensures.sound c.requires.sound c.requires.free in
    let before = c.self.invariant.counts_accepted ∙ ap (λ (x : FrameParts). length x.state.accepted) c.self.view_is in
    let more = frame-accepted c.args.change f in
    let few = sound.few in
    omega (arith, before, more, few, c.accepted_rows.ensures.value)

pub overflow_add-frame-2 : goal.overflow_add-frame-2
overflow_add-frame-2 c =
    let f = c.args.self.now.state in
    let sound = numbered-after c.args.change f c.accepted_rows.ensures.sound c.requires.sound c.requires.free in
    let before = c.self.invariant.counts_deleted ∙ ap (λ (x : FrameParts). length x.state.deleted) c.self.view_is in
    let more = frame-deleted c.args.change f c.requires.sound c.requires.free in
    let part = live-left (frame_after f c.args.change) sound in
    let few = sound.few in
    omega (arith, before, more, part, few, c.deleted_rows.ensures)

pub invariant_of-frame : goal.invariant_of-frame
invariant_of-frame c =
    let f = c.args.self.now.state in
    let change = c.args.change in
    let sound = numbered-after change f c.accepted_rows.ensures.sound c.requires.sound c.requires.free in
    let t = c.self.inside.table.rows in
    let is : t ≡ tagged_rows_of f = sym (table-is t c.self.invariant.tags) ∙ ap (λ (x : FrameParts). tagged_rows_of x.state) c.self.view_is in
    let d = delta_in c.in_ok-delta.delta in
    let gives : applied t d ≡ tagged_rows_of (frame_after f change) = ap (λ u. applied u d) is ∙ c.in_ok-delta.ensures.gives in
    let fits = subst (λ schema. RowsFit schema (applied t d)) (sym (ap (λ (x : FrameParts). x.schema) c.self.view_is))
    (subst (RowsFit c.args.self.now.schema) (sym gives) (table-fits c.args.self.now.schema (frame_after f change) sound c.requires.fits)) in
    frame-tabled (frame_after f change) sound c.in_ok-accepted.accepted c.in_ok-table.table.rows c.in_ok-accepted.ensures (c.in_ok-table.ensures.rows fits ∙ gives) _ _
    (ap (λ k. k + c.accepted_rows.result) (c.self.invariant.counts_accepted ∙ ap (λ (x : FrameParts). length x.state.accepted) c.self.view_is)
    ∙ (ap (λ k. length f.accepted + k) c.accepted_rows.ensures.value ∙ sym (frame-accepted change f)))
    (ap (λ k. k + c.deleted_rows.result) (c.self.invariant.counts_deleted ∙ ap (λ (x : FrameParts). length x.state.deleted) c.self.view_is)
    ∙ (ap (λ k. length f.deleted + k) c.deleted_rows.ensures ∙ sym (frame-deleted change f c.requires.sound c.requires.free)))

pub returns-clause-state : goal.returns-clause-state
returns-clause-state c =
    let f = c.args.self.now.state in
    let change = c.args.change in
    let sound = numbered-after change f c.accepted_rows.ensures.sound c.requires.sound c.requires.free in
    let t = c.self.inside.table.rows in
    let is : t ≡ tagged_rows_of f = sym (table-is t c.self.invariant.tags) ∙ ap (λ (x : FrameParts). tagged_rows_of x.state) c.self.view_is in
    let d = delta_in c.in_ok-delta.delta in
    let gives : applied t d ≡ tagged_rows_of (frame_after f change) = ap (λ u. applied u d) is ∙ c.in_ok-delta.ensures.gives in
    let fits = subst (λ schema. RowsFit schema (applied t d)) (sym (ap (λ (x : FrameParts). x.schema) c.self.view_is))
    (subst (RowsFit c.args.self.now.schema) (sym gives) (table-fits c.args.self.now.schema (frame_after f change) sound c.requires.fits)) in
    frame-tables (frame_after f change) sound c.in_ok-accepted.accepted c.in_ok-table.table.rows c.in_ok-accepted.ensures (c.in_ok-table.ensures.rows fits ∙ gives)
