use Rattle.std.proofs.Common.{◌≡◌, ◌∙◌, ◌&&◌, get_or, length, ap, sym, arith}
use Rattle.std.proofs.lemmas.Bool.{eq-eqb, ne_eqb}
use Rattle.std.specs.FinMap as finite
use Rattle.df_value.specs.Rows.{row_eq}
use Rattle.df_frame.specs.FrameParts.{FrameParts}
use Rattle.df_frame.specs.FrameTables.{numbered_rows}
use Rattle.df_frame.proofs.FrameTableFacts.{row-tested, some_entry, table-length, tested-past}
use Rattle.df_frame.proofs.frame.Frame.is_row.Goals as goal

pub returns-then-place-len : goal.returns-then-place-len
returns-then-place-len c =
    let long : c.len.result ≡ length c.args.self.now.state.rows = c.len.ensures.value ∙ (table-length c.self.inside.table.rows ∙ ap (λ (f : FrameParts). length f.state.rows) c.self.view_is) in
    sym (tested-past c.args.number c.args.row.now c.args.self.now.state.rows c.args.place (omega (arith, long, c.if-place-len.true)))

pub number_at-requires-clause-within : goal.number_at-requires-clause-within
number_at-requires-clause-within c =
    let long : c.len.result ≡ length c.args.self.now.state.rows = c.len.ensures.value ∙ (table-length c.self.inside.table.rows ∙ ap (λ (f : FrameParts). length f.state.rows) c.self.view_is) in
    omega (arith, long, c.if-place-len.false)

pub returns-then-number_at-number : goal.returns-then-number_at-number
returns-then-number_at-number c =
    let f = c.args.self.now.state in
    let rows : numbered_rows c.self.inside.table.rows ≡ f.rows = ap (λ (f : FrameParts). f.state.rows) c.self.view_is in
    let long : c.len.result ≡ length f.rows = c.len.ensures.value ∙ (table-length c.self.inside.table.rows ∙ ap length rows) in
    let same = row_eq (get_or (finite.entries c.self.inside.table.rows) c.args.place some_entry).1 c.args.row.now in
    c.is_row.ensures some_entry
    ∙ ap (λ b. b && same) (sym (eq-eqb c.number_at.result c.args.number c.if-number_at-number.true))
    ∙ sym (row-tested c.self.inside.table.rows f rows c.args.place c.args.number c.number_at.result c.args.row.now (omega (arith, long, c.if-place-len.false)) c.number_at.ensures)

pub returns-else-number_at-number : goal.returns-else-number_at-number
returns-else-number_at-number c =
    let f = c.args.self.now.state in
    let rows : numbered_rows c.self.inside.table.rows ≡ f.rows = ap (λ (f : FrameParts). f.state.rows) c.self.view_is in
    let long : c.len.result ≡ length f.rows = c.len.ensures.value ∙ (table-length c.self.inside.table.rows ∙ ap length rows) in
    let same = row_eq (get_or (finite.entries c.self.inside.table.rows) c.args.place some_entry).1 c.args.row.now in
    let other = ne_eqb c.number_at.result c.args.number c.if-number_at-number.false in
    other
    ∙ ap (λ b. b && same) (sym other)
    ∙ sym (row-tested c.self.inside.table.rows f rows c.args.place c.args.number c.number_at.result c.args.row.now (omega (arith, long, c.if-place-len.false)) c.number_at.ensures)
