use Rattle.std.proofs.Common.{◌≡◌, Some, ap, sym, ◌∙◌, cond, rules}
use Rattle.std.specs.Prelude.{◌==◌}
use Rattle.std.specs.FinMap as finite
use Rattle.indexmap.specs.IndexMap.{get}
use Rattle.df_value.specs.Rows.{row_eq}
use Rattle.df_column.specs.Changes.{set_at}
use Rattle.df_column.specs.Tables.{TableParts}
use Rattle.df_delta.specs.RowKeys.{key_cells}
use Rattle.df_join.specs.Keyed.{staged_or, table_or}
use Rattle.df_join.specs.RowNotes.{row_after, without}
use Rattle.df_join.proofs.Staging.{if_ok_then, on_ok_then, state_moved}
use Rattle.df_join.proofs.members.Members.stage_in_key.Goals as goal

pub returns-in-Some-clause-states : goal.returns-in-Some-clause-states
returns-in-Some-clause-states c =
    let now = c.args.self.now in
    let key = key_cells c.args.key in
    let made = c.move_row.new.table in
    let updates = (c.get_mut.follows.holds made).3 (search rules) in
    on_ok_then c.move_row.result c.move_row.ensures.table (λ is g group fits.
    let before = c.in_ok-give_schema.ensures ∙ ap (λ s. table_or now.empty (staged_or s (get row_eq now.keyed.tables key))) c.in-Some.ensures.value ∙ group.at in
    state_moved now.keyed.tables c.args.staged.now.tables (c.get_mut.follows.lender made) key made (set_at g c.args.tag (row_after c.args.goes c.args.row.now)) now.empty.schema updates.0
    (is ∙ ap (λ (t : TableParts). record { schema = t.schema; rows = set_at t.rows c.args.tag (row_after c.args.goes c.args.row.now) }) before))

pub returns-in-Some-clause-alone : goal.returns-in-Some-clause-alone
returns-in-Some-clause-alone c =
    let now = c.args.self.now in
    let key = key_cells c.args.key in
    if_ok_then c.move_row.result c.move_row.ensures.alone (λ alone is g group fits.
    let before = c.in_ok-give_schema.ensures ∙ ap (λ s. table_or now.empty (staged_or s (get row_eq now.keyed.tables key))) c.in-Some.ensures.value ∙ group.at in
    is ∙ ap (λ (t : TableParts). finite.len (without c.args.goes t.rows c.args.tag) == 0) before)

pub returns-clause-states : goal.returns-clause-states
returns-clause-states c g group fits =
    let now = c.args.self.now in
    let key = key_cells c.args.key in
    let made = c.move_row-2.new.table in
    let same = c.get_mut.follows.holds-at-none in
    let before = c.in_ok-table.ensures.table ∙ ap (λ s. table_or now.empty (staged_or s (get row_eq now.keyed.tables key))) c.in_default.ensures.value ∙ group.at in
    state_moved now.keyed.tables c.args.staged.now.tables c.put.new.self.tables key made (set_at g c.args.tag (row_after c.args.goes c.args.row.now)) now.empty.schema
    (λ k. c.in_ok-put.ensures k ∙ (λ i. cond (row_eq key k) (Some made) (get row_eq (same i) k)))
    (c.in_ok-alone.ensures.table ∙ ap (λ (t : TableParts). record { schema = t.schema; rows = set_at t.rows c.args.tag (row_after c.args.goes c.args.row.now) }) before)

pub returns-clause-alone : goal.returns-clause-alone
returns-clause-alone c g group fits =
    let now = c.args.self.now in
    let key = key_cells c.args.key in
    let before = c.in_ok-table.ensures.table ∙ ap (λ s. table_or now.empty (staged_or s (get row_eq now.keyed.tables key))) c.in_default.ensures.value ∙ group.at in
    c.in_ok-alone.ensures.alone ∙ ap (λ (t : TableParts). finite.len (without c.args.goes t.rows c.args.tag) == 0) before
