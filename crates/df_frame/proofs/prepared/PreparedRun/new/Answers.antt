use Rattle.std.proofs.Common.{◌∙◌, ap, sym}
use Rattle.std.specs.Arc.{arc_value}
use Rattle.std.specs.FinMap as finite
use Rattle.df_value.specs.Chunks.{ChunkParts}
use Rattle.df_column.specs.Changes.{applied}
use Rattle.df_column.specs.Tables.{TableParts}
use Rattle.df_frame.proofs.PreparedFacts.{run-made, run-table}
use Rattle.df_frame.proofs.prepared.PreparedRun.new.Goals as goal

pub with_table-requires : goal.with_table-requires
with_table-requires c =
    let chunk : ChunkParts = record { schema = c.args.schema.now; first = c.args.first; rows = c.args.rows.items } in
    let schema = c.in_ok-none.ensures.schema ∙ c.in_ok-copy.ensures in
    ap (λ (t : TableParts). t.rows) (c.in_ok-try_clone.ensures ∙ c.in_ok-table.ensures.ok)
    ∙ run-table chunk c.requires c.in_ok-none.none c.in_ok-apply.field-0 c.in_ok-delta.delta schema c.in_ok-none.ensures.rows c.in_ok-delta.ensures c.in_ok-apply.ensures.rows

pub invariant_of-result : goal.invariant_of-result
invariant_of-result c =
    let chunk : ChunkParts = record { schema = c.args.schema.now; first = c.args.first; rows = c.args.rows.items } in
    let schema = c.in_ok-none.ensures.schema ∙ c.in_ok-copy.ensures in
    let rows =
    ap (λ (t : TableParts). t.rows) c.in_ok-table.ensures.ok
    ∙ run-table chunk c.requires c.in_ok-none.none c.in_ok-apply.field-0 c.in_ok-delta.delta schema c.in_ok-none.ensures.rows c.in_ok-delta.ensures c.in_ok-apply.ensures.rows in
    (run-made chunk c.requires (arc_value c.in_ok-table.table) c.with_table.result
    (ap (λ (t : TableParts). t.schema) c.in_ok-table.ensures.ok ∙ (c.in_ok-apply.ensures.schema ∙ schema)) (c.with_table.ensures ∙ c.in_ok-delta.ensures)
    (rows ∙ ap (applied finite.empty) (sym c.with_table.ensures))).0

pub returns : goal.returns
returns c =
    let chunk : ChunkParts = record { schema = c.args.schema.now; first = c.args.first; rows = c.args.rows.items } in
    let schema = c.in_ok-none.ensures.schema ∙ c.in_ok-copy.ensures in
    let rows =
    ap (λ (t : TableParts). t.rows) c.in_ok-table.ensures.ok
    ∙ run-table chunk c.requires c.in_ok-none.none c.in_ok-apply.field-0 c.in_ok-delta.delta schema c.in_ok-none.ensures.rows c.in_ok-delta.ensures c.in_ok-apply.ensures.rows in
    (run-made chunk c.requires (arc_value c.in_ok-table.table) c.with_table.result
    (ap (λ (t : TableParts). t.schema) c.in_ok-table.ensures.ok ∙ (c.in_ok-apply.ensures.schema ∙ schema)) (c.with_table.ensures ∙ c.in_ok-delta.ensures)
    (rows ∙ ap (applied finite.empty) (sym c.with_table.ensures))).1
