use Rattle.std.proofs.Common.{◌≡◌, ◌+◌, ◌≤◌, ◌∙◌, length, drop, take, ap, subst, sym}
use Rattle.std.specs.Arc.{arc_value}
use Rattle.std.specs.FinMap as finite
use Rattle.df_value.specs.Chunks.{ChunkParts}
use Rattle.df_column.specs.Changes.{applied}
use Rattle.df_column.specs.Tables.{TableParts}
use Rattle.df_frame.specs.Prepared.{delta_of_chunk, run_in}
use Rattle.df_frame.specs.Stored.{IsStored, rows_from}
use Rattle.df_frame.proofs.PreparedFacts.{part-rows, part-stored}
use Rattle.df_frame.proofs.prepared.PreparedRun.part.Goals as goal

pub new-requires : goal.new-requires
new-requires c =
    let own = arc_value c.self.inside.table in
    let run = run_in own c.self.inside.first in
    let same : run ≡ c.args.self.now = c.self.view_is in
    let is : own.rows ≡ applied finite.empty (delta_of_chunk run) = c.self.invariant.rows_are ∙ ap (applied finite.empty) c.self.invariant.delta_is in
    subst (λ (t : TableParts). IsStored t c.args.first c.args.low c.args.len) (sym c.in_ok-table.ensures)
    (part-stored run c.self.invariant.sound own (λ i. own.schema) is c.args.low c.args.first c.args.len
    (subst (λ (x : ChunkParts). c.args.low + c.args.len ≤ length x.rows) (sym same) c.requires.within) c.requires.short
    (subst (λ (x : ChunkParts). c.args.first ≡ x.first + c.args.low) (sym same) c.requires.number))

pub returns : goal.returns
returns c =
    let own = arc_value c.self.inside.table in
    let t = arc_value c.in_ok-table.table in
    let same = c.self.view_is in
    let schema : t.schema ≡ c.args.self.now.schema = ap (λ (u : TableParts). u.schema) c.in_ok-table.ensures ∙ ap (λ (x : ChunkParts). x.schema) same in
    let rows : rows_from t c.args.low c.args.len ≡ take c.args.len (drop c.args.low c.args.self.now.rows) =
    ap (λ (u : TableParts). rows_from u c.args.low c.args.len) c.in_ok-table.ensures ∙ ap (λ (x : ChunkParts). take c.args.len (drop c.args.low x.rows)) same in
    c.new.ensures ∙ (λ i. record { schema = schema i; first = c.args.first; rows = rows i })
