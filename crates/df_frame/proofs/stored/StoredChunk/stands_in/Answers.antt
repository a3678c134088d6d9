use Rattle.std.proofs.Common.{◌≡◌, ◌+◌, ◌≤◌, ap, arith, length, subst, sym}
use Rattle.std.specs.Arc.{arc_value}
use Rattle.std.specs.FinMap as finite
use Rattle.df_value.specs.Chunks.{ChunkParts}
use Rattle.df_column.specs.RowRuns.{AreThose, StandFrom}
use Rattle.df_column.specs.Tables.{TableParts}
use Rattle.df_frame.proofs.StoredRows.{rows_from_length, stored-alike}
use Rattle.df_frame.proofs.stored.StoredChunk.stands_in.Goals as goal

pub returns-clause-alike : goal.returns-clause-alike
returns-clause-alike c = λ within stand.
    let t = c.args.table.now.rows in
    let at = c.args.at in
    let s = c.self.inside in
    let own : TableParts = arc_value s.table in
    let stored = c.self.invariant in
    let lent : c.deref.result.now ≡ own = c.deref.ensures in
    let many = rows_from_length own s.low s.len stored.within in
    let rows = ap (λ (chunk : ChunkParts). length chunk.rows) c.self.view_is in
    let short : at + s.len ≤ finite.len t = omega (arith, within, many, rows) in
    let there =
    stored-alike t c.requires.tags own s.first s.low s.len at stored short
    (subst (λ (chunk : ChunkParts). StandFrom (finite.entries t) at (chunk.first + 1) chunk.rows) (sym c.self.view_is) stand) in
    c.has_rows_of.ensures.alike short
    (subst (λ (p : TableParts). s.low + s.len ≤ finite.len p.rows) (sym lent) stored.within)
    (subst (λ (p : TableParts). AreThose (finite.entries t) at (finite.entries p.rows) s.low s.len) (sym lent) there)
