use Rattle.std.proofs.Common.{◌≡◌, ◌+◌, ◌∙◌, drop, take, ap, arith, subst, sym}
use Rattle.std.specs.Arc.{arc_value}
use Rattle.std.specs.FinMap as finite
use Rattle.std.proofs.lemmas.List.{drop-take}
use Rattle.df_value.specs.Chunks.{ChunkParts, IsChunk}
use Rattle.df_column.specs.Tables.{TableParts}
use Rattle.df_frame.specs.Stored.{rows_from}
use Rattle.df_frame.proofs.StoredAgain.{memory-alone, no-fault}
use Rattle.df_frame.proofs.stored.StoredChunk.to_chunk.Goals as goal

pub overflow_add-self-inside : goal.overflow_add-self-inside
overflow_add-self-inside c =
    let few = c.self.invariant.few in
    let within = c.self.invariant.within in
    omega (arith, few, within)

pub memory_of-requires : goal.memory_of-requires
memory_of-requires c =
    let s = c.self.inside in
    let own : TableParts = arc_value s.table in
    let rows : c.from_vec-rows.result ≡ rows_from own s.low s.len =
    c.from_vec-rows.ensures ∙ (c.in_ok-rows.ensures ∙ (ap (λ (t : TableParts). drop s.low (take (s.low + s.len) (finite.values t.rows))) c.deref.ensures ∙ drop-take s.low s.len (finite.values own.rows))) in
    let schema : c.schema.result.now ≡ own.schema = c.schema.ensures.value ∙ ap (λ (t : TableParts). t.schema) c.deref-2.ensures in
    let sound =
    subst (λ columns. IsChunk columns s.first c.from_vec-rows.result) (sym schema) (subst (IsChunk own.schema s.first) (sym rows) c.self.invariant.sound) in
    memory-alone c.in-Err.refused.fault _ c.in-Err.ensures.fault (no-fault c.schema.result.now s.first c.from_vec-rows.result sound)

pub returns-in-Ok : goal.returns-in-Ok
returns-in-Ok c =
    let s = c.self.inside in
    let own : TableParts = arc_value s.table in
    let rows : c.from_vec-rows.result ≡ rows_from own s.low s.len =
    c.from_vec-rows.ensures ∙ (c.in_ok-rows.ensures ∙ (ap (λ (t : TableParts). drop s.low (take (s.low + s.len) (finite.values t.rows))) c.deref.ensures ∙ drop-take s.low s.len (finite.values own.rows))) in
    let schema : c.schema.result.now ≡ own.schema = c.schema.ensures.value ∙ ap (λ (t : TableParts). t.schema) c.deref-2.ensures in
    let made = c.in-Ok.ensures.made in
    let all : c.in-Ok.chunk ≡ record { schema = own.schema; first = s.first; rows = rows_from own s.low s.len } =
    λ i. record { schema = (made.of_schema ∙ schema) i; first = made.of_first i; rows = (made.of_rows ∙ rows) i } in
    all ∙ c.self.view_is
