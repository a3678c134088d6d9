use Rattle.std.proofs.Common.{arith, sym, ◌∙◌}
use Rattle.df_csv.proofs.ChunkFacts.{no_fault}
use Rattle.df_csv.proofs.typed.type_chunk.Goals as goal

pub chunk_of-requires : goal.chunk_of-requires
chunk_of-requires c =
    let typed = rw (c.as_slice-columns.ensures, c.columns.ensures.value) at (sym c.in_ok-rows.ensures ∙ c.in-Good.is) in
    no_fault c.args.schema.now c.args.first _ c.args.len c.args.records.now c.in-Good.rows c.requires.sound.even typed c.requires.short (omega (arith, c.requires.within, c.requires.sound.few))
