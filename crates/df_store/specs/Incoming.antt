-- What a worker commits.
use Rattle.df_value.specs.Chunks.{ChunkParts}
use Rattle.df_store.specs.declared.entering.Incoming.{Incoming}
use Rattle.df_store.specs.declared.entering.Incoming.TheVariants as incoming

-- the chunk that a worker commits
abbrev pub chunk_of : Incoming → ChunkParts
chunk_of (incoming.Chunk c) = c.now
chunk_of (incoming.Prepared c) = c.now
