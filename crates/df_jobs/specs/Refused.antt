-- The chunks that were refused since a cell is bad.
use Rattle.std.specs.Prelude.{ℕ, Option, Some, None}
use Rattle.df_value.specs.declared.chunk.Piece.{Piece}
use Rattle.df_value.specs.declared.chunk.Piece.TheVariants.{Good, Bad}
use Rattle.df_jobs.specs.declared.refused.Refused.{Refused}

-- what a job is refused for, if its chunk has a bad cell
abbrev pub refused_for : ℕ → ℕ → Piece → Option Refused
refused_for frame first (Good c) = None
refused_for frame first (Bad b) = Some (record { frame = frame; first = first; cell = b })

abbrev pub refusal : ℕ × (ℕ × Piece) → Option Refused
refusal j = refused_for j.0 j.1.0 j.1.1
