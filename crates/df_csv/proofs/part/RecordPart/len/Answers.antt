use Rattle.std.proofs.Common.{length, ap, sym, ◌∙◌}
use Rattle.df_csv.proofs.BufferFacts.{rows_length}
use Rattle.df_csv.proofs.part.RecordPart.len.Goals as goal

pub returns : goal.returns
returns c = sym (ap length (sym c.self.view_is) ∙ rows_length _ _ _)
