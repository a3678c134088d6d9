use Rattle.df_csv.proofs.BufferFacts.{record_length}
use Rattle.df_csv.proofs.part.RecordPart.record_len.Goals as goal

pub returns : goal.returns
returns c = record_length _ _ c.args.row _ c.args.self.now c.self.view_is c.self.invariant.0 c.requires
