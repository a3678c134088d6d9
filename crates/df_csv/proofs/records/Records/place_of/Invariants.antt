use Rattle.std.proofs.Common.{drop}
use Rattle.df_csv.proofs.PartFacts.{Stands}
use Rattle.df_csv.proofs.records.Records.place_of.Given as goal

abbrev pub invariant-loop-part : goal.invariant-loop-part
invariant-loop-part l = Stands l.self l.row (drop l.part-index l.part-items) l.place
