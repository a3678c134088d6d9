use Rattle.std.proofs.Common.{rules}
use Rattle.df_export.proofs.Numerals.{IsNumber-wide}
use Rattle.df_export.proofs.objects.push_whole.Goals as goal

pub number-requires : goal.number-requires
number-requires c = search (rules, IsNumber-wide)

pub returns-clause-number : goal.returns-clause-number
returns-clause-number c = search (rules, IsNumber-wide)
