use Rattle.std.proofs.Common.{rules}
use Rattle.json.proofs.Printed.Decimals.{IsNumber-signed_decimal}
use Rattle.df_export.proofs.objects.push_value.Goals as goal

pub returns-in-Int-clause-numbers : goal.returns-in-Int-clause-numbers
returns-in-Int-clause-numbers c = search (rules, IsNumber-signed_decimal)
