use Rattle.std.proofs.Common.{rules}
use Rattle.df_print.proofs.PlainFacts.{plain_text}
use Rattle.df_print.proofs.cells.is_printed_as_it_is.Goals as goal

pub returns : goal.returns
returns c = search (rules, plain_text)
