use Rattle.std.proofs.Common.{rules}
use Rattle.df_print.proofs.PlainFacts.{width_printable}
use Rattle.df_print.proofs.widths.text_width.Goals as goal

pub returns-then-are_printable : goal.returns-then-are_printable
returns-then-are_printable c = search (rules, width_printable)
