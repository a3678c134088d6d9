use Rattle.std.proofs.Common.{arith}
use Rattle.std.proofs.lemmas.Grind.{common_steps}
use Rattle.df_words.proofs.reading_command_line.flags_command.Goals as goal

pub returns : goal.returns
returns c = grind (arith, common_steps)
