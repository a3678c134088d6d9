use Rattle.df_words.proofs.FlagFacts.{flag_of}
use Rattle.df_words.proofs.reading_command_line.is_set.Goals as goal

pub returns : goal.returns
returns c = flag_of _ _ c.get_flag.ensures.none c.get_flag.ensures.value c.get_flag.ensures.other
