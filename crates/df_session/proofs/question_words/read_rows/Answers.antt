use Rattle.df_session.specs.Commands.{format_words}
use Rattle.df_session.proofs.CommandFacts.{first-word-and-rest}
use Rattle.df_session.proofs.question_words.read_rows.Goals as goal

pub returns-in_ok-read_format-in-len1-up : goal.returns-in_ok-read_format-in-len1-up
returns-in_ok-read_format-in-len1-up c =
    first-word-and-rest _ c.args.arguments.now (format_words c.in_ok-read_format-in-len1-up.field-0) c.in-len1-up.len_at_least c.in_ok-read_format-in-len1-up.ensures
