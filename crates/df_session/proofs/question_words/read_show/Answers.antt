use Rattle.std.proofs.Common.{◌++◌, map}
use Rattle.df_session.specs.Commands.{format_words}
use Rattle.df_session.proofs.CommandFacts.{first-word-and-rest}
use Rattle.df_session.proofs.question_words.read_show.Goals as goal

pub returns-in_ok-read_part-in-len1-up : goal.returns-in_ok-read_part-in-len1-up
returns-in_ok-read_part-in-len1-up c =
    let split = c.split_format-format.result in
    let rest = map (λ w. w.now) split.0.now ++ format_words split.1 in
    (_, first-word-and-rest _ c.args.arguments.now rest c.in-len1-up.len_at_least c.split_format-format.ensures, c.in_ok-read_part-in-len1-up.ensures)
