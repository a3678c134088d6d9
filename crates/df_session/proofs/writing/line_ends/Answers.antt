use Rattle.df_session.proofs.FramedFacts.{read_behind}
use Rattle.df_session.proofs.writing.line_ends.Goals as goal

pub returns-clause-read_back : goal.returns-clause-read_back
returns-clause-read_back c rest whole = rw c.count_ends.ensures (read_behind 10 c.args.text.now rest whole)
