use Rattle.df_session.proofs.DeclarationFacts.{declared-by, frame-words, refused-words}
use Rattle.df_session.proofs.declared_frames.declare_words.Goals as goal

pub returns-in_ok-columns-in-len1-up-clause-declared : goal.returns-in_ok-columns-in-len1-up-clause-declared
returns-in_ok-columns-in-len1-up-clause-declared c =
    declared-by c.declare.result _ _ _ _ _
    (frame-words _ c.args.arguments.now _ _ c.in-len1-up.len_at_least c.in_ok-columns-in-len1-up.ensures.said c.as_slice.ensures.value)
    c.declare.ensures.declared

pub returns-in_ok-columns-in-len1-up-clause-refused : goal.returns-in_ok-columns-in-len1-up-clause-refused
returns-in_ok-columns-in-len1-up-clause-refused c =
    refused-words c.declare.result _ _ _ _
    (frame-words _ c.args.arguments.now _ _ c.in-len1-up.len_at_least c.in_ok-columns-in-len1-up.ensures.said c.as_slice.ensures.value)
    c.declare.ensures.refused
