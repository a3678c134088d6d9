use Rattle.df_explain.proofs.DocumentFacts.{next_view_steps}
use Rattle.df_explain.proofs.next_view.next_view_words.Goals as goal

pub returns-clause-steps : goal.returns-clause-steps
returns-clause-steps c view is =
    next_view_steps c.args.document.now.frames c.args.document.now.views c.args.name.now c.args.source.now c.args.steps.now view is
