use Rattle.df_explain.proofs.DocumentFacts.{document_steps}
use Rattle.df_explain.proofs.explaining.explanation.Goals as goal

pub returns-clause-steps : goal.returns-clause-steps
returns-clause-steps c document is = document_steps c.args.bytes.now document is

pub returns-in_err-words-clause-steps : goal.returns-in_err-words-clause-steps
returns-in_err-words-clause-steps c document is = document_steps c.args.bytes.now document is
