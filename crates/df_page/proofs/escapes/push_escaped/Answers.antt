use Rattle.df_page.proofs.EscapeFacts.{escaped_reads, escaped_text}
use Rattle.df_page.proofs.escapes.push_escaped.Goals as goal

pub returns-clause-reads : goal.returns-clause-reads
returns-clause-reads c = escaped_reads c.args.text.now

pub returns-clause-text : goal.returns-clause-text
returns-clause-text c = escaped_text c.args.text.now

pub returns-in_err-push_byte-clause-reads : goal.returns-in_err-push_byte-clause-reads
returns-in_err-push_byte-clause-reads c = escaped_reads c.args.text.now

pub returns-in_err-push_byte-clause-text : goal.returns-in_err-push_byte-clause-text
returns-in_err-push_byte-clause-text c = escaped_text c.args.text.now
