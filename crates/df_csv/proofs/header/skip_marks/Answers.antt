use Rattle.std.proofs.Common.{◌∙◌, sym}
use Rattle.df_csv.proofs.HeaderFacts.{marks_more, marks_end, drop_rest}
use Rattle.df_csv.proofs.header.skip_marks.Goals as goal

pub loop-rest-preserved : goal.loop-rest-preserved
loop-rest-preserved c = rw (drop_rest c.loop-rest.rest.now) (marks_more c.loop-rest.rest.now (sym c.is_marked.ensures ∙ c.loop-rest-test.true) ∙ c.loop-rest.invariant)

pub returns : goal.returns
returns c = marks_end c.loop-rest.rest.now (sym c.is_marked.ensures ∙ c.loop-rest-test.false) ∙ c.loop-rest.invariant
