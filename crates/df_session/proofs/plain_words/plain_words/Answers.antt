use Rattle.std.proofs.Common.{rules, [], arith, ◌∙◌, ap, sym}
use Rattle.csv.specs.Records.{fields_of}
use Rattle.df_session.proofs.PlainWords.{blank_step, byte_step, last_step, plain_line, split_at_blanks}
use Rattle.df_session.proofs.plain_words.plain_words.Goals as goal
use Rattle.df_session.proofs.plain_words.plain_words.Goals.{then-line-at-eq32+in_ok-push_word, else-line-at-eq32}

pub loop-at-preserved : goal.loop-at-preserved
loop-at-preserved c = elim c.if-line-at-eq32.branch [
  | then-line-at-eq32+in_ok-push_word w ↦ record {
    begun = omega (arith, w.start-is);
    words = blank_step c.args.line.now c.loop-at.start c.loop-at.at c.loop-at.invariant.begun c.loop-at-test.true (fields_of c.loop-at.words) (fields_of c.if-line-at-eq32.words) (split_at_blanks [] c.args.line.now) c.if-line-at-eq32.start w.start-is (search rules) c.loop-at.invariant.words (search rules);
  }
  | else-line-at-eq32 w ↦ record {
    begun = omega (arith, w.start-is, c.loop-at.invariant.begun);
    words = rw w.start-is (rw (ap fields_of w.words-is) (byte_step c.args.line.now c.loop-at.start c.loop-at.at c.loop-at.invariant.begun c.loop-at-test.true (fields_of c.loop-at.words) (split_at_blanks [] c.args.line.now) (search rules) c.loop-at.invariant.words));
  }
]

pub returns : goal.returns
returns c = c.in_ok-push_word-2.ensures ∙ (last_step c.args.line.now c.loop-at.start c.loop-at.at (fields_of c.loop-at.words) (split_at_blanks [] c.args.line.now) (omega (arith, c.loop-at-test.false, c.loop-at.auto.at-end)) c.loop-at.invariant.words ∙ sym (plain_line c.args.line.now c.requires))
