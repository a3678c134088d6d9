use Rattle.std.proofs.Common.{◌≡◌, ◌≤◌, ◌++◌, ◌-◌, [], drop, take}
use Rattle.csv.specs.Records.{fields_of}
use Rattle.df_session.proofs.PlainWords.{split_at_blanks}
use Rattle.df_session.proofs.plain_words.plain_words.Given as goal

abbrev pub invariant-loop-at : goal.invariant-loop-at
invariant-loop-at l =
    record {
      begun : l.start ≤ l.at;
      words : fields_of l.words ++ split_at_blanks (take (l.at - l.start) (drop l.start l.line)) (drop l.at l.line) ≡ split_at_blanks [] l.line;
    }
