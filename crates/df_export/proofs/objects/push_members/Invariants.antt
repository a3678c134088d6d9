use Rattle.std.proofs.Common.{◌≡◌, ◌++◌, drop, length}
use Rattle.json.specs.Tree.{MembersHaveNumbers, members_tokens}
use Rattle.df_export.specs.JsonLines.{members_of}
use Rattle.df_export.proofs.objects.push_members.Given as goal

abbrev pub invariant-loop-column : goal.invariant-loop-column
invariant-loop-column l = record {
  before : l.writer.before ≡ l.initial.writer.before;
  value :
      l.writer.tokens ++ members_tokens (members_of (drop (length l.yielded) l.columns) (drop (length l.yielded) l.row))
      ≡ l.initial.writer.tokens ++ members_tokens (members_of l.columns l.row);
  numbers :
      MembersHaveNumbers (members_of (drop (length l.yielded) l.columns) (drop (length l.yielded) l.row))
      → MembersHaveNumbers (members_of l.columns l.row);
}
