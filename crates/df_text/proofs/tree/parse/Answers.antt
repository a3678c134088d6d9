use Rattle.std.proofs.Common.{refl, ap}
use Rattle.df_text.specs.Tree.{parsed}
use Rattle.df_text.proofs.Utf8.{utf8_holds, utf8_fails}
use Rattle.df_text.proofs.tree.parse.Goals as goal

pub returns-in-Ok-table_from_str : goal.returns-in-Ok-table_from_str
returns-in-Ok-table_from_str c =
    rw (utf8_holds c.args.bytes.now c.in-Ok.ensures.cases.1) (ap parsed (rw c.in-Ok.ensures.cases.0 at c.in-Ok-table_from_str.ensures.ok))

pub returns-in-Err : goal.returns-in-Err
returns-in-Err c _ = rw (utf8_fails c.args.bytes.now c.in-Err.ensures.cases.0) refl
