use Rattle.toml.specs.View.{table_view}
use Rattle.df_text.proofs.Utf8.{utf8_holds, utf8_fails}
use Rattle.df_explain.proofs.PlaceFacts.{whatever}
use Rattle.df_explain.proofs.TreeFacts.{tree_of_bytes, tree_of_text}
use Rattle.df_explain.proofs.next_view.table_of.Goals as goal

pub returns-in_default-clause-none : goal.returns-in_default-clause-none
returns-in_default-clause-none c =
    whatever c.from_str.result (tree_of_bytes c.args.bytes.now (utf8_fails c.args.bytes.now c.in_default.ensures.cases.0))

pub returns-in-Ok-table_from_str-clause-table : goal.returns-in-Ok-table_from_str-clause-table
returns-in-Ok-table_from_str-clause-table c =
    tree_of_text c.args.bytes.now (table_view c.in-Ok-table_from_str.table) (utf8_holds c.args.bytes.now c.in-Ok.ensures.cases.1)
    (rw c.in-Ok.ensures.cases.0 at c.in-Ok-table_from_str.ensures.ok)
