use Rattle.std.proofs.Common.{sym, ◌∙◌}
use Rattle.toml.specs.View.{view}
use Rattle.df_text.specs.Document.{is_table}
use Rattle.df_text.proofs.TreeFacts.{list_all-map}
use Rattle.df_text.proofs.views.are_tables.Goals as goal

pub returns : goal.returns
returns c = c.all_are_tables.ensures ∙ sym (list_all-map is_table view c.args.values.now)
