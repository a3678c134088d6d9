use Rattle.std.proofs.Common.{map, sym}
use Rattle.toml.specs.View.{view}
use Rattle.toml.proofs.Views.{view-Array}
use Rattle.df_text.proofs.TreeFacts.{list_of-items}
use Rattle.df_explain.proofs.part.items_of.Goals as goal

pub returns-in-Array : goal.returns-in-Array
returns-in-Array c =
    rw (c.in-Array.is, view-Array c.in-Array.items, c.as_slice.ensures.value) (sym (list_of-items (map view c.in-Array.items.items)))
