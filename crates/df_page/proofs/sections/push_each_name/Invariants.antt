use Rattle.std.proofs.Common.{◌≡◌, ◌++◌, flat_map, take}
use Rattle.df_page.specs.Sections.{name_tags}
use Rattle.df_page.specs.Markup.{markup}
use Rattle.df_page.proofs.sections.push_each_name.Given as goal

abbrev pub invariant-loop-column : goal.invariant-loop-column
invariant-loop-column l = l.out.items ≡ l.initial.out.items ++ markup (flat_map name_tags (take l.column-index l.schema))
