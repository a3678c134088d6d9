use Rattle.std.proofs.Common.{◌≡◌, ◌++◌, flat_map, take}
use Rattle.df_session.specs.Marks.{section_behind}
use Rattle.df_session.proofs.sections.push_sections.Given as goal

abbrev pub invariant-loop-shown : goal.invariant-loop-shown
invariant-loop-shown l = l.page.items ≡ l.fn.page.items ++ flat_map (section_behind l.before) (take l.shown-index l.tables)
