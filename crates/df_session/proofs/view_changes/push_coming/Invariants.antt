use Rattle.std.proofs.Common.{◌≡◌, ◌++◌, flat_map, take}
use Rattle.std.specs.Prelude.{codes}
use Rattle.std.specs.FinMap as finite
use Rattle.df_session.specs.ViewChanges.{line_of, place_of}
use Rattle.df_session.proofs.view_changes.push_coming.Given as goal

abbrev pub invariant-loop-entry : goal.invariant-loop-entry
invariant-loop-entry l =
    l.out.items ≡ l.fn.out.items
    ++ flat_map (λ e. line_of (codes "+,") (place_of e.tag (finite.entries l.table.rows)) e.new) (take l.entry-index l.entries)
