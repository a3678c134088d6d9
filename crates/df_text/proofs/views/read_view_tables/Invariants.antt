use Rattle.std.proofs.Common.{◌≡◌, [], map, drop}
use Rattle.toml.specs.View.{view}
use Rattle.df_text.specs.Reading.{read_after}
use Rattle.df_text.specs.Document.{view_of}
use Rattle.df_text.proofs.views.read_view_tables.Given as goal

abbrev pub invariant-loop-table : goal.invariant-loop-table
invariant-loop-table l =
    (read_after (view_of l.frames)) [] (map view l.tables) ≡ (read_after (view_of l.frames)) l.views.items (map view (drop l.table-index l.tables))
