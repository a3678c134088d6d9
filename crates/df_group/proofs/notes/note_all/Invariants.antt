use Rattle.std.proofs.Common.{◌≡◌, ◌≤◌, drop}
use Rattle.std.specs.FinMap as finite
use Rattle.indexmap.specs.IndexMap.{keys, index_map_len}
use Rattle.df_column.specs.Tables.{TaggedRows}
use Rattle.df_column.specs.declared.tag.Tag.{Tag}
use Rattle.df_group.specs.GroupIndex.{IsIndexOf, LeadsTo, output_at}
use Rattle.df_group.specs.NotedSides.{both_sides}
use Rattle.df_group.specs.declared.grouping.Grouping.{Grouping}
use Rattle.df_group.proofs.notes.note_all.Given as goal

abbrev pub invariant-loop-at : goal.invariant-loop-at
invariant-loop-at l =
    record {
      within : l.at ≤ index_map_len l.staged;
      noted : (g : Grouping) (t u : TaggedRows) → IsIndexOf g l.index t → LeadsTo g l.index l.staged u → (q : Tag) → finite.get l.notes q ≡ both_sides (output_at g (drop l.at (keys l.staged)) t q) (output_at g (drop l.at (keys l.staged)) u q);
    }

abbrev pub decreases-loop-at : goal.decreases-loop-at
decreases-loop-at l = l.at
