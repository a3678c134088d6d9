-- What is noted at a tag, as a change of the row there.
use Rattle.std.specs.Prelude.{List}
use Rattle.df_value.specs.declared.cell.Cell.{Cell}
use Rattle.df_column.specs.Changes.{Change}
use Rattle.df_column.specs.declared.tag.Tag.{Tag}
use Rattle.df_delta.specs.declared.notes.Note.{Note}

abbrev pub note_change : Note → Change (List Cell)
note_change note = record { old = note.old; new = note.new }

-- the same, with its tag
abbrev pub noted_change : Tag × Note → Tag × Change (List Cell)
noted_change e = (e.0, note_change e.1)
