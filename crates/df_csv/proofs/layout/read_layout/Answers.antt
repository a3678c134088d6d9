use Rattle.std.proofs.Common.{◌∙◌}
use Rattle.csv.specs.Records.{fields_of}
use Rattle.df_csv.proofs.TextFields.{texts_next}
use Rattle.df_csv.proofs.TopFacts.{header_lays}
use Rattle.df_csv.proofs.layout.read_layout.Goals as goal

pub names_of-requires : goal.names_of-requires
names_of-requires g c = (texts_next _ _ _ c.in-Row.ensures.1 c.requires.texts).0

pub returns-in-Ok-header_indices : goal.returns-in-Ok-header_indices
returns-in-Ok-header_indices g c =
    let (sound, indices) = c.in-Ok-header_indices.ensures in (
      c.in-Row.ensures.0,
      (
        fields_of c.next_row.new.row,
        c.in-Row.ensures.1,
        header_lays c.args.columns.now (fields_of c.next_row.new.row) c.as_slice.result.now _ (c.as_slice.ensures.value ∙ c.in-Ok.ensures) sound indices c.len-width.ensures,
      ),
    )
