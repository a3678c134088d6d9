use Rattle.std.proofs.Common.{◌∙◌}
use Rattle.df_csv.proofs.TextFields.{all_texts}
use Rattle.df_csv.proofs.TopFacts.{text_says, text_unmarked}
use Rattle.df_csv.proofs.reading.read_text_by.Goals as goal

pub read_segments-requires-clause-marks : goal.read_segments-requires-clause-marks
read_segments-requires-clause-marks g c κs within = text_unmarked c.args.bytes.now c.args.text.now c.requires.marks

pub read_segments-requires-clause-texts : goal.read_segments-requires-clause-texts
read_segments-requires-clause-texts g c κs within = all_texts c.args.text.now c.requires.utf8

pub returns-in-Ok-Some : goal.returns-in-Ok-Some
returns-in-Ok-Some g c =
    text_says c.args.bytes.now c.args.text.now c.args.columns.now c.requires.marks c.requires.utf8
    ∙ rw c.in-Ok-Some.field-0-is at c.in-Ok-Some.ensures
