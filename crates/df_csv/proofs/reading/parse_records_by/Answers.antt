use Rattle.std.proofs.Common.{◌∙◌}
use Rattle.df_csv.proofs.SoundFacts.{sound_result}
use Rattle.df_csv.proofs.TopFacts.{no_text}
use Rattle.df_csv.proofs.reading.parse_records_by.Goals as goal

pub returns-in_default-clause-value : goal.returns-in_default-clause-value
returns-in_default-clause-value g c _ = no_text c.args.bytes.now c.args.schema.now (rw c.skip_marks-text.ensures at c.in_default.ensures.cases.0)

pub returns-clause-sound : goal.returns-clause-sound
returns-clause-sound g c = sound_result c.args.bytes.now c.args.schema.now c.read_text_by.result (rw (c.as_slice.ensures ∙ c.columns.ensures.value) at c.read_text_by.ensures)
