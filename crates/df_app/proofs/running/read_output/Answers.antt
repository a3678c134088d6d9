use Rattle.df_app.proofs.LoadedOutput.{gave_run, left_by_run}
use Rattle.df_app.proofs.Ran.{gave_fault, left_by_opening}
use Rattle.df_app.proofs.running.read_output.Goals as goal

pub returns-in-Ok-clause-value : goal.returns-in-Ok-clause-value
returns-in-Ok-clause-value g c =
    gave_run (g.V.Read.remaining c.args.reader.now) (g.F.Files.file_at c.args.files.now) c.args.chunk c.in-Ok.sourced c.load_output.result
    c.in-Ok.ensures.value c.in-Ok.ensures.sources c.in-Ok.ensures.each c.load_output.ensures.output c.load_output.ensures.fault

pub returns-in-Ok-clause-untouched : goal.returns-in-Ok-clause-untouched
returns-in-Ok-clause-untouched g c = left_by_run c.in-Ok.sourced _ _ c.load_output.result c.load_output.ensures.fault

pub returns-in-Err-clause-value : goal.returns-in-Err-clause-value
returns-in-Err-clause-value g c =
    gave_fault (g.V.Read.remaining c.args.reader.now) (g.F.Files.file_at c.args.files.now) c.args.chunk c.in-Err.fault c.from.result c.from.ensures c.in-Err.ensures.value

pub returns-in-Err-clause-untouched : goal.returns-in-Err-clause-untouched
returns-in-Err-clause-untouched g c = left_by_opening _ _ c.in-Err.fault c.from.result c.from.ensures c.in-Err.ensures.untouched
