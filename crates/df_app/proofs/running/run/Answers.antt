use Rattle.df_app.proofs.ChunkSizes.{any_size}
use Rattle.df_app.proofs.running.run.Goals as goal

pub returns-in-Ok-clause-any_size : goal.returns-in-Ok-clause-any_size
returns-in-Ok-clause-any_size g c =
    any_size (g.V.Read.remaining c.args.reader.now) (g.F.Files.file_at c.args.files.now) c.args.chunk c.requires.some

pub returns-in-Err-clause-any_size : goal.returns-in-Err-clause-any_size
returns-in-Err-clause-any_size g c =
    any_size (g.V.Read.remaining c.args.reader.now) (g.F.Files.file_at c.args.files.now) c.args.chunk c.requires.some
