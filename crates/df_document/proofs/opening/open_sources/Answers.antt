use Rattle.df_document.specs.Sources.{opened_by}
use Rattle.df_document.proofs.Opened.{opened_read}
use Rattle.df_document.proofs.opening.open_sources.Goals as goal

pub returns-in-Ok-clause-value : goal.returns-in-Ok-clause-value
returns-in-Ok-clause-value g c =
    let answers = rw c.as_slice.ensures.value at c.open_bytes.ensures.value in
    opened_read (g.V.Read.remaining c.args.reader.now) (g.F.Files.file_at c.args.files.now) c.in-Ok.bytes.items c.args.chunk (opened_by c.open_bytes.result)
    c.in-Ok.ensures.bytes c.in-Ok.ensures.within answers
