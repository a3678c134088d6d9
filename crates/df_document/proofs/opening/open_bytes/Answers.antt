use Rattle.df_document.specs.Sources.{opened_by}
use Rattle.df_text.specs.Document.{document_of}
use Rattle.df_document.proofs.Unread.{of_read}
use Rattle.df_document.proofs.opening.open_bytes.Goals as goal

pub returns-in-Ok-clause-value : goal.returns-in-Ok-clause-value
returns-in-Ok-clause-value g c =
    of_read (document_of c.args.bytes.now) (g.F.Files.file_at c.args.files.now) c.args.chunk c.in-Ok.document (opened_by c.open_views.result)
    c.in-Ok.ensures.value c.open_views.ensures.value
