use Rattle.std.proofs.Common.{◌≡◌, Ok, rules}
use Rattle.df_text.specs.declared.document.Views.{Views}
use Rattle.df_text.specs.Document.{IsDocument, document_of}
use Rattle.df_text.proofs.ReadFacts.{given}
use Rattle.df_text.proofs.Sound.{document_sound}
use Rattle.df_text.proofs.views.read_views.Goals as goal

pub returns-in-Ok-clause-sound : goal.returns-in-Ok-clause-sound
returns-in-Ok-clause-sound c =
    let read : Views = record { frames = c.in_ok-frames.frames; views = c.in-Ok.views } in
    let says : document_of c.args.bytes.now ≡ Ok read = search rules in
    given (λ v. IsDocument v) (document_of c.args.bytes.now) read (document_sound c.args.bytes.now) says
