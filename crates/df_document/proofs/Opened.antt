-- What the bytes of a document gave, from what was read of them.
use Rattle.std.proofs.Common.{◌≡◌, ◌≢◌, ◌≤◌, ℕ, List, length, refl, ap, subst, ◌∙◌}
use Rattle.std.specs.Prelude.{Option, Some, None, IfSome, IfOk, Result, Ok, Err, Bool, cond, ◌<◌}
use Rattle.std.proofs.lemmas.Bool.{le-ltb, lt-ltb}
use Rattle.df_text.specs.Document.{document_of}
use Rattle.df_csv.specs.declared.fault.CsvFault.{CsvFault}
use Rattle.df_csv.specs.declared.fault.CsvFault.TheVariants as csv
use Rattle.df_document.specs.Answers.{AnswersOrFails, ComesFromBytes, IsFaultOfOpening, IsOpening, KnowsFiles, KnowsFilesOf, MayFailFrom, TellsOfBytes}
use Rattle.df_document.specs.Files.{Contents}
use Rattle.df_document.specs.Opening.{opened_from, opened_of}
use Rattle.df_document.specs.declared.fault.DocumentFault.{DocumentFault}
use Rattle.df_document.specs.declared.fault.DocumentFault.TheVariants as fault
use Rattle.df_document.specs.declared.opening.OpenedDocument.{OpenedDocument}

-- bytes that are not too many are opened as they are
within : (b : List ℕ) (contents : Contents) (chunk : ℕ) → length b ≤ 1048576 → opened_of b contents chunk ≡ opened_from b contents chunk
within b contents chunk few =
    ap (λ (t : Bool). cond {A = Result OpenedDocument DocumentFault} t (Err fault.TooLarge) (opened_from b contents chunk)) (le-ltb 1048576 (length b) few)

too_large : (b : List ℕ) (contents : Contents) (chunk : ℕ) → 1048576 < length b → opened_of b contents chunk ≡ Err fault.TooLarge
too_large b contents chunk many =
    ap (λ (t : Bool). cond {A = Result OpenedDocument DocumentFault} t (Err fault.TooLarge) (opened_from b contents chunk)) (lt-ltb 1048576 (length b) many)

-- a fault of a frame's records
tells_csv :
    (b : List ℕ) (contents : Contents) (chunk : ℕ) (frame : List ℕ) (f : CsvFault) → length b ≤ 1048576 →
    (TellsOfBytes (fault.Csv frame f) → opened_of b contents chunk ≡ Err (fault.Csv frame f)) →
    ((name : List ℕ) → fault.Csv frame f ≡ fault.Csv name csv.ReadFault → opened_of b contents chunk ≢ Err (fault.Csv name csv.ReadFault) → MayFailFrom b contents chunk name) → IsFaultOfOpening b contents chunk (fault.Csv frame f)
tells_csv b contents chunk frame csv.ReadFault few said unread = λ other. (few, unread frame refl other)
tells_csv b contents chunk frame csv.TooLarge few said unread = said ((λ e. cc), (λ n e. cc))
tells_csv b contents chunk frame csv.NotText few said unread = said ((λ e. cc), (λ n e. cc))
tells_csv b contents chunk frame (csv.BadRecord k) few said unread = said ((λ e. cc), (λ n e. cc))
tells_csv b contents chunk frame (csv.MissingColumn c) few said unread = said ((λ e. cc), (λ n e. cc))
tells_csv b contents chunk frame (csv.DoubledHeader c) few said unread = said ((λ e. cc), (λ n e. cc))
tells_csv b contents chunk frame csv.TooManyRecords few said unread = said ((λ e. cc), (λ n e. cc))
tells_csv b contents chunk frame csv.Memory few said unread = said ((λ e. cc), (λ n e. cc))

tells :
    (b : List ℕ) (contents : Contents) (chunk : ℕ) (f : DocumentFault) → length b ≤ 1048576 → ComesFromBytes f → (TellsOfBytes f → opened_of b contents chunk ≡ Err f) →
    ((name : List ℕ) → f ≡ fault.Csv name csv.ReadFault → opened_of b contents chunk ≢ Err (fault.Csv name csv.ReadFault) → MayFailFrom b contents chunk name) → IsFaultOfOpening b contents chunk f
tells b contents chunk (fault.Views f) few is said unread = said ((λ e. cc), (λ n e. cc))
tells b contents chunk (fault.Plan view f) few is said unread = said ((λ e. cc), (λ n e. cc))
tells b contents chunk (fault.Csv frame f) few is said unread = tells_csv b contents chunk frame f few said unread
tells b contents chunk fault.Memory few is said unread = tt
tells b contents chunk fault.ReadFault few is said unread = tt
tells b contents chunk fault.TooLarge few is said unread = absurd is

opened_answer : (b : List ℕ) (contents : Contents) (chunk : ℕ) (r : Result OpenedDocument DocumentFault) → length b ≤ 1048576 →
    AnswersOrFails (MayFailFrom b contents chunk) (opened_from b contents chunk) r → IsOpening b contents chunk r
opened_answer b contents chunk (Ok o) few answers = within b contents chunk few ∙ answers
opened_answer b contents chunk (Err f) few answers =
    let gave : (g : DocumentFault) → opened_from b contents chunk ≡ Err g → opened_of b contents chunk ≡ Err g =
    λ g e. within b contents chunk few ∙ e in
    tells b contents chunk f few answers.0 (λ told. gave f (answers.1 told)) (λ name is other. answers.2 name is (λ e. other (gave (fault.Csv name csv.ReadFault) e)))

-- what the bytes that were read gave
pub opened_read :
    (bytes : Option (List ℕ)) (contents : Contents) (read : List ℕ) (chunk : ℕ) (r : Result OpenedDocument DocumentFault) →
    IfSome bytes (λ b. read ≡ b) → length read ≤ 1048576 →
    (IfOk (document_of read) (KnowsFilesOf contents) → AnswersOrFails (MayFailFrom read contents chunk) (opened_from read contents chunk) r) →
    IfSome bytes (λ b. KnowsFiles contents b → IsOpening b contents chunk r)
opened_read None contents read chunk r is few answers = is
opened_read (Some b) contents read chunk r is few answers =
    subst (λ (x : List ℕ). KnowsFiles contents x → IsOpening x contents chunk r) is (λ knows. opened_answer read contents chunk r few (answers (knows few)))
