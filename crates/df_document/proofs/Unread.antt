-- What is known where the file of a frame cannot be read.
use Rattle.std.proofs.Common.{◌≡◌, ◌∙◌, ◌<◌, ℕ, suc, List, [], ◌∷◌, ◌++◌, length, get_or, drop, ap, inl, inr, sym, subst}
use Rattle.std.proofs.Math.Seq.{drop-cons}
use Rattle.std.specs.Prelude.{IfOk, IsOk, IsOkAnd, Result, Ok, Err, is_ok}
use Rattle.std.proofs.lemmas.List.{map-append}
use Rattle.df_csv.specs.Sources.{CsvParts, chunks_of}
use Rattle.df_document.specs.Sources.{pieces_of_sources}
use Rattle.df_csv.specs.declared.fault.CsvFault.TheVariants as csv
use Rattle.df_text.specs.declared.document.FrameSpec.{FrameSpec}
use Rattle.df_text.specs.declared.document.Views.{Views}
use Rattle.df_text.specs.declared.fault.ViewsFault.{ViewsFault}
use Rattle.df_value.specs.Outcomes.{then_next}
use Rattle.df_value.specs.declared.chunk.Piece.{Piece}
use Rattle.df_document.specs.Answers.{AnswersOrFails, AreKnown, IsKnown, IsRead, KnowsFilesOf, MayFail, MayFailIn}
use Rattle.df_document.specs.Files.{Contents}
use Rattle.df_document.specs.Opening.{of_document, opened_in, pieces_in, results_after}
use Rattle.df_document.specs.declared.fault.DocumentFault.{DocumentFault}
use Rattle.df_document.specs.declared.fault.DocumentFault.TheVariants as fault
use Rattle.df_document.specs.declared.opening.OpenedDocument.{OpenedDocument}

-- an answer for a document that was read is one for its bytes
pub of_read :
    (read : Result Views ViewsFault) (contents : Contents) (chunk : ℕ) (document : Views) (r : Result OpenedDocument DocumentFault) → of_document read ≡ Ok document →
    (KnowsFilesOf contents document → AnswersOrFails (MayFailIn document contents chunk) (opened_in document contents chunk) r) →
    IfOk read (KnowsFilesOf contents) →
    AnswersOrFails (λ (name : List ℕ). IsOkAnd read (λ x. MayFailIn x contents chunk name)) (then_next (of_document read) (λ x. opened_in x contents chunk)) r
of_read (Ok x) contents chunk document r e answers =
    let same : x ≡ document = cc in
    subst (λ (z : Views). KnowsFilesOf contents z → AnswersOrFails (MayFailIn z contents chunk) (opened_in z contents chunk) r) (sym same) answers
of_read (Err f) contents chunk document r e answers =
    λ knows.
    let no : ⊥ = cc in
    absurd no

-- where a frame has no pieces, the frames have none, for the same reason
fails_here :
    (contents : Contents) (chunk : ℕ) (frames rest : List FrameSpec) (frame : FrameSpec) (out : List (List Piece)) (f : DocumentFault) →
    results_after (pieces_in contents chunk) [] frames ≡ results_after (pieces_in contents chunk) out (frame ∷ rest) →
    ((name : List ℕ) → MayFail contents chunk (frame ∷ rest) name → MayFail contents chunk frames name) →
    AnswersOrFails {A = List Piece} (λ name. (frame.name ≡ name) × IsRead contents frame.source) (pieces_in contents chunk frame) (Err f) →
    AnswersOrFails {A = List (List Piece)} (MayFail contents chunk frames) (results_after (pieces_in contents chunk) [] frames) (Err f)
fails_here contents chunk frames rest frame out f same may answers =
    let gave : (g : DocumentFault) → pieces_in contents chunk frame ≡ Err g → results_after (pieces_in contents chunk) [] frames ≡ Err g =
    λ g e. same ∙ ap (λ r. then_next r (λ pieces. results_after (pieces_in contents chunk) (out ++ pieces ∷ []) rest)) e in (
      answers.0,
      (λ told. gave f (answers.1 told)),
      (λ name is other. may name (inl (answers.2 name is (λ e. other (gave (fault.Csv name csv.ReadFault) e))))),
    )

-- the same of the frame at an index
pub fails_at :
    (contents now : Contents) (chunk : ℕ) (frames : List FrameSpec) (i : ℕ) (frame : FrameSpec) (out : List (List Piece)) (f : DocumentFault)
    (r : Result (List (List Piece)) DocumentFault) → now ≡ contents → i < length frames → frame ≡ get_or frames i frame → r ≡ Err f →
    (AreKnown contents frames → results_after (pieces_in contents chunk) [] frames ≡ results_after (pieces_in contents chunk) out (drop i frames)) →
    (AreKnown contents frames → (name : List ℕ) → MayFail contents chunk (drop i frames) name → MayFail contents chunk frames name) →
    (IsKnown now frame.source → AnswersOrFails {A = List Piece} (λ name. (frame.name ≡ name) × IsRead now frame.source) (pieces_in now chunk frame) (Err f)) →
    AreKnown contents frames → AnswersOrFails {A = List (List Piece)} (MayFail contents chunk frames) (results_after (pieces_in contents chunk) [] frames) r
fails_at contents now chunk frames i frame out f r same lt is err so_far may value known =
    let split : drop i frames ≡ frame ∷ drop (suc i) frames = drop-cons frames i frame lt ∙ ap (λ x. x ∷ drop (suc i) frames) (sym is) in
    let here : IsKnown contents frame.source = subst (λ (x : FrameSpec). IsKnown contents x.source) (sym is) (known i frame lt) in
    let answers = subst (λ (x : Contents). IsKnown x frame.source → AnswersOrFails {A = List Piece} (λ name. (frame.name ≡ name) × IsRead x frame.source) (pieces_in x chunk frame) (Err f)) same value here in
    let later = so_far known ∙ ap (results_after (pieces_in contents chunk) out) split in
    let may_here = subst (λ (x : List FrameSpec). (name : List ℕ) → MayFail contents chunk x name → MayFail contents chunk frames name) split (may known) in
    subst (λ (x : Result (List (List Piece)) DocumentFault). AnswersOrFails {A = List (List Piece)} (MayFail contents chunk frames) (results_after (pieces_in contents chunk) [] frames) x) (sym err)
    (fails_here contents chunk frames (drop (suc i) frames) frame out f later may_here answers)

drop-here : (frames : List FrameSpec) (i : ℕ) (frame : FrameSpec) → i < length frames → frame ≡ get_or frames i frame → drop i frames ≡ frame ∷ drop (suc i) frames
drop-here frames i frame lt is = drop-cons frames i frame lt ∙ ap (λ x. x ∷ drop (suc i) frames) (sym is)

pieces-here :
    (contents now : Contents) (chunk : ℕ) (frames : List FrameSpec) (i : ℕ) (frame : FrameSpec) (pieces : List Piece) → now ≡ contents → i < length frames →
    frame ≡ get_or frames i frame → (IsKnown now frame.source → pieces_in now chunk frame ≡ Ok pieces) → AreKnown contents frames → pieces_in contents chunk frame ≡ Ok pieces
pieces-here contents now chunk frames i frame pieces same lt is value known =
    let here : IsKnown contents frame.source = subst (λ (x : FrameSpec). IsKnown contents x.source) (sym is) (known i frame lt) in
    subst (λ (x : Contents). IsKnown x frame.source → pieces_in x chunk frame ≡ Ok pieces) same value here

-- where the frame at an index has pieces, those behind it are read
pub goes_on :
    (contents now : Contents) (chunk : ℕ) (frames : List FrameSpec) (i : ℕ) (frame : FrameSpec) (out : List CsvParts) (s : CsvParts) → now ≡ contents → i < length frames →
    frame ≡ get_or frames i frame →
    (AreKnown contents frames → results_after (pieces_in contents chunk) [] frames ≡ results_after (pieces_in contents chunk) (pieces_of_sources out) (drop i frames)) →
    (IsKnown now frame.source → pieces_in now chunk frame ≡ Ok (chunks_of s)) →
    AreKnown contents frames → results_after (pieces_in contents chunk) [] frames ≡ results_after (pieces_in contents chunk) (pieces_of_sources (out ++ s ∷ [])) (drop (suc i) frames)
goes_on contents now chunk frames i frame out s same lt is so_far value known =
    let rest = drop (suc i) frames in
    let answer = pieces-here contents now chunk frames i frame (chunks_of s) same lt is value known in
    so_far known
    ∙ (ap (results_after (pieces_in contents chunk) (pieces_of_sources out)) (drop-here frames i frame lt is)
    ∙ (ap (λ r. then_next r (λ pieces. results_after (pieces_in contents chunk) (pieces_of_sources out ++ pieces ∷ []) rest)) answer
    ∙ ap (λ (xs : List (List Piece)). results_after (pieces_in contents chunk) xs rest) (sym (map-append chunks_of out (s ∷ [])))))

-- and one of these may be the first that cannot be read
pub may_go_on :
    (contents now : Contents) (chunk : ℕ) (frames : List FrameSpec) (i : ℕ) (frame : FrameSpec) (s : CsvParts) → now ≡ contents → i < length frames →
    frame ≡ get_or frames i frame →
    (AreKnown contents frames → (name : List ℕ) → MayFail contents chunk (drop i frames) name → MayFail contents chunk frames name) →
    (IsKnown now frame.source → pieces_in now chunk frame ≡ Ok (chunks_of s)) →
    AreKnown contents frames → (name : List ℕ) → MayFail contents chunk (drop (suc i) frames) name → MayFail contents chunk frames name
may_go_on contents now chunk frames i frame s same lt is may value known name fails =
    let answer = pieces-here contents now chunk frames i frame (chunks_of s) same lt is value known in
    let good : IsOk (pieces_in contents chunk frame) = ap is_ok answer in
    may known name (subst (λ (x : List FrameSpec). MayFail contents chunk x name) (sym (drop-here frames i frame lt is)) (inr (good, fails)))
