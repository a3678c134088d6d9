-- What a run did, from what its document gave and what was then written.
use Rattle.std.proofs.Common.{◌≡◌, ℕ, List, sym, subst, ap, ◌∙◌}
use Rattle.std.specs.Prelude.{Option, Some, None, IfSome, Result, Ok, Err}
use Rattle.std.specs.Io.KnownBytes.{Keeps}
use Rattle.df_document.specs.Answers as opening
use Rattle.df_document.specs.Answers.{IsFaultOfOpening, IsOpening, KnowsFiles}
use Rattle.df_document.specs.Files.{Contents}
use Rattle.df_document.specs.Opening.{opened_of}
use Rattle.df_document.specs.declared.fault.DocumentFault.{DocumentFault}
use Rattle.df_document.specs.declared.fault.DocumentFault.TheVariants as document
use Rattle.df_document.specs.declared.opening.OpenedDocument.{OpenedDocument}
use Rattle.df_app.specs.Faults.{run_fault_of}
use Rattle.df_app.specs.Output.{outcome_of, output_by, output_of, text_from}
use Rattle.df_app.specs.Ran.{IsFaultBefore, IsOutput, IsStop, LeavesFiles}
use Rattle.df_app.specs.declared.fault.RunFault.{RunFault}
use Rattle.df_app.specs.declared.fault.RunFault.TheVariants as fault
use Rattle.df_app.specs.declared.outcome.Outcome.{Outcome}
use Rattle.df_app.specs.declared.outcome.Output.{Output}

stopped : (bytes : List ℕ) (contents : Contents) (chunk : ℕ) (old new : Option (List ℕ)) (f : RunFault) → IsFaultBefore bytes contents chunk f → Keeps old new
    → IsStop bytes contents chunk old new f
stopped bytes contents chunk old new (fault.Document f) told kept = (told, kept)
stopped bytes contents chunk old new (fault.Load cause) told kept = (told, kept)
stopped bytes contents chunk old new fault.Write told kept = absurd told
stopped bytes contents chunk old new fault.Memory told kept = (told, kept)

pub made_of_opened :
    (b : List ℕ) (contents : Contents) (chunk : ℕ) (opened : OpenedDocument) (o : Output) → opened_of b contents chunk ≡ Ok opened →
    o.text ≡ text_from opened.document opened.plans opened.pieces chunk → o.outcome ≡ outcome_of opened.pieces → output_of b contents chunk ≡ Ok o
made_of_opened b contents chunk opened o e text outcome =
    let with_text : List ℕ → Result Output RunFault = λ t. Ok (record { text = t; outcome = outcome_of opened.pieces }) in
    let with_outcome : Outcome → Result Output RunFault = λ u. Ok (record { text = o.text; outcome = u }) in
    ap (output_by chunk) e ∙ (ap with_text (sym text) ∙ ap with_outcome (sym outcome))

before-opening : (b : List ℕ) (contents : Contents) (chunk : ℕ) (f : DocumentFault) → IsFaultOfOpening b contents chunk f → IsFaultBefore b contents chunk (run_fault_of f)
before-opening b contents chunk document.ReadFault is = ((λ e. cc), is)
before-opening b contents chunk document.TooLarge is = ((λ e. cc), is)
before-opening b contents chunk (document.Views f) is = ((λ e. cc), is)
before-opening b contents chunk (document.Plan view f) is = ((λ e. cc), is)
before-opening b contents chunk (document.Csv frame f) is = ((λ e. cc), is)
before-opening b contents chunk document.Memory is = tt

-- a document that did not open
pub gave_fault :
    (bytes : Option (List ℕ)) (contents : Contents) (chunk : ℕ) (f : DocumentFault) (g : RunFault) → g ≡ run_fault_of f →
    IfSome bytes (λ b. KnowsFiles contents b → IsOpening b contents chunk (Err f)) →
    IfSome bytes (λ b. KnowsFiles contents b → IsOutput b contents chunk (Err g))
gave_fault None contents chunk f g e gave = gave
gave_fault (Some b) contents chunk f g e gave =
    λ knows. subst (λ (x : RunFault). IsFaultBefore b contents chunk x) (sym e) (before-opening b contents chunk f (gave knows))

left-behind : {F : Type 0} (old new : F) (f : DocumentFault) → opening.LeavesFiles old new f → LeavesFiles old new (run_fault_of f)
left-behind old new document.ReadFault left = left
left-behind old new document.TooLarge left = left
left-behind old new (document.Views f) left = left
left-behind old new (document.Plan view f) left = left
left-behind old new (document.Csv frame f) left = left
left-behind old new document.Memory left = tt

-- and what it left of the files
pub left_by_opening : {F : Type 0} (old new : F) (f : DocumentFault) (g : RunFault) → g ≡ run_fault_of f → opening.LeavesFiles old new f → LeavesFiles old new g
left_by_opening old new f g e left = subst (λ (x : RunFault). LeavesFiles old new x) (sym e) (left-behind old new f left)
