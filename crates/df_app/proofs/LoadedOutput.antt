-- What a run writes of a loaded document is the document's output.
use Rattle.std.proofs.Common.{◌≡◌, ℕ, zero, suc, ◌+◌, ◌*◌, ◌<◌, ◌≤◌, Bool, true, false, cond, ◌∙◌, List, [], ◌∷◌, ◌++◌, length, map, refl, ap, sym, subst, arith, length-append}
use Rattle.std.specs.Prelude.{◌≢◌, All, IfErr, IfOk, Option, Some, None, IfSome, Result, Ok, Err, codes, filter_map, flat_map, nat_lt, not, option_map, position}
use Rattle.std.specs.List.{AllByRecursion, join_by, position_from}
use Rattle.std.specs.Int.{div_ceil}
use Rattle.std.proofs.Math.Nat.{suc-mul}
use Rattle.std.proofs.lemmas.Bool.{le-ltb}
use Rattle.std.proofs.lemmas.Grind.{div_ceil_times}
use Rattle.std.proofs.lemmas.Iterator.Adapters.{position_from-zero}
use Rattle.std.proofs.lemmas.List.{length-map}
use Rattle.df_value.specs.Outcomes.{then_next}
use Rattle.df_value.specs.declared.chunk.Piece.{Piece}
use Rattle.df_value.specs.Pieces.{rows_of_pieces}
use Rattle.df_value.specs.Schemas.{Columns, is_base}
use Rattle.df_csv.specs.PieceStarts.{pieces_length}
use Rattle.df_csv.specs.Sources as csv_sources
use Rattle.df_csv.specs.Sources.{CsvParts}
use Rattle.df_csv.specs.Typed.{piece_count}
use Rattle.df_plan.specs.CheckedParts.{CheckedParts}
use Rattle.df_plan.specs.Checks.{CheckResult, plan_check}
use Rattle.df_state.specs.declared.state.State.{State}
use Rattle.df_state.specs.States.{IsLegal}
use Rattle.df_jobs.specs.Loaded.{AreLoaded}
use Rattle.df_store.specs.Headings.{headings_of}
use Rattle.df_text.specs.declared.document.FrameSpec.{FrameSpec}
use Rattle.df_state.specs.New.{new_fault}
use Rattle.df_state.specs.declared.fault.NewFault.{NewFault}
use Rattle.df_state.specs.declared.fault.NewFault.TheVariants as new_fault_as
use Rattle.df_versions.specs.Openings.{fault_after, open_fault}
use Rattle.df_versions.specs.declared.fault.OpenFault.{OpenFault}
use Rattle.df_versions.specs.declared.fault.OpenFault.TheVariants as open_fault_as
use Rattle.df_jobs.specs.declared.refused.Refused.{Refused}
use Rattle.df_jobs.specs.Jobs.{numbered}
use Rattle.df_jobs.specs.Refused.{refusal}
use Rattle.df_text.specs.Document.{document_of}
use Rattle.df_text.specs.declared.document.ViewSpec.{ViewSpec}
use Rattle.df_text.specs.declared.document.Views.{Views}
use Rattle.df_document.specs.Sources.{IsSourceOf, opened_with, pieces_of_sources}
use Rattle.df_app.specs.Loading.{IsFaultOfLoad, IsOutputOfLoad, headings_in, jobs_of_sources, line_of, outcome_of_load, text_of_load}
use Rattle.df_document.specs.Answers.{IsOpening, KnowsFiles}
use Rattle.df_document.specs.Files.{Contents}
use Rattle.df_document.specs.Opening.{of_document, of_plan, opened_from, opened_in, opened_of, pieces_in, plan_of, plans_of, results_after, schemas_of}
use Rattle.df_document.specs.Refused.{paired}
use Rattle.df_app.specs.Output.{output_of, printed_view, refused_block, text_from}
use Rattle.df_app.specs.Ran.{IsFaultBefore, IsOutput, LeavesFiles}
use Rattle.df_document.specs.declared.fault.DocumentFault.{DocumentFault}
use Rattle.df_document.specs.declared.fault.DocumentFault.TheVariants as document
use Rattle.df_app.specs.declared.fault.RunFault.{RunFault}
use Rattle.df_app.specs.declared.fault.RunFault.TheVariants as fault
use Rattle.df_document.specs.declared.opening.OpenedDocument.{OpenedDocument}
use Rattle.df_document.specs.declared.opening.SourcedDocument.{SourcedDocument}
use Rattle.df_app.specs.declared.outcome.Output.{Output}
use Rattle.df_app.proofs.LoadedText.{AllStart, jobs_behind, lines-are, outcome-is}
use Rattle.df_app.proofs.LoadedViews.{views-are}
use Rattle.df_app.proofs.Ran.{made_of_opened}

then-ok : {A B : Type 0} (r : Result A DocumentFault) (f : A → Result B DocumentFault) (y : B) → then_next r f ≡ Ok y → (x : A) × ((r ≡ Ok x) × (f x ≡ Ok y))
then-ok (Ok x) f y h = (x, (refl, h))
then-ok (Err e) f y h = absurd (cc)

unless : (b : Bool) (r : Result OpenedDocument DocumentFault) (o : OpenedDocument) → cond b (Err document.TooLarge) r ≡ Ok o → r ≡ Ok o
unless true r o h = absurd (cc)
unless false r o h = h

plans-in : (d : Views) (contents : Contents) (chunk : ℕ) (o : OpenedDocument) → opened_in d contents chunk ≡ Ok o → plans_of o.document ≡ Ok o.plans
plans-in d contents chunk o h =
    let p = then-ok (plans_of d) (λ plans. then_next (results_after (pieces_in contents chunk) [] d.frames) (λ pieces. Ok (record { document = d; plans = plans; pieces = pieces }))) o h in
    let q = then-ok (results_after (pieces_in contents chunk) [] d.frames) (λ pieces. Ok (record { document = d; plans = p.0; pieces = pieces })) o p.1.1 in
    let made : OpenedDocument = record { document = d; plans = p.0; pieces = q.0 } in
    let is : made ≡ o = let h2 = q.1.1 in cc in
    subst (λ (x : OpenedDocument). plans_of x.document ≡ Ok x.plans) is p.1.0

-- the plans of a document that was opened are those of its views
opened-plans : (b : List ℕ) (contents : Contents) (chunk : ℕ) (o : OpenedDocument) → opened_of b contents chunk ≡ Ok o → plans_of o.document ≡ Ok o.plans
opened-plans b contents chunk o h =
    let d = then-ok (of_document (document_of b)) (λ x. opened_in x contents chunk) o (unless _ (opened_from b contents chunk) o h) in
    plans-in d.0 contents chunk o d.1.1

abbrev Over : List Columns → CheckedParts → Type 0
Over schemas p = p.frames ≡ schemas

over-more : (schemas : List Columns) (ps : List CheckedParts) (p : CheckedParts) → AllByRecursion (Over schemas) ps → Over schemas p → AllByRecursion (Over schemas) (ps ++ p ∷ [])
over-more schemas [] p h k = (k, tt)
over-more schemas (q ∷ qs) p h k = (h.0, over-more schemas qs p h.1 k)

next-plan :
    (schemas : List Columns) (out : List CheckedParts) (v : ViewSpec) (vs : List ViewSpec) (plans : List CheckedParts) (c : CheckResult) →
    ((more : List CheckedParts) → results_after (plan_of schemas) more vs ≡ Ok plans → AllByRecursion (Over schemas) more → AllByRecursion (Over schemas) plans) →
    then_next (of_plan v schemas c) (λ p. results_after (plan_of schemas) (out ++ p ∷ []) vs) ≡ Ok plans → AllByRecursion (Over schemas) out → AllByRecursion (Over schemas) plans
next-plan schemas out v vs plans (Ok schema) rest h over =
    let p : CheckedParts = record { plan = v.plan; frames = schemas; schema = schema } in
    rest (out ++ p ∷ []) h (over-more schemas out p over refl)
next-plan schemas out v vs plans (Err f) rest h over = absurd (cc)

-- plans of views are over the schemas that they were checked over
plans-over : (schemas : List Columns) (out : List CheckedParts) (vs : List ViewSpec) (plans : List CheckedParts) → results_after (plan_of schemas) out vs ≡ Ok plans →
    AllByRecursion (Over schemas) out → AllByRecursion (Over schemas) plans
plans-over schemas out [] plans h over =
    let same : out ≡ plans = cc in
    subst (AllByRecursion (Over schemas)) same over
plans-over schemas out (v ∷ vs) plans h over =
    next-plan schemas out v vs plans (plan_check v.plan schemas) (λ more g k. plans-over schemas more vs plans g k) h over

all-start : (chunk : ℕ) (ss : List CsvParts) → All (IsSourceOf chunk) ss → AllStart chunk ss
all-start chunk [] h = tt
all-start chunk (s ∷ ss) h = ((h zero s (omega arith)).size, all-start chunk ss (λ k d lt. h (suc k) d (omega (arith, lt))))

text-is : (d : SourcedDocument) (o : Output) (chunk : ℕ) → plans_of d.document ≡ Ok d.plans → length d.sources ≡ length d.document.frames → All (IsSourceOf chunk) d.sources →
    IsOutputOfLoad d o → o.text ≡ text_from d.document d.plans (pieces_of_sources d.sources) chunk
text-is d o chunk plans many each written =
    let frames = d.document.frames in
    let schemas = schemas_of frames in
    let load = written.load in
    let views = headings_in d.document.views d.plans in
    let long : length schemas ≡ length d.sources = length-map frames _ ∙ sym many in
    let tables = views-are written.state d.sources schemas d.document.views d.plans load.legal load.loaded load.views (plans-over schemas [] d.document.views d.plans plans tt) long in
    let lines = ap (flat_map (line_of frames)) load.left_out ∙ lines-are frames chunk d.sources (sym many) (all-start chunk d.sources each) in
    written.text
    ∙ (ap (λ (xs : List (List ℕ)). join_by (λ block. block) (codes "\n") (xs ++ refused_block (flat_map (line_of frames) written.refused))) tables
    ∙ ap (λ (xs : List ℕ). join_by (λ block. block) (codes "\n") (map (printed_view (map rows_of_pieces (pieces_of_sources d.sources))) (paired d.document.views d.plans) ++ refused_block xs)) lines)

loaded-output : (b : List ℕ) (contents : Contents) (chunk : ℕ) (d : SourcedDocument) (o : Output) → opened_of b contents chunk ≡ Ok (opened_with d) →
    length d.sources ≡ length d.document.frames → All (IsSourceOf chunk) d.sources → IsOutputOfLoad d o → output_of b contents chunk ≡ Ok o
loaded-output b contents chunk d o e many each written =
    made_of_opened b contents chunk (opened_with d) o e (text-is d o chunk (opened-plans b contents chunk (opened_with d) e) many each written)
    (written.ends ∙ (ap outcome_of_load written.load.left_out ∙ outcome-is d.sources))

-- what a document gave whose sources were loaded
gave_loaded :
    (bytes : Option (List ℕ)) (contents : Contents) (chunk : ℕ) (d : SourcedDocument) (o : Output) →
    IfSome bytes (λ b. KnowsFiles contents b → IsOpening b contents chunk (Ok (opened_with d))) →
    length d.sources ≡ length d.document.frames → All (IsSourceOf chunk) d.sources → IsOutputOfLoad d o →
    IfSome bytes (λ b. KnowsFiles contents b → IsOutput b contents chunk (Ok o))
gave_loaded None contents chunk d o gave many each written = gave
gave_loaded (Some b) contents chunk d o gave many each written = λ knows. loaded-output b contents chunk d o (gave knows) many each written

before-load : (b : List ℕ) (contents : Contents) (chunk : ℕ) (d : SourcedDocument) (f : RunFault) → opened_of b contents chunk ≡ Ok (opened_with d) →
    IsFaultOfLoad d f → IsFaultBefore b contents chunk f
before-load b contents chunk d (fault.Document f) opens is = absurd is
before-load b contents chunk d (fault.Load named) opens is = (d, opens, is)
before-load b contents chunk d fault.Write opens is = absurd is
before-load b contents chunk d fault.Memory opens is = tt

-- or whose sources could not be loaded
gave_no_load : (bytes : Option (List ℕ)) (contents : Contents) (chunk : ℕ) (d : SourcedDocument) (f : RunFault) → IsFaultOfLoad d f →
    IfSome bytes (λ b. KnowsFiles contents b → IsOpening b contents chunk (Ok (opened_with d))) →
    IfSome bytes (λ b. KnowsFiles contents b → IsOutput b contents chunk (Err f))
gave_no_load None contents chunk d f is gave = gave
gave_no_load (Some b) contents chunk d f is gave = λ knows. before-load b contents chunk d f (gave knows) is

left_by_load : {F : Type 0} (d : SourcedDocument) (old new : F) (f : RunFault) → IsFaultOfLoad d f → LeavesFiles old new f
left_by_load d old new (fault.Document f) is = absurd is
left_by_load d old new (fault.Load named) is = tt
left_by_load d old new fault.Write is = absurd is
left_by_load d old new fault.Memory is = tt

times-least : (q k : ℕ) → 1 ≤ k → q ≤ q * k
times-least zero k h = omega arith
times-least (suc q) k h =
    let less = times-least q k h in
    let is = suc-mul q k in
    omega (arith, less, is, h)

ceil-few : (q k n : ℕ) → 1 ≤ k → q * k < n + k → q ≤ n
ceil-few zero k n h lt = omega arith
ceil-few (suc q) k n h lt =
    let less = times-least q k h in
    let is = suc-mul q k in
    omega (arith, less, is, lt)

pieces-few : (chunk : ℕ) (s : CsvParts) → 1 ≤ chunk → IsSourceOf chunk s → length (csv_sources.chunks_of s) ≤ 1048576
pieces-few chunk s some is =
    let one : 1 ≤ s.size = subst (λ (k : ℕ). 1 ≤ k) (sym is.size) some in
    let long : length (csv_sources.chunks_of s) ≡ piece_count s.size (length s.records) = pieces_length s.schema s.size s.records in
    let few : piece_count s.size (length s.records) ≤ length s.records =
    ceil-few (div_ceil (length s.records) s.size) s.size (length s.records) one (div_ceil_times (length s.records) s.size one).1 in
    let bound = is.few in
    omega (arith, long, few, bound)

numbered-long : (start : ℕ → ℕ) (n : ℕ) (ps : List Piece) → length (numbered start n ps) ≡ length ps
numbered-long start n [] = refl
numbered-long start n (p ∷ ps) = ap suc (numbered-long start (n + 1) ps)

jobs-from-few : (f chunk : ℕ) (ss : List CsvParts) → 1 ≤ chunk → All (IsSourceOf chunk) ss → length (jobs_behind f ss) ≤ 1048576 * length ss
jobs-from-few f chunk [] some h = omega arith
jobs-from-few f chunk (s ∷ ss) some h =
    let here = pieces-few chunk s some (h zero s (omega arith)) in
    let later = jobs-from-few (f + 1) chunk ss some (λ k d lt. h (suc k) d (omega (arith, lt))) in
    let mine = numbered (csv_sources.start_of s) 0 (csv_sources.chunks_of s) in
    let long = length-map {B = ℕ × (ℕ × Piece)} mine (λ x. (f, x)) in
    let same = numbered-long (csv_sources.start_of s) 0 (csv_sources.chunks_of s) in
    let all = length-append (map (λ x. (f, x)) mine) (jobs_behind (f + 1) ss) in
    omega (arith, here, later, long, same, all)

-- the jobs of at most eight sources are few
pub jobs_few : (chunk : ℕ) (ss : List CsvParts) → 1 ≤ chunk → All (IsSourceOf chunk) ss → length ss ≤ 8 → length (jobs_of_sources ss) ≤ 4294967296
jobs_few chunk ss some each few = let all = jobs-from-few 0 chunk ss some each in omega (arith, all, few)

-- what a load gave, an output or a fault
pub gave_run :
    (bytes : Option (List ℕ)) (contents : Contents) (chunk : ℕ) (d : SourcedDocument) (r : Result Output RunFault) →
    IfSome bytes (λ b. KnowsFiles contents b → IsOpening b contents chunk (Ok (opened_with d))) →
    length d.sources ≡ length d.document.frames → All (IsSourceOf chunk) d.sources → IfOk r (IsOutputOfLoad d) → IfErr r (IsFaultOfLoad d) →
    IfSome bytes (λ b. KnowsFiles contents b → IsOutput b contents chunk r)
gave_run bytes contents chunk d (Ok o) gave many each written none = gave_loaded bytes contents chunk d o gave many each written
gave_run bytes contents chunk d (Err f) gave many each none is = gave_no_load bytes contents chunk d f is gave

pub left_by_run : {F : Type 0} (d : SourcedDocument) (old new : F) (r : Result Output RunFault) → IfErr r (IsFaultOfLoad d) → IfErr r (LeavesFiles old new)
left_by_run d old new (Ok o) is = tt
left_by_run d old new (Err f) is = left_by_load d old new f is

-- a schema for each frame
pub schemas_long : (schemas : List Columns) (frames : List FrameSpec) → schemas ≡ schemas_of frames → length schemas ≡ length frames
schemas_long schemas frames e = ap length e ∙ length-map frames _

-- what is written of a load
pub output_of_load :
    (d : SourcedDocument) (s : State) (refused : List Refused) (views shown : List (List ℕ × CheckedParts)) (frames : List FrameSpec) (sources : List CsvParts) (o : Output) →
    sources ≡ d.sources → frames ≡ d.document.frames → views ≡ headings_in d.document.views d.plans → shown ≡ headings_in d.document.views d.plans →
    IsLegal s → AreLoaded (jobs_of_sources sources) s → headings_of s ≡ views → refused ≡ filter_map refusal (jobs_of_sources sources) →
    o.text ≡ text_of_load s frames shown refused → o.outcome ≡ outcome_of_load refused → IsOutputOfLoad d o
output_of_load d s refused views shown frames sources o are is named printed_as legal loaded headed left text ends = record {
  state = s;
  refused = refused;
  load = record {
    legal = legal;
    loaded = subst (λ (ss : List CsvParts). AreLoaded (jobs_of_sources ss) s) are loaded;
    views = headed ∙ named;
    left_out = left ∙ ap (λ (ss : List CsvParts). filter_map refusal (jobs_of_sources ss)) are;
  };
  text = text ∙ (ap (λ (fs : List FrameSpec). text_of_load s fs shown refused) is
      ∙ ap (λ (hs : List (List ℕ × CheckedParts)). text_of_load s d.document.frames hs refused) printed_as);
  ends = ends;
}

-- no frame of a document is of a derived type
none-derived : (at : ℕ) (frames : List FrameSpec) → All (λ (f : FrameSpec). is_base f.schema ≡ true) frames → position_from (λ s. not (is_base s)) at (schemas_of frames) ≡ None
none-derived at [] base = refl
none-derived at (f ∷ fs) base =
    let here : is_base f.schema ≡ true = base zero f (omega arith) in
    ap (λ (b : Bool). cond (not b) (Some at) (position_from (λ s. not (is_base s)) (at + 1) (schemas_of fs))) here
    ∙ none-derived (at + 1) fs (λ k d lt. base (suc k) d (omega (arith, lt)))

-- so few frames of base types are not refused
pub not-refused : (schemas : List Columns) (frames : List FrameSpec) → schemas ≡ schemas_of frames → length frames ≤ 8 → All (λ (f : FrameSpec). is_base f.schema ≡ true) frames →
    new_fault schemas ≡ None
not-refused schemas frames e few base =
    let long = schemas_long schemas frames e in
    let not_many : nat_lt 8 (length schemas) ≡ false = le-ltb 8 (length schemas) (omega (arith, long, few)) in
    let derived : position (λ s. not (is_base s)) schemas ≡ None =
    ap (position (λ s. not (is_base s))) e ∙ (position_from-zero (λ s. not (is_base s)) (schemas_of frames) ∙ none-derived 0 frames base) in
    ap (λ (b : Bool). cond b (Some new_fault_as.TooManyFrames) (option_map new_fault_as.DerivedType (position (λ s. not (is_base s)) schemas))) not_many
    ∙ ap (option_map new_fault_as.DerivedType) derived

-- a fault other than memory that is answered to them is no fault
pub no-other-fault :
    (schemas : List Columns) (frames : List FrameSpec) (f : OpenFault) → schemas ≡ schemas_of frames → length frames ≤ 8 → All (λ (f : FrameSpec). is_base f.schema ≡ true) frames →
    (f ≢ open_fault_as.Memory → open_fault schemas 0 ≡ Some f) → f ≢ open_fault_as.Memory → ⊥
no-other-fault schemas frames f e few base answered other =
    let none : open_fault schemas 0 ≡ None = ap (λ (n : Option NewFault). fault_after n 0) (not-refused schemas frames e few base) in
    let some = answered other in
    absurd (cc)

pub derived-is-not-memory : (f : OpenFault) (frame : ℕ) → f ≡ open_fault_as.DerivedType frame → f ≢ open_fault_as.Memory
derived-is-not-memory f frame is = λ memory. absurd (cc)
