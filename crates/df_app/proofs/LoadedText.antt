-- The lines of the chunks that a load refused, and how it ends: those of the pieces.
use Rattle.std.proofs.Common.{◌≡◌, ℕ, zero, suc, ◌+◌, Bool, true, false, cond, ◌∙◌, List, [], ◌∷◌, ◌++◌, length, map, refl, ap, sym, arith}
use Rattle.std.specs.Prelude.{⊤, Option, Some, filter_map, flat_map, slice_get, ◌&&◌}
use Rattle.std.specs.List.{enumerate_from, list_all}
use Rattle.std.proofs.lemmas.Grind.{flat_map-append}
use Rattle.std.proofs.lemmas.List.Elements.{filter_map-append}
use Rattle.df_value.specs.declared.chunk.Piece.{Piece}
use Rattle.df_value.specs.declared.chunk.Piece.TheVariants as made
use Rattle.df_value.specs.Pieces.{is_good, refused_piece}
use Rattle.df_csv.specs.Sources as csv_sources
use Rattle.df_csv.specs.Sources.{CsvParts}
use Rattle.df_csv.specs.Typed.{piece_start}
use Rattle.df_jobs.specs.declared.refused.Refused.{Refused}
use Rattle.df_jobs.specs.Jobs.{jobs_from, numbered}
use Rattle.df_jobs.specs.Jobs as jobs
use Rattle.df_jobs.specs.Refused.{refusal}
use Rattle.df_text.specs.declared.document.FrameSpec.{FrameSpec}
use Rattle.df_document.specs.Sources.{pieces_of_sources}
use Rattle.df_app.specs.Loading.{jobs_of_sources, line_in_frame, line_of, outcome_of_load}
use Rattle.df_document.specs.Refused.{paired, refused_in, refused_line}
use Rattle.df_app.specs.Output.{outcome_of}
use Rattle.df_app.specs.declared.outcome.Outcome.TheVariants as outcome

-- the jobs of one source
abbrev pub jobs_here : ℕ → (ℕ → ℕ) → ℕ → List Piece → List (ℕ × (ℕ × Piece))
jobs_here f start n ps = map (λ x. (f, x)) (numbered start n ps)

frame-lines : (frames : List FrameSpec) (f : ℕ) (frame : FrameSpec) → slice_get frames f ≡ Some frame → (start : ℕ → ℕ) (n : ℕ) (ps : List Piece) →
    flat_map (line_of frames) (filter_map refusal (jobs_here f start n ps)) ≡ flat_map (refused_line frame) (flat_map (λ p. refused_piece (start p.0) p.1) (enumerate_from n ps))
frame-lines frames f frame h start n [] = refl
frame-lines frames f frame h start n (made.Good c ∷ ps) = frame-lines frames f frame h start (n + 1) ps
frame-lines frames f frame h start n (made.Bad b ∷ ps) =
    let r : Refused = record { frame = f; first = start n; cell = b } in
    let rest = flat_map (line_of frames) (filter_map refusal (jobs_here f start (n + 1) ps)) in
    ap (λ (o : Option FrameSpec). line_in_frame r o ++ rest) h ∙ ap (λ (xs : List ℕ). refused_line frame (start n, b) ++ xs) (frame-lines frames f frame h start (n + 1) ps)

-- sources whose pieces have so many records
abbrev pub AllStart : ℕ → List CsvParts → Type 0
AllStart chunk [] = ⊤
AllStart chunk (s ∷ ss) = (s.size ≡ chunk) × AllStart chunk ss

abbrev pub jobs_behind : ℕ → List CsvParts → List (ℕ × (ℕ × Piece))
jobs_behind f sources = jobs_from f (jobs.chunks_of csv_sources.chunks_of csv_sources.start_of sources)

lines-from : (frames rest : List FrameSpec) (f chunk : ℕ) (sources : List CsvParts) → length rest ≡ length sources → AllStart chunk sources →
    ((k : ℕ) (frame : FrameSpec) → slice_get rest k ≡ Some frame → slice_get frames (f + k) ≡ Some frame) →
    flat_map (line_of frames) (filter_map refusal (jobs_behind f sources)) ≡ flat_map (refused_in chunk) (paired rest (pieces_of_sources sources))
lines-from frames [] f chunk [] long same at = refl
lines-from frames [] f chunk (s ∷ ss) long same at = absurd (omega (arith, long))
lines-from frames (x ∷ xs) f chunk [] long same at = absurd (omega (arith, long))
lines-from frames (x ∷ xs) f chunk (s ∷ ss) long same at =
    let here = jobs_here f (csv_sources.start_of s) 0 (csv_sources.chunks_of s) in
    let later = jobs_behind (f + 1) ss in
    let zeroth : f + zero ≡ f = omega arith in
    let there : slice_get frames f ≡ Some x = ap (slice_get frames) (sym zeroth) ∙ at zero x refl in
    let sized = λ (k : ℕ). flat_map (refused_line x) (flat_map (λ p. refused_piece (piece_start k p.0) p.1) (enumerate_from 0 (csv_sources.chunks_of s))) in
    let head = frame-lines frames f x there (csv_sources.start_of s) 0 (csv_sources.chunks_of s) ∙ ap sized same.0 in
    let tail = lines-from frames xs (f + 1) chunk ss (omega (arith, long)) same.1
    (λ k frame h. let next : (f + 1) + k ≡ f + suc k = omega arith in ap (slice_get frames) next ∙ at (suc k) frame h) in
    ap (flat_map (line_of frames)) (filter_map-append refusal here later)
    ∙ (flat_map-append (line_of frames) (filter_map refusal here) (filter_map refusal later)
    ∙ (ap (λ xs. xs ++ flat_map (line_of frames) (filter_map refusal later)) head ∙ ap (λ xs. refused_in chunk (x, csv_sources.chunks_of s) ++ xs) tail))

-- the lines of the refused jobs are those of the refused pieces
pub lines-are : (frames : List FrameSpec) (chunk : ℕ) (sources : List CsvParts) → length frames ≡ length sources → AllStart chunk sources →
    flat_map (line_of frames) (filter_map refusal (jobs_of_sources sources)) ≡ flat_map (refused_in chunk) (paired frames (pieces_of_sources sources))
lines-are frames chunk sources long same =
    lines-from frames frames 0 chunk sources long same (λ k frame h. let at : 0 + k ≡ k = omega arith in ap (slice_get frames) at ∙ h)

abbrev is_none : List Refused → Bool
is_none [] = true
is_none (r ∷ rs) = false

none-append : (xs ys : List Refused) → is_none (xs ++ ys) ≡ (is_none xs && is_none ys)
none-append [] ys = refl
none-append (x ∷ xs) ys = refl

good-here : (f : ℕ) (start : ℕ → ℕ) (n : ℕ) (ps : List Piece) → is_none (filter_map refusal (jobs_here f start n ps)) ≡ list_all is_good ps
good-here f start n [] = refl
good-here f start n (made.Good c ∷ ps) = good-here f start (n + 1) ps
good-here f start n (made.Bad b ∷ ps) = refl

good-from : (f : ℕ) (sources : List CsvParts) → is_none (filter_map refusal (jobs_behind f sources)) ≡ list_all (list_all is_good) (pieces_of_sources sources)
good-from f [] = refl
good-from f (s ∷ ss) =
    let here = jobs_here f (csv_sources.start_of s) 0 (csv_sources.chunks_of s) in
    let later = jobs_behind (f + 1) ss in
    ap is_none (filter_map-append refusal here later)
    ∙ (none-append (filter_map refusal here) (filter_map refusal later)
    ∙ (ap (λ (b : Bool). b && is_none (filter_map refusal later)) (good-here f (csv_sources.start_of s) 0 (csv_sources.chunks_of s))
    ∙ ap (λ (b : Bool). list_all is_good (csv_sources.chunks_of s) && b) (good-from (f + 1) ss)))

ends : (refused : List Refused) → outcome_of_load refused ≡ cond (is_none refused) outcome.Clean outcome.Refused
ends [] = refl
ends (r ∷ rs) = refl

-- a run ends as its pieces say
pub outcome-is : (sources : List CsvParts) → outcome_of_load (filter_map refusal (jobs_of_sources sources)) ≡ outcome_of (pieces_of_sources sources)
outcome-is sources = ends (filter_map refusal (jobs_of_sources sources)) ∙ ap (λ (b : Bool). cond b outcome.Clean outcome.Refused) (good-from 0 sources)
