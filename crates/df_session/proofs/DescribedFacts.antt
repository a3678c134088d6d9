-- The lines of frames, one more.
use Rattle.std.proofs.Common.{◌≡◌, ◌∙◌, ◌+◌, ◌++◌, ℕ, List, [], ◌∷◌, Some, Option, ap, arith, flat_map, refl, sym}
use Rattle.std.specs.Prelude.{slice_get}
use Rattle.std.specs.List.{range_with_len}
use Rattle.std.proofs.lemmas.List.{flat_map_more, map-id}
use Rattle.std.proofs.lemmas.List.FromFn.{map-range_with_len_more}
use Rattle.df_text.specs.declared.document.FrameSpec.{FrameSpec}
use Rattle.df_session.specs.Described.{frame_line_of}

range-more : (n : ℕ) → range_with_len 0 (n + 1) ≡ range_with_len 0 n ++ n ∷ []
range-more n =
    sym (map-id (range_with_len 0 (n + 1)))
    ∙ (map-range_with_len_more (λ i. i) 0 n n (omega arith) ∙ ap (λ (is : List ℕ). is ++ n ∷ []) (map-id (range_with_len 0 n)))

pub frame-more :
    (frames : List FrameSpec) (counts : ℕ → Option ℕ) (at : ℕ) (spec : FrameSpec) (rows : Option ℕ) (old new : List ℕ) →
    old ≡ flat_map (λ i. frame_line_of (slice_get frames i) (counts i)) (range_with_len 0 at) → slice_get frames at ≡ Some spec →
    rows ≡ counts at → new ≡ old ++ frame_line_of (Some spec) rows →
    new ≡ flat_map (λ i. frame_line_of (slice_get frames i) (counts i)) (range_with_len 0 (at + 1))
frame-more frames counts at spec rows old new before there counted pushed =
    let line : ℕ → List ℕ = λ i. frame_line_of (slice_get frames i) (counts i) in
    pushed
    ∙ (ap (λ o. old ++ frame_line_of o rows) (sym there)
    ∙ (ap (λ r. old ++ frame_line_of (slice_get frames at) r) counted
    ∙ (ap (λ (t : List ℕ). t ++ line at) before
    ∙ (flat_map_more line [] (range_with_len 0 at) at ∙ ap (flat_map line) (sym (range-more at))))))
