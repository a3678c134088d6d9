use Rattle.std.proofs.Common.{◌≡◌, ℕ, ◌+◌, ◌<◌, ◌∙◌, true, false, suc, List, ◌∷◌, length, drop, get_or, ap, sym, arith, add-one, drop-cons}
use Rattle.std.specs.Prelude.{◌&&◌}
use Rattle.std.proofs.lemmas.List.{length-map}
use Rattle.df_value.specs.declared.cell.CellType.{CellType}
use Rattle.df_frame.specs.FrameParts.{schemas_of}
use Rattle.df_state.specs.Schemas.{schema_eq, schemas_eq}
use Rattle.df_state.proofs.FrameChangeFacts.{lent-map}
use Rattle.df_state.proofs.schemas.are_schemas.Goals as goal

abbrev Columns : Type 0
Columns = List (List ℕ × CellType)

first-from : (xs : List Columns) (i : ℕ) (x : Columns) → i < length xs → x ≡ get_or xs i x → drop i xs ≡ x ∷ drop (i + 1) xs
first-from xs i x within at = drop-cons xs i x within ∙ (ap (λ y. y ∷ drop (suc i) xs) (sym at) ∙ ap (λ k. x ∷ drop k xs) (sym (add-one i)))

-- lists of schemas are the same from an index on where two schemas are and the lists from the next on
one-more :
    (xs ys : List Columns) (i : ℕ) (x y : Columns) → i < length xs → i < length ys → x ≡ get_or xs i x → y ≡ get_or ys i y →
    schemas_eq (drop i xs) (drop i ys) ≡ (schema_eq x y && schemas_eq (drop (i + 1) xs) (drop (i + 1) ys))
one-more xs ys i x y within inside at there =
    ap (λ ss. schemas_eq ss (drop i ys)) (first-from xs i x within at) ∙ ap (schemas_eq (x ∷ drop (i + 1) xs)) (first-from ys i y inside there)

pub returns-then-not-schema_eq : goal.returns-then-not-schema_eq
returns-then-not-schema_eq c =
    let xs = c.args.schemas.now in
    let frames = c.args.frames.now in
    let i = c.loop-i.i in
    let same = length-map frames (λ f. f.schema) in
    let inside : i < length (schemas_of frames) = omega (arith, same, c.loop-i-test.true) in
    let within : i < length xs = omega (arith, c.loop-i.invariant.0, c.loop-i-test.true) in
    let unlike : schema_eq c.index-schemas-i.result c.index-frames-i.result.schema ≡ false =
    ap (schema_eq c.index-schemas-i.result) (sym c.schema.ensures) ∙ (sym c.schema_eq.ensures ∙ c.if-not-schema_eq.true) in
    sym (c.loop-i.invariant.1
    ∙ (one-more xs (schemas_of frames) i c.index-schemas-i.result c.index-frames-i.result.schema within inside c.index-schemas-i.is (lent-map (λ f. f.schema) frames i c.index-frames-i.result c.index-frames-i.is)
    ∙ ap (λ b. b && schemas_eq (drop (i + 1) xs) (drop (i + 1) (schemas_of frames))) unlike))

pub loop-i-preserved : goal.loop-i-preserved
loop-i-preserved c =
    let xs = c.args.schemas.now in
    let frames = c.args.frames.now in
    let i = c.loop-i.i in
    let same = length-map frames (λ f. f.schema) in
    let inside : i < length (schemas_of frames) = omega (arith, same, c.loop-i-test.true) in
    let within : i < length xs = omega (arith, c.loop-i.invariant.0, c.loop-i-test.true) in
    let alike : schema_eq c.index-schemas-i.result c.index-frames-i.result.schema ≡ true =
    ap (schema_eq c.index-schemas-i.result) (sym c.schema.ensures) ∙ (sym c.schema_eq.ensures ∙ c.if-not-schema_eq.false) in (
      c.loop-i.invariant.0,
      c.loop-i.invariant.1
          ∙ (one-more xs (schemas_of frames) i c.index-schemas-i.result c.index-frames-i.result.schema within inside c.index-schemas-i.is (lent-map (λ f. f.schema) frames i c.index-frames-i.result c.index-frames-i.is)
          ∙ ap (λ b. b && schemas_eq (drop (i + 1) xs) (drop (i + 1) (schemas_of frames))) alike),
    )
