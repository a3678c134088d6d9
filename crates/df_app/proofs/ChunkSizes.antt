-- The size of chunks does not matter where no cell is bad, and for no fault.
use Rattle.std.proofs.Common.{◌≡◌, ◌∙◌, ◌<◌, ℕ, Bool, true, false, cond, List, [], ◌∷◌, ◌++◌, map, Result, Ok, Err, refl, ap, sym, arith}
use Rattle.std.specs.Prelude.{⊤, ◌≤◌, ◌&&◌, ◌+◌, codes, Option, Some, None, IfSome, flat_map, length, nat_lt}
use Rattle.std.specs.List.{enumerate_from, join_by, list_all}
use Rattle.df_value.specs.declared.cell.Cell.{Cell}
use Rattle.df_value.specs.declared.chunk.Piece.{Piece}
use Rattle.df_value.specs.declared.chunk.Piece.TheVariants as made
use Rattle.df_value.specs.Outcomes.{then_next}
use Rattle.df_value.specs.Pieces.{is_good, refused_piece, rows_of_pieces}
use Rattle.df_value.specs.Schemas.{Columns}
use Rattle.df_csv.specs.GoodPieces.{same_pieces}
use Rattle.df_csv.specs.Records.{FieldRows}
use Rattle.df_csv.specs.Typed.{piece_start, pieces_of}
use Rattle.df_csv.specs.declared.fault.CsvFault.{CsvFault}
use Rattle.df_plan.specs.CheckedParts.{CheckedParts}
use Rattle.df_text.specs.Document.{document_of}
use Rattle.df_text.specs.declared.document.FrameSpec.{FrameSpec}
use Rattle.df_text.specs.declared.document.Views.{Views}
use Rattle.df_document.specs.declared.fault.DocumentFault.{DocumentFault}
use Rattle.df_document.specs.declared.fault.DocumentFault.TheVariants as fault
use Rattle.df_app.specs.declared.outcome.Outcome.{Outcome}
use Rattle.df_app.specs.declared.outcome.Outcome.TheVariants as outcome
use Rattle.df_app.specs.declared.outcome.Output.{Output}
use Rattle.df_document.specs.declared.opening.OpenedDocument.{OpenedDocument}
use Rattle.df_app.specs.ChunkSizes.{IsSameUnlessRefused}
use Rattle.df_document.specs.Files.{Contents}
use Rattle.df_document.specs.Opening.{of_records, records_in, pieces_in, results_after, plans_of, opened_in, opened_from, of_document, most_bytes_of_document}
use Rattle.df_document.specs.Refused.{refused_line, refused_in, paired}
use Rattle.df_app.specs.Output.{outcome_of, text_from, printed_view, output_by, output_made, output_of, refused_block}

-- the pieces of one file in two sizes
abbrev AreSizes : ℕ → ℕ → List Piece → List Piece → Type 0
AreSizes k l ps qs = (c : Columns) × ((records : FieldRows) × ((ps ≡ pieces_of c k records) × (qs ≡ pieces_of c l records)))

-- of each file
abbrev AllSizes : ℕ → ℕ → List (List Piece) → List (List Piece) → Type 0
AllSizes k l [] [] = ⊤
AllSizes k l [] (q ∷ qs) = ⊥
AllSizes k l (p ∷ ps) [] = ⊥
AllSizes k l (p ∷ ps) (q ∷ qs) = AreSizes k l p q × AllSizes k l ps qs

sizes_push : (k l : ℕ) (ps qs : List (List Piece)) (p q : List Piece) → AllSizes k l ps qs → AreSizes k l p q → AllSizes k l (ps ++ p ∷ []) (qs ++ q ∷ [])
sizes_push k l [] [] p q h is = (is, tt)
sizes_push k l [] (r ∷ rs) p q h is = absurd h
sizes_push k l (r ∷ rs) [] p q h is = absurd h
sizes_push k l (r ∷ rs) (s ∷ ss) p q h is = (h.0, sizes_push k l rs ss p q h.1 is)

-- the same fault, or the same files
abbrev AreReadings : ℕ → ℕ → Result (List (List Piece)) DocumentFault → Result (List (List Piece)) DocumentFault → Type 0
AreReadings k l (Ok ps) (Ok qs) = AllSizes k l ps qs
AreReadings k l (Ok ps) (Err g) = ⊥
AreReadings k l (Err f) (Ok qs) = ⊥
AreReadings k l (Err f) (Err g) = f ≡ g

-- one file more
one_more :
    (k l : ℕ) (f : FrameSpec) (records : Result FieldRows CsvFault) (ps qs : List (List Piece))
    (next next' : List (List Piece) → Result (List (List Piece)) DocumentFault) →
    ((xs ys : List (List Piece)) → AllSizes k l xs ys → AreReadings k l (next xs) (next' ys)) → AllSizes k l ps qs →
    AreReadings k l (then_next (of_records k f records) (λ p. next (ps ++ p ∷ []))) (then_next (of_records l f records) (λ q. next' (qs ++ q ∷ [])))
one_more k l f (Ok records) ps qs next next' each h =
    each (ps ++ pieces_of f.schema k records ∷ []) (qs ++ pieces_of f.schema l records ∷ [])
    (sizes_push k l ps qs (pieces_of f.schema k records) (pieces_of f.schema l records) h (f.schema, (records, (refl, refl))))
one_more k l f (Err e) ps qs next next' each h = refl

all_read :
    (contents : Contents) (k l : ℕ) (frames : List FrameSpec) (ps qs : List (List Piece)) → AllSizes k l ps qs →
    AreReadings k l (results_after (pieces_in contents k) ps frames) (results_after (pieces_in contents l) qs frames)
all_read contents k l [] ps qs h = h
all_read contents k l (f ∷ fs) ps qs h =
    one_more k l f (records_in contents f.source f.schema) ps qs
    (λ xs. results_after (pieces_in contents k) xs fs) (λ ys. results_after (pieces_in contents l) ys fs)
    (λ xs ys is. all_read contents k l fs xs ys is) h

same_test : (a b : Bool) → (a ≡ true → b ≡ true) → (b ≡ true → a ≡ true) → a ≡ b
same_test true b h k = sym (h refl)
same_test false true h k = k refl
same_test false false h k = refl

both_true : (a b : Bool) → (a && b) ≡ true → (a ≡ true) × (b ≡ true)
both_true true b h = (refl, h)
both_true false b h = absurd (cc)

-- what is known of the pieces of one file in two sizes
sizes_good : (k l : ℕ) → 0 < k → 0 < l → (ps qs : List Piece) → AreSizes k l ps qs → list_all is_good ps ≡ true →
    (list_all is_good qs ≡ true) × (rows_of_pieces ps ≡ rows_of_pieces qs)
sizes_good k l some others ps qs is h =
    let c = is.0 in
    let records = is.1.0 in
    let good = same_pieces c k l records some others (ap (list_all is_good) (sym is.1.1.0) ∙ h) in
    (ap (list_all is_good) is.1.1.1 ∙ good.0, ap rows_of_pieces is.1.1.0 ∙ (sym good.1 ∙ ap rows_of_pieces (sym is.1.1.1)))

other_way : (k l : ℕ) (ps qs : List Piece) → AreSizes k l ps qs → AreSizes l k qs ps
other_way k l ps qs is = (is.0, (is.1.0, (is.1.1.1, is.1.1.0)))

all_good : (k l : ℕ) → 0 < k → 0 < l → (ps qs : List (List Piece)) → AllSizes k l ps qs → list_all (list_all is_good) ps ≡ list_all (list_all is_good) qs
all_good k l some others [] [] h = refl
all_good k l some others [] (q ∷ qs) h = absurd h
all_good k l some others (p ∷ ps) [] h = absurd h
all_good k l some others (p ∷ ps) (q ∷ qs) h =
    ap (λ b. b && list_all (list_all is_good) ps) (same_test (list_all is_good p) (list_all is_good q)
    (λ good. (sizes_good k l some others p q h.0 good).0) (λ good. (sizes_good l k others some q p (other_way k l p q h.0) good).0))
    ∙ ap (λ b. list_all is_good q && b) (all_good k l some others ps qs h.1)

same_rows : (k l : ℕ) → 0 < k → 0 < l → (ps qs : List (List Piece)) → AllSizes k l ps qs → list_all (list_all is_good) ps ≡ true →
    map rows_of_pieces ps ≡ map rows_of_pieces qs
same_rows k l some others [] [] h good = refl
same_rows k l some others [] (q ∷ qs) h good = absurd h
same_rows k l some others (p ∷ ps) [] h good = absurd h
same_rows k l some others (p ∷ ps) (q ∷ qs) h good =
    let parts = both_true (list_all is_good p) (list_all (list_all is_good) ps) good in
    ap (λ (r : List (List Cell)). r ∷ map rows_of_pieces ps) (sizes_good k l some others p q h.0 parts.0).1
    ∙ ap (λ (rs : List (List (List Cell))). rows_of_pieces q ∷ rs) (same_rows k l some others ps qs h.1 parts.1)

-- chunks have no refused lines
no_lines : (k : ℕ) (f : FrameSpec) (n : ℕ) (ps : List Piece) → list_all is_good ps ≡ true →
    flat_map (refused_line f) (flat_map (λ (p : ℕ × Piece). refused_piece (piece_start k p.0) p.1) (enumerate_from n ps)) ≡ []
no_lines k f n [] h = refl
no_lines k f n (made.Good chunk ∷ ps) h = no_lines k f (n + 1) ps h
no_lines k f n (made.Bad cell ∷ ps) h = absurd (cc)

joined_nothing : (xs ys : List ℕ) → xs ≡ [] → ys ≡ [] → xs ++ ys ≡ []
joined_nothing xs ys h k = rw (h, k) refl

nothing_refused : (k : ℕ) (frames : List FrameSpec) (ps : List (List Piece)) → list_all (list_all is_good) ps ≡ true →
    flat_map (refused_in k) (paired frames ps) ≡ []
nothing_refused k [] ps h = refl
nothing_refused k (f ∷ fs) [] h = refl
nothing_refused k (f ∷ fs) (p ∷ ps) h =
    let parts = both_true (list_all is_good p) (list_all (list_all is_good) ps) h in
    joined_nothing (refused_in k (f, p)) (flat_map (refused_in k) (paired fs ps)) (no_lines k f 0 p parts.0) (nothing_refused k fs ps parts.1)

is_clean : (b : Bool) → cond b outcome.Clean outcome.Refused ≡ outcome.Clean → b ≡ true
is_clean true h = refl
is_clean false h = absurd (cc)

-- the text of rows and refused lines
abbrev text_with : Views → List CheckedParts → List (List (List Cell)) → List ℕ → List ℕ
text_with document plans rows lines =
    join_by (λ block. block) (codes "\n") (map (printed_view rows) (paired document.views plans) ++ refused_block lines)

same_text : (document : Views) (plans : List CheckedParts) (k l : ℕ) (ps qs : List (List Piece)) → map rows_of_pieces ps ≡ map rows_of_pieces qs →
    flat_map (refused_in k) (paired document.frames ps) ≡ [] → flat_map (refused_in l) (paired document.frames qs) ≡ [] →
    text_from document plans qs l ≡ text_from document plans ps k
same_text document plans k l ps qs rows none nothing =
    ap (λ (r : List (List (List Cell))). text_with document plans r (flat_map (refused_in l) (paired document.frames qs))) (sym rows)
    ∙ ap (text_with document plans (map rows_of_pieces ps)) (nothing ∙ sym none)

same_output : (t u : List ℕ) (o p : Outcome) → t ≡ u → o ≡ p → ◌≡◌ {A = Output} (record { text = t; outcome = o }) (record { text = u; outcome = p })
same_output t u o p h k = rw (h, k) refl

-- the outputs of the same files in two sizes
same_made : (document : Views) (plans : List CheckedParts) (k l : ℕ) → 0 < k → 0 < l → (ps qs : List (List Piece)) → AllSizes k l ps qs →
    (outcome_of ps ≡ outcome_of qs)
    × (outcome_of ps ≡ outcome.Clean →
    output_made l (record { document = document; plans = plans; pieces = qs }) ≡ output_made k (record { document = document; plans = plans; pieces = ps }))
same_made document plans k l some others ps qs h =
    let same : outcome_of ps ≡ outcome_of qs = ap (λ (b : Bool). cond b outcome.Clean outcome.Refused) (all_good k l some others ps qs h) in (
      same,
      λ clean.
          let good = is_clean (list_all (list_all is_good) ps) clean in
          same_output _ _ _ _
          (same_text document plans k l ps qs (same_rows k l some others ps qs h good) (nothing_refused k document.frames ps good)
          (nothing_refused l document.frames qs (sym (all_good k l some others ps qs h) ∙ good))) (sym same),
    )

abbrev opened_as : Views → List CheckedParts → List (List Piece) → Result OpenedDocument DocumentFault
opened_as document plans pieces = Ok (record { document = document; plans = plans; pieces = pieces })

from_readings :
    (document : Views) (plans : List CheckedParts) (k l : ℕ) → 0 < k → 0 < l → (r s : Result (List (List Piece)) DocumentFault) → AreReadings k l r s →
    IsSameUnlessRefused
    (output_by k (then_next r (opened_as document plans)))
    (output_by l (then_next s (opened_as document plans)))
from_readings document plans k l some others (Ok ps) (Ok qs) h = same_made document plans k l some others ps qs h
from_readings document plans k l some others (Ok ps) (Err g) h = absurd h
from_readings document plans k l some others (Err f) (Ok qs) h = absurd h
from_readings document plans k l some others (Err f) (Err g) h = ap (λ (x : DocumentFault). output_by l (Err x)) (sym h)

-- the document with its frames read in this size
abbrev opened_with : Views → Contents → ℕ → List CheckedParts → Result OpenedDocument DocumentFault
opened_with document contents k plans =
    then_next (results_after (pieces_in contents k) [] document.frames) (opened_as document plans)

by_plans : (document : Views) (contents : Contents) (k l : ℕ) → 0 < k → 0 < l → (r : Result (List CheckedParts) DocumentFault) →
    IsSameUnlessRefused (output_by k (then_next r (opened_with document contents k))) (output_by l (then_next r (opened_with document contents l)))
by_plans document contents k l some others (Ok plans) =
    from_readings document plans k l some others (results_after (pieces_in contents k) [] document.frames) (results_after (pieces_in contents l) [] document.frames)
    (all_read contents k l document.frames [] [] tt)
by_plans document contents k l some others (Err f) = refl

by_document : (contents : Contents) (k l : ℕ) → 0 < k → 0 < l → (d : Result Views DocumentFault) →
    IsSameUnlessRefused (output_by k (then_next d (λ document. opened_in document contents k))) (output_by l (then_next d (λ document. opened_in document contents l)))
by_document contents k l some others (Ok document) = by_plans document contents k l some others (plans_of document)
by_document contents k l some others (Err f) = refl

by_bytes : (b : Bool) (bytes : List ℕ) (contents : Contents) (k l : ℕ) → 0 < k → 0 < l →
    IsSameUnlessRefused (output_by k (cond b (Err fault.TooLarge) (opened_from bytes contents k)))
    (output_by l (cond b (Err fault.TooLarge) (opened_from bytes contents l)))
by_bytes true bytes contents k l some others = refl
by_bytes false bytes contents k l some others = by_document contents k l some others (of_document (document_of bytes))

pub same_unless_refused : (bytes : List ℕ) (contents : Contents) (k l : ℕ) → 0 < k → 0 < l →
    IsSameUnlessRefused (output_of bytes contents k) (output_of bytes contents l)
same_unless_refused bytes contents k l some others = by_bytes (nat_lt most_bytes_of_document (length bytes)) bytes contents k l some others

beside_sizes : (bytes : List ℕ) (contents : Contents) (chunk : ℕ) → 1 ≤ chunk → (size : ℕ) → 1 ≤ size →
    IsSameUnlessRefused (output_of bytes contents chunk) (output_of bytes contents size)
beside_sizes bytes contents chunk some size others = same_unless_refused bytes contents chunk size (omega (arith, some)) (omega (arith, others))

-- of bytes that are known or not, beside every size
pub any_size : (known : Option (List ℕ)) (contents : Contents) (chunk : ℕ) → 1 ≤ chunk →
    IfSome known (λ bytes. (size : ℕ) → 1 ≤ size → IsSameUnlessRefused (output_of bytes contents chunk) (output_of bytes contents size))
any_size (Some bytes) contents chunk some = beside_sizes bytes contents chunk some
any_size None contents chunk some = tt
