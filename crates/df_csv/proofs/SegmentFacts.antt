-- The segments of a text, one cut after the other.
use Rattle.std.proofs.Common.{◌≡◌, ℕ, zero, suc, false, List, [], ◌∷◌, ◌++◌, take, drop, refl, sym, ap, arith, append_assoc, subst, ◌∙◌, Bor}
use Rattle.std.specs.Prelude.{All, flat_map}
use Rattle.std.proofs.lemmas.List.{append-nil, take-append-drop}
use Rattle.std.proofs.lemmas.List.Elements.{All-cons, All-nil, All-push}
use Rattle.std.proofs.lemmas.Grind.{flat_map-append}
use Rattle.csv.specs.Reading.{default_config, records, strip_bom}
use Rattle.df_csv.specs.Records.{EveryText, FieldRows}
use Rattle.df_csv.specs.Segments.{IsCut, IsReadable, rows_of_segment}
use Rattle.df_csv.proofs.CutFacts.{cut_records, strip_drop, strip_take}
use Rattle.df_csv.proofs.OnePass.{quoted}
use Rattle.df_csv.proofs.TextFields.{later_texts}

-- segments, and the rest of the text behind them
pub record Cuts (text : List ℕ) (segments : List (Bor (List ℕ))) (rest : List ℕ) : Type 0 where
  pub whole : flat_map (λ s. s.now) segments ++ rest ≡ text
  pub same : flat_map (λ s. records default_config s.now) segments ++ records default_config rest ≡ records default_config text
  pub marks : All (λ s. strip_bom s.now ≡ s.now) segments
  pub unmarked : strip_bom rest ≡ rest

pub uncut : (text : List ℕ) → strip_bom text ≡ text → Cuts text [] text
uncut text e = record { whole = refl; same = refl; marks = All-nil (λ (s : Bor (List ℕ)). strip_bom s.now ≡ s.now); unmarked = e }

one_more : {Y : Type 0} (f : List ℕ → List Y) (segments : List (Bor (List ℕ))) (s : Bor (List ℕ)) (rest : List Y)
    → flat_map (λ t. f t.now) (segments ++ s ∷ []) ++ rest ≡ flat_map (λ t. f t.now) segments ++ (f s.now ++ rest)
one_more f segments s rest =
    ap (λ ys. ys ++ rest) (flat_map-append (λ (t : Bor (List ℕ)). f t.now) segments (s ∷ []) ∙ ap (λ ys. flat_map (λ (t : Bor (List ℕ)). f t.now) segments ++ ys) (append-nil (f s.now)))
    ∙ append_assoc (flat_map (λ (t : Bor (List ℕ)). f t.now) segments) (f s.now) rest

pub cut_more : (text : List ℕ) (segments : List (Bor (List ℕ))) (rest behind : List ℕ) (s : Bor (List ℕ)) (at : ℕ) → Cuts text segments rest → quoted rest ≡ false → IsCut rest at
    → s.now ≡ take at rest → behind ≡ drop at rest → Cuts text (segments ++ s ∷ []) behind
cut_more text segments rest behind s at c q cut front back = record {
  whole = one_more (λ t. t) segments s behind ∙ ap (λ (r : List ℕ). flat_map (λ t. t.now) segments ++ r) (rw (front, back) (take-append-drop at rest)) ∙ c.whole;
  same = one_more (records default_config) segments s (records default_config behind)
      ∙ ap (λ (r : FieldRows). flat_map (λ t. records default_config t.now) segments ++ r) (rw (front, back) (sym (cut_records rest at cut q))) ∙ c.same;
  marks = All-push (λ (t : Bor (List ℕ)). strip_bom t.now ≡ t.now) segments s c.marks (rw front (strip_take at rest c.unmarked));
  unmarked = rw back (strip_drop rest at cut);
}

texts_apart : (xs ys : FieldRows) → EveryText (xs ++ ys) → EveryText xs × EveryText ys
unfolding EveryText
texts_apart [] ys h = (tt, h)
texts_apart (x ∷ xs) ys h = let (front, back) = texts_apart xs ys h.1 in ((h.0, front), back)

texts_each : (segments : List (Bor (List ℕ))) → EveryText (flat_map (λ s. records default_config s.now) segments) → All (λ s. strip_bom s.now ≡ s.now) segments → All (λ s. IsReadable s.now) segments
texts_each [] h marks = All-nil (λ (s : Bor (List ℕ)). IsReadable s.now)
texts_each (s ∷ segments) h marks =
    let (front, back) = texts_apart (records default_config s.now) (flat_map (λ t. records default_config t.now) segments) h in
    All-cons (λ (t : Bor (List ℕ)). IsReadable t.now) s segments (marks 0 s (omega arith), front) (texts_each segments back (λ k d lt. marks (suc k) d (omega (arith, lt))))

-- each segment can be read alone
pub readable : (text : List ℕ) (segments : List (Bor (List ℕ))) → flat_map (λ s. records default_config s.now) segments ≡ records default_config text
    → EveryText (records default_config text) → All (λ s. strip_bom s.now ≡ s.now) segments → All (λ s. IsReadable s.now) segments
readable text segments same texts marks = texts_each segments (subst EveryText (sym same) texts) marks

-- the fields of the rows of a segment are texts
pub rows_texts : (at : ℕ) (text : List ℕ) → EveryText (records default_config text) → EveryText (rows_of_segment at text)
rows_texts zero text h = later_texts (records default_config text) h
rows_texts (suc i) text h = h
