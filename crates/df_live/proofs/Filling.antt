-- Frames that come one after another.
use Rattle.std.proofs.Common.{◌≡◌, ℕ, zero, suc, ◌<◌, ◌≤◌, List, [], ◌∷◌, length, map, get_or, set, refl, sym, ap, subst, ◌∙◌, arith}
use Rattle.std.specs.Prelude.{IsTrue}
use Rattle.std.specs.FinMap as finite
use Rattle.df_value.specs.Rows.{rows_fit}
use Rattle.df_value.specs.Schemas.{Columns}
use Rattle.df_value.specs.declared.cell.Cell.{Cell}
use Rattle.df_column.specs.Changes.{applied}
use Rattle.df_column.specs.Tables.{TableParts, TaggedRows}
use Rattle.df_column.specs.Tags.{tag_cmp}
use Rattle.df_delta.specs.Deltas.{Changes}
use Rattle.df_delta.specs.Differences.{Fits, IsDiff}
use Rattle.df_join.specs.Spread.{HasKeys, IsTagOver}
use Rattle.df_plan.specs.Meaning.{frames_fit}
use Rattle.df_plan.proofs.RowWiseSound.{both_true, first_of_two, second_of_two}
use Rattle.df_live.specs.Frames.{AreFrames, changed, frame_at, rows_of_frames}
use Rattle.df_live.specs.Fresh.{AreEmpty}
use Rattle.df_live.specs.Tables.{MayBeFilled, first_frames, tables_of}
use Rattle.df_live.specs.Views.{IsChangeOf}
use Rattle.df_live.proofs.KeptTags.{values_none}

pub change_filled :
    (schemas : List Columns) (frames : List TaggedRows) (f : ℕ) (t : TaggedRows) (d : Changes) → MayBeFilled schemas frames f t →
    IsDiff finite.empty t d → (changed frames f d ≡ set frames f t) × IsChangeOf schemas frames f d
change_filled schemas frames f t d h diff =
    let is : changed frames f d ≡ set frames f t = ap (λ u. set frames f (applied u d)) h.empty ∙ ap (λ u. set frames f u) diff.gives in (
      is,
      record {
        within = h.within;
        lean = diff.lean;
        fits = subst (λ u. Fits u d) (sym h.empty) diff.fits;
        before = h.before;
        after = subst (AreFrames schemas) (sym is) h.after;
      },
    )

abbrev nothing : List TaggedRows → List TaggedRows
nothing frames = map (λ _. finite.empty) frames

nothing_there : (frames : List TaggedRows) (f : ℕ) → frame_at (nothing frames) f ≡ finite.empty
nothing_there [] f = refl
nothing_there (t ∷ ts) zero = refl
nothing_there (t ∷ ts) (suc f) = nothing_there ts f

pub none_first : (frames : List TaggedRows) → AreEmpty (first_frames 0 frames)
none_first frames = record { at = nothing_there frames }

pub all_first : (n : ℕ) (frames : List TaggedRows) → length frames ≤ n → first_frames n frames ≡ frames
all_first zero [] le = refl
all_first (suc n) [] le = refl
all_first zero (t ∷ ts) le = absurd (omega (arith, le))
all_first (suc n) (t ∷ ts) le = ap (λ us. t ∷ us) (all_first n ts (omega (arith, le)))

-- the next frame comes
pub next_first : (n : ℕ) (frames : List TaggedRows) (d : TaggedRows) → n < length frames → set (first_frames n frames) n (get_or frames n d) ≡ first_frames (suc n) frames
next_first n [] d lt = absurd (omega (arith, lt))
next_first zero (t ∷ ts) d lt = refl
next_first (suc n) (t ∷ ts) d lt = ap (λ us. t ∷ us) (next_first n ts d (omega (arith, lt)))

next_empty : (n : ℕ) (frames : List TaggedRows) → frame_at (first_frames n frames) n ≡ finite.empty
next_empty zero frames = nothing_there frames zero
next_empty (suc n) [] = refl
next_empty (suc n) (t ∷ ts) = next_empty n ts

length-first : (n : ℕ) (frames : List TaggedRows) → length (first_frames n frames) ≡ length frames
length-first zero [] = refl
length-first (suc n) [] = refl
length-first zero (t ∷ ts) = ap suc (length-first zero ts)
length-first (suc n) (t ∷ ts) = ap suc (length-first n ts)

first_or_empty : (P : TaggedRows → Type 0) (n : ℕ) (frames : List TaggedRows) (f : ℕ) → P finite.empty → P (frame_at frames f) → P (frame_at (first_frames n frames) f)
first_or_empty P zero frames f none h = subst P (sym (nothing_there frames f)) none
first_or_empty P (suc n) [] f none h = none
first_or_empty P (suc n) (t ∷ ts) zero none h = h
first_or_empty P (suc n) (t ∷ ts) (suc f) none h = first_or_empty P n ts f none h

none_fit : (s : Columns) → IsTrue (rows_fit s (finite.values (finite.empty {R = tag_cmp})))
none_fit s = subst (λ rows. IsTrue (rows_fit s rows)) (sym values_none) refl

first_fit : (schemas : List Columns) (n : ℕ) (frames : List TaggedRows) → IsTrue (frames_fit schemas (rows_of_frames frames)) →
    IsTrue (frames_fit schemas (rows_of_frames (first_frames n frames)))
first_fit [] zero [] h = refl
first_fit [] (suc n) [] h = refl
first_fit [] n (t ∷ ts) h = cc h
first_fit (s ∷ ss) n [] h = cc h
first_fit (s ∷ ss) zero (t ∷ ts) h =
    both_true (rows_fit s (finite.values (finite.empty {R = tag_cmp}))) (frames_fit ss (rows_of_frames (nothing ts))) (none_fit s)
    (first_fit ss zero ts (second_of_two (rows_fit s (finite.values t)) (frames_fit ss (rows_of_frames ts)) h))
first_fit (s ∷ ss) (suc n) (t ∷ ts) h =
    both_true (rows_fit s (finite.values t)) (frames_fit ss (rows_of_frames (first_frames n ts)))
    (first_of_two (rows_fit s (finite.values t)) (frames_fit ss (rows_of_frames ts)) h)
    (first_fit ss n ts (second_of_two (rows_fit s (finite.values t)) (frames_fit ss (rows_of_frames ts)) h))

no_keys : HasKeys (IsTagOver 1) (finite.empty {X = List Cell} {R = tag_cmp})
no_keys = record { at = λ q. rw (finite.get-empty tag_cmp q) tt }

pub first_are : (schemas : List Columns) (n : ℕ) (frames : List TaggedRows) → AreFrames schemas frames → AreFrames schemas (first_frames n frames)
first_are schemas n frames h = record {
  fit = first_fit schemas n frames h.fit;
  tags = λ f. first_or_empty (λ t. HasKeys (IsTagOver 1) t) n frames f no_keys (h.tags f);
}

pub next_filled :
    (schemas : List Columns) (n : ℕ) (frames : List TaggedRows) (d : TaggedRows) → n < length frames → AreFrames schemas frames →
    MayBeFilled schemas (first_frames n frames) n (get_or frames n d)
next_filled schemas n frames d lt h = record {
  within = omega (arith, lt, length-first n frames);
  empty = next_empty n frames;
  before = first_are schemas n frames h;
  after = subst (AreFrames schemas) (sym (next_first n frames d lt)) (first_are schemas (suc n) frames h);
}

pub rows_at : (tables : List TableParts) (n : ℕ) (d : TableParts) → get_or (tables_of tables) n d.rows ≡ (get_or tables n d).rows
rows_at [] n d = refl
rows_at (t ∷ ts) zero d = refl
rows_at (t ∷ ts) (suc n) d = rows_at ts n d

pub length-tables : (tables : List TableParts) → length (tables_of tables) ≡ length tables
length-tables [] = refl
length-tables (t ∷ ts) = ap suc (length-tables ts)

pub all_tables : (n : ℕ) (tables : List TableParts) → length tables ≤ n → first_frames n (tables_of tables) ≡ tables_of tables
all_tables n tables le = all_first n (tables_of tables) (omega (arith, le, length-tables tables))
