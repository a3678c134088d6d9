-- The parts of a tree beside the values that stand for it.
use Rattle.std.proofs.Common.{◌≡◌, ◌∙◌, ◌++◌, ℕ, true, false, List, [], map, Option, Some, None, option_map, Bor, ap, sym, refl, subst, codes, append-nil}
use Rattle.std.specs.Prelude.{◌≤◌, decimal, length, slice_get}
use Rattle.std.specs.Option.{option_copied}
use Rattle.std.specs.Str.{is_utf8}
use Rattle.std.proofs.lemmas.Option.{slice_get-map}
use Rattle.toml.specs.Data.{Data, Members, no_members}
use Rattle.toml.specs.Parse.{parse_document}
use Rattle.toml.specs.View.{view}
use Rattle.toml.specs.declared.value.Value.{Value}
use Rattle.toml.proofs.Views.{view_of_ref}
use Rattle.df_print.specs.Printed.{escaped_text}
use Rattle.df_text.specs.declared.document.Location.{Location}
use Rattle.df_text.specs.declared.fault.ViewsFault.{ViewsFault}
use Rattle.df_text.specs.declared.document.FrameSpec.{FrameSpec}
use Rattle.df_text.specs.declared.document.Views.{Views}
use Rattle.df_explain.specs.Explanations.{frame_named, line_of, source_text, IsRecordsText, IsShapeText, IsToldOf}
use Rattle.df_explain.specs.Places.{location_of, place_in, IsOneLine}
use Rattle.df_explain.specs.Trees.{array_at, steps_said, tree_in}

-- an item of values is that of their data
pub got :
    (r : Option (Bor Value)) (xs : List Value) (ds : List Data) (i : ℕ) → option_copied r ≡ slice_get xs i → map view xs ≡ ds
    → option_map (λ x. view x.now) r ≡ slice_get ds i
got r xs ds i found e = view_of_ref r ∙ ap (option_map view) found ∙ sym (slice_get-map view xs i) ∙ ap (λ l. slice_get l i) e

-- what bytes are read as

pub tree_of_text : (bytes : List ℕ) (tree : Members) → is_utf8 bytes ≡ true → parse_document bytes ≡ Some tree → tree_in bytes ≡ tree
tree_of_text bytes tree text is = rw (text, is) refl

pub tree_of_none : (bytes : List ℕ) → is_utf8 bytes ≡ true → parse_document bytes ≡ None → tree_in bytes ≡ no_members
tree_of_none bytes text is = rw (text, is) refl

pub tree_of_bytes : (bytes : List ℕ) → is_utf8 bytes ≡ false → tree_in bytes ≡ no_members
tree_of_bytes bytes text = rw text refl

told_as :
    (n m words : List ℕ) (t u : Members) (f : ViewsFault) → n ≡ m → u ≡ t → IsToldOf n t f words → IsToldOf m u f words
told_as n m words t u f e k h = subst (λ x. IsToldOf x u f words) e (subst (λ x. IsToldOf n x f words) (sym k) h)

-- a fault of a shape, told of a tree that was read; of bytes that are no text; and of a text that is no TOML

pub shape_of_tree :
    (name bytes named words : List ℕ) (tree : Members) (f : ViewsFault) → is_utf8 bytes ≡ true → parse_document bytes ≡ Some tree
    → named ≡ escaped_text name → IsToldOf named tree f words → IsShapeText name bytes f words
shape_of_tree name bytes named words tree f text is same h =
    ([], rw (text, is) refl, told_as named _ words tree _ f (same ∙ sym (append-nil (escaped_text name))) (tree_of_text bytes tree text is) h)

pub shape_of_bytes :
    (name bytes named words : List ℕ) (f : ViewsFault) → is_utf8 bytes ≡ false
    → named ≡ escaped_text name → IsToldOf named no_members f words → IsShapeText name bytes f words
shape_of_bytes name bytes named words f text same h =
    ([], rw text refl, told_as named _ words no_members _ f (same ∙ sym (append-nil (escaped_text name))) (tree_of_bytes bytes text) h)

pub shape_of_none :
    (name bytes shown named words : List ℕ) (f : ViewsFault) (before line : ℕ) → is_utf8 bytes ≡ true → parse_document bytes ≡ None
    → before ≤ length bytes → line ≡ line_of bytes before → shown ≡ escaped_text name
    → named ≡ shown ++ (codes ", line " ++ decimal line) → IsToldOf named no_members f words → IsShapeText name bytes f words
shape_of_none name bytes shown named words f before line text none within is same e h =
    let there : List ℕ = codes ", line " ++ decimal (line_of bytes before) in (
      there,
      rw (text, none) (before, within, refl),
      told_as named _ words no_members _ f
          (e ∙ (ap (λ t. t ++ (codes ", line " ++ decimal line)) same ∙ ap (λ n. escaped_text name ++ (codes ", line " ++ decimal n)) is)) (tree_of_none bytes text none) h,
    )

-- words behind the place of a fault
pub told :
    (named place what words : List ℕ) (tree : Members) (at : Location) (f : ViewsFault) → IsOneLine what → place ≡ place_in tree at → at ≡ location_of f
    → words ≡ named ++ (codes ": " ++ (place ++ what)) → IsToldOf named tree f words
told named place what words tree at f line is same e =
    (what, line, e ∙ ap (λ p. named ++ (codes ": " ++ (p ++ what))) (is ∙ ap (place_in tree) same))

-- a fault of a frame's records, told of the frame that was found

pub source_is : (r : Option (Bor FrameSpec)) (found : Option FrameSpec) → option_copied r ≡ found
    → source_text (option_map (λ f. f.now.source) r) ≡ source_text (option_map (λ (f : FrameSpec). f.source) found)
source_is None found e = rw (← e) refl
source_is (Some f) found e = rw (← e) refl

pub recorded : (document : Views) (name shown source what words : List ℕ) → IsOneLine what → shown ≡ escaped_text name
    → source ≡ source_text (option_map (λ (f : FrameSpec). f.source) (frame_named document name))
    → words ≡ shown ++ (codes ": " ++ (source ++ (codes " " ++ what))) → IsRecordsText document name words
recorded document name shown source what words line same is e = (
  what,
  line,
  e ∙ (ap (λ n. n ++ (codes ": " ++ (source ++ (codes " " ++ what)))) same ∙ ap (λ s. escaped_text name ++ (codes ": " ++ (s ++ (codes " " ++ what)))) is),
)

-- of a text that is no TOML no step is said
pub none_said : (bytes steps : List ℕ) → bytes ≡ codes "steps = " ++ steps → tree_in bytes ≡ no_members → steps_said steps ≡ []
none_said bytes steps e is = ap (λ b. array_at (codes "steps") (tree_in b)) (sym e) ∙ ap (array_at (codes "steps")) is
