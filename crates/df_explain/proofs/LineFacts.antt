-- Texts without a line end.
use Rattle.std.proofs.Common.{◌≡◌, ◌<◌, ◌≤◌, ◌+◌, ◌/◌, ◌%◌, ◌∙◌, ℕ, zero, suc, Bool, true, false, not, List, [], ◌∷◌, ◌++◌, length, slice_index_or, refl, ap, sym, arith, codes, subst}
use Rattle.std.specs.Prelude.{◌≢◌, ◌==◌, ◌&&◌, Option, Some, None, decimal, option_map}
use Rattle.std.specs.Fmt.{digits, digits_onto, digit_glyph}
use Rattle.std.specs.List.{list_all}
use Rattle.std.proofs.lemmas.Bool.Decides.{nat_tests}
use Rattle.std.proofs.lemmas.List.{get_or_default}
use Rattle.std.proofs.lemmas.List.Elements.{All-append, All-cons}
use Rattle.df_value.specs.Choices.{either}
use Rattle.df_print.specs.Printed.{escaped_text, is_all_printable, is_printable}
use Rattle.df_print.proofs.EscapeFacts.{escaped_printable}
use Rattle.df_plan.specs.declared.plan.Plan.{Plan}
use Rattle.df_plan.specs.declared.plan.Plan.TheVariants as plan
use Rattle.df_ops.specs.declared.windows.RollKind.TheVariants as roll
use Rattle.toml.specs.Data.{Data, Members}
use Rattle.df_text.specs.declared.document.Location.{Location}
use Rattle.df_text.specs.declared.document.Location.TheVariants as location
use Rattle.df_value.specs.Schemas.{Columns}
use Rattle.df_explain.specs.Places.{part_in, part_text, place_in, place_in_steps, step_in, step_place_in, step_text, word_text, IsOneLine}
use Rattle.df_explain.specs.PlanPlaces.{last_step_text, numbered, sides_text, steps_of, word_of, IsPlaceOf}
use Rattle.df_explain.specs.Trees.{name_in, steps_in, word_in}

pub one-line : (xs : List ℕ) → ((i : ℕ) → i < length xs → slice_index_or xs i 0 ≢ 10) → IsOneLine xs
one-line xs none k d h e = none k h (rw (get_or_default xs k 0 d h) e)

-- no byte of it is a line end, as a test
abbrev has_no_end : List ℕ → Bool
has_no_end bs = list_all (λ b. not (b == 10)) bs

two_true : (a b : Bool) → (a && b) ≡ true → (a ≡ true) × (b ≡ true)
two_true true b h = (refl, h)
two_true false b h = cc

no_end : (b : ℕ) → not (b == 10) ≡ true → b ≢ 10
no_end b h e = grind (arith, nat_tests)

pub tested : (bs : List ℕ) → has_no_end bs ≡ true → IsOneLine bs
tested [] h k d l e = omega arith
tested (b ∷ bs) h k d l e =
    let parts = two_true (not (b == 10)) (has_no_end bs) h in
    All-cons (λ c. c ≢ 10) b bs (no_end b parts.0) (tested bs parts.1) k d l e

pub both : (xs ys : List ℕ) → IsOneLine xs → IsOneLine ys → IsOneLine (xs ++ ys)
both xs ys h k = All-append (λ c. c ≢ 10) xs ys h k

glyph : (d : ℕ) → d < 10 → digit_glyph false d ≢ 10
glyph d h e = grind (arith, nat_tests)

digits_line : (k n : ℕ) (acc : List ℕ) → IsOneLine acc → IsOneLine (digits_onto k 10 false n acc)
digits_line zero n acc h = h
digits_line (suc k) n acc h =
    let new : IsOneLine (digit_glyph false (n % 10) ∷ acc) = All-cons (λ c. c ≢ 10) (digit_glyph false (n % 10)) acc (glyph (n % 10) (omega arith)) h in
    either IsOneLine (n / 10 == 0) _ _ new (digits_line k (n / 10) (digit_glyph false (n % 10) ∷ acc) new)

pub number_line : (n : ℕ) → IsOneLine (decimal n)
unfolding digits
number_line n = digits_line 64 n [] (tested [] refl)

printed_byte : (b : ℕ) → is_printable b ≡ true → b ≢ 10
printed_byte b h e = grind (arith, nat_tests)

-- what is printed ends no line
pub printed : (bs : List ℕ) → is_all_printable bs ≡ true → IsOneLine bs
printed [] h k d l e = omega arith
printed (b ∷ bs) h k d l e =
    let parts = two_true (is_printable b) (is_all_printable bs) h in
    All-cons (λ c. c ≢ 10) b bs (printed_byte b parts.0) (printed bs parts.1) k d l e

pub wordless_line : (n : ℕ) → IsOneLine (step_text n None)
wordless_line n = both (codes "step ") (decimal n ++ []) (tested (codes "step ") refl) (both (decimal n) [] (number_line n) (tested [] refl))

pub step_line : (n : ℕ) (word : List ℕ) → IsOneLine word → IsOneLine (step_text n (Some word))
step_line n word h =
    both (codes "step ") (decimal n ++ word_text (Some word)) (tested (codes "step ") refl)
    (both (decimal n) (word_text (Some word)) (number_line n)
    (both (codes " `") (word ++ codes "`") (tested (codes " `") refl) (both word (codes "`") h (tested (codes "`") refl))))

word_line : (p : Plan) → IsOneLine (word_of p)
word_line (plan.Scan frame) = tested (codes "from") refl
word_line (plan.Filter' q input e) = tested (codes "filter") refl
word_line (plan.Select' q input items) = tested (codes "select") refl
word_line (plan.WithColumns' q input items) = tested (codes "with_columns") refl
word_line (plan.GroupBy' q input keys aggs) = tested (codes "group_by") refl
word_line (plan.Join' q left r right h keys nulls_equal) = tested (codes "join") refl
word_line (plan.Rolling' q input output roll.Sum column w m) = tested (codes "rolling_sum") refl
word_line (plan.Rolling' q input output roll.Min column w m) = tested (codes "rolling_min") refl
word_line (plan.Rolling' q input output roll.Max column w m) = tested (codes "rolling_max") refl
word_line (plan.CumSum' q input output column) = tested (codes "cum_sum") refl
word_line (plan.Rank' q input output k column) = tested (codes "rank") refl

numbered_line : (n : ℕ) (word : List ℕ) → IsOneLine word → IsOneLine (numbered n word)
numbered_line zero word h = h
numbered_line (suc n) word h = step_line (suc n) word h

last_step : (p : Plan) → IsOneLine (last_step_text p)
last_step p = numbered_line (steps_of p) (word_of p) (word_line p)

sides_line : (sides : List Plan) → IsOneLine (sides_text sides)
sides_line [] = tested [] refl
sides_line (inner ∷ sides) =
    both (codes ", right side, ") (last_step_text inner ++ sides_text sides) (tested (codes ", right side, ") refl)
    (both (last_step_text inner) (sides_text sides) (last_step inner) (sides_line sides))

-- the place of a part of a plan is told in one line
pub place_line : (frames : List Columns) (whole part : Plan) (text : List ℕ) → IsPlaceOf frames whole part text → IsOneLine text
place_line frames whole part text (outer, sides, up, first, within, last, is) =
    subst IsOneLine (sym is) (both (last_step_text outer) (sides_text sides) (last_step outer) (sides_line sides))

-- a step's place, with its word as it is printed

shown_line : (n : ℕ) (word : Option (List ℕ)) → IsOneLine (step_text n (option_map escaped_text word))
shown_line n None = wordless_line n
shown_line n (Some word) = step_line n (escaped_text word) (printed (escaped_text word) (escaped_printable word))

step_in_line : (steps : List Data) (index : ℕ) → IsOneLine (step_in steps index)
step_in_line steps index = shown_line (index + 1) (word_in steps index)

pub steps_line : (steps : List Data) (at : Location) → IsOneLine (place_in_steps steps at)
steps_line steps location.Top = tested [] refl
steps_line steps (location.Frame frame) = tested [] refl
steps_line steps (location.View view) = tested [] refl
steps_line steps (location.Step view step) = both (step_in steps step) (codes ": ") (step_in_line steps step) (tested (codes ": ") refl)
steps_line steps (location.Item view step item) =
    both (step_in steps step) (codes ", item " ++ (decimal item ++ codes ": ")) (step_in_line steps step)
    (both (codes ", item ") (decimal item ++ codes ": ") (tested (codes ", item ") refl)
    (both (decimal item) (codes ": ") (number_line item) (tested (codes ": ") refl)))

pub placed : (before between what text : List ℕ) → IsOneLine before → IsOneLine between → IsOneLine what → text ≡ before ++ (between ++ what) → IsOneLine text
placed before between what text h k l e = subst IsOneLine (sym e) (both before (between ++ what) h (both between what k l))

-- names, places of a document, and codes

pub escaped_line : (name : List ℕ) → IsOneLine (escaped_text name)
escaped_line name = printed (escaped_text name) (escaped_printable name)

pub part_line : (kind : List ℕ) (n : ℕ) (name : Option (List ℕ)) → IsOneLine kind → IsOneLine (part_text kind n (option_map escaped_text name))
part_line kind n None h =
    both kind (codes " " ++ (decimal n ++ [])) h
    (both (codes " ") (decimal n ++ []) (tested (codes " ") refl) (both (decimal n) [] (number_line n) (tested [] refl)))
part_line kind n (Some name) h =
    both kind (codes " " ++ (decimal n ++ word_text (Some (escaped_text name)))) h
    (both (codes " ") (decimal n ++ word_text (Some (escaped_text name))) (tested (codes " ") refl)
    (both (decimal n) (word_text (Some (escaped_text name))) (number_line n)
    (both (codes " `") (escaped_text name ++ codes "`") (tested (codes " `") refl)
    (both (escaped_text name) (codes "`") (escaped_line name) (tested (codes "`") refl)))))

view_line : (tree : Members) (index : ℕ) → IsOneLine (part_in tree (codes "view") index)
view_line tree index = part_line (codes "view") (index + 1) (name_in (codes "view") index tree) (tested (codes "view") refl)

step_place_line : (tree : Members) (view : ℕ) (at : Location) → IsOneLine (step_place_in tree view at)
step_place_line tree view at =
    both (part_in tree (codes "view") view) (codes ", " ++ place_in_steps (steps_in view tree) at) (view_line tree view)
    (both (codes ", ") (place_in_steps (steps_in view tree) at) (tested (codes ", ") refl) (steps_line (steps_in view tree) at))

pub document_line : (tree : Members) (at : Location) → IsOneLine (place_in tree at)
document_line tree location.Top = tested [] refl
document_line tree (location.Frame frame) =
    both (part_in tree (codes "frame") frame) (codes ": ")
    (part_line (codes "frame") (frame + 1) (name_in (codes "frame") frame tree) (tested (codes "frame") refl)) (tested (codes ": ") refl)
document_line tree (location.View view) = both (part_in tree (codes "view") view) (codes ": ") (view_line tree view) (tested (codes ": ") refl)
document_line tree (location.Step view step) = step_place_line tree view (location.Step view step)
document_line tree (location.Item view step item) = step_place_line tree view (location.Item view step item)
