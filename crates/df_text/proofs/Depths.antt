-- What is inside a value is less deep than the value: by this the reading of right sides ends.
use Rattle.std.proofs.Common.{◌≡◌, ◌≤◌, ◌<◌, ℕ, zero, suc, max, List, [], ◌∷◌, length, get_or, map, Option, Some, None, Ok, IfOk, Ordering, Less, Equal, Greater, nat_cmp, refl, subst, sym, arith}
use Rattle.std.specs.Cmp.Lexicographic.{slice_cmp}
use Rattle.std.specs.Ordering.{match_ordering}
use Rattle.toml.specs.Data.{Data, string, integer, float, boolean, datetime, array, table, Members, no_members, member, get_member, depth, items_depth, members_depth}
use Rattle.toml.specs.View.{items_of, view}
use Rattle.toml.specs.declared.value.Value.{Value}
use Rattle.df_text.specs.declared.document.Location.{Location}
use Rattle.df_text.specs.declared.view_steps.StepWord.{StepWord}
use Rattle.df_text.specs.Tree.{text_in, array_in, first_in}
use Rattle.df_text.specs.Sources.{array_or_none}
use Rattle.df_text.specs.Steps.{join_items, step_of_word, step_in}
use Rattle.df_text.proofs.ReadFacts.{then_gives, given}
use Rattle.df_text.proofs.StepFacts.{items_of-list}

inside_array : (at : Location) (d : Data) → IfOk (array_in at d) (λ ds. items_depth (items_of ds) < depth d)
inside_array at (array ds) = rw (items_of-list ds) (omega arith)
inside_array at (string s) = tt
inside_array at (integer n) = tt
inside_array at (float x) = tt
inside_array at (boolean b) = tt
inside_array at (datetime t) = tt
inside_array at (table ms) = tt

-- the items of an array
pub array_deeper : (at : Location) (d : Data) (ds : List Data) → array_in at d ≡ Ok ds → items_depth (items_of ds) < depth d
array_deeper at d ds is = given (λ xs. items_depth (items_of xs) < depth d) (array_in at d) ds (inside_array at d) is

rest_depth : (at : Location) (ds : List Data) → IfOk (first_in at ds) (λ s. items_depth (items_of s.1) ≤ items_depth (items_of ds))
rest_depth at [] = tt
rest_depth at (d ∷ ds) = omega arith

inside_step : (at : Location) (d : Data) → IfOk (step_in at d) (λ s. items_depth (items_of s.1) < depth d)
inside_step at d =
    then_gives _ (array_in at d) _ (λ ds is. then_gives _ (first_in at ds) _ (λ s first.
    then_gives _ (text_in at s.0) _ (λ w _. then_gives _ (step_of_word at w) _ (λ word _.
    let rest = given (λ (s : Data × List Data). items_depth (items_of s.1) ≤ items_depth (items_of ds)) (first_in at ds) s (rest_depth at ds) first in
    let within = array_deeper at d ds is in
    omega (arith, rest, within)))))

-- the items after a step's word
pub step_deeper : (at : Location) (d : Data) (word : StepWord) (ds : List Data) → step_in at d ≡ Ok (word, ds) → items_depth (items_of ds) < depth d
step_deeper at d word ds is = given (λ (s : StepWord × List Data). items_depth (items_of s.1) < depth d) (step_in at d) (word, ds) (inside_step at d) is

right_within : (at : Location) (ds : List Data) → IfOk (join_items at ds) (λ t. depth t.2 ≤ items_depth (items_of ds))
right_within at [] = tt
right_within at (x ∷ []) = tt
right_within at (x ∷ y ∷ []) = tt
right_within at (x ∷ y ∷ z ∷ []) = omega arith
right_within at (x ∷ y ∷ z ∷ w ∷ []) = omega arith
right_within at (x ∷ y ∷ z ∷ w ∷ v ∷ ds) = tt

-- the right side among the items of a join
pub right_no_deeper :
    (at : Location) (ds : List Data) (a b c : Data) (rest : List Data) → join_items at ds ≡ Ok (a, b, c, rest) → depth c ≤ items_depth (items_of ds)
right_no_deeper at ds a b c rest is =
    given (λ (t : Data × Data × Data × List Data). depth t.2 ≤ items_depth (items_of ds)) (join_items at ds) (a, b, c, rest) (right_within at ds) is

member_within : (o : Ordering) (e d : Data) (n : ℕ) (found : Option Data) → (found ≡ Some d → depth d ≤ n) → match_ordering o found (Some e) found ≡ Some d → depth d ≤ max (depth e) n
member_within Less e d n found h is = let m = h is in omega (arith, m)
member_within Equal e d n found h is = let same : e ≡ d = cc in rw (← same) (omega arith)
member_within Greater e d n found h is = let m = h is in omega (arith, m)

-- a value at a key
pub member_no_deeper : (k : List ℕ) (ms : Members) (d : Data) → get_member k ms ≡ Some d → depth d ≤ members_depth ms
member_no_deeper k no_members d is = absurd (cc)
member_no_deeper k (member l e ms) d is = member_within (slice_cmp nat_cmp k l) e d (members_depth ms) (get_member k ms) (member_no_deeper k ms d) is

-- the items of the array at a key, which may be missing
pub array_at_no_deeper : (at : Location) (k : List ℕ) (ms : Members) (ds : List Data) → array_or_none at (get_member k ms) ≡ Ok ds → items_depth (items_of ds) ≤ members_depth ms
array_at_no_deeper at k ms ds is = found (get_member k ms) (member_no_deeper k ms) is
  where
    found : (o : Option Data) → ((d : Data) → o ≡ Some d → depth d ≤ members_depth ms) → array_or_none at o ≡ Ok ds → items_depth (items_of ds) ≤ members_depth ms
    found None h e = let none : [] ≡ ds = cc in rw (← none) (omega arith)
    found (Some d) h e =
        let outer = h d refl in
        let inner = array_deeper at d ds e in
        omega (arith, outer, inner)

item_at : (vs : List Value) (i : ℕ) (v : Value) → i < length vs → depth (view (get_or vs i v)) ≤ items_depth (items_of (map view vs))
item_at [] i v h = absurd (omega arith)
item_at (x ∷ vs) zero v h = omega arith
item_at (x ∷ vs) (suc i) v h = let n = item_at vs i v (omega arith) in omega (arith, n)

-- an item of a list
pub item_no_deeper : (vs : List Value) (i : ℕ) (v : Value) → i < length vs → v ≡ get_or vs i v → depth (view v) ≤ items_depth (items_of (map view vs))
item_no_deeper vs i v h is = subst (λ w. depth (view w) ≤ items_depth (items_of (map view vs))) (sym is) (item_at vs i v h)
