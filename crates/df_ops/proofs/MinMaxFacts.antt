-- The cell that a loop picks is the one that no other lies beyond.
use Rattle.std.proofs.Common.{◌≡◌, Bool, true, false, cond, List, [], ◌∷◌, refl, sym, ap, ◌∙◌}
use Rattle.std.specs.Prelude.{◌≢◌, ◌&&◌, Some, None, find, not}
use Rattle.std.specs.List.{list_all}
use Rattle.std.specs.Ordering.{is_lt, is_gt, ordering_reverse}
use Rattle.std.specs.declared.cmp.Ordering.{Ordering}
use Rattle.std.specs.declared.cmp.Ordering.TheVariants as ordering
use Rattle.df_value.specs.declared.cell.Cell.{Cell}
use Rattle.df_value.specs.declared.cell.Cell.TheVariants as cell
use Rattle.df_value.specs.CellOrder.{cell_cmp, cell_cmp_total}
use Rattle.df_value.specs.CellOrders.{exact, to_itself}
use Rattle.df_ops.specs.declared.min_max.MinMax.{MinMax}
use Rattle.df_ops.specs.declared.min_max.MinMax.TheVariants as min_max
use Rattle.df_ops.specs.Aggregates.{is_beyond, is_min_or_max, min_or_max_in, non_null}
use Rattle.df_ops.specs.LoopStates.{min_or_max_after}
use Rattle.df_ops.proofs.Least.{IsStrict, least_after, least_found}

pub less : (o : Ordering) → is_lt o ≡ true → o ≡ ordering.Less
less ordering.Less h = refl
less ordering.Equal h = cc
less ordering.Greater h = cc

greater : (o : Ordering) → is_gt o ≡ true → o ≡ ordering.Greater
greater ordering.Less h = cc
greater ordering.Equal h = cc
greater ordering.Greater h = refl

-- two orders of which neither is less, each being the other reversed, are equal
neither : (o r : Ordering) → o ≡ ordering_reverse r → is_lt o ≡ false → is_lt r ≡ false → o ≡ ordering.Equal
neither ordering.Less r e h k = cc
neither ordering.Equal r e h k = refl
neither ordering.Greater ordering.Less e h k = cc
neither ordering.Greater ordering.Equal e h k = cc
neither ordering.Greater ordering.Greater e h k = cc

neither_more : (o r : Ordering) → o ≡ ordering_reverse r → is_gt o ≡ false → is_gt r ≡ false → o ≡ ordering.Equal
neither_more ordering.Greater r e h k = cc
neither_more ordering.Equal r e h k = refl
neither_more ordering.Less ordering.Less e h k = cc
neither_more ordering.Less ordering.Equal e h k = cc
neither_more ordering.Less ordering.Greater e h k = cc

turned : (a b : Cell) → cell_cmp a b ≡ ordering.Greater → cell_cmp b a ≡ ordering.Less
turned a b h = cell_cmp_total.antisymm b a ∙ ap ordering_reverse h

turned_back : (a b : Cell) → cell_cmp b a ≡ ordering.Less → cell_cmp a b ≡ ordering.Greater
turned_back a b h = cell_cmp_total.antisymm a b ∙ ap ordering_reverse h

pub strict : (e : MinMax) → IsStrict (is_beyond e)
strict min_max.Min = record {
  irrefl = λ a. ap is_lt (to_itself a);
  trans = λ a b c h k. ap is_lt (cell_cmp_total.trans a b c (less (cell_cmp a b) h) (less (cell_cmp b c) k));
  apart = λ a b h k. exact a b (neither (cell_cmp a b) (cell_cmp b a) (cell_cmp_total.antisymm a b) h k);
}
strict min_max.Max = record {
  irrefl = λ a. ap is_gt (to_itself a);
  trans = λ a b c h k. ap is_gt (turned_back a c (cell_cmp_total.trans c b a (turned b c (greater (cell_cmp b c) k)) (turned a b (greater (cell_cmp a b) h))));
  apart = λ a b h k. exact a b (neither_more (cell_cmp a b) (cell_cmp b a) (cell_cmp_total.antisymm a b) h k);
}

min_or_max_after_some : (e : MinMax) (l : Cell) (cs : List Cell) → min_or_max_after e (Some l) cs ≡ Some (least_after (is_beyond e) l (non_null cs))
min_or_max_after_some e l [] = refl
min_or_max_after_some e l (cell.Null ∷ cs) = min_or_max_after_some e l cs
min_or_max_after_some e l (cell.Int n ∷ cs) = min_or_max_after_some e (cond (is_beyond e (cell.Int n) l) (cell.Int n) l) cs
min_or_max_after_some e l (cell.Wide n ∷ cs) = min_or_max_after_some e (cond (is_beyond e (cell.Wide n) l) (cell.Wide n) l) cs
min_or_max_after_some e l (cell.Text t ∷ cs) = min_or_max_after_some e (cond (is_beyond e (cell.Text t) l) (cell.Text t) l) cs
min_or_max_after_some e l (cell.Bool b ∷ cs) = min_or_max_after_some e (cond (is_beyond e (cell.Bool b) l) (cell.Bool b) l) cs
min_or_max_after_some e l (cell.Frac f ∷ cs) = min_or_max_after_some e (cond (is_beyond e (cell.Frac f) l) (cell.Frac f) l) cs

first : (e : MinMax) (c : Cell) (cs : List Cell) → min_or_max_after e (Some c) cs ≡ min_or_max_in e (c ∷ non_null cs)
first e c cs = min_or_max_after_some e c cs ∙ sym (least_found (is_beyond e) (strict e) c (non_null cs))

pub min_or_max_after_is : (e : MinMax) (cs : List Cell) → min_or_max_after e None cs ≡ min_or_max_in e (non_null cs)
min_or_max_after_is e [] = refl
min_or_max_after_is e (cell.Null ∷ cs) = min_or_max_after_is e cs
min_or_max_after_is e (cell.Int n ∷ cs) = first e (cell.Int n) cs
min_or_max_after_is e (cell.Wide n ∷ cs) = first e (cell.Wide n) cs
min_or_max_after_is e (cell.Text t ∷ cs) = first e (cell.Text t) cs
min_or_max_after_is e (cell.Bool b ∷ cs) = first e (cell.Bool b) cs
min_or_max_after_is e (cell.Frac f ∷ cs) = first e (cell.Frac f) cs

holds_at : (p : Cell → Bool) (a x : Cell) (xs : List Cell) (b : Bool) → p x ≡ b → cond b (Some x) (find p xs) ≡ Some a →
    (find p xs ≡ Some a → p a ≡ true) → p a ≡ true
holds_at p a x xs true e h later = let same : x ≡ a = cc in ap p (sym same) ∙ e
holds_at p a x xs false e h later = later h

-- what a search finds has the property
found_holds : (p : Cell → Bool) (xs : List Cell) (a : Cell) → find p xs ≡ Some a → p a ≡ true
found_holds p [] a h = cc
found_holds p (x ∷ xs) a h = holds_at p a x xs (p x) refl h (found_holds p xs a)

passes_at : (q p : Cell → Bool) (a x : Cell) (xs : List Cell) (b : Bool) → cond b (Some x) (find p xs) ≡ Some a →
    q x ≡ true → (find p xs ≡ Some a → q a ≡ true) → q a ≡ true
passes_at q p a x xs true h here later = let same : x ≡ a = cc in ap q (sym same) ∙ here
passes_at q p a x xs false h here later = later h

first_true : (a b : Bool) → (a && b) ≡ true → a ≡ true
first_true true b h = refl
first_true false b h = cc

second_true : (a b : Bool) → (a && b) ≡ true → b ≡ true
second_true true b h = h
second_true false b h = cc

-- and is one of the list, so that it has what all of the list have
found_passes : (q p : Cell → Bool) (xs : List Cell) (a : Cell) → list_all q xs ≡ true → find p xs ≡ Some a → q a ≡ true
found_passes q p [] a all h = cc
found_passes q p (x ∷ xs) a all h =
    passes_at q p a x xs (p x) h (first_true (q x) (list_all q xs) all)
    (found_passes q p xs a (second_true (q x) (list_all q xs) all))

not_less : (o r : Ordering) → r ≡ ordering_reverse o → not (is_lt o) ≡ true → r ≢ ordering.Greater
not_less ordering.Less r e h g = cc
not_less ordering.Equal r e h g = cc
not_less ordering.Greater r e h g = cc

-- the least is not above the greatest
pub in_order :
    (cells : List Cell) (a b : Cell) → min_or_max_in min_max.Min cells ≡ Some a → min_or_max_in min_max.Max cells ≡ Some b →
    cell_cmp a b ≢ ordering.Greater
in_order cells a b h k =
    let lowest : is_min_or_max min_max.Min cells a ≡ true = found_holds (is_min_or_max min_max.Min cells) cells a h in
    let not_below : not (is_lt (cell_cmp b a)) ≡ true = found_passes (λ d. not (is_lt (cell_cmp d a))) (is_min_or_max min_max.Max cells) cells b lowest k in
    not_less (cell_cmp b a) (cell_cmp a b) (cell_cmp_total.antisymm a b) not_below

pub none_non_null : (e : MinMax) (cells : List Cell) → min_or_max_in e cells ≡ None → cells ≡ []
none_non_null e [] h = refl
none_non_null e (c ∷ cs) h = let found = least_found (is_beyond e) (strict e) c cs in cc
