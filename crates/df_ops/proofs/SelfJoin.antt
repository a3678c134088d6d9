-- Rows that are joined with themselves, where nulls are equal, are each beside themselves.
use Rattle.std.proofs.Common.{◌≡◌, ℕ, ◌<◌, ◌∙◌, Bool, true, false, cond, zero, suc, List, [], ◌∷◌, ◌++◌, length, get_or, map, filter, refl, ap, sym, subst, arith, Contains}
use Rattle.std.specs.Prelude.{◌&&◌}
use Rattle.std.specs.List.{flat_map}
use Rattle.std.proofs.lemmas.List.Elements.{Contains-append_left, Contains-append_right}
use Rattle.df_value.specs.declared.cell.Cell.{Cell}
use Rattle.df_value.specs.RowEq.{row_eq-Decides}
use Rattle.df_ops.specs.Groups.{key_of}
use Rattle.df_ops.specs.Joins.{join_row, keys_match, left_beside, matches_of, nulls_for, JoinsItself}
use Rattle.df_ops.specs.declared.join_columns.JoinIndices.{JoinIndices}
use Rattle.df_ops.specs.declared.joins.How.{How}
use Rattle.df_ops.specs.declared.joins.How.TheVariants as how

abbrev Rows : Type 0
Rows = List (List Cell)

in_map : (f : List Cell → List Cell) (xs : Rows) (x : List Cell) (k : ℕ) → k < length xs → get_or xs k x ≡ x → Contains (map f xs) (f x)
in_map f [] x k lt is = absurd (omega arith)
in_map f (y ∷ ys) x zero lt is = (zero, omega arith, ap f is)
in_map f (y ∷ ys) x (suc k) lt is =
    let rest = in_map f ys x k (omega arith) is in
    (suc rest.0, omega (arith, rest.1), rest.2)

kept_first : (b : Bool) (x : List Cell) (xs : Rows) → b ≡ true → Contains (cond b (x ∷ xs) xs) x
kept_first true x xs h = (zero, omega arith, refl)
kept_first false x xs h = cc

kept_later : (b : Bool) (x y : List Cell) (xs : Rows) → Contains xs y → Contains (cond b (x ∷ xs) xs) y
kept_later true x y xs at = (suc at.0, omega (arith, at.1), at.2)
kept_later false x y xs at = at

-- a row that passes a test stays
in_filter : (p : List Cell → Bool) (xs : Rows) (x : List Cell) (k : ℕ) → k < length xs → get_or xs k x ≡ x → p x ≡ true → Contains (filter p xs) x
in_filter p [] x k lt is h = absurd (omega arith)
in_filter p (y ∷ ys) x zero lt is h =
    let same : y ≡ x = is in
    subst (λ z. Contains (cond (p y) (y ∷ filter p ys) (filter p ys)) z) same (kept_first (p y) y (filter p ys) (ap p same ∙ h))
in_filter p (y ∷ ys) x (suc k) lt is h = kept_later (p y) y x (filter p ys) (in_filter p ys x k (omega arith) is h)

in_flat_map :
    (f : List Cell → Rows) (xs : Rows) (x y : List Cell) (k : ℕ) → k < length xs → get_or xs k x ≡ x → Contains (f x) y → Contains (flat_map f xs) y
in_flat_map f [] x y k lt is at = absurd (omega arith)
in_flat_map f (z ∷ zs) x y zero lt is at =
    Contains-append_left (f z) (flat_map f zs) y (subst (λ w. Contains (f w) y) (sym is) at)
in_flat_map f (z ∷ zs) x y (suc k) lt is at =
    Contains-append_right (f z) (flat_map f zs) y (in_flat_map f zs x y k (omega arith) is at)

-- each of the rests is put beside the left row
beside : (h : How) (l nulls : List Cell) (rs : Rows) (r : List Cell) → Contains rs r → Contains (left_beside h l nulls rs) (l ++ r)
beside h l nulls [] r at = let no = at.1 in absurd (omega arith)
beside how.Inner l nulls (x ∷ xs) r at = in_map (λ q. l ++ q) (x ∷ xs) r at.0 at.1 at.2
beside how.Left l nulls (x ∷ xs) r at = in_map (λ q. l ++ q) (x ∷ xs) r at.0 at.1 at.2

own_key : (n : Bool) (key : List Cell) → n ≡ true → keys_match n key key ≡ true
own_key true key h = ap (λ b. b && true) ((row_eq-Decides key key).1 refl)
own_key false key h = cc

own_match : (s : JoinIndices) (r : List Cell) → s.left ≡ s.right → s.nulls_equal ≡ true → keys_match s.nulls_equal (key_of s.left r) (key_of s.right r) ≡ true
own_match s r e n = ap (λ is. keys_match s.nulls_equal (key_of s.left r) (key_of is r)) (sym e) ∙ own_key s.nulls_equal (key_of s.left r) n

-- the rows of a row have it beside itself
row_itself :
    (h : How) (s : JoinIndices) (rows : Rows) (r : List Cell) (k : ℕ) → s.left ≡ s.right → s.nulls_equal ≡ true → k < length rows → get_or rows k r ≡ r →
    Contains (join_row h s rows r) (r ++ key_of s.rest r)
unfolding join_row
row_itself h s rows r k e n lt is =
    let matched = in_filter (λ x. keys_match s.nulls_equal (key_of s.left r) (key_of s.right x)) rows r k lt is (own_match s r e n) in
    beside h r (nulls_for s.rest) (map (key_of s.rest) (matches_of s.nulls_equal s.right (key_of s.left r) rows)) (key_of s.rest r)
    (in_map (key_of s.rest) (matches_of s.nulls_equal s.right (key_of s.left r) rows) r matched.0 matched.1 matched.2)

get_own : (rows : Rows) (k : ℕ) (d : List Cell) → k < length rows → get_or rows k (get_or rows k d) ≡ get_or rows k d
get_own [] k d lt = absurd (omega arith)
get_own (r ∷ rows) zero d lt = refl
get_own (r ∷ rows) (suc k) d lt = get_own rows k d (omega arith)

pub joins_itself : (h : How) (s : JoinIndices) (rows : Rows) → JoinsItself h s rows
joins_itself h s rows e n k d lt =
    let r = get_or rows k d in
    in_flat_map (join_row h s rows) rows r (r ++ key_of s.rest r) k lt (get_own rows k d lt) (row_itself h s rows r k e n lt (get_own rows k d lt))
