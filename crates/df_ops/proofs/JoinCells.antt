-- The cells that a join puts beside a left row, right row by right row.
use Rattle.std.proofs.Common.{◌≡◌, ◌≢◌, ℕ, ◌∙◌, Bool, true, false, cond, zero, suc, List, [], ◌∷◌, ◌++◌, length, map, filter, replicate, refl, ap, sym, arith, append-nil, All, Option}
use Rattle.std.specs.Prelude.{◌&&◌, ◌||◌, not}
use Rattle.std.specs.List.{list_any}
use Rattle.std.proofs.lemmas.Grind.{flat_map-append}
use Rattle.std.proofs.lemmas.List.{map-append}
use Rattle.std.proofs.lemmas.List.Elements.{filter-append}
use Rattle.df_value.specs.declared.cell.Cell.{Cell}
use Rattle.df_value.specs.declared.cell.Cell.TheVariants as cell
use Rattle.df_value.specs.RowEq.{row_eq-Decides}
use Rattle.df_value.specs.Rows.{row_eq}
use Rattle.df_expr.specs.Value.{is_null}
use Rattle.df_ops.specs.Groups.{key_of}
use Rattle.df_ops.specs.Joins.{join_row, keys_match, left_beside, matches_of, nulls_for, IsJoinOfRow, JoinsInOrder, Matches, SameWithoutNulls}
use Rattle.df_ops.specs.declared.join_columns.JoinIndices.{JoinIndices}
use Rattle.df_ops.specs.declared.joins.How.{How}
use Rattle.df_ops.specs.declared.joins.How.TheVariants as how

abbrev Rows : Type 0
Rows = List (List Cell)

not_null : (c : Cell) → c ≢ cell.Null → is_null c ≡ false
not_null cell.Null h = absurd (h refl)
not_null (cell.Int n) h = refl
not_null (cell.Wide n) h = refl
not_null (cell.Text t) h = refl
not_null (cell.Bool b) h = refl
not_null (cell.Frac f) h = refl

null_is : (c : Cell) → is_null c ≡ false → c ≢ cell.Null
null_is c h e = let there = ap is_null e in cc

none_null : (cs : List Cell) → All (λ c. c ≢ cell.Null) cs → list_any is_null cs ≡ false
none_null [] h = refl
none_null (c ∷ cs) h =
    ap (λ b. b || list_any is_null cs) (not_null c (h 0 c (omega arith))) ∙ none_null cs (λ k d l. h (suc k) d (omega arith))

-- one of two tests fails
both_false : (a b : Bool) → (a || b) ≡ false → (a ≡ false) × (b ≡ false)
both_false true b h = cc
both_false false b h = (refl, h)

all_not_null : (cs : List Cell) → list_any is_null cs ≡ false → All (λ c. c ≢ cell.Null) cs
all_not_null [] h k d l = absurd (omega arith)
all_not_null (c ∷ cs) h zero d l = null_is c (both_false (is_null c) (list_any is_null cs) h).0
all_not_null (c ∷ cs) h (suc k) d l = all_not_null cs (both_false (is_null c) (list_any is_null cs) h).1 k d (omega arith)

or_none : (n b : Bool) → (not n ≡ true → b ≡ false) → (n || not b) ≡ true
or_none true b h = refl
or_none false b h = ap not (h refl)

matching : (s : JoinIndices) (l r : List Cell) → Matches s l r → keys_match s.nulls_equal (key_of s.left l) (key_of s.right r) ≡ true
matching s l r h =
    ap (λ b. b && (s.nulls_equal || not (list_any is_null (key_of s.left l)))) ((row_eq-Decides (key_of s.right r) (key_of s.left l)).1 (sym h.0))
    ∙ or_none s.nulls_equal (list_any is_null (key_of s.left l)) (λ e. none_null (key_of s.left l) (h.1 e))

two_parts : (a n b : Bool) → (a && (n || not b)) ≡ true → (a ≡ true) × (not n ≡ true → b ≡ false)
two_parts true true b h = (refl, (λ e. cc))
two_parts true false true h = cc
two_parts true false false h = (refl, (λ e. refl))
two_parts false n b h = cc

unless : (b : Bool) → (b ≡ true → ⊥) → b ≡ false
unless true h = absurd (h refl)
unless false h = refl

not_matching : (s : JoinIndices) (l r : List Cell) → ¬ (Matches s l r) → keys_match s.nulls_equal (key_of s.left l) (key_of s.right r) ≡ false
not_matching s l r none =
    unless (keys_match s.nulls_equal (key_of s.left l) (key_of s.right r)) (λ e.
    let parts = two_parts (row_eq (key_of s.right r) (key_of s.left l)) s.nulls_equal (list_any is_null (key_of s.left l)) e in
    none (sym ((row_eq-Decides (key_of s.right r) (key_of s.left l)).0 parts.0), (λ n. all_not_null (key_of s.left l) (parts.1 n))))

inner : (l nulls : List Cell) (rs : Rows) → left_beside how.Inner l nulls rs ≡ map (λ q. l ++ q) rs
inner l nulls [] = refl
inner l nulls (r ∷ rs) = refl

left_like_inner : (l nulls : List Cell) (rs : Rows) → left_beside how.Inner l nulls rs ≢ [] → left_beside how.Left l nulls rs ≡ left_beside how.Inner l nulls rs
left_like_inner l nulls [] h = absurd (h refl)
left_like_inner l nulls (r ∷ rs) h = refl

left_alone : (l nulls : List Cell) (rs : Rows) → left_beside how.Inner l nulls rs ≡ [] → left_beside how.Left l nulls rs ≡ (l ++ nulls) ∷ []
left_alone l nulls [] h = refl
left_alone l nulls (r ∷ rs) h = cc

all_nulls : (indices : List (Option ℕ)) → nulls_for indices ≡ replicate (length indices) cell.Null
all_nulls [] = refl
all_nulls (i ∷ is) = ap (λ (cs : List Cell). cell.Null ∷ cs) (all_nulls is)

rests : JoinIndices → List Cell → Rows → Rows
rests s l rights = map (key_of s.rest) (matches_of s.nulls_equal s.right (key_of s.left l) rights)

rests-append : (s : JoinIndices) (l : List Cell) (xs ys : Rows) → rests s l (xs ++ ys) ≡ rests s l xs ++ rests s l ys
unfolding rests
rests-append s l xs ys =
    ap (map (key_of s.rest)) (filter-append (λ r. keys_match s.nulls_equal (key_of s.left l) (key_of s.right r)) xs ys) ∙ map-append (key_of s.rest) _ _

pub is_join_of_row : (s : JoinIndices) (l : List Cell) → IsJoinOfRow s l (λ h rights. join_row h s rights l)
unfolding join_row rests
is_join_of_row s l = record {
  match = λ r h. ap (λ b. left_beside how.Inner l (nulls_for s.rest) (map (key_of s.rest) (cond b (r ∷ []) []))) (matching s l r h);
  no_match = λ r h. ap (λ b. left_beside how.Inner l (nulls_for s.rest) (map (key_of s.rest) (cond b (r ∷ []) []))) (not_matching s l r h);
  of_parts = λ xs ys.
      inner l (nulls_for s.rest) (rests s l (xs ++ ys))
      ∙ (ap (map (λ q. l ++ q)) (rests-append s l xs ys)
      ∙ (map-append (λ q. l ++ q) (rests s l xs) (rests s l ys)
      ∙ (ap (λ (rs : Rows). rs ++ map (λ q. l ++ q) (rests s l ys)) (sym (inner l (nulls_for s.rest) (rests s l xs)))
      ∙ ap (λ (rs : Rows). left_beside how.Inner l (nulls_for s.rest) (rests s l xs) ++ rs) (sym (inner l (nulls_for s.rest) (rests s l ys))))));
  like_inner = λ rights h. left_like_inner l (nulls_for s.rest) (rests s l rights) h;
  nulls = λ rights h.
      left_alone l (nulls_for s.rest) (rests s l rights) h ∙ ap (λ (cs : List Cell). (l ++ cs) ∷ []) (all_nulls s.rest);
}

pub joins_in_order : (h : How) (s : JoinIndices) (rights : Rows) → JoinsInOrder h s rights
joins_in_order h s rights = record {
  of_one = λ l. append-nil (join_row h s rights l);
  of_parts = flat_map-append (join_row h s rights);
}

pub same_without_nulls : (s : JoinIndices) (rights : Rows) (l : List Cell) → SameWithoutNulls s rights l
same_without_nulls s rights l none =
    let key = key_of s.left l in
    let same : (r : List Cell) → keys_match true key (key_of s.right r) ≡ keys_match false key (key_of s.right r) =
    λ r. ap (λ b. row_eq (key_of s.right r) key && not b) (sym (none_null key none)) in
    ap (λ (p : List Cell → Bool). filter p rights) (λ i. λ r. same r i)
