-- Rows that stand one behind the other, row by row and block by block.
use Rattle.std.proofs.Common.{◌≡◌, ℕ, ◌+◌, ◌-◌, ◌<◌, ◌≤◌, Bool, true, false, List, get_or, length, nat_lt, refl, sym, ap, subst, ◌∙◌, arith, length-drop, length-take, take, drop}
use Rattle.std.proofs.lemmas.Bool.{ltb-false, ltb-true}
use Rattle.std.proofs.lemmas.List.{get_or-take, get_or-drop, take_all}
use Rattle.df_value.specs.declared.cell.Cell.{Cell}
use Rattle.df_column.specs.RowRuns.{StandFrom}
use Rattle.df_column.specs.declared.tag.Tag.{Tag}

-- the next rows, in another list of tagged rows that goes along with this one
module _ (tagged : List (Tag × List Cell)) (at first : ℕ) (rows : List (List Cell)) (n m : ℕ) (other : List (Tag × List Cell)) (low : ℕ) (part : List (List Cell)) where
  pub stand_more : StandFrom tagged at first (take n rows) → n + m ≤ length rows → part ≡ take m (drop n rows) → StandFrom other low (first + n) part → ((i : ℕ) (d : Tag × List Cell) → i < m → get_or tagged ((at + n) + i) d ≡ get_or other (low + i) d)
      → StandFrom tagged at first (take (n + m) rows)
  stand_more so_far within is next along = record {
    numbers = λ k d lt. number k d (nat_lt k n) refl (omega (arith, all, lt));
    rows_are = λ k d lt. row k d (nat_lt k n) refl (omega (arith, all, lt));
  } where
    all : length (take (n + m) rows) ≡ n + m
    all = let e = length-take (n + m) rows in omega (arith, e, within)

    front : length (take n rows) ≡ n
    front = let e = length-take n rows in omega (arith, e, within)

    rest : length part ≡ m
    rest = let e = ap length is ∙ length-take m (drop n rows) in let f = length-drop n rows in omega (arith, e, f, within)

    number : (k : ℕ) (d : Tag × List Cell) (b : Bool) → nat_lt k n ≡ b → k < n + m → (get_or tagged (at + k) d).0.first ≡ first + k
    number k d true e lt = so_far.numbers k d (let h = ltb-true k n e in omega (arith, h, front))
    number k d false e lt =
        let h = ltb-false k n e in
        let off : at + k ≡ (at + n) + (k - n) = omega (arith, h) in
        let sum : (first + n) + (k - n) ≡ first + k = omega (arith, h) in
        ap (λ i. (get_or tagged i d).0.first) off ∙ ap (λ r. r.0.first) (along (k - n) d (omega (arith, h, lt))) ∙ next.numbers (k - n) d (omega (arith, h, lt, rest)) ∙ sum

    row : (k : ℕ) (d : Tag × List Cell) (b : Bool) → nat_lt k n ≡ b → k < n + m → (get_or tagged (at + k) d).1 ≡ get_or (take (n + m) rows) k d.1
    row k d true e lt =
        let h = ltb-true k n e in
        so_far.rows_are k d (omega (arith, h, front)) ∙ get_or-take n rows k d.1 h ∙ sym (get_or-take (n + m) rows k d.1 (omega (arith, h)))
    row k d false e lt =
        let h = ltb-false k n e in
        let off : at + k ≡ (at + n) + (k - n) = omega (arith, h) in
        let there : n + (k - n) ≡ k = omega (arith, h) in
        ap (λ i. (get_or tagged i d).1) off ∙ ap (λ r. r.1) (along (k - n) d (omega (arith, h, lt)))
        ∙ next.rows_are (k - n) d (omega (arith, h, lt, rest))
        ∙ ap (λ xs. get_or xs (k - n) d.1) is ∙ get_or-take m (drop n rows) (k - n) d.1 (omega (arith, h, lt))
        ∙ get_or-drop n rows (k - n) d.1 ∙ ap (λ i. get_or rows i d.1) there ∙ sym (get_or-take (n + m) rows k d.1 lt)

-- one row more
pub stand_one : (tagged : List (Tag × List Cell)) (at first : ℕ) (rows : List (List Cell)) (n : ℕ) → StandFrom tagged at first (take n rows) → n < length rows → ((d : Tag × List Cell) → (get_or tagged (at + n) d).0.first ≡ first + n)
    → ((d : Tag × List Cell) → (get_or tagged (at + n) d).1 ≡ get_or rows n d.1) → StandFrom tagged at first (take (n + 1) rows)
stand_one tagged at first rows n so_far lt number row =
    stand_more tagged at first rows n 1 tagged (at + n) (take 1 (drop n rows)) so_far (omega (arith, lt)) refl
    (record {
      numbers = λ k d one.
          let e = length-take 1 (drop n rows) in
          let z : k ≡ 0 = omega (arith, e, one) in
          let off : (at + n) + k ≡ at + n = omega (arith, z) in
          let sum : first + n ≡ (first + n) + k = omega (arith, z) in
          ap (λ i. (get_or tagged i d).0.first) off ∙ number d ∙ sum;
      rows_are = λ k d one.
          let e = length-take 1 (drop n rows) in
          let z : k ≡ 0 = omega (arith, e, one) in
          let off : (at + n) + k ≡ at + n = omega (arith, z) in
          let there : n ≡ n + k = omega (arith, z) in
          ap (λ i. (get_or tagged i d).1) off ∙ row d ∙ ap (λ i. get_or rows i d.1) there ∙ sym (get_or-drop n rows k d.1) ∙ sym (get_or-take 1 (drop n rows) k d.1 (omega (arith, z)));
    })
    (λ i d lt. refl)

-- so many of the rows as there are
pub all_stand : (tagged : List (Tag × List Cell)) (at first : ℕ) (rows : List (List Cell)) (n : ℕ) → StandFrom tagged at first (take n rows) → length rows ≤ n → StandFrom tagged at first rows
all_stand tagged at first rows n stand all = subst (StandFrom tagged at first) (take_all n rows all) stand

-- a part of the rows, in another list of tagged rows that goes along with this one
pub part_stands : (tagged : List (Tag × List Cell)) (at first : ℕ) (rows : List (List Cell)) (n m : ℕ) (other : List (Tag × List Cell)) (low : ℕ) (part : List (List Cell)) → StandFrom tagged at first rows → n + m ≤ length rows → part ≡ take m (drop n rows)
    → ((i : ℕ) (d : Tag × List Cell) → i < m → get_or tagged ((at + n) + i) d ≡ get_or other (low + i) d) → StandFrom other low (first + n) part
part_stands tagged at first rows n m other low part stand within is along = record {
  numbers = λ k d lt.
      let few : k < m = omega (arith, lt, rest) in
      let off : (at + n) + k ≡ at + (n + k) = omega arith in
      let sum : first + (n + k) ≡ (first + n) + k = omega arith in
      sym (ap (λ r. r.0.first) (along k d few)) ∙ ap (λ i. (get_or tagged i d).0.first) off ∙ stand.numbers (n + k) d (omega (arith, within, few)) ∙ sum;
  rows_are = λ k d lt.
      let few : k < m = omega (arith, lt, rest) in
      let off : (at + n) + k ≡ at + (n + k) = omega arith in
      sym (ap (λ r. r.1) (along k d few)) ∙ ap (λ i. (get_or tagged i d).1) off ∙ stand.rows_are (n + k) d (omega (arith, within, few))
      ∙ sym (get_or-drop n rows k d.1) ∙ sym (get_or-take m (drop n rows) k d.1 few) ∙ ap (λ xs. get_or xs k d.1) (sym is);
} where
  rest : length part ≡ m
  rest = let e = ap length is ∙ length-take m (drop n rows) in let f = length-drop n rows in omega (arith, e, f, within)
