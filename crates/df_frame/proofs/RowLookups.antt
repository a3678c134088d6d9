-- What stands at a tag after rows are put among others, are taken out, or come in the place of others.
use Rattle.std.proofs.Common.{◌≡◌, ℕ, Bool, true, false, cond, List, [], ◌∷◌, ◌++◌, map, filter, refl, sym, ap, ◌∙◌}
use Rattle.std.specs.Prelude.{not, ◌==◌, ◌||◌, nat_lt, Option, None, Some, option_map, unwrap_or}
use Rattle.std.specs.FinMap as finite
use Rattle.std.specs.List.{list_any}
use Rattle.std.proofs.lemmas.Bool.{or_parts}
use Rattle.df_value.specs.declared.cell.Cell.{Cell}
use Rattle.df_column.specs.Tags.{tag_cmp}
use Rattle.df_column.specs.declared.tag.Tag.{Tag}
use Rattle.df_frame.specs.FrameTables.{at_tag}
use Rattle.df_frame.specs.Frames.{replaced_row, row_of_number}
use Rattle.df_frame.specs.Numbers.{has_number, put_from}
use Rattle.df_frame.proofs.FrameFacts.{replaced_row-number}
use Rattle.df_frame.proofs.Members.{has-here, has-later}
use Rattle.df_frame.proofs.TagFacts.{is_tag, one-number, same-tag}

abbrev Rows : Type 0
Rows = List (ℕ × List Cell)

-- what stands at a tag
abbrev pub found : {X : Type 0} → Tag → List (ℕ × X) → Option X
found q rows = finite.find tag_cmp q (map at_tag rows)

-- the first that is there
abbrev pub first_of : {X : Type 0} → Option X → Option X → Option X
first_of None later = later
first_of (Some x) later = Some x

first-of-cond : {X : Type 0} (b : Bool) (x : X) (o later : Option X) → first_of (cond b (Some x) o) later ≡ cond b (Some x) (first_of o later)
first-of-cond true x o later = refl
first-of-cond false x o later = refl

found-append : {X : Type 0} (q : Tag) (xs ys : List (ℕ × X)) → found q (xs ++ ys) ≡ first_of (found q xs) (found q ys)
found-append q [] ys = refl
found-append q (x ∷ xs) ys = ap (cond (is_tag q x.0) (Some x.1)) (found-append q xs ys) ∙ sym (first-of-cond (is_tag q x.0) x.1 (found q xs) (found q ys))

mapped-cond : {X Y : Type 0} (f : X → Y) (b : Bool) (x : X) (o : Option X) → cond b (Some (f x)) (option_map f o) ≡ option_map f (cond b (Some x) o)
mapped-cond f true x o = refl
mapped-cond f false x o = refl

pub found-map : {X Y : Type 0} (f : X → Y) (q : Tag) (rows : List (ℕ × X)) → found q (map (λ r. (r.0, f r.1)) rows) ≡ option_map f (found q rows)
found-map f q [] = refl
found-map f q (r ∷ rs) = ap (cond (is_tag q r.0) (Some (f r.1))) (found-map f q rs) ∙ mapped-cond f (is_tag q r.0) r.1 (found q rs)

-- a number of this tag is in the list where the tag is one of the list
tag-among : (q : Tag) (ns : List ℕ) (n : ℕ) → is_tag q n ≡ true → list_any (is_tag q) ns ≡ has_number ns n
tag-among q [] n e = refl
tag-among q (m ∷ ns) n e = ap (λ b. b || list_any (is_tag q) ns) (same-tag q m n e) ∙ ap (λ b. (m == n) || b) (tag-among q ns n e)

-- ---- rows that are put among others

gone-cond :
    (q : Tag) (k : ℕ → Bool) (n : ℕ) (r : ℕ × List Cell) (kept : Rows) (b c : Bool) → k r.0 ≡ b → is_tag q r.0 ≡ c →
    is_tag q n ≡ true → k n ≡ false → found q kept ≡ None → found q (cond b (r ∷ kept) kept) ≡ None
gone-cond q k n r kept false c e s t out none = none
gone-cond q k n r kept true false e s t out none = ap (λ b. cond b (Some r.1) (found q kept)) s ∙ none
gone-cond q k n r kept true true e s t out none =
    let no : true ≡ false = sym e ∙ (ap k (one-number q r.0 n s t) ∙ out) in cc no

-- a filter that its number does not pass leaves nothing at a tag
gone : (q : Tag) (k : ℕ → Bool) (n : ℕ) (rows : Rows) → is_tag q n ≡ true → k n ≡ false → found q (filter (λ r. k r.0) rows) ≡ None
gone q k n [] t out = refl
gone q k n (r ∷ rs) t out = gone-cond q k n r (filter (λ r. k r.0) rs) (k r.0) (is_tag q r.0) refl refl t out (gone q k n rs t out)

first-none : {X : Type 0} (o later : Option X) → o ≡ None → first_of o later ≡ later
first-none o later e = ap (λ p. first_of p later) e

parted-cond :
    (q : Tag) (r : ℕ × List Cell) (kept others : Rows) (rest : Option (List Cell)) (b c : Bool) → is_tag q r.0 ≡ c →
    rest ≡ first_of (found q kept) (found q others) → (b ≡ false → c ≡ true → found q kept ≡ None) →
    cond c (Some r.1) rest ≡ first_of (found q (cond b (r ∷ kept) kept)) (found q (cond (not b) (r ∷ others) others))
parted-cond q r kept others rest true true s e none = sym (ap (λ b. first_of (cond b (Some r.1) (found q kept)) (found q others)) s)
parted-cond q r kept others rest true false s e none = e ∙ sym (ap (λ b. first_of (cond b (Some r.1) (found q kept)) (found q others)) s)
parted-cond q r kept others rest false true s e none =
    sym (ap (λ b. first_of (found q kept) (cond b (Some r.1) (found q others))) s ∙ first-none (found q kept) (Some r.1) (none refl refl))
parted-cond q r kept others rest false false s e none = e ∙ sym (ap (λ b. first_of (found q kept) (cond b (Some r.1) (found q others))) s)

-- it stands among those that pass a test of the numbers, or among the others
parted : (q : Tag) (k : ℕ → Bool) (rows : Rows) → found q rows ≡ first_of (found q (filter (λ r. k r.0) rows)) (found q (filter (λ r. not (k r.0)) rows))
parted q k [] = refl
parted q k (r ∷ rs) =
    parted-cond q r (filter (λ r. k r.0) rs) (filter (λ r. not (k r.0)) rs) (found q rs) (k r.0) (is_tag q r.0) refl (parted q k rs)
    (λ out t. gone q k r.0 rs t out)

put-at :
    (lower block upper all : Option (List Cell)) → all ≡ first_of lower upper → ((y : List Cell) → block ≡ Some y → all ≡ None) →
    first_of lower (first_of block upper) ≡ first_of block all
put-at lower None upper all e free = sym e
put-at None (Some y) upper all e free = refl
put-at (Some x) (Some y) upper all e free = let no : Some x ≡ None = sym e ∙ free y refl in cc no

-- a block is put among rows that have none of its numbers
pub found-put :
    (q : Tag) (first : ℕ) (block rows : Rows) → ((y : List Cell) → found q block ≡ Some y → found q rows ≡ None) →
    found q (put_from (λ r. r.0) first block rows) ≡ first_of (found q block) (found q rows)
found-put q first block rows free =
    let lower : Rows = filter (λ r. nat_lt r.0 first) rows in
    let upper : Rows = filter (λ r. not (nat_lt r.0 first)) rows in
    found-append q lower (block ++ upper)
    ∙ (ap (first_of (found q lower)) (found-append q block upper)
    ∙ put-at (found q lower) (found q block) (found q upper) (found q rows) (parted q (λ n. nat_lt n first) rows) free)

-- ---- rows that are taken out

pub found-nothing : (q : Tag) (ns : List ℕ) → found {X = Option (List Cell)} q (map (λ n. (n, None)) ns) ≡ cond (list_any (is_tag q) ns) (Some None) None
found-nothing q [] = refl
found-nothing q (n ∷ ns) =
    elim (is_tag q n) as (λ b. cond b (Some None) (found {X = Option (List Cell)} q (map (λ n. (n, None)) ns)) ≡ cond (b || list_any (is_tag q) ns) (Some None) None) [
      | true ↦ refl
      | false ↦ found-nothing q ns
    ]

nothing-left : (a : Bool) → ◌≡◌ {A = Option (List Cell)} None (unwrap_or (cond a (Some None) None) None)
nothing-left true = refl
nothing-left false = refl

left-cond :
    (q : Tag) (r : ℕ × List Cell) (left : Rows) (rest : Option (List Cell)) (a h b : Bool) → is_tag q r.0 ≡ b → (b ≡ true → a ≡ h) →
    found q left ≡ unwrap_or (cond a (Some None) None) rest →
    found q (cond (not h) (r ∷ left) left) ≡ unwrap_or (cond a (Some None) None) (cond b (Some r.1) rest)
left-cond q r left rest a true true e same ih = ih ∙ ap (λ a. unwrap_or (cond a (Some None) None) rest) (same refl) ∙ sym (ap (λ a. unwrap_or (cond a (Some None) None) (Some r.1)) (same refl))
left-cond q r left rest a true false e same ih = ih
left-cond q r left rest a false true e same ih = ap (λ b. cond b (Some r.1) (found q left)) e ∙ sym (ap (λ a. unwrap_or (cond a (Some None) None) (Some r.1)) (same refl))
left-cond q r left rest a false false e same ih = ap (λ b. cond b (Some r.1) (found q left)) e ∙ ih

found-left : (q : Tag) (ns : List ℕ) (rows : Rows) → found q (filter (λ r. not (has_number ns r.0)) rows) ≡ unwrap_or (cond (list_any (is_tag q) ns) (Some None) None) (found q rows)
found-left q ns [] = nothing-left (list_any (is_tag q) ns)
found-left q ns (r ∷ rs) =
    left-cond q r (filter (λ r. not (has_number ns r.0)) rs) (found q rs) (list_any (is_tag q) ns) (has_number ns r.0) (is_tag q r.0) refl
    (λ e. tag-among q ns r.0 e) (found-left q ns rs)

-- the rows of these numbers are taken out
pub found-without :
    (q : Tag) (ns : List ℕ) (rows : Rows) →
    found q (filter (λ r. not (has_number ns r.0)) rows) ≡ unwrap_or (found {X = Option (List Cell)} q (map (λ n. (n, None)) ns)) (found q rows)
found-without q ns rows = found-left q ns rows ∙ ap (λ o. unwrap_or o (found q rows)) (sym (found-nothing q ns))

-- ---- rows that come in the place of others

found-by-number : (q : Tag) (n : ℕ) (rows : Rows) → is_tag q n ≡ true → found q rows ≡ option_map (λ r. r.1) (row_of_number rows n)
found-by-number q n [] t = refl
found-by-number q n (r ∷ rs) t =
    ap (λ b. cond b (Some r.1) (found q rs)) (same-tag q r.0 n t)
    ∙ ap (cond (r.0 == n) (Some r.1)) (found-by-number q n rs t)
    ∙ elim (r.0 == n) as (λ b. cond b (Some r.1) (option_map (λ r. r.1) (row_of_number rs n)) ≡ option_map (λ r. r.1) (cond b (Some r) (row_of_number rs n))) [
      | true ↦ refl
      | false ↦ refl
    ]

cells-of : (o : Option (ℕ × List Cell)) (row : ℕ × List Cell) → (unwrap_or o row).1 ≡ unwrap_or (option_map (λ r. r.1) o) row.1
cells-of None row = refl
cells-of (Some r) row = refl

replaced-cells : (q : Tag) (new_rows : Rows) (row : ℕ × List Cell) → is_tag q row.0 ≡ true → (replaced_row new_rows row).1 ≡ unwrap_or (found q new_rows) row.1
replaced-cells q new_rows row t =
    cells-of (row_of_number new_rows row.0) row ∙ ap (λ o. unwrap_or o row.1) (sym (found-by-number q row.0 new_rows t))

replaced-cond :
    (b : Bool) (x y : List Cell) (o later rest : Option (List Cell)) → (b ≡ true → x ≡ unwrap_or o y) → later ≡ option_map (λ z. unwrap_or o z) rest →
    cond b (Some x) later ≡ option_map (λ z. unwrap_or o z) (cond b (Some y) rest)
replaced-cond true x y o later rest here ih = ap Some (here refl)
replaced-cond false x y o later rest here ih = ih

found-in-place : (q : Tag) (new_rows rows : Rows) → found q (map (replaced_row new_rows) rows) ≡ option_map (λ z. unwrap_or (found q new_rows) z) (found q rows)
found-in-place q new_rows [] = refl
found-in-place q new_rows (r ∷ rs) =
    ap (λ n. cond (is_tag q n) (Some (replaced_row new_rows r).1) (found q (map (replaced_row new_rows) rs))) (replaced_row-number new_rows r)
    ∙ replaced-cond (is_tag q r.0) _ r.1 (found q new_rows) _ (found q rs) (replaced-cells q new_rows r) (found-in-place q new_rows rs)

in-place : (o there : Option (List Cell)) → (there ≡ None → o ≡ None) → option_map (λ z. unwrap_or o z) there ≡ unwrap_or (option_map Some o) there
in-place None None live = refl
in-place None (Some x) live = refl
in-place (Some y) None live = sym (live refl)
in-place (Some y) (Some x) live = refl

-- new rows come in the place of rows that are there
pub found-replaced :
    (q : Tag) (new_rows rows : Rows) → (found q rows ≡ None → found q new_rows ≡ None) →
    found q (map (replaced_row new_rows) rows) ≡ unwrap_or (found q (map (λ r. (r.0, Some r.1)) new_rows)) (found q rows)
found-replaced q new_rows rows live =
    found-in-place q new_rows rows
    ∙ (in-place (found q new_rows) (found q rows) live ∙ ap (λ o. unwrap_or o (found q rows)) (sym (found-map Some q new_rows)))

-- ---- where nothing stands

none-cond : (b : Bool) (x : List Cell) (o : Option (List Cell)) → cond b (Some x) o ≡ None → (b ≡ false) × (o ≡ None)
none-cond true x o h = cc h
none-cond false x o h = (refl, h)

-- no row of the tag's number is there where nothing stands at the tag
not-among : (q : Tag) (rows : Rows) → found q rows ≡ None → list_any (is_tag q) (map (λ r. r.0) rows) ≡ false
not-among q [] h = refl
not-among q (r ∷ rs) h =
    let parts = none-cond (is_tag q r.0) r.1 (found q rs) h in
    ap (λ b. b || list_any (is_tag q) (map (λ r. r.0) rs)) parts.0 ∙ not-among q rs parts.1

only-there :
    (q : Tag) (r : ℕ × List Cell) (b : Bool) (later : Option (List Cell)) (rows : Rows) → is_tag q r.0 ≡ b → found q rows ≡ None →
    has_number (map (λ r. r.0) rows) r.0 ≡ true → later ≡ None → cond b (Some r.1) later ≡ None
only-there q r true later rows e none there ih =
    let no : false ≡ true = sym (not-among q rows none) ∙ (tag-among q (map (λ r. r.0) rows) r.0 e ∙ there) in cc no
only-there q r false later rows e none there ih = ih

-- rows of numbers that are all there have none at a tag at which nothing stands
pub none-new :
    (q : Tag) (new_rows rows : Rows) → ((n : ℕ) → has_number (map (λ r. r.0) new_rows) n ≡ true → has_number (map (λ r. r.0) rows) n ≡ true) →
    found q rows ≡ None → found q new_rows ≡ None
none-new q [] rows live none = refl
none-new q (r ∷ rs) rows live none =
    let ns : List ℕ = map (λ r. r.0) rs in
    only-there q r (is_tag q r.0) (found q rs) rows refl none (live r.0 (has-here r.0 ns)) (none-new q rs rows (λ n m. live n (has-later r.0 ns n m)) none)

none-at : (q : Tag) (rows : Rows) → list_any (is_tag q) (map (λ r. r.0) rows) ≡ false → found q rows ≡ None
none-at q [] h = refl
none-at q (r ∷ rs) h =
    let parts = or_parts (is_tag q r.0) (list_any (is_tag q) (map (λ r. r.0) rs)) h in
    ap (λ b. cond b (Some r.1) (found q rs)) parts.0 ∙ none-at q rs parts.1

none-first :
    (q : Tag) (r : ℕ × List Cell) (b : Bool) (rows : Rows) (later : Option (List Cell)) (y : List Cell) → is_tag q r.0 ≡ b →
    has_number (map (λ r. r.0) rows) r.0 ≡ false → (later ≡ Some y → found q rows ≡ None) → cond b (Some r.1) later ≡ Some y → found q rows ≡ None
none-first q r true rows later y e out ih h = none-at q rows (tag-among q (map (λ r. r.0) rows) r.0 e ∙ out)
none-first q r false rows later y e out ih h = ih h

-- and rows of which no number is there have one only at a tag at which nothing stands
pub none-old :
    (q : Tag) (block rows : Rows) → ((n : ℕ) → has_number (map (λ r. r.0) block) n ≡ true → has_number (map (λ r. r.0) rows) n ≡ false) →
    (y : List Cell) → found q block ≡ Some y → found q rows ≡ None
none-old q [] rows free y h = cc h
none-old q (r ∷ rs) rows free y h =
    let ns : List ℕ = map (λ r. r.0) rs in
    none-first q r (is_tag q r.0) rows (found q rs) y refl (free r.0 (has-here r.0 ns)) (none-old q rs rows (λ n m. free n (has-later r.0 ns n m)) y) h
