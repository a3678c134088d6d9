-- The lines of a printed table: none holds a control character, and those below the title are of one width.
use Rattle.std.proofs.Common.{◌≡◌, ℕ, ◌+◌, ◌-◌, ◌<◌, ◌≤◌, ◌∙◌, ◌/◌, ◌%◌, Bool, true, false, cond, not, zero, suc, List, [], ◌∷◌, ◌++◌, length, get_or, map, flat_map, codes, chars, refl, ap, sym, subst, arith, add-one, add-zero, append_assoc, append-nil, All, IsUtf8}
use Rattle.std.specs.Prelude.{ℤ, pos, negsuc, decimal, ◌==◌}
use Rattle.std.specs.Fmt.{digits, digits_onto, digit_glyph, signed_decimal}
use Rattle.std.specs.List.{enumerate_from, join_by, list_all, range_with_len}
use Rattle.std.proofs.Math.ListN.{get_or-map}
use Rattle.std.proofs.lemmas.List.{get_or_default, length-map, length-replicate}
use Rattle.std.proofs.lemmas.List.Elements.{All-cons, All-map}
use Rattle.std.proofs.lemmas.List.Folds.{flat_map-map}
use Rattle.std.proofs.lemmas.List.FromFn.{length-enumerate_from}
use Rattle.std.proofs.lemmas.Str.{chars-append, chars-IsAscii, chars-nil, IsUtf8-append, IsUtf8-from_ascii}
use Rattle.unicode_width.specs.Width.{Reading, is_emoji_variation_base, plain, past_emoji, read_before, step, str_width}
use Rattle.unicode_width.proofs.Rules.{str_width-append_simple, str_width-printable}
use Rattle.df_value.specs.Choices.{either}
use Rattle.df_value.specs.declared.cell.Cell.{Cell}
use Rattle.df_value.specs.declared.cell.Cell.TheVariants as cell
use Rattle.df_value.specs.declared.cell.CellType.{CellType}
use Rattle.df_print.specs.Printed.{cell_or_null, cell_text, column_texts, column_width, column_widths, escaped_text, header_texts, is_all_printable, is_left, padded, padded_texts, printed, printed_line, row_texts, title, width_of, AreUtf8, AreFields, IsLineOf, IsTableOf}
use Rattle.df_print.proofs.ColumnFacts.{texts_below}
use Rattle.df_print.proofs.EscapeFacts.{also, both_printable, escaped_printable, hex_printable, two_true}
use Rattle.df_print.proofs.SpaceFacts.{spaces, spaces-IsAscii, spaces-printable, spaces-simple, space_joins_none, width-padded}

abbrev Columns : Type 0
Columns = List (List ℕ × CellType)

abbrev Rows : Type 0
Rows = List (List Cell)

abbrev Texts : Type 0
Texts = List (List ℕ)

-- what stands after a space is read as if nothing stood there

either_state : (emoji joins : Bool) (x y z v : Reading) → joins ≡ false → x ≡ v → z ≡ v → cond (not emoji) x (cond joins y z) ≡ v
either_state true true x y z v h p q = cc
either_state true false x y z v h p q = q
either_state false joins x y z v h p q = p

past_space : (r : Reading) → step false 32 r ≡ (r.0 + 1, plain)
unfolding step past_emoji
past_space r = either_state r.1.emoji (is_emoji_variation_base 32) _ _ _ (r.0 + 1, plain) space_joins_none refl refl

read-append : (xs ys : List ℕ) (r : Reading) → read_before false (xs ++ ys) r ≡ read_before false xs (read_before false ys r)
read-append [] ys r = refl
read-append (x ∷ xs) ys r = ap (step false x) (read-append xs ys r)

read-spaces : (n : ℕ) → read_before false (spaces n) (0, plain) ≡ (n, plain)
read-spaces zero = refl
read-spaces (suc n) = ap (step false 32) (read-spaces n) ∙ (past_space (n, plain) ∙ ap (λ (m : ℕ). (m, plain)) (add-one n))

width-spaces : (n : ℕ) → str_width false (spaces n) ≡ n
width-spaces n = str_width-printable false (spaces n) (spaces-printable n) ∙ length-replicate n 32

width-from : (cs : List ℕ) (n : ℕ) → (read_before false cs (n, plain)).0 ≡ str_width false cs + n
unfolding str_width
width-from cs n =
    sym (ap (λ (r : Reading). r.0) (read-append cs (spaces n) (0, plain) ∙ ap (read_before false cs) (read-spaces n)))
    ∙ (str_width-append_simple false cs (spaces n) (spaces-simple n) ∙ ap (λ m. str_width false cs + m) (width-spaces n))

width-two_spaces : (cs ds : List ℕ) → str_width false (cs ++ 32 ∷ 32 ∷ ds) ≡ (str_width false cs + 2) + str_width false ds
unfolding str_width
width-two_spaces cs ds =
    let r : Reading = read_before false ds (0, plain) in
    let both : read_before false (32 ∷ 32 ∷ ds) (0, plain) ≡ ((r.0 + 1) + 1, plain) = ap (step false 32) (past_space r) ∙ past_space (r.0 + 1, plain) in
    ap (λ (x : Reading). x.0) (read-append cs (32 ∷ 32 ∷ ds) (0, plain) ∙ ap (read_before false cs) both)
    ∙ (width-from cs ((r.0 + 1) + 1) ∙ omega arith)

two_chars : (b : List ℕ) → chars (32 ∷ 32 ∷ b) ≡ 32 ∷ 32 ∷ chars b
two_chars b =
    chars-append (spaces 2) b (IsUtf8-from_ascii (spaces 2) (spaces-IsAscii 2))
    ∙ ap (λ cs. cs ++ chars b) (chars-IsAscii (spaces 2) (spaces-IsAscii 2))

width-gap : (a b : List ℕ) → IsUtf8 a → width_of (a ++ 32 ∷ 32 ∷ b) ≡ (width_of a + 2) + width_of b
width-gap a b utf8 =
    ap (str_width false) (chars-append a (32 ∷ 32 ∷ b) utf8 ∙ ap (λ cs. chars a ++ cs) (two_chars b)) ∙ width-two_spaces (chars a) (chars b)

-- texts of these widths
abbrev AreWide : List ℕ → Texts → Type 0
AreWide [] [] = Unit {0}
AreWide [] (t ∷ ts) = ⊥
AreWide (w ∷ ws) [] = ⊥
AreWide (w ∷ ws) (t ∷ ts) = (IsUtf8 t × (width_of t ≡ w)) × AreWide ws ts

abbrev rest_width : List ℕ → ℕ
rest_width [] = 0
rest_width (w ∷ ws) = (2 + w) + rest_width ws

abbrev line_width : List ℕ → ℕ
line_width [] = 0
line_width (w ∷ ws) = w + rest_width ws

width-rest : (a : List ℕ) (ws : List ℕ) (ts : Texts) → IsUtf8 a → AreWide ws ts → width_of (a ++ flat_map (λ y. codes "  " ++ y) ts) ≡ width_of a + rest_width ws
width-rest a [] [] utf8 h = ap width_of (append-nil a) ∙ sym (add-zero (width_of a))
width-rest a [] (t ∷ ts) utf8 h = absurd h
width-rest a (w ∷ ws) [] utf8 h = absurd h
width-rest a (w ∷ ws) (t ∷ ts) utf8 h =
    let rest = width-rest t ws ts h.0.0 h.1 in
    let own : width_of t ≡ w = h.0.1 in
    width-gap a (t ++ flat_map (λ y. codes "  " ++ y) ts) utf8 ∙ omega (arith, rest, own)

abbrev joined : Texts → List ℕ
joined ts = join_by (λ t. t) (codes "  ") ts

width-joined : (ws : List ℕ) (ts : Texts) → AreWide ws ts → width_of (joined ts) ≡ line_width ws
width-joined [] [] h = ap (str_width false) chars-nil ∙ str_width-printable false [] refl
width-joined [] (t ∷ ts) h = absurd h
width-joined (w ∷ ws) [] h = absurd h
width-joined (w ∷ ws) (t ∷ ts) h = width-rest t ws ts h.0.0 h.1 ∙ ap (λ n. n + rest_width ws) h.0.1

-- texts that are no wider than these widths
abbrev AllFit : List ℕ → Texts → Type 0
AllFit [] [] = Unit {0}
AllFit [] (t ∷ ts) = ⊥
AllFit (w ∷ ws) [] = ⊥
AllFit (w ∷ ws) (t ∷ ts) = (IsUtf8 t × (width_of t ≤ w)) × AllFit ws ts

padded_utf8 : (left : Bool) (w : ℕ) (t : List ℕ) → IsUtf8 t → IsUtf8 (padded left w t)
padded_utf8 true w t h = IsUtf8-append t (spaces (w - width_of t)) h (IsUtf8-from_ascii _ (spaces-IsAscii (w - width_of t)))
padded_utf8 false w t h = IsUtf8-append (spaces (w - width_of t)) t (IsUtf8-from_ascii _ (spaces-IsAscii (w - width_of t))) h

pads : (cs : Columns) (ws : List ℕ) (ts : Texts) → length ws ≡ length cs → AllFit ws ts → AreWide ws (padded_texts cs ws ts)
unfolding padded_texts
pads [] [] [] e h = tt
pads [] [] (t ∷ ts) e h = absurd h
pads [] (w ∷ ws) ts e h = absurd (omega arith)
pads (c ∷ cs) [] ts e h = absurd (omega arith)
pads (c ∷ cs) (w ∷ ws) [] e h = absurd h
pads (c ∷ cs) (w ∷ ws) (t ∷ ts) e h =
    ((padded_utf8 (is_left c.1) w t h.0.0, width-padded (is_left c.1) w t h.0.0 h.0.1), pads cs ws ts (omega arith) h.1)

-- padded texts are fields
are_fields : (cs : Columns) (ws : List ℕ) (ts : Texts) → length ws ≡ length cs → AllFit ws ts → AreFields cs ws ts (padded_texts cs ws ts)
unfolding padded_texts
are_fields [] [] [] e h = tt
are_fields [] [] (t ∷ ts) e h = absurd h
are_fields [] (w ∷ ws) ts e h = absurd (omega arith)
are_fields (c ∷ cs) [] ts e h = absurd (omega arith)
are_fields (c ∷ cs) (w ∷ ws) [] e h = absurd h
are_fields (c ∷ cs) (w ∷ ws) (t ∷ ts) e h =
    ((w - width_of t, padded_is (is_left c.1) w t, width-padded (is_left c.1) w t h.0.0 h.0.1), are_fields cs ws ts (omega arith) h.1)
  where
    padded_is : (left : Bool) (w : ℕ) (t : List ℕ) → padded left w t ≡ cond left (t ++ spaces (w - width_of t)) (spaces (w - width_of t) ++ t)
    padded_is true w t = refl
    padded_is false w t = refl

-- the texts of the columns from an index on are UTF-8
abbrev Utf8From : ℕ → Columns → Rows → Type 0
Utf8From k [] rows = Unit {0}
Utf8From k (c ∷ cs) rows = All IsUtf8 (column_texts k c.0 rows) × Utf8From (k + 1) cs rows

utf8_from :
    (k : ℕ) (cs : Columns) (rows : Rows) → ((i : ℕ) → i < length cs → (d : List ℕ × CellType) → All IsUtf8 (column_texts (k + i) (get_or cs i d).0 rows)) →
    Utf8From k cs rows
utf8_from k [] rows h = tt
utf8_from k (c ∷ cs) rows h =
    let here : k + 0 ≡ k = add-zero k in (
      subst (λ n. All IsUtf8 (column_texts n c.0 rows)) here (h 0 (omega arith) c),
      utf8_from (k + 1) cs rows (λ i l d.
          let later : k + suc i ≡ (k + 1) + i = omega arith in
          subst (λ n. All IsUtf8 (column_texts n (get_or cs i d).0 rows)) later (h (suc i) (omega arith) d)),
    )

abbrev widths_from : ℕ → Columns → Rows → List ℕ
widths_from k cs rows = map (λ c. column_width c.0 c.1.0 rows) (enumerate_from k cs)

names_fit : (k : ℕ) (cs : Columns) (rows : Rows) → Utf8From k cs rows → AllFit (widths_from k cs rows) (header_texts cs)
names_fit k [] rows h = tt
names_fit k (c ∷ cs) rows h =
    ((h.0 0 [] (omega arith), texts_below (column_texts k c.0 rows) 0 [] (omega arith)), names_fit (k + 1) cs rows h.1)

cells_fit :
    (k : ℕ) (cs : Columns) (rows : Rows) (j : ℕ) (d : List Cell) → j < length rows → Utf8From k cs rows →
    AllFit (widths_from k cs rows) (map (λ at. cell_text (cell_or_null at (get_or rows j d))) (range_with_len k (length cs)))
cells_fit k [] rows j d l h = tt
cells_fit k (c ∷ cs) rows j d l h =
    let f : List Cell → List ℕ = λ row. cell_text (cell_or_null k row) in
    let at : get_or (map f rows) j (f d) ≡ f (get_or rows j d) = get_or-map f rows j d in
    let long = length-map rows f in
    let utf8 : IsUtf8 (get_or (map f rows) j (f d)) = h.0 (suc j) (f d) (omega arith) in
    let wide : width_of (get_or (map f rows) j (f d)) ≤ column_width k c.0 rows = texts_below (column_texts k c.0 rows) (suc j) (f d) (omega arith) in
    ((subst IsUtf8 at utf8, subst (λ t. width_of t ≤ column_width k c.0 rows) at wide), cells_fit (k + 1) cs rows j d l h.1)

-- the bytes

digits_printable : (k n : ℕ) (acc : List ℕ) → is_all_printable acc ≡ true → is_all_printable (digits_onto k 10 false n acc) ≡ true
digits_printable zero n acc h = h
digits_printable (suc k) n acc h =
    let new : is_all_printable (digit_glyph false (n % 10) ∷ acc) ≡ true = also (digit_glyph false (n % 10)) acc (hex_printable (n % 10) (omega arith)) h in
    either (λ bs. is_all_printable bs ≡ true) (n / 10 == 0) _ _ new (digits_printable k (n / 10) (digit_glyph false (n % 10) ∷ acc) new)

decimal_printable : (n : ℕ) → is_all_printable (decimal n) ≡ true
unfolding digits
decimal_printable n = digits_printable 64 n [] refl

signed_printable : (z : ℤ) → is_all_printable (signed_decimal z) ≡ true
signed_printable (pos n) = decimal_printable n
signed_printable (negsuc n) = also 45 (decimal (suc n)) refl (decimal_printable (suc n))

cell_printable : (c : Cell) → is_all_printable (cell_text c) ≡ true
cell_printable cell.Null = refl
cell_printable (cell.Int n) = signed_printable n
cell_printable (cell.Wide n) = signed_printable n
cell_printable (cell.Text t) = escaped_printable t
cell_printable (cell.Bool true) = refl
cell_printable (cell.Bool false) = refl
cell_printable (cell.Frac f) =
    both_printable (signed_decimal f.0) (codes "/" ++ signed_decimal f.1) (signed_printable f.0)
    (both_printable (codes "/") (signed_decimal f.1) refl (signed_printable f.1))

spaces_printable : (n : ℕ) → is_all_printable (spaces n) ≡ true
spaces_printable zero = refl
spaces_printable (suc n) = spaces_printable n

padded_printable : (left : Bool) (w : ℕ) (t : List ℕ) → is_all_printable t ≡ true → is_all_printable (padded left w t) ≡ true
padded_printable true w t h = both_printable t (spaces (w - width_of t)) h (spaces_printable (w - width_of t))
padded_printable false w t h = both_printable (spaces (w - width_of t)) t (spaces_printable (w - width_of t)) h

abbrev ArePrintable : Texts → Type 0
ArePrintable ts = list_all is_all_printable ts ≡ true

one_more : (t : List ℕ) (ts : Texts) → is_all_printable t ≡ true → ArePrintable ts → ArePrintable (t ∷ ts)
one_more t ts h k = rw h k

mapped : {X : Type 0} (f : X → List ℕ) → ((x : X) → is_all_printable (f x) ≡ true) → (xs : List X) → ArePrintable (map f xs)
mapped f h [] = refl
mapped f h (x ∷ xs) = one_more (f x) (map f xs) (h x) (mapped f h xs)

padded_all : (cs : Columns) (ws : List ℕ) (ts : Texts) → ArePrintable ts → ArePrintable (padded_texts cs ws ts)
unfolding padded_texts
padded_all [] ws ts h = refl
padded_all (c ∷ cs) [] ts h = refl
padded_all (c ∷ cs) (w ∷ ws) [] h = refl
padded_all (c ∷ cs) (w ∷ ws) (t ∷ ts) h =
    let parts = two_true (is_all_printable t) (list_all is_all_printable ts) h in
    one_more (padded (is_left c.1) w t) (padded_texts cs ws ts) (padded_printable (is_left c.1) w t parts.0) (padded_all cs ws ts parts.1)

rest_printable : (ts : Texts) → ArePrintable ts → is_all_printable (flat_map (λ y. codes "  " ++ y) ts) ≡ true
rest_printable [] h = refl
rest_printable (t ∷ ts) h =
    let parts = two_true (is_all_printable t) (list_all is_all_printable ts) h in
    both_printable (codes "  " ++ t) (flat_map (λ y. codes "  " ++ y) ts) (both_printable (codes "  ") t refl parts.0) (rest_printable ts parts.1)

joined_printable : (ts : Texts) → ArePrintable ts → is_all_printable (joined ts) ≡ true
joined_printable [] h = refl
joined_printable (t ∷ ts) h =
    let parts = two_true (is_all_printable t) (list_all is_all_printable ts) h in
    both_printable t (flat_map (λ y. codes "  " ++ y) ts) parts.0 (rest_printable ts parts.1)

-- the lines

abbrev heading_of : List ℕ → ℕ → ℕ → List ℕ
heading_of name columns rows = escaped_text name ++ (codes " (" ++ (decimal rows ++ (codes " x " ++ (decimal columns ++ codes ")"))))

title_is : (name : List ℕ) (columns rows : ℕ) → title name columns rows ≡ heading_of name columns rows ++ codes "\n"
title_is name columns rows = simp append_assoc

heading_printable : (name : List ℕ) (columns rows : ℕ) → is_all_printable (heading_of name columns rows) ≡ true
heading_printable name columns rows =
    let last : List ℕ = decimal columns ++ codes ")" in
    let third : List ℕ = codes " x " ++ last in
    let second : List ℕ = decimal rows ++ third in
    both_printable (escaped_text name) (codes " (" ++ second) (escaped_printable name)
    (both_printable (codes " (") second refl
    (both_printable (decimal rows) third (decimal_printable rows)
    (both_printable (codes " x ") last refl
    (both_printable (decimal columns) (codes ")") (decimal_printable columns) refl))))

abbrev line_of : Columns → Rows → Texts → List ℕ
line_of cs rows ts = joined (padded_texts cs (column_widths cs rows) ts)

row_line : Columns → Rows → List Cell → List ℕ
row_line cs rows row = line_of cs rows (row_texts (length cs) row)

made_of :
    (name : List ℕ) (cs : Columns) (rows : Rows) →
    printed name cs rows
    ≡ flat_map (λ line. line ++ codes "\n") (heading_of name (length cs) (length rows) ∷ line_of cs rows (header_texts cs) ∷ map (row_line cs rows) rows)
unfolding printed_line row_line
made_of name cs rows =
    let ended : List ℕ → List ℕ = λ line. line ++ codes "\n" in
    let rest = flat_map (λ row. ended (row_line cs rows row)) rows in
    ap (λ t. t ++ (ended (line_of cs rows (header_texts cs)) ++ rest)) (title_is name (length cs) (length rows))
    ∙ ap (λ l. ended (heading_of name (length cs) (length rows)) ++ (ended (line_of cs rows (header_texts cs)) ++ l)) (sym (flat_map-map ended (row_line cs rows) rows))

line_wide : (cs : Columns) (rows : Rows) (ts : Texts) → AllFit (column_widths cs rows) ts → width_of (line_of cs rows ts) ≡ line_width (column_widths cs rows)
line_wide cs rows ts h =
    let ws = column_widths cs rows in
    let long : length ws ≡ length cs = length-map (enumerate_from 0 cs) _ ∙ length-enumerate_from 0 cs in
    width-joined ws (padded_texts cs ws ts) (pads cs ws ts long h)

line_is : (cs : Columns) (rows : Rows) (ts : Texts) → AllFit (column_widths cs rows) ts → IsLineOf cs (column_widths cs rows) ts (line_of cs rows ts)
line_is cs rows ts h =
    let ws = column_widths cs rows in
    let long : length ws ≡ length cs = length-map (enumerate_from 0 cs) _ ∙ length-enumerate_from 0 cs in
    (padded_texts cs ws ts, are_fields cs ws ts long h, refl)

row_is : (cs : Columns) (rows : Rows) (j : ℕ) → j < length rows → Utf8From 0 cs rows →
    IsLineOf cs (column_widths cs rows) (row_texts (length cs) (get_or rows j [])) (get_or (map (row_line cs rows) rows) j [])
unfolding row_line
row_is cs rows j l h =
    let f = row_line cs rows in
    let at : get_or (map f rows) j (f []) ≡ f (get_or rows j []) = get_or-map f rows j [] in
    let long = length-map rows f in
    let same : get_or (map f rows) j [] ≡ get_or (map f rows) j (f []) = get_or_default (map f rows) j [] (f []) (omega arith) in
    subst (IsLineOf cs (column_widths cs rows) (row_texts (length cs) (get_or rows j []))) (sym (same ∙ at))
    (line_is cs rows (row_texts (length cs) (get_or rows j [])) (cells_fit 0 cs rows j [] l h))

row_wide : (cs : Columns) (rows : Rows) (j : ℕ) (d : List Cell) → j < length rows → Utf8From 0 cs rows →
    width_of (row_line cs rows (get_or rows j d)) ≡ line_width (column_widths cs rows)
unfolding row_line
row_wide cs rows j d l h = line_wide cs rows (row_texts (length cs) (get_or rows j d)) (cells_fit 0 cs rows j d l h)

row_printable : (cs : Columns) (rows : Rows) (row : List Cell) → is_all_printable (row_line cs rows row) ≡ true
unfolding row_line
row_printable cs rows row =
    joined_printable (padded_texts cs (column_widths cs rows) (row_texts (length cs) row))
    (padded_all cs (column_widths cs rows) (row_texts (length cs) row)
    (mapped (λ at. cell_text (cell_or_null at row)) (λ at. cell_printable (cell_or_null at row)) (range_with_len 0 (length cs))))

names_printable : (cs : Columns) (rows : Rows) → is_all_printable (line_of cs rows (header_texts cs)) ≡ true
names_printable cs rows =
    joined_printable (padded_texts cs (column_widths cs rows) (header_texts cs))
    (padded_all cs (column_widths cs rows) (header_texts cs) (mapped (λ c. escaped_text c.0) (λ c. escaped_printable c.0) cs))

pub table_is : (name : List ℕ) (cs : Columns) (rows : Rows) → AreUtf8 cs rows → IsTableOf cs rows (printed name cs rows)
table_is name cs rows utf8 =
    let all : Utf8From 0 cs rows = utf8_from 0 cs rows (λ i l d.
    let same : i ≡ 0 + i = omega arith in
    subst (λ n. All IsUtf8 (column_texts n (get_or cs i d).0 rows)) same (utf8 i l d)) in
    let f = row_line cs rows in
    record {
      heading = heading_of name (length cs) (length rows);
      lines = line_of cs rows (header_texts cs) ∷ map f rows;
      widths = column_widths cs rows;
      width = line_width (column_widths cs rows);
      made_of = made_of name cs rows;
      printable =
          one_more (heading_of name (length cs) (length rows)) (line_of cs rows (header_texts cs) ∷ map f rows)
          (heading_printable name (length cs) (length rows))
          (one_more (line_of cs rows (header_texts cs)) (map f rows) (names_printable cs rows) (mapped f (row_printable cs rows) rows));
      count = let long = length-map rows f in omega arith;
      one_width =
          All-cons (λ line. width_of line ≡ line_width (column_widths cs rows)) (line_of cs rows (header_texts cs)) (map f rows)
          (line_wide cs rows (header_texts cs) (names_fit 0 cs rows all))
          (All-map (λ line. width_of line ≡ line_width (column_widths cs rows)) f rows (λ j d l. row_wide cs rows j d l all));
      names = line_is cs rows (header_texts cs) (names_fit 0 cs rows all);
      each_row = λ i l.
          subst (λ n. IsLineOf cs (column_widths cs rows) (row_texts (length cs) (get_or rows i [])) (get_or (line_of cs rows (header_texts cs) ∷ map f rows) n []))
          (sym (add-one i)) (row_is cs rows i l all);
    }
