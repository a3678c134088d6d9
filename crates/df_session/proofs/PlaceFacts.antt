-- The place of a tag among rows, by its lower bound; and the lines of a change, one entry more.
use Rattle.std.proofs.Common.{◌≡◌, ◌∙◌, ◌+◌, ◌-◌, ◌++◌, ◌≤◌, ℕ, zero, suc, Bool, true, false, not, cond, List, [], ◌∷◌, length, take, drop, map, flat_map, ap, append_assoc, arith, count_by, refl, sym, subst}
use Rattle.std.specs.Prelude.{T, codes}
use Rattle.std.specs.List.{list_all}
use Rattle.std.proofs.lemmas.List.Sums.{sum_by-cons}
use Rattle.df_value.specs.declared.cell.Cell.{Cell}
use Rattle.df_column.specs.Bounds.{IsLowerBound, is_below}
use Rattle.df_column.specs.Changes.{Change}
use Rattle.df_column.specs.Tables.{entry_change}
use Rattle.df_column.specs.declared.entry.Entry.{Entry}
use Rattle.df_column.specs.declared.tag.Tag.{Tag}
use Rattle.df_delta.proofs.Collected.{T-first, T-second}
use Rattle.df_session.specs.ViewChanges.{coming_lines, going_lines, line_of, one_if, place_of}

module _ {X : Type 0} (p : X → Bool) where
  one : (b : Bool) (n : ℕ) → T b → cond b 1 0 + n ≡ suc n
  one true n h = omega arith
  one false n h = absurd h

  none : (b : Bool) (n : ℕ) → T (not b) → cond b 1 0 + n ≡ n
  none false n h = omega arith
  none true n h = absurd h

  -- so many of these pass a test, where those before a place pass it, and no others
  counted : (xs : List X) (n : ℕ) → n ≤ length xs → T (list_all p (take n xs)) → T (list_all (λ x. not (p x)) (drop n xs)) → count_by p xs ≡ n
  counted [] zero le before after = refl
  counted [] (suc n) le before after = absurd (omega (arith, le))
  counted (x ∷ xs) zero le before after =
      sum_by-cons (λ y. cond (p y) 1 0) x xs ∙ none (p x) (count_by p xs) (T-first _ _ after) ∙ counted xs zero (omega arith) tt (T-second (not (p x)) _ after)
  counted (x ∷ xs) (suc n) le before after =
      sum_by-cons (λ y. cond (p y) 1 0) x xs ∙ one (p x) (count_by p xs) (T-first _ _ before) ∙ ap suc (counted xs n (omega (arith, le)) (T-second (p x) _ before) after)

pub place-bound : (q : Tag) (rows : List (Tag × List Cell)) (n : ℕ) → IsLowerBound q rows n → n ≡ place_of q rows
place-bound q rows n h = sym (counted (λ r. is_below r.0 q) rows n h.within h.before h.after)

-- the lines of the entries from a place on: that of the entry there, and those behind it
pub going-more :
    (rows : List (Tag × List Cell)) (gone come at : ℕ) (entries : List Entry) (e : Entry) (whole out next : List ℕ) →
    drop at entries ≡ e ∷ drop (at + 1) entries →
    out ++ going_lines rows gone come (map entry_change (drop at entries)) ≡ whole →
    next ≡ out ++ line_of (codes "-,") ((place_of e.tag rows + gone) - come) e.old →
    next ++ going_lines rows (gone + one_if e.old) (come + one_if e.new) (map entry_change (drop (at + 1) entries)) ≡ whole
unfolding going_lines
going-more rows gone come at entries e whole out next here inv step =
    let rest = going_lines rows (gone + one_if e.old) (come + one_if e.new) (map entry_change (drop (at + 1) entries)) in
    ap (λ o. o ++ rest) step
    ∙ (append_assoc out (line_of (codes "-,") ((place_of e.tag rows + gone) - come) e.old) rest
    ∙ (ap (λ es. out ++ going_lines rows gone come (map entry_change es)) (sym here) ∙ inv))

-- the lines of the rows that come, by entries
pub coming-entries :
    (rows : List (Tag × List Cell)) (entries : List Entry) →
    flat_map (λ e. line_of (codes "+,") (place_of e.tag rows) e.new) entries ≡ coming_lines rows (map entry_change entries)
coming-entries rows [] = refl
coming-entries rows (e ∷ es) = ap (λ l. line_of (codes "+,") (place_of e.tag rows) e.new ++ l) (coming-entries rows es)

-- the lines of all entries, behind no text
pub all-lines :
    (rows : List (Tag × List Cell)) (changes : List (Tag × Change (List Cell))) (first second : List Entry) (start out whole : List ℕ) →
    start ≡ [] → map entry_change first ≡ changes → map entry_change second ≡ changes →
    out ≡ start ++ going_lines rows 0 0 (map entry_change first) →
    whole ≡ out ++ flat_map (λ e. line_of (codes "+,") (place_of e.tag rows) e.new) second →
    whole ≡ going_lines rows 0 0 changes ++ coming_lines rows changes
all-lines rows changes first second start out whole none f s going coming =
    let here : out ≡ going_lines rows 0 0 changes = going ∙ (ap (λ l. l ++ going_lines rows 0 0 (map entry_change first)) none ∙ ap (going_lines rows 0 0) f) in
    let behind = coming-entries rows second ∙ ap (coming_lines rows) s in
    coming ∙ (ap (λ l. l ++ flat_map (λ e. line_of (codes "+,") (place_of e.tag rows) e.new) second) here ∙ ap (λ l. going_lines rows 0 0 changes ++ l) behind)
