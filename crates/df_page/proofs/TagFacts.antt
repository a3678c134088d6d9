-- Tags that are written are read back.
use Rattle.std.proofs.Common.{◌≡◌, ◌++◌, ◌∷◌, [], ◌∙◌, ℕ, Bool, true, false, List, refl, ap, sym, drop, append_assoc, append-nil, flat_map}
use Rattle.std.specs.Prelude.{◌==◌, ◌&&◌, not}
use Rattle.std.specs.List.{list_all}
use Rattle.std.proofs.lemmas.List.Folds.{list_all-append}
use Rattle.df_page.specs.Markup.{Tagged, escaped, markup, tag_bytes}
use Rattle.df_page.specs.Reading.{is_cell, is_row_end, tags_from, tags_read, text_read}
use Rattle.df_page.proofs.EscapeFacts.{escaped_reads, opens_none}

abbrev pub closes_none : List ℕ → Bool
closes_none tag = list_all (λ b. not (b == 62)) tag

-- whether a tag ends nowhere before its end
abbrev pub is_tag : Tagged → Bool
is_tag t = closes_none t.0

-- whether a tag outside of a cell begins none, and ends no row
abbrev pub is_other : Tagged → Bool
is_other t = not (is_cell t.0) && not (is_row_end t.0)

pub two_true : (a b : Bool) → (a && b) ≡ true → (a ≡ true) × (b ≡ true)
two_true true b h = (refl, h)
two_true false b h = cc

pub was_not : (b : Bool) → not b ≡ true → b ≡ false
was_not true h = cc
was_not false h = refl

pub all_both : {X : Type 0} (p : X → Bool) (xs ys : List X) → list_all p xs ≡ true → list_all p ys ≡ true → list_all p (xs ++ ys) ≡ true
all_both p xs ys h k = rw (list_all-append p xs ys, h) k

inside : (rest tag text bytes : List ℕ) → closes_none rest ≡ true → tags_from true tag text (rest ++ (62 ∷ bytes)) ≡ tags_from false (tag ++ rest) [] bytes
unfolding tags_from
inside [] tag text bytes h = ap (λ t. tags_from false t [] bytes) (sym (append-nil tag))
inside (b ∷ rest) tag text bytes h =
    let parts = two_true (not (b == 62)) (closes_none rest) h in
    rw (was_not (b == 62) parts.0)
    (inside rest (tag ++ b ∷ []) text bytes parts.1 ∙ ap (λ t. tags_from false t [] bytes) (append_assoc tag (b ∷ []) rest))

behind : (rest tag text bytes : List ℕ) → list_all (λ b. not (b == 60)) rest ≡ true → tags_from false tag text (rest ++ bytes) ≡ tags_from false tag (text ++ rest) bytes
unfolding tags_from
behind [] tag text bytes h = ap (λ t. tags_from false tag t bytes) (sym (append-nil text))
behind (b ∷ rest) tag text bytes h =
    let parts = two_true (not (b == 60)) (list_all (λ b. not (b == 60)) rest) h in
    rw (was_not (b == 60) parts.0)
    (behind rest tag (text ++ b ∷ []) bytes parts.1 ∙ ap (λ t. tags_from false tag t bytes) (append_assoc text (b ∷ []) rest))

opened : (tag text bytes : List ℕ) → tags_from false tag text (60 ∷ bytes) ≡ (tag, text_read text) ∷ tags_from true [] [] bytes
unfolding tags_from
opened tag text bytes = refl

one_more : (t : Tagged) (tags : List Tagged) → markup (t ∷ tags) ≡ 60 ∷ (t.0 ++ (62 ∷ (escaped t.1 ++ markup tags)))
unfolding markup tag_bytes
one_more t tags = ap (λ l. 60 ∷ l) (append_assoc t.0 (62 ∷ escaped t.1) (flat_map tag_bytes tags))

read_behind : (tags : List Tagged) (tag text : List ℕ) → list_all is_tag tags ≡ true → tags_from false tag text (markup tags) ≡ (tag, text_read text) ∷ tags
unfolding markup tags_from
read_behind [] tag text h = refl
read_behind (t ∷ tags) tag text h =
    let parts = two_true (is_tag t) (list_all is_tag tags) h in
    ap (tags_from false tag text) (one_more t tags)
    ∙ ap (λ l. (tag, text_read text) ∷ l)
    (inside t.0 [] [] (escaped t.1 ++ markup tags) parts.0
    ∙ (behind (escaped t.1) t.0 [] (markup tags) (opens_none t.1)
    ∙ (read_behind tags t.0 (escaped t.1) parts.1 ∙ ap (λ x. (t.0, x) ∷ tags) (escaped_reads t.1))))

-- tags that are written are read back
pub tags_back : (tags : List Tagged) → list_all is_tag tags ≡ true → tags_read (markup tags) ≡ tags
tags_back tags h = ap (drop 1) (read_behind tags [] [] h)
