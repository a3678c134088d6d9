-- Tags, some behind others.
use Rattle.std.proofs.Common.{◌≡◌, ◌++◌, [], ◌+◌, ◌<◌, ◌≤◌, ℕ, List, Result, Ok, Err, refl, ap, sym, ◌∙◌, append_assoc, append-nil, take, get_or, flat_map, length, arith}
use Rattle.std.specs.Prelude.{OnOk}
use Rattle.std.specs.List.{enumerate_from}
use Rattle.std.proofs.lemmas.Grind.{flat_map-append}
use Rattle.std.proofs.lemmas.List.{take_all, take_more}
use Rattle.std.proofs.lemmas.List.FromFn.{length-enumerate_from, get_or-enumerate_from}
use Rattle.df_page.specs.Markup.{Tagged, markup}

pub markup-append : (s t : List Tagged) → markup (s ++ t) ≡ markup s ++ markup t
unfolding markup
markup-append s t = rw flat_map-append refl

pub no_tag : (a : List ℕ) → a ≡ a ++ markup []
unfolding markup
no_tag a = sym (append-nil a)

-- tags behind others
pub then : (a b c : List ℕ) (s t : List Tagged) → b ≡ a ++ markup s → c ≡ b ++ markup t → c ≡ a ++ markup (s ++ t)
then a b c s t e f = rw (f, e, markup-append, append_assoc) refl

-- the same of a call that may be refused
pub then_ok : {A E : Type 0} (r : Result A E) (a b c : List ℕ) (s t : List Tagged) → b ≡ a ++ markup s → OnOk r (c ≡ b ++ markup t) → OnOk r (c ≡ a ++ markup (s ++ t))
then_ok (Ok x) a b c s t e f = then a b c s t e f
then_ok (Err x) a b c s t e f = f

-- tags behind nothing
pub from_none : (a b : List ℕ) (s : List Tagged) → a ≡ [] → b ≡ a ++ markup s → b ≡ markup s
from_none a b s none e = e ∙ ap (λ l. l ++ markup s) none

-- the tags of one item more
pub more : {X : Type 0} (f : X → List Tagged) (xs : List X) (d : X) (i : ℕ) (init out new : List ℕ) → i < length xs →
    out ≡ init ++ markup (flat_map f (take i xs)) → new ≡ out ++ markup (f (get_or xs i d)) → new ≡ init ++ markup (flat_map f (take (i + 1) xs))
more f xs d i init out new h inv n =
    rw (n, inv, take_more xs i d h, flat_map-append, append-nil, markup-append, append_assoc) refl

-- the same of items with their places
pub more_placed : {X : Type 0} (f : ℕ × X → List Tagged) (xs : List X) (d : X) (i : ℕ) (init out new : List ℕ) → i < length xs →
    out ≡ init ++ markup (flat_map f (take i (enumerate_from 0 xs))) → new ≡ out ++ markup (f (i, get_or xs i d)) →
    new ≡ init ++ markup (flat_map f (take (i + 1) (enumerate_from 0 xs)))
more_placed f xs d i init out new h inv n =
    let z : 0 + i ≡ i = omega arith in
    let placed : (i, get_or xs i d) ≡ get_or (enumerate_from 0 xs) i (i, d) =
    ap (λ j. (j, get_or xs i d)) (sym z) ∙ sym (get_or-enumerate_from 0 xs i (i, d) h) in
    more f (enumerate_from 0 xs) (i, d) i init out new (omega (arith, length-enumerate_from 0 xs)) inv (n ∙ ap (λ p. out ++ markup (f p)) placed)

pub all_placed : {X : Type 0} (f : ℕ × X → List Tagged) (xs : List X) (i : ℕ) (init out : List ℕ) → length xs ≤ i →
    out ≡ init ++ markup (flat_map f (take i (enumerate_from 0 xs))) → out ≡ init ++ markup (flat_map f (enumerate_from 0 xs))
all_placed f xs i init out h inv =
    let n = take_all i (enumerate_from 0 xs) (omega (arith, length-enumerate_from 0 xs)) in
    rw n at inv
