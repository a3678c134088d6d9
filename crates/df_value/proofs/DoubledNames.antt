-- Names of which none is told as doubled are distinct, and one that is told is the first that stands twice.
use Rattle.std.proofs.Common.{◌≡◌, ℕ, ◌∙◌, Bool, true, false, arith, cond, List, [], ◌∷◌, ◌++◌, map, refl, ap, sym, subst, append_assoc, append-nil}
use Rattle.std.specs.Prelude.{Option, Some, None, IfSome, ◌||◌}
use Rattle.std.specs.Borrow.{Bor}
use Rattle.std.specs.Cmp.{IsEquivalence}
use Rattle.std.specs.List.{list_any, IsDistinct}
use Rattle.std.specs.Option.{IsNone, option_copied}
use Rattle.std.specs.Str.{bytes_eq}
use Rattle.std.proofs.lemmas.Bool.Decides.{Decides-like, same_from_decides}
use Rattle.std.proofs.lemmas.List.{map-append}
use Rattle.std.proofs.lemmas.Map.Keys.{IsDistinct-from_apart, IsDistinct-push}
use Rattle.std.proofs.lemmas.Slice.Eq.{bytes_eq-Decides}
use Rattle.df_value.specs.Names.{doubled_name_after, distinct-head, has_name, AreDistinct, IsFirstDoubled}

bytes_eq-equivalence : IsEquivalence bytes_eq
bytes_eq-equivalence = record {
  refl = λ x. (bytes_eq-Decides x x).1 refl;
  symm = λ x y. same_from_decides _ _ (bytes_eq-Decides x y)
      (Decides-like _ (λ e. sym e) (λ e. sym e) (bytes_eq-Decides y x));
  congr = λ x y z h. ap (λ w. bytes_eq w z) ((bytes_eq-Decides x y).0 h);
}

-- the test of an item's name, turned round
turned : {T : Type 0} (name_of : T → List ℕ) (name : List ℕ) (seen : List T) → list_any (bytes_eq name) (map name_of seen) ≡ has_name name_of name seen
turned name_of name [] = refl
turned {T} name_of name (s ∷ ss) =
    ap (λ b. b || list_any (bytes_eq name) (map name_of ss)) (bytes_eq-equivalence.symm name (name_of s))
    ∙ ap (λ b. bytes_eq (name_of s) name || b) (turned name_of name ss)

-- names seen and a new one are distinct
distinct_more :
    {T : Type 0} (name_of : T → List ℕ) (seen : List T) (x : T) → has_name name_of (name_of x) seen ≡ false → IsDistinct bytes_eq (map name_of seen) →
    IsDistinct bytes_eq (map name_of (seen ++ x ∷ []))
distinct_more name_of seen x new k =
    subst (IsDistinct bytes_eq) (sym (map-append name_of seen (x ∷ [])))
    (IsDistinct-push bytes_eq-equivalence (map name_of seen) (name_of x) k (turned name_of (name_of x) seen ∙ new))

no_names : IsDistinct bytes_eq []
no_names = IsDistinct-from_apart bytes_eq [] (λ i j d k l. absurd (omega arith))

distinct_from :
    {T : Type 0} (name_of : T → List ℕ) (seen xs : List T) → AreDistinct name_of seen xs → IsDistinct bytes_eq (map name_of seen) →
    IsDistinct bytes_eq (map name_of (seen ++ xs))
distinct_from name_of seen [] h k = subst (λ l. IsDistinct bytes_eq (map name_of l)) (sym (append-nil seen)) k
distinct_from {T} name_of seen (x ∷ xs) h k =
    let head = distinct-head name_of seen x xs h in
    let more = distinct_more name_of seen x head.0 k in
    subst (λ l. IsDistinct bytes_eq (map name_of l)) (append_assoc seen (x ∷ []) xs) (distinct_from name_of (seen ++ x ∷ []) xs head.1 more)

pub is_distinct :
    {T : Type 0} (name_of : T → List ℕ) (xs : List T) → doubled_name_after name_of [] xs ≡ None → IsDistinct bytes_eq (map name_of xs)
is_distinct name_of xs h = distinct_from name_of [] xs h no_names

-- a name that is found among items stands at a place
abbrev Stands : List ℕ → List (List ℕ) → Type 0
Stands name names = (before after : List (List ℕ)) × (names ≡ before ++ name ∷ after)

stands_at : (b : Bool) (name own : List ℕ) (names : List (List ℕ)) → (b ≡ true → own ≡ name) → (b ≡ false → Stands name names) → Stands name (own ∷ names)
stands_at true name own names same later = ([], names, ap (λ n. n ∷ names) (same refl))
stands_at false name own names same later = let rest = later refl in (own ∷ rest.0, rest.1, ap (λ ns. own ∷ ns) rest.2)

or_later : (b c : Bool) → (b || c) ≡ true → b ≡ false → c ≡ true
or_later true c h e = cc
or_later false c h e = h

stands : {T : Type 0} (name_of : T → List ℕ) (name : List ℕ) (seen : List T) → has_name name_of name seen ≡ true → Stands name (map name_of seen)
stands name_of name [] h = cc
stands {T} name_of name (s ∷ ss) h =
    stands_at (bytes_eq (name_of s) name) name (name_of s) (map name_of ss) (λ e. (bytes_eq-Decides (name_of s) name).0 e)
    (λ e. stands name_of name ss (or_later (bytes_eq (name_of s) name) (has_name name_of name ss) h e))

-- which of two outcomes told the name
told :
    {P : Type 0} (b : Bool) (own name : List ℕ) (later : Option (List ℕ)) → cond b (Some own) later ≡ Some name →
    (b ≡ true → own ≡ name → P) → (b ≡ false → later ≡ Some name → P) → P
told true own name later h here there = here refl (cc)
told false own name later h here there = there refl h

first_from :
    {T : Type 0} (name_of : T → List ℕ) (seen xs : List T) (name : List ℕ) → doubled_name_after name_of seen xs ≡ Some name → IsDistinct bytes_eq (map name_of seen) →
    IsFirstDoubled name (map name_of (seen ++ xs))
first_from name_of seen [] name h k = cc
first_from {T} name_of seen (x ∷ xs) name h k =
    told (has_name name_of (name_of x) seen) (name_of x) name (doubled_name_after name_of (seen ++ x ∷ []) xs) h
    (λ e same. let at = stands name_of (name_of x) seen e in
    subst (λ n. IsFirstDoubled n (map name_of (seen ++ x ∷ xs))) same (
      at.0,
      at.1,
      map name_of xs,
      (
        map-append name_of seen (x ∷ xs)
            ∙ (ap (λ ns. ns ++ name_of x ∷ map name_of xs) at.2 ∙ append_assoc at.0 (name_of x ∷ at.1) (name_of x ∷ map name_of xs)),
        subst (IsDistinct bytes_eq) at.2 k,
      ),
    ))
    (λ e later. subst (λ l. IsFirstDoubled name (map name_of l)) (append_assoc seen (x ∷ []) xs)
    (first_from name_of (seen ++ x ∷ []) xs name later (distinct_more name_of seen x e k)))

pub is_first_doubled :
    {T : Type 0} (name_of : T → List ℕ) (xs : List T) (name : List ℕ) → doubled_name_after name_of [] xs ≡ Some name →
    IsFirstDoubled name (map name_of xs)
is_first_doubled name_of xs name h = first_from name_of [] xs name h no_names

-- of a reference that is lent, what is behind it
pub none_copied : {T : Type 0} (o : Option (Bor T)) (d : Option T) → IsNone o → option_copied o ≡ d → d ≡ None
none_copied None d h e = sym e
none_copied (Some r) d h e = cc

pub some_copied :
    {T : Type 0} (o : Option (Bor T)) (P : T → Type 0) (d : Option T) → option_copied o ≡ d → ((x : T) → d ≡ Some x → P x) → IfSome o (λ r. P r.now)
some_copied None P d e f = tt
some_copied (Some r) P d e f = f r.now (sym e)
