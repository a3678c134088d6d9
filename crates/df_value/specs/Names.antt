-- Lists of items that have names, as columns, keys, frames and views. The first argument gives an item's name.
use Rattle.std.proofs.Common.{cond, refl, subst, sym, append_assoc, append-nil}
use Rattle.std.specs.Prelude.{◌≡◌, ℕ, Bool, true, false, List, [], ◌∷◌, ◌++◌, Option, Some, None, position, if◌then◌else◌}
use Rattle.std.specs.List.{list_any, IsDistinct}
use Rattle.std.specs.Str.{bytes_eq}

-- whether an item has this name
abbrev pub has_name : {T : Type 0} → (T → List ℕ) → List ℕ → List T → Bool
has_name name_of name items = list_any (λ x. bytes_eq (name_of x) name) items

-- the index of the first item of this name
abbrev pub index_of_name : {T : Type 0} → (T → List ℕ) → List ℕ → List T → Option ℕ
index_of_name name_of name items = position (λ x. bytes_eq (name_of x) name) items

-- the first name that stands earlier, where the items seen stand before the list
abbrev pub doubled_name_after : {T : Type 0} → (T → List ℕ) → List T → List T → Option (List ℕ)
doubled_name_after name_of seen [] = None
doubled_name_after name_of seen (x ∷ xs) =
    if has_name name_of (name_of x) seen then Some (name_of x) else doubled_name_after name_of (seen ++ x ∷ []) xs

-- no item has the name of an item seen or of an earlier item
abbrev pub AreDistinct : {T : Type 0} → (T → List ℕ) → List T → List T → Type 0
AreDistinct name_of seen xs = doubled_name_after name_of seen xs ≡ None

-- a name stands at two places of a list of names, and no name stands twice before the second of them
abbrev pub IsFirstDoubled : List ℕ → List (List ℕ) → Type 0
IsFirstDoubled name names =
    (before between after : List (List ℕ))
    × ((names ≡ before ++ name ∷ (between ++ name ∷ after)) × IsDistinct bytes_eq (before ++ name ∷ between))

not_doubled : (b : Bool) (name : List ℕ) (later : Option (List ℕ)) → cond b (Some name) later ≡ None → (b ≡ false) × (later ≡ None)
not_doubled true name later h = cc
not_doubled false name later h = (refl, h)

neither_doubled : (b : Bool) (name : List ℕ) (later : Option (List ℕ)) → b ≡ false → later ≡ None → cond b (Some name) later ≡ None
neither_doubled true name later e h = cc
neither_doubled false name later e h = h

-- then the first item's name is a new one, and no name of the others stands twice
pub distinct-head :
    {T : Type 0} (name_of : T → List ℕ) (seen : List T) (x : T) (xs : List T) → AreDistinct name_of seen (x ∷ xs) →
    (has_name name_of (name_of x) seen ≡ false) × AreDistinct name_of (seen ++ x ∷ []) xs
distinct-head name_of seen x xs h = not_doubled (has_name name_of (name_of x) seen) (name_of x) (doubled_name_after name_of (seen ++ x ∷ []) xs) h

-- and the other way round
pub distinct-cons :
    {T : Type 0} (name_of : T → List ℕ) (seen : List T) (x : T) (xs : List T) → has_name name_of (name_of x) seen ≡ false →
    AreDistinct name_of (seen ++ x ∷ []) xs → AreDistinct name_of seen (x ∷ xs)
distinct-cons name_of seen x xs e h = neither_doubled (has_name name_of (name_of x) seen) (name_of x) (doubled_name_after name_of (seen ++ x ∷ []) xs) e h

-- an item of a new name may follow
pub distinct-push :
    {T : Type 0} (name_of : T → List ℕ) (seen xs : List T) (x : T) → AreDistinct name_of seen xs →
    has_name name_of (name_of x) (seen ++ xs) ≡ false → AreDistinct name_of seen (xs ++ x ∷ [])
distinct-push name_of seen [] x h e =
    distinct-cons name_of seen x [] (subst (λ s. has_name name_of (name_of x) s ≡ false) (append-nil seen) e) refl
distinct-push name_of seen (y ∷ ys) x h e =
    let head = distinct-head name_of seen y ys h in
    distinct-cons name_of seen y (ys ++ x ∷ []) head.0
    (distinct-push name_of (seen ++ y ∷ []) ys x head.1
    (subst (λ s. has_name name_of (name_of x) s ≡ false) (sym (append_assoc seen (y ∷ []) ys)) e))
