-- Two lists whose items stand beside each other under the same names stay so when others are put among them.
use Rattle.std.proofs.Common.{◌≡◌, ℕ, Bool, true, false, ◌∙◌, cond, List, [], ◌∷◌, ◌++◌, map, filter, refl, ap, sym}
use Rattle.std.specs.Prelude.{Option, Some, not, unwrap_or, ◌||◌}
use Rattle.std.specs.Str.{bytes_eq}
use Rattle.df_ops.specs.NamedColumns.{has_column, first_of_name, added_or_own, with_columns}

-- the items of two lists that stand beside each other are related
abbrev pub Beside : {A B : Type 0} → (List ℕ × A → List ℕ × B → Type 0) → List (List ℕ × A) → List (List ℕ × B) → Type 0
Beside R [] [] = Unit {0}
Beside R [] (v ∷ vs) = ⊥
Beside R (c ∷ cs) [] = ⊥
Beside R (c ∷ cs) (v ∷ vs) = R c v × Beside R cs vs

-- related items have one name
abbrev pub Names : {A B : Type 0} → (List ℕ × A → List ℕ × B → Type 0) → Type 0
Names {A} {B} R = (c : List ℕ × A) (v : List ℕ × B) → R c v → c.0 ≡ v.0

pub has_beside :
    {A B : Type 0} (R : List ℕ × A → List ℕ × B → Type 0) → Names R → (name : List ℕ) (cs : List (List ℕ × A)) (vs : List (List ℕ × B)) →
    Beside R cs vs → has_column name cs ≡ has_column name vs
has_beside R names name [] [] h = refl
has_beside R names name [] (v ∷ vs) h = absurd h
has_beside R names name (c ∷ cs) [] h = absurd h
has_beside R names name (c ∷ cs) (v ∷ vs) h =
    ap (λ n. bytes_eq n name || has_column name cs) (names c v h.0) ∙ ap (λ b. bytes_eq v.0 name || b) (has_beside R names name cs vs h.1)

pub append_beside :
    {A B : Type 0} (R : List ℕ × A → List ℕ × B → Type 0) (cs : List (List ℕ × A)) (vs : List (List ℕ × B)) (ds : List (List ℕ × A)) (ws : List (List ℕ × B)) →
    Beside R cs vs → Beside R ds ws → Beside R (cs ++ ds) (vs ++ ws)
append_beside R [] [] ds ws h k = k
append_beside R [] (v ∷ vs) ds ws h k = absurd h
append_beside R (c ∷ cs) [] ds ws h k = absurd h
append_beside R (c ∷ cs) (v ∷ vs) ds ws h k = (h.0, append_beside R cs vs ds ws h.1 k)

-- what is found at one test of each of two lists
chosen :
    {A B : Type 0} (R : A → B → Type 0) (b b' : Bool) → b ≡ b' → (x y : A) (v w : B) → R x v → R y w → R (cond b x y) (cond b' v w)
chosen R true true e x y v w h k = h
chosen R true false e x y v w h k = cc
chosen R false true e x y v w h k = cc
chosen R false false e x y v w h k = k

pub found_or : {A : Type 0} (b : Bool) (x d : A) (o : Option A) → unwrap_or (cond b (Some x) o) d ≡ cond b x (unwrap_or o d)
found_or true x d o = refl
found_or false x d o = refl

find_beside :
    {A B : Type 0} (R : List ℕ × A → List ℕ × B → Type 0) → Names R → (name : List ℕ) (cs : List (List ℕ × A)) (vs : List (List ℕ × B)) →
    Beside R cs vs → (c : List ℕ × A) (v : List ℕ × B) → R c v → R (unwrap_or (first_of_name name cs) c) (unwrap_or (first_of_name name vs) v)
find_beside R names name [] [] h c v k = k
find_beside R names name [] (w ∷ ws) h c v k = absurd h
find_beside R names name (d ∷ ds) [] h c v k = absurd h
find_beside R names name (d ∷ ds) (w ∷ ws) h c v k =
    rw (found_or (bytes_eq d.0 name) d c (first_of_name name ds), found_or (bytes_eq w.0 name) w v (first_of_name name ws))
    (chosen R (bytes_eq d.0 name) (bytes_eq w.0 name) (ap (λ n. bytes_eq n name) (names d w h.0)) d _ w _ h.0
    (find_beside R names name ds ws h.1 c v k))

replaced_beside :
    {A B : Type 0} (R : List ℕ × A → List ℕ × B → Type 0) → Names R → (cs : List (List ℕ × A)) (vs : List (List ℕ × B)) →
    Beside R cs vs → (own : List (List ℕ × A)) (cells : List (List ℕ × B)) → Beside R own cells → Beside R (map (added_or_own cs) own) (map (added_or_own vs) cells)
replaced_beside R names cs vs h [] [] k = tt
replaced_beside R names cs vs h [] (v ∷ cells) k = absurd k
replaced_beside R names cs vs h (c ∷ own) [] k = absurd k
replaced_beside {A} {B} R names cs vs h (c ∷ own) (v ∷ cells) k =
    let same : first_of_name v.0 vs ≡ first_of_name c.0 vs = ap (λ n. first_of_name n vs) (sym (names c v k.0)) in
    (rw same (find_beside R names c.0 cs vs h c v k.0), replaced_beside R names cs vs h own cells k.1)

beside_if :
    {A B : Type 0} (R : List ℕ × A → List ℕ × B → Type 0) (b b' : Bool) → b ≡ b' → (c : List ℕ × A) (v : List ℕ × B) → R c v →
    (cs : List (List ℕ × A)) (vs : List (List ℕ × B)) → Beside R cs vs → Beside R (cond b (c ∷ cs) cs) (cond b' (v ∷ vs) vs)
beside_if R true true e c v k cs vs h = (k, h)
beside_if R true false e c v k cs vs h = cc
beside_if R false true e c v k cs vs h = cc
beside_if R false false e c v k cs vs h = h

new_beside :
    {A B : Type 0} (R : List ℕ × A → List ℕ × B → Type 0) → Names R → (own : List (List ℕ × A)) (cells : List (List ℕ × B)) → Beside R own cells →
    (cs : List (List ℕ × A)) (vs : List (List ℕ × B)) → Beside R cs vs →
    Beside R (filter (λ a. not (has_column a.0 own)) cs) (filter (λ a. not (has_column a.0 cells)) vs)
new_beside R names own cells k [] [] h = tt
new_beside R names own cells k [] (v ∷ vs) h = absurd h
new_beside R names own cells k (c ∷ cs) [] h = absurd h
new_beside R names own cells k (c ∷ cs) (v ∷ vs) h =
    let same : has_column c.0 own ≡ has_column v.0 cells = has_beside R names c.0 own cells k ∙ ap (λ n. has_column n cells) (names c v h.0) in
    beside_if R (not (has_column c.0 own)) (not (has_column v.0 cells)) (ap not same) c v h.0 _ _ (new_beside R names own cells k cs vs h.1)

pub with_columns-beside :
    {A B : Type 0} (R : List ℕ × A → List ℕ × B → Type 0) → Names R → (own : List (List ℕ × A)) (cells : List (List ℕ × B)) → Beside R own cells →
    (cs : List (List ℕ × A)) (vs : List (List ℕ × B)) → Beside R cs vs → Beside R (with_columns own cs) (with_columns cells vs)
unfolding with_columns
with_columns-beside R names own cells k cs vs h =
    append_beside R (map (added_or_own cs) own) (map (added_or_own vs) cells) _ _
    (replaced_beside R names cs vs h own cells k) (new_beside R names own cells k cs vs h)
