-- One more turn of a loop that makes a list of another, item by item.
use Rattle.std.proofs.Common.{◌≡◌, ℕ, ◌+◌, ◌<◌, ◌≤◌, ◌∙◌, List, [], ◌∷◌, ◌++◌, length, get_or, map, take, drop, ap, sym, append_assoc, refl, subst}
use Rattle.std.specs.Prelude.{Result, Ok, Err, IfOk}
use Rattle.std.proofs.lemmas.List.{map_more, take_all, take_more, drop_more}

-- the loop pushes f of the next item
pub mapped_more :
    {X Y : Type 0} (f : X → Y) (xs : List X) (i : ℕ) (out more : List Y) (x : X) (y : Y) →
    i < length xs → x ≡ get_or xs i x → out ≡ map f (take i xs) → y ≡ f x → more ≡ out ++ y ∷ [] → more ≡ map f (take (i + 1) xs)
mapped_more f xs i out more x y h is so_far here pushed =
    pushed
    ∙ (ap (λ o. o ++ y ∷ []) so_far
    ∙ (ap (λ v. map f (take i xs) ++ v ∷ []) (here ∙ ap f is)
    ∙ sym (map_more f xs i x h)))

-- the loop pushes f of the next item, which is read by its index
pub mapped_at :
    {X Y : Type 0} (f : X → Y) (xs : List X) (i : ℕ) (out more : List Y) (d : X) (y : Y) →
    i < length xs → out ≡ map f (take i xs) → y ≡ f (get_or xs i d) → more ≡ out ++ y ∷ [] → more ≡ map f (take (i + 1) xs)
mapped_at f xs i out more d y h so_far here pushed =
    pushed
    ∙ (ap (λ o. o ++ y ∷ []) so_far
    ∙ (ap (λ v. map f (take i xs) ++ v ∷ []) here
    ∙ sym (map_more f xs i d h)))

-- the loop has come to the end of the list
pub all_done :
    {X B : Type 0} (f : List X → B) (xs : List X) (i : ℕ) (out made : B) →
    length xs ≤ i → out ≡ f (take i xs) → made ≡ out → made ≡ f xs
all_done f xs i out made min_max so_far same = same ∙ (so_far ∙ ap f (take_all i xs min_max))

-- what was made of it is what it was to be, where it was made
pub answered : {A E : Type 0} (made : Result A E) (out wanted : A) → IfOk made (λ a. a ≡ out) → out ≡ wanted → IfOk made (λ a. a ≡ wanted)
answered (Ok a) out wanted is same = is ∙ same
answered (Err e) out wanted is same = tt

-- and has pushed others before
pub mapped_behind :
    {X Y : Type 0} (before : List Y) (f : X → Y) (xs : List X) (i : ℕ) (out more : List Y) (x : X) (y : Y) →
    i < length xs → x ≡ get_or xs i x → out ≡ before ++ map f (take i xs) → y ≡ f x → more ≡ out ++ y ∷ [] →
    more ≡ before ++ map f (take (i + 1) xs)
mapped_behind before f xs i out more x y h is so_far here pushed =
    pushed
    ∙ (ap (λ o. o ++ y ∷ []) so_far
    ∙ (append_assoc before (map f (take i xs)) (y ∷ [])
    ∙ ap (λ min_max. before ++ min_max) (mapped_more f xs i (map f (take i xs)) _ x y h is refl here refl)))

-- the loop appends what f gives of the next item alone
pub joined_more :
    {X Y : Type 0} (f : List X → List Y) → ((xs ys : List X) → f (xs ++ ys) ≡ f xs ++ f ys) → (before : List Y) (xs : List X) (i : ℕ)
    (out more : List Y) (x : X) → i < length xs → x ≡ get_or xs i x → out ≡ before ++ f (take i xs) → more ≡ out ++ f (x ∷ []) →
    more ≡ before ++ f (take (i + 1) xs)
joined_more f joins before xs i out more x h is so_far pushed =
    pushed
    ∙ (ap (λ o. o ++ f (x ∷ [])) so_far
    ∙ (append_assoc before (f (take i xs)) (f (x ∷ []))
    ∙ ap (λ min_max. before ++ min_max)
    (sym (joins (take i xs) (x ∷ [])) ∙ ap f (ap (λ v. take i xs ++ v ∷ []) is ∙ sym (take_more xs i x h)))))

-- pairs of the same parts are the same
pub paired : {A B : Type 0} {a b : A} {x y : B} → a ≡ b → x ≡ y → ◌≡◌ {A = A × B} (a, x) (b, y)
paired {A} {B} {a} {b} {x} {y} e h =
    let first : ◌≡◌ {A = A × B} (a, x) (b, x) = ap (λ (k : A). (k, x)) e in
    let second : ◌≡◌ {A = A × B} (b, x) (b, y) = ap (λ (v : B). (b, v)) h in
    first ∙ second

-- what was made has what was said of it
pub made_has : {A E : Type 0} (P : A → Type 0) (made : Result A E) (x : A) → IfOk made P → made ≡ Ok x → P x
made_has {A} {E} P made x h is = subst (λ (r : Result A E). IfOk r P) is h

-- and is what it was to be
pub made_is : {A E : Type 0} (made : Result A E) (x y : A) → IfOk made (λ r. r ≡ y) → made ≡ Ok x → x ≡ y
made_is made x y h is = made_has (λ r. r ≡ y) made x h is

-- the loop goes over two lists side by side and pushes f of the next two items
pub zipped_more :
    {X Y Z : Type 0} (f : X → Y → Z) (of : List X → List Y → List Z) →
    ((x : X) (xs : List X) (y : Y) (ys : List Y) → of (x ∷ xs) (y ∷ ys) ≡ f x y ∷ of xs ys) →
    (xs : List X) (ys : List Y) (n m : ℕ) (whole out more : List Z) (x : X) (y : Y) (z : Z) →
    n < length xs → n < length ys → x ≡ get_or xs n x → y ≡ get_or ys n y → m ≡ n + 1 →
    whole ≡ out ++ of (drop n xs) (drop n ys) → z ≡ f x y → more ≡ out ++ z ∷ [] → whole ≡ more ++ of (drop m xs) (drop m ys)
zipped_more {X} {Y} {Z} f of each xs ys n m whole out more x y z h k here beside after so_far made pushed =
    let rest : List Z = of (drop (n + 1) xs) (drop (n + 1) ys) in
    let first : drop n xs ≡ x ∷ drop (n + 1) xs = drop_more xs n x h ∙ ap (λ v. v ∷ drop (n + 1) xs) (sym here) in
    let second : drop n ys ≡ y ∷ drop (n + 1) ys = drop_more ys n y k ∙ ap (λ v. v ∷ drop (n + 1) ys) (sym beside) in
    let split : of (drop n xs) (drop n ys) ≡ z ∷ rest =
    ap (λ l. of l (drop n ys)) first ∙ (ap (λ l. of (x ∷ drop (n + 1) xs) l) second ∙ (each x _ y _ ∙ ap (λ v. v ∷ rest) (sym made))) in
    so_far
    ∙ (ap (λ l. out ++ l) split
    ∙ (sym (append_assoc out (z ∷ []) rest)
    ∙ (ap (λ l. l ++ rest) (sym pushed) ∙ ap (λ i. more ++ of (drop i xs) (drop i ys)) (sym after))))
