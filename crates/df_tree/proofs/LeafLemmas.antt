-- Items of leaves, and plans that are ready.
use Rattle.std.proofs.Common.{◌≡◌, ◌≤◌, ◌<◌, ◌+◌, ◌-◌, ℕ, zero, suc, List, [], ◌∷◌, ◌++◌, length, map, refl, sym, ap, ◌∙◌, arith, append_assoc, length-append}
use Rattle.std.specs.Prelude.{slice_get, slice_set, take, drop, get_or, max}
use Rattle.std.proofs.lemmas.List.{set-append_left, length-map, append-nil, take-append-le}
use Rattle.std.specs.List.{insert, remove}
use Rattle.std.proofs.lemmas.List.Edits.{insert-append_left, insert-append_right}
use denote.Param.Weighed.{most}
use Rattle.df_tree.specs.Leaves.{alike, items, room_at, rooms, leaves_of_parts, whole_of}

le-append : (xs ys : List ℕ) (b : ℕ) → ((i : ℕ) → get_or xs i 0 ≤ b) → ((i : ℕ) → get_or ys i 0 ≤ b) → (i : ℕ) → get_or (xs ++ ys) i 0 ≤ b
le-append [] ys b f g i = g i
le-append (x ∷ xs) ys b f g zero = f 0
le-append (x ∷ xs) ys b f g (suc i) = le-append xs ys b (λ j. f (suc j)) g i

in_list : (xs : List ℕ) (i : ℕ) → 0 < get_or xs i 0 → i < length xs
in_list [] i h = absurd (omega (arith, h))
in_list (x ∷ xs) zero h = omega arith
in_list (x ∷ xs) (suc i) h = omega (arith, in_list xs i h)

module _ {I : Type 0} where
  pub items-append : (rs ss : List (List I × ℕ)) → items {I = I} (rs ++ ss) ≡ items {I = I} rs ++ items {I = I} ss
  items-append [] ss = refl
  items-append (r ∷ rs) ss = ap (λ l. r.0 ++ l) (items-append rs ss) ∙ sym (append_assoc r.0 (items rs) (items ss))

  pub items-three : (fs rs gs : List (List I × ℕ)) → items {I = I} (fs ++ (rs ++ gs)) ≡ items {I = I} fs ++ (items {I = I} rs ++ items {I = I} gs)
  items-three fs rs gs = items-append fs (rs ++ gs) ∙ ap (λ l. items fs ++ l) (items-append rs gs)

  pub items-shared : (rs : List (List I × ℕ)) → items {I = I} (map (λ r. (r.0, 0)) rs) ≡ items {I = I} rs
  items-shared [] = refl
  items-shared (r ∷ rs) = ap (λ l. r.0 ++ l) (items-shared rs)

  pub items-one : (xs : List I) (s : ℕ) → items {I = I} ((xs, s) ∷ []) ≡ xs
  items-one xs s = append-nil xs

  pub rooms-append : (rs ss : List (List I × ℕ)) → rooms {I = I} (rs ++ ss) ≡ rooms {I = I} rs ++ rooms {I = I} ss
  rooms-append [] ss = refl
  rooms-append (r ∷ rs) ss = ap (λ l. map (λ x. r.1) r.0 ++ l) (rooms-append rs ss) ∙ sym (append_assoc (map (λ x. r.1) r.0) (rooms rs) (rooms ss))

  pub length-rooms : (rs : List (List I × ℕ)) → length (rooms {I = I} rs) ≡ length (items {I = I} rs)
  length-rooms [] = refl
  length-rooms (r ∷ rs) =
      let n = length-append (map (λ x. r.1) r.0) (rooms {I = I} rs) in
      let m = length-append r.0 (items {I = I} rs) in
      let k = length-map r.0 (λ x. r.1) in
      let more = length-rooms rs in
      omega (arith, n, m, k, more)

  room-one : (xs : List I) (s i : ℕ) → get_or (map (λ x. s) xs) i 0 ≤ s
  room-one [] s i = omega arith
  room-one (x ∷ xs) s zero = omega arith
  room-one (x ∷ xs) s (suc i) = room-one xs s i

  -- the room in one leaf
  pub room-leaf : (xs : List I) (s i : ℕ) → room_at {I = I} ((xs, s) ∷ []) i ≤ s
  room-leaf xs s i = le-append (map (λ x. s) xs) [] s (room-one xs s) (λ j. omega arith) i

  -- no way through a link that is shared is owned
  pub room-shared : (rs : List (List I × ℕ)) (i : ℕ) → room_at {I = I} (map (λ r. (r.0, 0)) rs) i ≤ 0
  room-shared [] i = omega arith
  room-shared (r ∷ rs) i = le-append (map (λ x. 0) r.0) (rooms {I = I} (map (λ r. (r.0, 0)) rs)) 0 (room-one r.0 0) (room-shared rs) i

  -- an item with room is there
  pub there : (rs : List (List I × ℕ)) (i : ℕ) → 0 < room_at {I = I} rs i → i < length (items {I = I} rs)
  there rs i h = let n = length-rooms rs in let m = in_list (rooms {I = I} rs) i h in omega (arith, n, m)

  pub leaves-append : (ks ls : List (List (List I × ℕ) × ℕ)) → leaves_of_parts {I = I} (ks ++ ls) ≡ leaves_of_parts {I = I} ks ++ leaves_of_parts {I = I} ls
  leaves-append [] ls = refl
  leaves-append (k ∷ ks) ls = ap (λ rs. k.0 ++ rs) (leaves-append ks ls) ∙ sym (append_assoc k.0 (leaves_of_parts ks) (leaves_of_parts ls))

pub get-past : {X : Type 0} (xs ys : List X) (i : ℕ) → slice_get (xs ++ ys) (length xs + i) ≡ slice_get ys i
get-past [] ys i = let e : 0 + i ≡ i = omega arith in ap (slice_get ys) e
get-past (x ∷ xs) ys i = let e : suc (length xs) + i ≡ suc (length xs + i) = omega arith in ap (slice_get (x ∷ (xs ++ ys))) e ∙ get-past xs ys i

pub get-within : {X : Type 0} (xs ys : List X) (i : ℕ) → i < length xs → slice_get (xs ++ ys) i ≡ slice_get xs i
get-within [] ys i h = absurd (omega (arith, h))
get-within (x ∷ xs) ys zero h = refl
get-within (x ∷ xs) ys (suc i) h = get-within xs ys i (omega (arith, h))

pub get_or-past : {X : Type 0} (xs ys : List X) (i : ℕ) (d : X) → get_or (xs ++ ys) (length xs + i) d ≡ get_or ys i d
get_or-past [] ys i d = let e : 0 + i ≡ i = omega arith in ap (λ n. get_or ys n d) e
get_or-past (x ∷ xs) ys i d = let e : suc (length xs) + i ≡ suc (length xs + i) = omega arith in ap (λ n. get_or (x ∷ (xs ++ ys)) n d) e ∙ get_or-past xs ys i d

pub get_or-within : {X : Type 0} (xs ys : List X) (i : ℕ) (d : X) → i < length xs → get_or (xs ++ ys) i d ≡ get_or xs i d
get_or-within [] ys i d h = absurd (omega (arith, h))
get_or-within (x ∷ xs) ys zero d h = refl
get_or-within (x ∷ xs) ys (suc i) d h = get_or-within xs ys i d (omega (arith, h))

pub set-within : {X : Type 0} (xs ys zs : List X) (i j : ℕ) (x : X) → j ≡ length xs + i → i < length ys → slice_set (xs ++ (ys ++ zs)) j x ≡ xs ++ (slice_set ys i x ++ zs)
set-within [] ys zs i j x e h = let f : j ≡ i = omega (arith, e) in ap (λ j. slice_set (ys ++ zs) j x) f ∙ set-append_left ys zs i x h
set-within (w ∷ xs) ys zs i zero x e h = absurd (omega (arith, e))
set-within (w ∷ xs) ys zs i (suc j) x e h = ap (λ r. w ∷ r) (set-within xs ys zs i j x (omega (arith, e)) h)

pub insert-within : {X : Type 0} (xs ys zs : List X) (i j : ℕ) (x : X) → j ≡ length xs + i → i ≤ length ys → insert (xs ++ (ys ++ zs)) j x ≡ xs ++ (insert ys i x ++ zs)
insert-within xs ys zs i j x e h =
    let a : j - length xs ≡ i = omega (arith, e) in
    insert-append_right xs (ys ++ zs) (length xs) j x refl (omega (arith, e)) ∙ ap (λ n. xs ++ insert (ys ++ zs) n x) a ∙ ap (λ l. xs ++ l) (insert-append_left ys zs i x (omega (arith, h)))

pub remove-within : {X : Type 0} (xs ys zs : List X) (i j : ℕ) → j ≡ length xs + i → i < length ys → remove (xs ++ (ys ++ zs)) j ≡ xs ++ (remove ys i ++ zs)
remove-within [] [] zs i j e h = absurd (omega (arith, h))
remove-within [] (y ∷ ys) zs zero j e h = let f : j ≡ 0 = omega (arith, e) in ap (λ j. remove (y ∷ (ys ++ zs)) j) f
remove-within [] (y ∷ ys) zs (suc i) zero e h = absurd (omega (arith, e))
remove-within [] (y ∷ ys) zs (suc i) (suc j) e h = ap (λ l. y ∷ l) (remove-within [] ys zs i j (omega (arith, e)) (omega (arith, h)))
remove-within (w ∷ xs) ys zs i zero e h = absurd (omega (arith, e))
remove-within (w ∷ xs) ys zs i (suc j) e h = ap (λ r. w ∷ r) (remove-within xs ys zs i j (omega (arith, e)) h)

pub take-within : {X : Type 0} (xs ys zs : List X) (i j : ℕ) → j ≡ length xs + i → i ≤ length ys → take j (xs ++ (ys ++ zs)) ≡ xs ++ take i ys
take-within [] ys zs i j e h = let f : j ≡ i = omega (arith, e) in ap (λ j. take j (ys ++ zs)) f ∙ take-append-le i ys zs h
take-within (w ∷ xs) ys zs i zero e h = absurd (omega (arith, e))
take-within (w ∷ xs) ys zs i (suc j) e h = ap (λ r. w ∷ r) (take-within xs ys zs i j (omega (arith, e)) h)

drop-front : {X : Type 0} (ys zs : List X) (i : ℕ) → i ≤ length ys → drop i (ys ++ zs) ≡ drop i ys ++ zs
drop-front [] zs zero h = refl
drop-front [] zs (suc i) h = absurd (omega (arith, h))
drop-front (y ∷ ys) zs zero h = refl
drop-front (y ∷ ys) zs (suc i) h = drop-front ys zs i (omega (arith, h))

pub drop-within : {X : Type 0} (xs ys zs : List X) (i j : ℕ) → j ≡ length xs + i → i ≤ length ys → drop j (xs ++ (ys ++ zs)) ≡ drop i ys ++ zs
drop-within [] ys zs i j e h = let f : j ≡ i = omega (arith, e) in ap (λ j. drop j (ys ++ zs)) f ∙ drop-front ys zs i h
drop-within (w ∷ xs) ys zs i zero e h = absurd (omega (arith, e))
drop-within (w ∷ xs) ys zs i (suc j) e h = drop-within xs ys zs i j (omega (arith, e)) h

-- parts that are alike have the same items and ranks together
pub alike_whole : {I : Type 0} (ks ls : List (List (List I × ℕ) × ℕ)) → map (alike {I = I}) ks ≡ map (alike {I = I}) ls → alike {I = I} (whole_of {I = I} ks) ≡ alike {I = I} (whole_of {I = I} ls)
alike_whole [] [] h = refl
alike_whole [] (l ∷ ls) h = cc h
alike_whole (k ∷ ks) [] h = cc h
alike_whole {I = I} (k ∷ ks) (l ∷ ls) h =
    let first : alike {I = I} k ≡ alike {I = I} l = cc h in
    let rest : map (alike {I = I}) ks ≡ map (alike {I = I}) ls = cc h in
    let more = alike_whole ks ls rest in
    let is : items {I = I} (k.0 ++ leaves_of_parts {I = I} ks) ≡ items {I = I} (l.0 ++ leaves_of_parts {I = I} ls)
    = items-append k.0 (leaves_of_parts {I = I} ks) ∙ ap (λ is. is ++ items {I = I} (leaves_of_parts {I = I} ks)) (ap (λ p. p.0) first) ∙ ap (λ js. items {I = I} l.0 ++ js) (ap (λ p. p.0) more) ∙ sym (items-append l.0 (leaves_of_parts {I = I} ls)) in
    let ranks : max (k.1 + 1) (most (λ k. k.1 + 1) ks) ≡ max (l.1 + 1) (most (λ k. k.1 + 1) ls)
    = ap (λ n. max (n + 1) (most (λ k. k.1 + 1) ks)) (ap (λ p. p.1) first) ∙ ap (max (l.1 + 1)) (ap (λ p. p.1) more) in
    ap (λ x. (x, max (k.1 + 1) (most (λ k. k.1 + 1) ks))) is ∙ ap (λ n. (items {I = I} (l.0 ++ leaves_of_parts {I = I} ls), n)) ranks

pub take_past : {X : Type 0} (xs : List X) (n : ℕ) → length xs ≤ n → take n xs ≡ xs
take_past [] zero h = refl
take_past [] (suc n) h = refl
take_past (x ∷ xs) zero h = absurd (omega (arith, h))
take_past (x ∷ xs) (suc n) h = ap (λ l. x ∷ l) (take_past xs n (omega (arith, h)))

-- a leaf alone is not in a node of parts with rank 0, nor shared with room
pub not_parts : {I : Type 0} (ks : List (List (List I × ℕ) × ℕ)) (r : List I × ℕ) → leaves_of_parts {I = I} ks ≡ r ∷ [] → most (λ k. k.1 + 1) ks ≡ 0 → ⊥
not_parts [] r e f = cc e
not_parts (k ∷ ks) r e f = omega (arith, f)

pub not_shared : {I : Type 0} (rs : List (List I × ℕ)) (xs : List I) (room : ℕ) → map {A = List I × ℕ} {B = List I × ℕ} (λ r. (r.0, 0)) rs ≡ (xs, room) ∷ [] → room ≡ 0
not_shared [] xs room e = cc e
not_shared {I = I} (r ∷ rs) xs room e = let one : List I × ℕ = (xs, room) in let two : List I × ℕ = (r.0, 0) in let h : one ≡ two = cc e in ap (λ p. p.1) h
