-- The items of a tree leaf by leaf, the room of each leaf, and ranks, by which a recursion ends.
-- A room is 0 where the way to the leaf is not owned, and else one more than the number of items that were reserved in it.
use Rattle.std.specs.Prelude.{◌≡◌, slice_index, ◌≤◌, ◌<◌, ◌+◌, ◌-◌, ℕ, zero, suc, List, [], ◌∷◌, ◌++◌, length, map, min, vec_len, vec_capacity}
use Rattle.std.specs.List.{remove}
use denote.Param.Weighed.{most}
use Rattle.df_tree.specs.declared.seq.Link.{Link}
use Rattle.df_tree.specs.declared.seq.Link.TheVariants.{Own, Shared}
use Rattle.df_tree.specs.declared.seq.Node.{Node}
use Rattle.df_tree.specs.declared.seq.Node.TheVariants.{Items, Parts}

-- the leaves of these parts, one after another
abbrev pub leaves_of_parts : {I : Type 0} → List (List (List I × ℕ) × ℕ) → List (List I × ℕ)
leaves_of_parts [] = []
leaves_of_parts (k ∷ ks) = k.0 ++ leaves_of_parts ks

abbrev pub leaves_of : {I M : Type 0} → Node I M → List (List I × ℕ)
leaves_of (Items xs n) = (xs.items, min n (vec_capacity xs - vec_len xs) + 1) ∷ []
leaves_of (Parts ks) = leaves_of_parts ks.items

-- behind a link that is shared no way is owned
abbrev pub leaves_of_link : {I M : Type 0} → Link I M → List (List I × ℕ)
leaves_of_link (Own n) = leaves_of n.value
leaves_of_link (Shared n) = map (λ r. (r.0, 0)) (leaves_of n.value)

-- the node behind this link is owned
abbrev pub IsOwned : {I M : Type 0} → Link I M → Type 0
IsOwned (Own n) = Unit {0}
IsOwned (Shared n) = ⊥

-- above the ranks of these parts
abbrev pub rank_above : {I : Type 0} → List (List (List I × ℕ) × ℕ) → ℕ
rank_above ks = most (λ k. k.1 + 1) ks

abbrev pub rank_of : {I M : Type 0} → Node I M → ℕ
rank_of (Items xs n) = 0
rank_of (Parts ks) = rank_above ks.items

abbrev pub rank_of_link : {I M : Type 0} → Link I M → ℕ
rank_of_link (Own n) = rank_of n.value
rank_of_link (Shared n) = rank_of n.value

-- the items of leaves
abbrev pub items : {I : Type 0} → List (List I × ℕ) → List I
items [] = []
items (r ∷ rs) = r.0 ++ items rs

abbrev pub items_in : {I : Type 0} → List (List I × ℕ) × ℕ → List I
items_in k = items k.0

-- the items of these parts, one after another
abbrev pub items_of_parts : {I : Type 0} → List (List (List I × ℕ) × ℕ) → List I
items_of_parts ks = items (leaves_of_parts ks)

-- the room of each item
abbrev pub rooms : {I : Type 0} → List (List I × ℕ) → List ℕ
rooms [] = []
rooms (r ∷ rs) = map (λ x. r.1) r.0 ++ rooms rs

-- the room of the item at an index, and 0 behind the last
abbrev pub room_at : {I : Type 0} → List (List I × ℕ) → ℕ → ℕ
room_at rs index = slice_index (rooms rs) index

-- what a copy keeps: the items and the rank
abbrev pub alike : {I : Type 0} → List (List I × ℕ) × ℕ → List I × ℕ
alike k = (items k.0, k.1)

-- all of these parts
abbrev pub whole_of : {I : Type 0} → List (List (List I × ℕ) × ℕ) → List (List I × ℕ) × ℕ
whole_of ks = (leaves_of_parts ks, rank_above ks)

abbrev pub alike_node : {I M : Type 0} → Node I M → List I × ℕ
alike_node n = (items (leaves_of n), rank_of n)

-- how many edits are planned at the first items
abbrev pub total : (ℕ → ℕ) → ℕ → ℕ
total plan zero = 0
total plan (suc n) = plan 0 + total (λ i. plan (suc i)) n

-- the edits that are planned at the items of a leaf are at most those that were reserved in it, at each leaf
abbrev pub Ready : {I : Type 0} → (ℕ → ℕ) → List (List I × ℕ) → Type 0
Ready plan [] = Unit {0}
Ready plan (r ∷ rs) = (total plan (length r.0) ≤ r.1 - 1) × Ready (λ i. plan (length r.0 + i)) rs

-- 1 where two indexes are the same one, and else 0
abbrev pub same : ℕ → ℕ → ℕ
same zero zero = 1
same zero (suc j) = 0
same (suc i) zero = 0
same (suc i) (suc j) = same i j

-- the plan with one edit more at the item at an index
abbrev pub one_more : (ℕ → ℕ) → ℕ → ℕ → ℕ
one_more plan index i = plan i + same i index

-- the same items, and each plan that was ready still is
pub record Kept {I : Type 0} (old new : List (List I × ℕ)) : Type 0 where
  pub items : items {I = I} new ≡ items {I = I} old
  pub ready : (plan : ℕ → ℕ) → Ready {I = I} plan old → Ready {I = I} plan new

-- each plan that was ready is ready with one edit more at the item at an index
pub record Reserved {I : Type 0} (old new : List (List I × ℕ)) (index : ℕ) : Type 0 where
  pub ready : (plan : ℕ → ℕ) → Ready {I = I} plan old → Ready {I = I} (one_more plan index) new

-- the leaf of the item at an index is changed, at a cost to its room, and no other
pub record Edited {I : Type 0} (old new : List (List I × ℕ)) (index : ℕ) (edit : List I → ℕ → List I) (cost : ℕ) : Type 0 where
  pub front : List (List I × ℕ)
  pub run : List I × ℕ
  pub back : List (List I × ℕ)
  pub rest : ℕ
  pub room : ℕ
  pub before : old ≡ front ++ run ∷ back
  pub index_is : index ≡ length (items {I = I} front) + rest
  pub within : rest < length run.0
  pub after : new ≡ front ++ (edit run.0 rest, room) ∷ back
  pub cost_is : run.1 ≤ room + cost

-- the item at an index is gone; leaves that became empty may be gone too
pub record Taken {I : Type 0} (old new : List (List I × ℕ)) (index : ℕ) : Type 0 where
  pub mid : List (List I × ℕ)
  pub edited : Edited {I = I} old mid index (λ xs i. remove xs i) 1
  pub kept : Kept {I = I} mid new

-- a leaf alone, without items, in which one is reserved
pub record IsReady {I : Type 0} (k : List (List I × ℕ) × ℕ) : Type 0 where
  pub room : ℕ
  pub leaf : k.0 ≡ ([], room) ∷ []
  pub reserved : 1 < room
  pub rank : k.1 ≡ 0
