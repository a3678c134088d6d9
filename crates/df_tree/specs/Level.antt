-- Trees that are level: the parts of a node are of one rank, and each holds an item.
use Rattle.std.specs.Prelude.{◌≡◌, ◌<◌, ◌≤◌, ◌-◌, ℕ, zero, suc, List, [], ◌∷◌, ◌++◌, length, Option, Some, None}
use Rattle.std.specs.declared.result.Result.{Result}
use Rattle.std.specs.declared.result.Result.TheVariants.{Ok, Err}
use Rattle.df_tree.specs.Laws.{total}
use Rattle.df_tree.specs.declared.seq.Link.{Link}
use Rattle.df_tree.specs.declared.seq.Link.TheVariants.{Own, Shared}
use Rattle.df_tree.specs.declared.seq.Node.{Node}
use Rattle.df_tree.specs.declared.seq.Node.TheVariants.{Items, Parts}
use Rattle.df_tree.specs.Leaves.{items, rank_above, rank_of, leaves_of, Kept}

-- a part of this rank, with an item
pub record IsPart {I : Type 0} (rank : ℕ) (k : List (List I × ℕ) × ℕ) : Type 0 where
  pub rank_is : k.1 ≡ rank
  pub some : 0 < length (items {I = I} k.0)

abbrev pub AllParts : {I : Type 0} → ℕ → List (List (List I × ℕ) × ℕ) → Type 0
AllParts {I = I} rank [] = Unit {0}
AllParts {I = I} rank (k ∷ ks) = IsPart {I = I} rank k × AllParts {I = I} rank ks

-- parts of one rank
abbrev pub AreLevel : {I : Type 0} → List (List (List I × ℕ) × ℕ) → Type 0
AreLevel {I = I} ks = AllParts {I = I} (rank_above {I = I} ks - 1) ks

abbrev pub IsLevel : {I M : Type 0} → Node I M → Type 0
IsLevel (Items xs n) = Unit {0}
IsLevel (Parts ks) = AreLevel ks.items

abbrev pub IsLevelLink : {I M : Type 0} → Link I M → Type 0
IsLevelLink (Own n) = IsLevel n.value
IsLevelLink (Shared n) = IsLevel n.value

-- what a part stores beside its link is true of what is behind it
pub record IsSummed {I M : Type 0} (none : M) (plus : M → M → M) (f : I → M) (count rank : ℕ) (measure : M) (k : List (List I × ℕ) × ℕ) (link : Link I M) : Type 0 where
  pub counted : count ≡ length (items {I = I} k.0)
  pub ranked : rank ≡ k.1
  pub few : rank < 64
  pub measured : measure ≡ total none plus f (items {I = I} k.0)
  pub level : IsLevelLink {I = I} {M = M} link

-- the rank of a part that holds an item stays
pub record Stays {I : Type 0} (old : ℕ) (runs : List (List I × ℕ)) (new : ℕ) : Type 0 where
  pub rank : 0 < length (items {I = I} runs) → new ≡ old

-- the parts of a node stay level, and its rank is no higher; it stays while there is an item
pub record IsLowered {I M : Type 0} (old : ℕ) (new : Node I M) : Type 0 where
  pub level : IsLevel {I = I} {M = M} new
  pub low : rank_of {I = I} {M = M} new ≤ old
  pub stays : 0 < length (items {I = I} (leaves_of {I = I} {M = M} new)) → rank_of {I = I} {M = M} new ≡ old

-- all but the part at an index are of this rank and hold an item; that one is of this rank while it holds one
abbrev pub AllButOne : {I : Type 0} → ℕ → ℕ → List (List (List I × ℕ) × ℕ) → Type 0
AllButOne {I = I} rank at [] = Unit {0}
AllButOne {I = I} rank zero (k ∷ ks) = (0 < length (items {I = I} k.0) → k.1 ≡ rank) × AllParts {I = I} rank ks
AllButOne {I = I} rank (suc at) (k ∷ ks) = IsPart {I = I} rank k × AllButOne {I = I} rank at ks

-- what was in one is in it and a second part, of the same rank; both hold an item
pub record IsHalved {I : Type 0} (old new : List (List I × ℕ)) (rank : ℕ) (second : List (List I × ℕ) × ℕ) : Type 0 where
  pub kept : Kept {I = I} old (new ++ second.0)
  pub first : 0 < length (items {I = I} new)
  pub part : IsPart {I = I} rank second

-- what was in one is in it and the second part, if there is one
abbrev pub InBoth : {I : Type 0} → Option (List (List I × ℕ) × ℕ) → List (List I × ℕ) → List (List I × ℕ) → ℕ → Type 0
InBoth {I = I} None old new rank = Kept {I = I} old new
InBoth {I = I} (Some k) old new rank = IsHalved {I = I} old new rank k

abbrev pub MayBeHalved : {I E : Type 0} → Result (Option (List (List I × ℕ) × ℕ)) E → List (List I × ℕ) → List (List I × ℕ) → ℕ → Type 0
MayBeHalved {I = I} (Ok o) old new rank = InBoth {I = I} o old new rank
MayBeHalved {I = I} (Err e) old new rank = Kept {I = I} old new
