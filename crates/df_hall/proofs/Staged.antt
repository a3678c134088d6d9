-- What a staged change leads to.
use Rattle.std.proofs.Common.{◌≡◌, List}
use Rattle.std.specs.Prelude.{Option, Some, None, IsSomeAnd, option_map, unwrap_or}
use Rattle.df_state.specs.declared.change.Change.{Change}
use Rattle.df_state.specs.declared.state.CatalogueParts.{CatalogueParts}
use Rattle.df_state.specs.declared.state.StagedParts.{StagedParts}
use Rattle.df_state.specs.declared.state.State.{State}
use Rattle.df_state.specs.Changes.{after, IsSound}
use Rattle.df_state.specs.Pictures.{next_state}
use Rattle.df_state.specs.Refusals.{refusal_of}
use Rattle.df_catalogue.specs.StagedChanges.{IsStagedFor}
use Rattle.df_versions.specs.Histories.{MayFollowBy, last_state}
use Rattle.df_versions.proofs.Histories.{step-follows-by}

next-of : (old : CatalogueParts) (c : Change) (o : Option StagedParts) (d : State) → IsSomeAnd o (IsStagedFor old c) → unwrap_or (option_map (λ s. s.state) o) d ≡ after old.state c
next-of old c None d h = absurd h
next-of old c (Some s) d h = h.state

-- the state that is to come is the one after the change
pub staged-next : (old mid : CatalogueParts) (c : Change) → IsSomeAnd mid.staged (IsStagedFor old c) → next_state mid ≡ after old.state c
staged-next old mid c h = next-of old c mid.staged mid.state h

-- and it may follow on a history that ends with the state now, where the change is allowed
pub staged-follows :
    (allows : Change → Type 0) (log : List State) (old mid : CatalogueParts) (c : Change) → allows c → last_state log ≡ Some old.state → IsSound c →
    refusal_of old.state c ≡ None → IsSomeAnd mid.staged (IsStagedFor old c) → MayFollowBy allows log (next_state mid)
staged-follows allows log old mid c allowed ends sound free staged =
    step-follows-by allows log old.state (next_state mid) ends (c, allowed, sound, free, staged-next old mid c staged)
