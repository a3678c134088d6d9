-- One change of the catalogue, and why it is refused.
use Rattle.std.specs.Prelude.{◌≡◌, ◌≢◌, Some, None}
use Rattle.df_state.specs.declared.change.Change.{Change}
use Rattle.df_state.specs.declared.fault.CatalogueFault.{CatalogueFault}
use Rattle.df_state.specs.declared.fault.CatalogueFault.TheVariants as fault
use Rattle.df_state.specs.declared.state.CatalogueParts.{CatalogueParts}
use Rattle.df_state.specs.declared.state.State.{State}
use Rattle.df_state.specs.Changes.{after}
use Rattle.df_state.specs.Refusals.{refusal_of}
use Rattle.df_catalogue.specs.Work.{IsCounted, allowed_after}
use Rattle.df_session.specs.declared.refusal.Refusal.{Refusal}
use Rattle.df_session.specs.declared.refusal.Refusal.TheVariants as refusal

-- nothing refuses the change, it was made and its work counted, and nothing is staged
abbrev pub IsMade : CatalogueParts → CatalogueParts → Change → Type 0
IsMade old new c =
    (refusal_of old.state c ≡ None)
    × (new.state ≡ after old.state c)
    × IsCounted (allowed_after old.state c None) old.work new.work
    × (new.staged ≡ None)

-- the catalogue refuses the change so, or memory was refused
abbrev pub IsRefusal : State → Change → CatalogueFault → Type 0
IsRefusal s c f = f ≢ fault.Memory → refusal_of s c ≡ Some f

-- the refusal of a command whose change the catalogue refuses
abbrev pub IsRefusedAs : State → Change → Refusal → Type 0
IsRefusedAs s c (refusal.Store f) = IsRefusal s c f
IsRefusedAs s c r = ⊥
