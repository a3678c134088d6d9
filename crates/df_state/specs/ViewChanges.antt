-- Which change of a catalogue a change of its views is.
use Rattle.df_state.specs.declared.change.Change.{Change}
use Rattle.df_state.specs.declared.change.Change.TheVariants as change
use Rattle.df_state.specs.declared.view_change.ViewChange.{ViewChange}
use Rattle.df_state.specs.declared.view_change.ViewChange.TheVariants.{Drop, Register}

abbrev pub change_of_views : ViewChange → Change
change_of_views (Register name plan) = change.Register name plan
change_of_views (Drop name) = change.DropView name.now
