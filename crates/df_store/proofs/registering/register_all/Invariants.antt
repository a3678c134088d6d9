use Rattle.std.proofs.Common.{take}
use Rattle.df_store.specs.Headings.{HaveLastViews}
use Rattle.df_store.proofs.registering.register_all.Given as goal

-- the views before this one are registered
abbrev pub invariant-loop-at : goal.invariant-loop-at
invariant-loop-at g l = HaveLastViews (take l.at l.views) l.catalogue
