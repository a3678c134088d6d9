use Rattle.std.proofs.Common.{◌≡◌, take}
use Rattle.df_document.specs.Opening.{schemas_of}
use Rattle.df_explain.proofs.plan_words.schemas.Given as goal

abbrev pub invariant-loop-frame : goal.invariant-loop-frame
invariant-loop-frame l = l.schemas.items ≡ schemas_of (take l.frame-index l.frames)
