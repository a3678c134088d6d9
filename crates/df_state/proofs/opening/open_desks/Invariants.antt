use Rattle.std.proofs.Common.{◌≡◌, ◌+◌, ◌*◌}
use Rattle.df_state.specs.Desks.{first_desks}
use Rattle.df_state.proofs.opening.open_desks.Given as goal

abbrev pub invariant-loop-frame : goal.invariant-loop-frame
invariant-loop-frame g l = record {
  desks : l.desks.items ≡ first_desks l.frame;
  accepted_parts : l.accepted.parts + 65536 * l.frame ≡ 524288;
  accepted_amount : l.accepted.amount ≡ 0;
  deleted_parts : l.deleted.parts + 65536 * l.frame ≡ 524288;
  deleted_amount : l.deleted.amount ≡ 0;
}
