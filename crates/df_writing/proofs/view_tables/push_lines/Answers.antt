use Rattle.std.proofs.Common.{◌∙◌, sym}
use Rattle.df_writing.specs.StepData.{written}
use Rattle.df_writing.proofs.StepFacts.{lines_written, no_lines}
use Rattle.df_writing.proofs.view_tables.push_lines.Goals as goal

pub returns-in_ok-extend_from_slice-2 : goal.returns-in_ok-extend_from_slice-2
returns-in_ok-extend_from_slice-2 c =
    lines_written _ _ _ _ _ (sym (c.has_steps.ensures c.args.frames.now) ∙ c.if-has_steps.true) c.in_ok-extend_from_slice.ensures.items c.in_ok-push_steps.ensures
    c.in_ok-extend_from_slice-2.ensures.items

pub returns-in_ok-extend_from_slice-3 : goal.returns-in_ok-extend_from_slice-3
returns-in_ok-extend_from_slice-3 c =
    rw (no_lines (written c.args.frames.now c.args.plan.now).steps (sym (c.has_steps.ensures c.args.frames.now) ∙ c.if-has_steps.false)) c.in_ok-extend_from_slice-3.ensures.items
