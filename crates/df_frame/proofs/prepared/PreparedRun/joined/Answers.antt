use Rattle.std.proofs.Common.{◌∙◌, ap, subst, sym}
use Rattle.std.specs.Arc.{arc_value}
use Rattle.std.specs.FinMap as finite
use Rattle.df_value.specs.Chunks.{ChunkParts}
use Rattle.std.specs.Prelude.{T}
use Rattle.std.specs.List.{list_all}
use Rattle.std.proofs.lemmas.List.Folds.{list_all-append}
use Rattle.df_column.specs.Changes.{applied}
use Rattle.df_column.specs.Tables.{TableParts}
use Rattle.df_delta.specs.Deltas.{has_row}
use Rattle.df_delta.proofs.Collected.{T-both}
use Rattle.df_frame.specs.Prepared.{run_in}
use Rattle.df_frame.specs.Runs.{GoesOn, run_of_both}
use Rattle.df_frame.proofs.PreparedFacts.{both-entries-delta, run-joined}
use Rattle.df_frame.proofs.prepared.PreparedRun.joined.Goals as goal

pub from_entries-delta-requires : goal.from_entries-delta-requires
from_entries-delta-requires c =
    let run = run_in (arc_value c.self.inside.table) c.self.inside.first in
    let next = run_in (arc_value c.next.inside.table) c.next.inside.first in
    let goes : GoesOn run next = subst (λ (x : ChunkParts). GoesOn x next) (sym c.self.view_is) (subst (GoesOn c.args.self) (sym c.next.view_is) c.requires) in
    let own = c.into_entries-entries.result.items in
    let more = c.into_entries-more.result.items in
    let delta = both-entries-delta run next goes own more _ (c.into_entries-entries.ensures.all ∙ ap finite.entries c.self.invariant.delta_is)
    (c.into_entries-more.ensures.all ∙ ap finite.entries c.next.invariant.delta_is) c.in_ok-append.ensures.items in
    record {
      rising = delta.0;
      rows =
          subst (λ es. T (list_all has_row es)) (sym c.in_ok-append.ensures.items)
          (subst T (sym (list_all-append has_row own more)) (T-both (list_all has_row own) (list_all has_row more) c.into_entries-entries.ensures.sound.rows c.into_entries-more.ensures.sound.rows));
    }

pub with_table-requires : goal.with_table-requires
with_table-requires c =
    let run = run_in (arc_value c.self.inside.table) c.self.inside.first in
    let next = run_in (arc_value c.next.inside.table) c.next.inside.first in
    let goes : GoesOn run next = subst (λ (x : ChunkParts). GoesOn x next) (sym c.self.view_is) (subst (GoesOn c.args.self) (sym c.next.view_is) c.requires) in
    let own = c.into_entries-entries.result.items in
    let more = c.into_entries-more.result.items in
    let delta = both-entries-delta run next goes own more _ (c.into_entries-entries.ensures.all ∙ ap finite.entries c.self.invariant.delta_is)
    (c.into_entries-more.ensures.all ∙ ap finite.entries c.next.invariant.delta_is) c.in_ok-append.ensures.items in
    let joined =
    run-joined run next c.self.invariant.sound c.next.invariant.sound goes c.deref.result.now (arc_value c.in_ok-table.table) c.next.inside.delta c.from_entries-delta.result
    (ap (λ (u : TableParts). u.schema) c.deref.ensures)
    (ap (λ (u : TableParts). u.rows) c.deref.ensures ∙ (c.self.invariant.rows_are ∙ ap (applied finite.empty) c.self.invariant.delta_is)) c.next.invariant.delta_is
    (c.from_entries-delta.ensures ∙ delta.1) (ap (λ (u : TableParts). u.schema) c.in_ok-table.ensures.ok ∙ c.in_ok-apply.ensures.schema)
    (λ fits. ap (λ (u : TableParts). u.rows) c.in_ok-table.ensures.ok ∙ c.in_ok-apply.ensures.rows fits) in
    ap (λ (u : TableParts). u.rows) c.in_ok-try_clone.ensures ∙ joined.0.rows_are

pub invariant_of-result : goal.invariant_of-result
invariant_of-result c =
    let run = run_in (arc_value c.self.inside.table) c.self.inside.first in
    let next = run_in (arc_value c.next.inside.table) c.next.inside.first in
    let goes : GoesOn run next = subst (λ (x : ChunkParts). GoesOn x next) (sym c.self.view_is) (subst (GoesOn c.args.self) (sym c.next.view_is) c.requires) in
    let own = c.into_entries-entries.result.items in
    let more = c.into_entries-more.result.items in
    let delta = both-entries-delta run next goes own more _ (c.into_entries-entries.ensures.all ∙ ap finite.entries c.self.invariant.delta_is)
    (c.into_entries-more.ensures.all ∙ ap finite.entries c.next.invariant.delta_is) c.in_ok-append.ensures.items in
    let joined =
    run-joined run next c.self.invariant.sound c.next.invariant.sound goes c.deref.result.now (arc_value c.in_ok-table.table) c.next.inside.delta c.with_table.result
    (ap (λ (u : TableParts). u.schema) c.deref.ensures)
    (ap (λ (u : TableParts). u.rows) c.deref.ensures ∙ (c.self.invariant.rows_are ∙ ap (applied finite.empty) c.self.invariant.delta_is)) c.next.invariant.delta_is
    (c.with_table.ensures ∙ (c.from_entries-delta.ensures ∙ delta.1)) (ap (λ (u : TableParts). u.schema) c.in_ok-table.ensures.ok ∙ c.in_ok-apply.ensures.schema)
    (λ fits. ap (λ (u : TableParts). u.rows) c.in_ok-table.ensures.ok ∙ c.in_ok-apply.ensures.rows fits) in
    joined.0

pub returns : goal.returns
returns c =
    let run = run_in (arc_value c.self.inside.table) c.self.inside.first in
    let next = run_in (arc_value c.next.inside.table) c.next.inside.first in
    let goes : GoesOn run next = subst (λ (x : ChunkParts). GoesOn x next) (sym c.self.view_is) (subst (GoesOn c.args.self) (sym c.next.view_is) c.requires) in
    let own = c.into_entries-entries.result.items in
    let more = c.into_entries-more.result.items in
    let delta = both-entries-delta run next goes own more _ (c.into_entries-entries.ensures.all ∙ ap finite.entries c.self.invariant.delta_is)
    (c.into_entries-more.ensures.all ∙ ap finite.entries c.next.invariant.delta_is) c.in_ok-append.ensures.items in
    let joined =
    run-joined run next c.self.invariant.sound c.next.invariant.sound goes c.deref.result.now (arc_value c.in_ok-table.table) c.next.inside.delta c.with_table.result
    (ap (λ (u : TableParts). u.schema) c.deref.ensures)
    (ap (λ (u : TableParts). u.rows) c.deref.ensures ∙ (c.self.invariant.rows_are ∙ ap (applied finite.empty) c.self.invariant.delta_is)) c.next.invariant.delta_is
    (c.with_table.ensures ∙ (c.from_entries-delta.ensures ∙ delta.1)) (ap (λ (u : TableParts). u.schema) c.in_ok-table.ensures.ok ∙ c.in_ok-apply.ensures.schema)
    (λ fits. ap (λ (u : TableParts). u.rows) c.in_ok-table.ensures.ok ∙ c.in_ok-apply.ensures.rows fits) in
    joined.1 ∙ λ i. run_of_both (c.self.view_is i) (c.next.view_is i)
