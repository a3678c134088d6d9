use Rattle.std.proofs.Common.{◌∙◌, ap, refl, sym}
use Rattle.std.specs.Prelude.{option_map, slice_set}
use Rattle.df_catalogue.specs.declared.staging.Staging.TheVariants.{Rows}
use Rattle.df_catalogue.specs.Staging.{staged_parts}
use Rattle.df_catalogue.proofs.StagingFacts.{can-commit, committed, nothing-staged, rows-committed, rows-room, rows-there}
use Rattle.df_catalogue.proofs.catalogue.Catalogue.commit_rows.Goals as goal

pub count_accepted-requires : goal.count_accepted-requires
count_accepted-requires g c =
    let parts = c.self.inside in
    let rows = c.in-Some.field-0 in
    let there = rows-there parts.staged rows (sym c.take_rows.ensures.rows ∙ c.in-Some.is) in
    let sound = can-commit parts.frames.items parts.views.items _ parts.staged (Rows rows) c.self.invariant.staging there in
    (rows-room parts.frames.items parts.views.items rows _ _ _ _ c.self.invariant.parts sound).0

pub count_deleted-requires : goal.count_deleted-requires
count_deleted-requires g c =
    let parts = c.self.inside in
    let rows = c.in-Some.field-0 in
    let there = rows-there parts.staged rows (sym c.take_rows.ensures.rows ∙ c.in-Some.is) in
    let sound = can-commit parts.frames.items parts.views.items _ parts.staged (Rows rows) c.self.invariant.staging there in
    (rows-room parts.frames.items parts.views.items rows _ _ _ _ c.self.invariant.parts sound).1

pub invariant_of-self-2 : goal.invariant_of-self-2
invariant_of-self-2 g c =
    let parts = c.self.inside in
    let rows = c.in-Some.field-0 in
    let there = rows-there parts.staged rows (sym c.take_rows.ensures.rows ∙ c.in-Some.is) in
    let sound = can-commit parts.frames.items parts.views.items _ parts.staged (Rows rows) c.self.invariant.staging there in
    let made = rows-committed parts.frames.items parts.views.items c.commit_all.new.views.items rows _ _ _ _ _ _ c.self.invariant.parts sound
    c.commit_all.ensures.headings (c.commit_all.ensures.live _ sound.leads) c.count_accepted.ensures.book c.count_deleted.ensures.book in
    nothing-staged _ _ _ _ _ _ _ _ c.take_rows.ensures.nothing made.1

pub returns-clause-made : goal.returns-clause-made
returns-clause-made g c =
    let parts = c.self.inside in
    let rows = c.in-Some.field-0 in
    let there = rows-there parts.staged rows (sym c.take_rows.ensures.rows ∙ c.in-Some.is) in
    let sound = can-commit parts.frames.items parts.views.items _ parts.staged (Rows rows) c.self.invariant.staging there in
    let made = rows-committed parts.frames.items parts.views.items c.commit_all.new.views.items rows _ _ _ _ _ _ c.self.invariant.parts sound
    c.commit_all.ensures.headings (c.commit_all.ensures.live _ sound.leads) c.count_accepted.ensures.book c.count_deleted.ensures.book in
    let frames = slice_set parts.frames.items rows.frame rows.changed in
    committed parts.frames.items parts.views.items _ parts.work parts.staged (Rows rows) parts.keeps _ _ _ c.self.view_is there made.0 refl
    (ap (option_map (staged_parts frames c.commit_all.new.views.items rows.work)) c.take_rows.ensures.nothing) made.1.legal refl c.commit_all.ensures.changes
