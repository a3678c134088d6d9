use Rattle.std.proofs.Common.{◌≡◌, ℕ, List, [], drop, length}
use Rattle.std.specs.Prelude.{All}
use Rattle.df_document.specs.Sources.{IsSourceOf, pieces_of_sources}
use Rattle.df_document.specs.Answers.{AreKnown, MayFail}
use Rattle.df_document.specs.Opening.{results_after, pieces_in}
use Rattle.df_document.proofs.pieces.all_sources.Given as goal

abbrev pub invariant-loop-frame : goal.invariant-loop-frame
invariant-loop-frame g l = record {
  same : g.F.Files.file_at l.files ≡ g.F.Files.file_at l.initial.files;
  so_far : AreKnown (g.F.Files.file_at l.initial.files) l.frames →
      results_after (pieces_in (g.F.Files.file_at l.initial.files) l.chunk) [] l.frames
      ≡ results_after (pieces_in (g.F.Files.file_at l.initial.files) l.chunk) (pieces_of_sources l.all.items) (drop l.frame-index l.frames);
  may_fail : AreKnown (g.F.Files.file_at l.initial.files) l.frames →
      (name : List ℕ) → MayFail (g.F.Files.file_at l.initial.files) l.chunk (drop l.frame-index l.frames) name →
      MayFail (g.F.Files.file_at l.initial.files) l.chunk l.frames name;
  each : length l.all.items ≡ l.frame-index;
  sound : All (IsSourceOf l.chunk) l.all.items;
}
