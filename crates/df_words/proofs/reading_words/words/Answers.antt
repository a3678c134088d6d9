use Rattle.std.proofs.Common.{◌∙◌, ap, codes, arith, Bor, List, map, ℕ}
use Rattle.clap.specs.Words.{App, first_of, found_of, is_simple, matches_of, one_of}
use Rattle.clap.proofs.WalkLemmas.{first_value-rows, one_text-rows}
use Rattle.df_words.specs.RunLine.{number_or}
use Rattle.df_words.proofs.OptionFacts.{chunk_text, is_exact, number_in, workers_text}
use Rattle.df_words.proofs.reading_words.words.Goals as goal

pub words_in-requires-clause-workers : goal.words_in-requires-clause-workers
words_in-requires-clause-workers c = workers_text _ _ c.in_ok-matches.ensures.parsed c.in_ok-command.ensures

pub words_in-requires-clause-chunk : goal.words_in-requires-clause-chunk
words_in-requires-clause-chunk c = chunk_text _ _ c.in_ok-matches.ensures.parsed c.in_ok-command.ensures

pub returns-clause-says : goal.returns-clause-says
returns-clause-says c =
    let found = found_of c.in_ok-matches.matches in
    let is_line = c.in_ok-command.ensures in
    let same = (c.in_ok-matches.ensures.matches (ap is_simple is_line ∙ is_exact)).0 ∙ ap (λ (a : App). matches_of a (map (λ (w : Bor (List ℕ)). w.now) c.args.words.now)) is_line in
    record {
      views = c.words_in.ensures.views ∙ (first_value-rows found (codes "views") ∙ ap (first_of (codes "views")) same);
      workers = c.words_in.ensures.workers ∙ ap (number_or 4) (one_text-rows found (codes "workers") ∙ ap (one_of (codes "workers")) same);
      chunk = c.words_in.ensures.chunk ∙ ap (number_or 1000) (one_text-rows found (codes "chunk") ∙ ap (one_of (codes "chunk")) same);
    }

pub returns-clause-workers : goal.returns-clause-workers
returns-clause-workers c =
    let text = workers_text _ _ c.in_ok-matches.ensures.parsed c.in_ok-command.ensures in
    rw c.words_in.ensures.workers (number_in 1 16 4 _ text (omega arith) (omega arith))

pub returns-clause-chunk : goal.returns-clause-chunk
returns-clause-chunk c =
    let text = chunk_text _ _ c.in_ok-matches.ensures.parsed c.in_ok-command.ensures in
    rw c.words_in.ensures.chunk (number_in 1 65536 1000 _ text (omega arith) (omega arith))
