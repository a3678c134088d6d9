use Rattle.std.proofs.Common.{◌∙◌, ap, codes, Bor, List, map, ℕ, subst, sym}
use Rattle.clap.specs.Words.{App, fault_of, first_of, found_of, is_simple, is_simple_and_free, matches_of, one_of}
use Rattle.clap.proofs.WalkLemmas.{first_value-rows, one_text-rows}
use Rattle.df_words.specs.SessionLine.{IsFlagOf}
use Rattle.df_words.proofs.FlagFacts.{is_exact, is_free}
use Rattle.df_words.proofs.reading_command_line.parse.Goals as goal

pub returns-clause-says : goal.returns-clause-says
returns-clause-says c =
    let found = found_of c.in_ok-matches.matches in
    let is_line = c.in_ok-command.ensures in
    let same = (c.in_ok-matches.ensures.matches (ap is_simple is_line ∙ is_exact)).0 ∙ ap (λ (a : App). matches_of a (map (λ (w : Bor (List ℕ)). w.now) c.args.words.now)) is_line in
    record {
      views = c.said_in.ensures.views ∙ (first_value-rows found (codes "views") ∙ ap (first_of (codes "views")) same);
      hall = subst (λ text. IsFlagOf text c.said_in.result.hall) (one_text-rows found (codes "hall") ∙ ap (one_of (codes "hall")) same) c.said_in.ensures.hall;
      check = subst (λ text. IsFlagOf text c.said_in.result.check) (one_text-rows found (codes "check") ∙ ap (one_of (codes "check")) same) c.said_in.ensures.check;
      bail = subst (λ text. IsFlagOf text c.said_in.result.bail) (one_text-rows found (codes "bail") ∙ ap (one_of (codes "bail")) same) c.said_in.ensures.bail;
      framed = subst (λ text. IsFlagOf text c.said_in.result.framed) (one_text-rows found (codes "framed") ∙ ap (one_of (codes "framed")) same) c.said_in.ensures.framed;
      sql = subst (λ text. IsFlagOf text c.said_in.result.sql) (one_text-rows found (codes "sql") ∙ ap (one_of (codes "sql")) same) c.said_in.ensures.sql;
      report = c.said_in.ensures.report ∙ (first_value-rows found (codes "report") ∙ ap (first_of (codes "report")) same);
    }

pub returns-clause-refused : goal.returns-clause-refused
returns-clause-refused c =
    let is_line = c.in_ok-command.ensures in
    ap (λ (a : App). fault_of a (map (λ (w : Bor (List ℕ)). w.now) c.args.words.now)) (sym is_line) ∙ c.in_ok-matches.ensures.kinds (ap is_simple_and_free is_line ∙ is_free)
