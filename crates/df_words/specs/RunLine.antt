-- What the words of `dfviews` say, over `clap`'s own words.
use Rattle.std.specs.Prelude.{◌≡◌, ℕ, List, Option, Some, true, codes, option_map}
use Rattle.std.specs.Option.{option_map_or}
use Rattle.std.specs.Str.Parse.{digits_value, without_leading_plus}
use Rattle.clap.specs.Words.{App, Rule, first_of, matches_of, new_app, new_rule, one_of, with_rule}
use Rattle.clap.specs.declared.builder.value_parser.ValueParser.TheVariants as parser
use Rattle.df_words.specs.declared.run_line.Words.{Words}

-- the program's name is not among the words
abbrev pub program_app : App
program_app = record (new_app (codes "dfviews")) {
  top = record (new_app (codes "dfviews")).top { no_binary_name = true; has_version = true };
}

abbrev pub views_rule : Rule
views_rule = record (new_rule (codes "views")) { value_names = 1 }

-- an option with a number from 1 on
abbrev pub number_rule : List ℕ → ℕ → Rule
number_rule name most =
    record (new_rule name) { long = Some name; value_names = 1; parser = Some (parser.Unsigned 1 most) }

-- the command line: [VIEWS] [--workers 1..16] [--chunk 1..65536]
abbrev pub command_line : App
command_line =
    with_rule (with_rule (with_rule program_app views_rule) (number_rule (codes "workers") 16)) (number_rule (codes "chunk") 65536)

-- the number that stands behind an option, or the number that it has without one
abbrev pub number_or : ℕ → Option (List ℕ) → ℕ
number_or missing text = option_map_or (λ t. digits_value 10 (without_leading_plus t)) text missing

-- The words say this: the word that belongs to no option, and the numbers of the options.
pub record Says (words : List (List ℕ)) (w : Words) : Type 0 where
  pub views : option_map (λ v. v.now) w.views ≡ first_of (codes "views") (matches_of command_line words)
  pub workers : w.workers ≡ number_or 4 (one_of (codes "workers") (matches_of command_line words))
  pub chunk : w.chunk ≡ number_or 1000 (one_of (codes "chunk") (matches_of command_line words))
