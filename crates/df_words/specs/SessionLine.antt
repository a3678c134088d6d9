-- What the words of `dfshell` say, over `clap`'s own words.
use Rattle.std.specs.Prelude.{◌≡◌, ◌⊎◌, ◌||◌, ℕ, Bool, true, false, List, [], Option, Some, None, Result, MatchResult, codes, is_some, option_map}
use Rattle.clap.specs.Kinds.{HasKind}
use Rattle.clap.specs.Values.{kind_of}
use Rattle.clap.specs.declared.error.Error.{Error}
use Rattle.clap.specs.Words.{App, Rule, fault_of, first_of, matches_of, new_app, new_rule, one_of, with_rule}
use Rattle.clap.specs.declared.error.kind.ErrorKind.TheVariants.{MissingRequiredArgument}
use Rattle.clap.specs.declared.builder.action.ArgAction.TheVariants.{SetTrue}
use Rattle.df_words.specs.declared.session_line.CommandLine.{CommandLine}

-- the program's name is not among the words
abbrev pub program_app : App
program_app = record (new_app (codes "dfshell")) {
  top = record (new_app (codes "dfshell")).top { no_binary_name = true; has_version = true };
}

abbrev pub views_rule : Rule
views_rule = record (new_rule (codes "views")) { value_names = 1 }

-- a word that stands in the line or does not
abbrev pub flag_rule : List ℕ → Rule
flag_rule name = record (new_rule name) { long = Some name; action = Some SetTrue }

-- an option with a text
abbrev pub text_rule : List ℕ → Rule
text_rule name = record (new_rule name) { long = Some name; value_names = 1 }

-- the command line up to its first flags
abbrev pub document_line : App
document_line = with_rule (with_rule (with_rule program_app views_rule) (flag_rule (codes "hall"))) (flag_rule (codes "check"))

-- the command line with all of its flags
abbrev pub flags_line : App
flags_line = with_rule (with_rule (with_rule document_line (flag_rule (codes "bail"))) (flag_rule (codes "framed"))) (flag_rule (codes "sql"))

-- the command line: [--hall] [--check] [--bail] [--framed] [--sql] [--report PATH] [VIEWS]
unfoldable pub command_line : App
command_line = with_rule flags_line (text_rule (codes "report"))

-- whether a flag stands, by its text: none where it is no flag of the command
abbrev pub IsFlagOf : Option (List ℕ) → Bool → Type 0
IsFlagOf None stands = stands ≡ false
IsFlagOf (Some text) stands = (text ≡ codes "true" → stands ≡ true) × (text ≡ codes "false" → stands ≡ false)

-- The words say this: the path of the document, which flags stand, and the path of a page.
pub record Says (words : List (List ℕ)) (line : CommandLine) : Type 0 where
  pub views : option_map (λ v. v.now) line.views ≡ first_of (codes "views") (matches_of command_line words)
  pub hall : IsFlagOf (one_of (codes "hall") (matches_of command_line words)) line.hall
  pub check : IsFlagOf (one_of (codes "check") (matches_of command_line words)) line.check
  pub bail : IsFlagOf (one_of (codes "bail") (matches_of command_line words)) line.bail
  pub framed : IsFlagOf (one_of (codes "framed") (matches_of command_line words)) line.framed
  pub sql : IsFlagOf (one_of (codes "sql") (matches_of command_line words)) line.sql
  pub report : option_map (λ v. v.now) line.report ≡ first_of (codes "report") (matches_of command_line words)

-- a check of no document, the SQL of none, or a page of none
abbrev pub LacksDocument : CommandLine → Type 0
LacksDocument line = (((line.check || line.sql) || is_some line.report) ≡ true) × (line.views ≡ None)

-- Why the words are refused: by clap's own rules; or, where these refuse nothing, for a check, the SQL or a page of no document.
abbrev pub IsRefusalOfWords : List (List ℕ) → Error → Type 0
IsRefusalOfWords words e =
    HasKind (fault_of command_line words) e
    ⊎ ((kind_of e ≡ MissingRequiredArgument) × (line : CommandLine) × Says words line × LacksDocument line)

-- the words are refused just where there is a reason for it
abbrev pub IsRead : List (List ℕ) → Result CommandLine Error → Type 0
IsRead words result = MatchResult result (λ line. (fault_of command_line words ≡ []) × ¬ LacksDocument line) (IsRefusalOfWords words)
