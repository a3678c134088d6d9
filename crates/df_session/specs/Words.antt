-- The words of a line: the fields of the record that `csv` (RFC 4180) reads in it with blanks in the place of commas,
-- several of which count as one.
use Rattle.std.specs.Prelude.{◌++◌, ◌==◌, ◌&&◌, ◌-◌, ◌<◌, ◌≡◌, List, ℕ, [], ◌∷◌, Bool, true, false, Option, Some, None, T, fold, if◌then◌else◌, length, not}
use Rattle.std.specs.List.{list_all}
use Rattle.csv.specs.Machine.{Read, next_record}
use Rattle.csv.specs.Reading.{strip_bom}
use Rattle.csv.specs.declared.parser.Config.{Config}
use Rattle.csv.specs.declared.parser.State.TheVariants as state
use Rattle.csv.specs.declared.parser.Terminator.TheVariants as end
use Rattle.df_session.specs.declared.words.Place.{Place}
use Rattle.df_session.specs.declared.words.Place.TheVariants as place

-- how words are read: a line has no line feed, so that it is one record
abbrev pub word_config : Config
word_config = record { delimiter = 32; quote = 34; escape = None; double_quote = true; quoting = true; comment = None; terminator = end.Any 10 }

abbrev pub fields_read : Option Read → List (List ℕ)
fields_read None = []
fields_read (Some p) = p.0

abbrev pub words_of_record : List ℕ → List (List ℕ)
words_of_record line = fields_read (next_record word_config state.StartRecord [] [] (strip_bom line))

-- a byte that is neither a quote nor a line feed
abbrev pub is_plain_byte : ℕ → Bool
is_plain_byte b = not (b == 34) && not (b == 10)

-- a line in which blanks alone have a meaning: it has a byte, no byte order mark at its start, and neither a quote nor a line
-- feed
abbrev pub IsPlain : List ℕ → Type 0
IsPlain line = (0 < length line) × (strip_bom line ≡ line) × T (list_all is_plain_byte line)

-- where the byte behind one stands: quotes begin where a word does, and a blank outside them ends a word
abbrev pub place_behind : Place → ℕ → Place
place_behind place.Between b = if b == 32 then place.Between else if b == 34 then place.Quoted else place.Plain
place_behind place.Plain b = if b == 32 then place.Between else place.Plain
place_behind place.Quoted b = if b == 34 then place.Closed else place.Quoted
place_behind place.Closed b = if b == 32 then place.Between else if b == 34 then place.Quoted else place.Plain

-- words so far with the first byte of one more, behind a blank if it is not the first
abbrev pub with_word : List ℕ → ℕ → List ℕ
with_word [] b = b ∷ []
with_word (k ∷ kept) b = (k ∷ kept) ++ 32 ∷ b ∷ []

-- what is kept of a line with one byte more: of blanks outside quotes one before each further word
abbrev pub kept_behind : List ℕ → Place → ℕ → List ℕ
kept_behind kept place.Between b = if b == 32 then kept else with_word kept b
kept_behind kept place.Plain b = if b == 32 then kept else kept ++ b ∷ []
kept_behind kept place.Quoted b = kept ++ b ∷ []
kept_behind kept place.Closed b = if b == 32 then kept else kept ++ b ∷ []

abbrev pub byte_read : List ℕ × Place → ℕ → List ℕ × Place
byte_read s b = (kept_behind s.0 s.1 b, place_behind s.1 b)

-- the line with one blank between two words, and none before the first or behind the last
abbrev pub single_blanked : List ℕ → List ℕ
single_blanked line = (fold byte_read ([], place.Between) line).0

abbrev pub words_in : List ℕ → List (List ℕ)
words_in line = words_of_record (single_blanked line)

-- whether a byte that stands so ends a word: a blank outside quotes behind a byte of the word
abbrev pub ends_word : Place → ℕ → Bool
ends_word place.Plain b = b == 32
ends_word place.Closed b = b == 32
ends_word at b = false

-- how many words are left behind a byte that stands so
abbrev pub left_behind : ℕ → Place → ℕ → ℕ
left_behind left at b = if ends_word at b then left - 1 else left

-- The bytes behind so many words of what is left of a line, and behind the blank that ends the last of them. Its first byte
-- stands so.
abbrev pub behind_words : ℕ → Place → List ℕ → List ℕ
behind_words left at [] = []
behind_words left at (b ∷ bs) = if left == 0 then b ∷ bs else behind_words (left_behind left at b) (place_behind at b) bs

-- the steps of a line that defines a view: all behind its first three words
abbrev pub steps_in : List ℕ → List ℕ
steps_in line = behind_words 3 place.Between line
