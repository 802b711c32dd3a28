-- The commands, and the words that spell them.
use Rattle.std.specs.Prelude.{◌≡◌, ℕ, ◌≤◌, ◌==◌, Bool, true, not, List, [], ◌∷◌, length, Option, Some, None, codes, ◌&&◌, nat_le, option_map, option_and_then, IsTrue, if◌then◌else◌, ⊤}
use Rattle.std.specs.Fmt.{decimal}
use Rattle.std.specs.List.{list_all, slice_split}
use Rattle.std.specs.Str.{bytes_eq}
use Rattle.std.specs.Str.Parse.{digits_value}
use Rattle.csv_tables.specs.Records.{repeats}
use Rattle.key_spec.specs.Names.{is_name}
use Rattle.version_notes.specs.Notes.{is_printed}

-- a command, with the names that its words give
pub data PlainCommand : Type 0 where
  -- the specification and the document
  norm : List ℕ → List ℕ → PlainCommand
  -- the archive and the specification
  init : List ℕ → List ℕ → PlainCommand
  -- the archive, the document, and the note, which is empty where none is given
  add : List ℕ → List ℕ → List ℕ → PlainCommand
  -- the archive and the specification
  rekey : List ℕ → List ℕ → PlainCommand
  -- the archive and the number of a version
  get : List ℕ → ℕ → PlainCommand
  -- the archive and the path of an element
  history : List ℕ → List ℕ → PlainCommand
  -- the archive and the path of an element
  log : List ℕ → List ℕ → PlainCommand
  -- the archive
  check : List ℕ → PlainCommand
  -- the archive
  stats : List ℕ → PlainCommand
  -- the archive
  versions : List ℕ → PlainCommand
  -- the archive
  export : List ℕ → PlainCommand
  -- the text and the new archive
  import : List ℕ → List ℕ → PlainCommand
  -- the archive, the new archive, and the numbers of its first version and its last
  cut : List ℕ → List ℕ → ℕ → ℕ → PlainCommand
  -- the archive whose versions come first, the one whose come behind them, and the new archive
  join : List ℕ → List ℕ → List ℕ → PlainCommand
  -- the table, the tag of its document, the names of its key columns, and the document
  table : List ℕ → List ℕ → List ℕ → List ℕ → PlainCommand
  -- the tag of a table's document, the names of its key columns, and the specification
  tablekeys : List ℕ → List ℕ → List ℕ → PlainCommand
  -- the commands that the input spells
  batch : PlainCommand
  -- the seed, the number of versions, and the archive
  demo : ℕ → ℕ → List ℕ → PlainCommand

-- the number of at most 32 bits whose decimal text the word is: no sign, and no zero in front
unfoldable pub number_of : List ℕ → Option ℕ
number_of word = if bytes_eq word (decimal (digits_value 10 word)) && nat_le (digits_value 10 word) 4294967295 then Some (digits_value 10 word) else None

abbrev pub command_of_one : List ℕ → Option PlainCommand
command_of_one word = if bytes_eq word (codes "batch") then Some batch else None

abbrev pub command_of_two : List ℕ → List ℕ → Option PlainCommand
command_of_two word archive =
    if bytes_eq word (codes "check") then Some (check archive)
    else (if bytes_eq word (codes "stats") then Some (stats archive)
    else (if bytes_eq word (codes "versions") then Some (versions archive)
    else (if bytes_eq word (codes "export") then Some (export archive)
    else None)))

-- what a command reads from an archive
unfoldable pub question_of : List ℕ → List ℕ → List ℕ → Option PlainCommand
question_of word archive what =
    if bytes_eq word (codes "get") then option_map (get archive) (number_of what)
    else (if bytes_eq word (codes "history") then Some (history archive what)
    else (if bytes_eq word (codes "log") then Some (log archive what)
    else None))

unfoldable pub command_of_three : List ℕ → List ℕ → List ℕ → Option PlainCommand
command_of_three word first second =
    if bytes_eq word (codes "norm") then Some (norm first second)
    else (if bytes_eq word (codes "init") then Some (init first second)
    else (if bytes_eq word (codes "add") then Some (add first second [])
    else (if bytes_eq word (codes "rekey") then Some (rekey first second)
    else (if bytes_eq word (codes "import") then Some (import first second)
    else question_of word first second))))

-- a seed and a number of versions, both of which are numbers
abbrev pub demo_of : List ℕ → List ℕ → List ℕ → Option PlainCommand
demo_of seed count archive = option_and_then (λ s. option_map (λ c. demo s c archive) (number_of count)) (number_of seed)

-- a document with a note, in which no byte is below 20 hexadecimal
abbrev pub noted : List ℕ → List ℕ → List ℕ → Option PlainCommand
noted archive doc note = if is_printed note then Some (add archive doc note) else None

-- the names between the commas of a word
abbrev pub key_names : List ℕ → List (List ℕ)
key_names word = slice_split (λ b. b == 44) word

-- at most 16 names, all different
unfoldable pub are_keys : List ℕ → Bool
are_keys word = nat_le (length (key_names word)) 16 && (list_all is_name (key_names word) && not (repeats [] (key_names word)))

-- the same of the specification alone
abbrev pub tablekeys_of : List ℕ → List ℕ → List ℕ → Option PlainCommand
tablekeys_of tag keys spec = if is_name tag && are_keys keys then Some (tablekeys tag keys spec) else None

abbrev pub command_of_four : List ℕ → List ℕ → List ℕ → List ℕ → Option PlainCommand
command_of_four word first second third =
    if bytes_eq word (codes "add") then noted first second third
    else (if bytes_eq word (codes "demo") then demo_of first second third
    else (if bytes_eq word (codes "tablekeys") then tablekeys_of first second third
    else (if bytes_eq word (codes "join") then Some (join first second third)
    else None)))

-- the numbers of the versions, the first of which is not behind the last
abbrev pub cut_of : List ℕ → List ℕ → List ℕ → List ℕ → Option PlainCommand
cut_of archive new first last = option_and_then (λ i. option_and_then (λ j. if nat_le i j then Some (cut archive new i j) else None) (number_of last)) (number_of first)

-- a tag that is a name, and names of key columns
abbrev pub table_of : List ℕ → List ℕ → List ℕ → List ℕ → Option PlainCommand
table_of csv tag keys doc = if is_name tag && are_keys keys then Some (table csv tag keys doc) else None

unfoldable pub command_of_five : List ℕ → List ℕ → List ℕ → List ℕ → List ℕ → Option PlainCommand
command_of_five word first second third fourth =
    if bytes_eq word (codes "cut") then cut_of first second third fourth
    else (if bytes_eq word (codes "table") then table_of first second third fourth
    else None)

-- the command that the words spell, if any
abbrev pub command_of : List (List ℕ) → Option PlainCommand
command_of (word ∷ []) = command_of_one word
command_of (word ∷ first ∷ []) = command_of_two word first
command_of (word ∷ first ∷ second ∷ []) = command_of_three word first second
command_of (word ∷ first ∷ second ∷ third ∷ []) = command_of_four word first second third
command_of (word ∷ first ∷ second ∷ third ∷ fourth ∷ []) = command_of_five word first second third fourth
command_of _ = None

-- the tag and the key columns of a table's document are as they should be
pub record AreForTable (tag keys : List ℕ) : Type 0 where
  pub named : is_name tag ≡ true
  pub keyed : are_keys keys ≡ true

-- What words that spell a command have seen to: the note of an `add` has no byte below 20 hexadecimal, a `cut` has its first version not behind its last,
-- and a table has a tag and names of key columns.
abbrev pub IsSpelled : PlainCommand → Type 0
IsSpelled (add archive doc note) = IsTrue (is_printed note)
IsSpelled (cut archive new first last) = first ≤ last
IsSpelled (table csv tag keys doc) = AreForTable tag keys
IsSpelled (tablekeys tag keys spec) = AreForTable tag keys
IsSpelled other = ⊤
