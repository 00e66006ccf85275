-- The command line: the words after the program's name, each given by its bytes.
use Rattle.std.specs.Prelude.{ℕ, cond, List, [], ◌∷◌, ◌++◌, map, codes, Ok, Err, Result, ◌==◌}
use Rattle.std.specs.Prelude.{string_bytes}
use Rattle.std.specs.Result.{result_map_both}
use Rattle.std.specs.Str.{bytes_eq}
use Rattle.std.specs.declared.string.String.{String}
use Rattle.std.specs.declared.alloc.Global.{Global}
use Rattle.golden.specs.declared.command.Source.{Source}
use Rattle.golden.specs.declared.command.Source.TheVariants.{StandardInput, File}
use Rattle.golden.specs.declared.command.Command.{Command}
use Rattle.golden.specs.declared.command.Command.TheVariants.{List as ListCalls, Compare, Explain}
use Rattle.golden.specs.declared.command.Command.TheVariants.{Help, Version}
use Rattle.golden.specs.declared.command.UsageError.{UsageError}
use Rattle.golden.specs.declared.command.UsageError.TheVariants.{UnknownOption, ExtraWord}
use Rattle.golden.specs.declared.command.UsageError.TheVariants.{NoListing}

-- Where the calls come from.
pub data Input : Type 0 where
  standard_input : Input
  file : List ℕ → Input

-- What the program is to do.
pub data Action : Type 0 where
  list : Input → Action
  compare : List ℕ → Input → Action
  explain : Input → Action
  help : Action
  version : Action

-- Why a command line is refused.
pub data Misuse : Type 0 where
  unknown_option : List ℕ → Misuse
  extra_word : List ℕ → Misuse
  no_listing : Misuse

-- `result.map(f)`.
abbrev pub result_map : {A B : Type 0} → (A → B) → Result A Misuse → Result B Misuse
result_map f read = result_map_both f (λ why. why) read

-- A file's name. A word that begins with a dash is an option and names no file.
abbrev pub file_name : List ℕ → Result (List ℕ) Misuse
file_name [] = Ok []
file_name (c ∷ rest) = cond (c == 45) (Err (unknown_option (c ∷ rest))) (Ok (c ∷ rest))

-- The calls come from the one file that is named, or from standard input if none is.
abbrev pub input_named : List (List ℕ) → Result Input Misuse
input_named [] = Ok standard_input
input_named (word ∷ []) = result_map file (file_name word)
input_named (word ∷ next ∷ rest) = Err (extra_word next)

-- An action that takes no further words.
abbrev pub action_alone : Action → List (List ℕ) → Result Action Misuse
action_alone action [] = Ok action
action_alone action (word ∷ rest) = Err (extra_word word)

-- A comparison takes a listing's name, and then words that say where the calls come from.
abbrev pub compare_from : Result (List ℕ) Misuse → Result Input Misuse → Result Action Misuse
compare_from (Ok listing) calls = result_map (compare listing) calls
compare_from (Err why) calls = Err why

abbrev pub compare_named : List (List ℕ) → Result Action Misuse
compare_named [] = Err no_listing
compare_named (word ∷ rest) = compare_from (file_name word) (input_named rest)

-- The first word may be an option. Otherwise the words say where the calls to list come from.
abbrev pub action_named : List (List ℕ) → Result Action Misuse
action_named [] = Ok (list standard_input)
action_named (word ∷ rest) =
    cond (bytes_eq word (codes "--help")) (action_alone help rest)
    (cond (bytes_eq word (codes "--version")) (action_alone version rest)
    (cond (bytes_eq word (codes "--explain")) (result_map explain (input_named rest))
    (cond (bytes_eq word (codes "--compare")) (compare_named rest)
    (result_map list (input_named (word ∷ rest))))))

-- The program's own values, with each text by its bytes.
abbrev pub texts : List (String Global) → List (List ℕ)
texts words = map (λ (word : String Global). string_bytes word) words

abbrev pub input_of : Source → Input
input_of StandardInput = standard_input
input_of (File path) = file path.now

abbrev pub action_of : Command → Action
action_of (ListCalls calls) = list (input_of calls)
action_of (Compare listing calls) = compare listing.now (input_of calls)
action_of (Explain calls) = explain (input_of calls)
action_of Help = help
action_of Version = version

abbrev pub misuse_of : UsageError → Misuse
misuse_of (UnknownOption word) = unknown_option word.now
misuse_of (ExtraWord word) = extra_word word.now
misuse_of NoListing = no_listing

-- The sentence on standard error about a refused command line.
abbrev pub usage_text : UsageError → List ℕ
usage_text (UnknownOption word) = codes "there is no option "
    ++ (word.now ++ codes ", see golden --help")
usage_text (ExtraWord word) = word.now ++ codes " is a word too many, see golden --help"
usage_text NoListing = codes "--compare needs a listing, see golden --help"
