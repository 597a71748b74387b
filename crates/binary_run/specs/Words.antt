-- The words of the command: options, each with a number behind it, then the name of an export, and its arguments. This
-- project's own.
use Rattle.std.specs.Prelude.{ℕ, List, [], ◌∷◌, if◌then◌else◌, Option, Some, None, option_and_then, option_map, codes, map, string_bytes}
use Rattle.std.specs.Str.{bytes_eq}
use Rattle.spec_machine.specs.Machine.{are_engine_limits}
use Rattle.binary_run.specs.Numbers.{unsigned}
use Rattle.binary_run.specs.declared.options.OptionName.{OptionName}
use Rattle.binary_run.specs.declared.options.OptionName.TheVariants.{Fuel, Turns, Pages, Elements, In}
use Rattle.binary_run.specs.declared.options.Options.{Options}
use Rattle.binary_run.specs.declared.words.CallWords.{CallWords}

-- without options code consumes no fuel, a command may take as many turns as an engine may have, all memories may have
-- 16,384 pages together, which is 1 GiB, all tables 10,000,000 elements, and a call is given no bytes
abbrev pub no_options : Options
no_options = record { fuel = None; turns = 1000000000; pages = 16384; elements = 10000000; bytes = None }

abbrev pub option_named : List ℕ → Option OptionName
option_named word =
    if bytes_eq word (codes "--fuel") then Some Fuel else
    (if bytes_eq word (codes "--turns") then Some Turns else
    (if bytes_eq word (codes "--pages") then Some Pages else
    (if bytes_eq word (codes "--elements") then Some Elements else
    (if bytes_eq word (codes "--in") then Some In else None))))

-- as many frames as the engine has, and as many turns as an engine may have
abbrev pub frames : ℕ
frames = 1024

abbrev pub with_turns : Options → ℕ → Option Options
with_turns options n = if are_engine_limits frames n then Some (record options { turns = n }) else None

-- the number of an option: fuel of 64 bits, turns from 1 to 1,000,000,000, pages, elements and bytes of 32 bits
abbrev pub with_number : Options → OptionName → List ℕ → Option Options
with_number options Fuel word = option_map (λ n. record options { fuel = Some n }) (unsigned 64 word)
with_number options Turns word = option_and_then (with_turns options) (unsigned 64 word)
with_number options Pages word = option_map (λ n. record options { pages = n }) (unsigned 32 word)
with_number options Elements word = option_map (λ n. record options { elements = n }) (unsigned 32 word)
with_number options In word = option_map (λ n. record options { bytes = Some n }) (unsigned 32 word)

-- what the words ask for
pub record Asked : Type 0 where
  pub options : Options
  pub name : List ℕ
  pub arguments : List (List ℕ)

abbrev pub asked_for : Options → List ℕ → List (List ℕ) → Asked
asked_for options name arguments = record { options = options; name = name; arguments = arguments }

-- and as the program holds it
abbrev pub asked_of : CallWords → Asked
asked_of words = asked_for words.options words.name.now (map string_bytes words.arguments.now)

-- behind these options: of an option that is named twice the last number counts; the first word that names none is the name
-- of the export
abbrev mutual
  pub asked_behind : Options → List (List ℕ) → Option Asked
  asked_behind options [] = None
  asked_behind options (word ∷ words) = asked_by options (option_named word) word words

  pub asked_by : Options → Option OptionName → List ℕ → List (List ℕ) → Option Asked
  asked_by options None word words = Some (asked_for options word words)
  asked_by options (Some name) word [] = None
  asked_by options (Some name) word (number ∷ words) =
      option_and_then (λ more. asked_behind more words) (with_number options name number)

abbrev pub asked : List (List ℕ) → Option Asked
asked words = asked_behind no_options words
