-- A linker: what each pair of names means, and whether a pair may be defined again; and what the calls on it make of it.
-- This project's own.
use Rattle.std.specs.Prelude.{◌≡◌, ℕ, Bool, false, not, ◌&&◌, if◌then◌else◌, List, [], Option, Some, None, is_some, unwrap_or, Result, Ok, Err, IsOk}
use Rattle.std.specs.BTreeMap as ordered
use Rattle.std.specs.Cmp.Lexicographic.{slice_cmp}
use Rattle.std.specs.Map.{lookup}
use Rattle.std.specs.Ordering.{nat_cmp}
use Rattle.std.specs.Str.{bytes_eq}
use Rattle.indexmap.specs.IndexMap.{insert_entry}
use Rattle.wasm_values.specs.declared.externals.Extern.{Extern}
use Rattle.linker_map.specs.declared.faults.LinkFault.{LinkFault}
use Rattle.linker_map.specs.declared.faults.LinkFault.TheVariants.{AlreadyDefined, UnknownName, OutOfMemory}

-- an object under its second name, and the objects of a first name
abbrev pub Entry : Type 0
Entry = List ℕ × Extern

abbrev pub Space : Type 0
Space = List ℕ × List Entry

-- each name once: the first names in the order in which they were defined first, the second in the order of their bytes
pub record LinkerParts : Type 0 where
  pub spaces : List Space
  pub shadowing : Bool

abbrev pub nothing : LinkerParts
nothing = record { spaces = []; shadowing = false }

-- ---- what a pair of names means

abbrev pub entries_of : List Space → List ℕ → List Entry
entries_of spaces space = unwrap_or (lookup (bytes_eq space) spaces) []

abbrev pub found : LinkerParts → List ℕ → List ℕ → Option Extern
found l space name = lookup (bytes_eq name) (entries_of l.spaces space)

-- a pair that is there may be defined again only under shadowing
abbrev pub is_taken : LinkerParts → List ℕ → List ℕ → Bool
is_taken l space name = not l.shadowing && is_some (found l space name)

-- ---- what the calls make of a linker

-- the second name means this object from now on
abbrev pub with_name : List Entry → List ℕ → Extern → List Entry
with_name entries name item = ordered.insert_entry (slice_cmp nat_cmp) entries name item

-- the pair means this object from now on, and nothing else changes
abbrev pub with_item : List ℕ → List ℕ → Extern → LinkerParts → LinkerParts
with_item space name item l =
    record l { spaces = insert_entry bytes_eq l.spaces space (with_name (entries_of l.spaces space) name item) }

abbrev pub define_item : List ℕ → List ℕ → Extern → LinkerParts → Result LinkerParts LinkFault
define_item space name item l = if is_taken l space name then Err AlreadyDefined else Ok (with_item space name item l)

abbrev pub define_found : Option Extern → List ℕ → List ℕ → LinkerParts → Result LinkerParts LinkFault
define_found None space name l = Err UnknownName
define_found (Some item) space name l = define_item space name item l

-- the second pair means what the first means
abbrev pub alias : List ℕ → List ℕ → List ℕ → List ℕ → LinkerParts → Result LinkerParts LinkFault
alias space name as_space as_name l = define_found (found l space name) as_space as_name l

-- the fault that is due; but where none is, memory ran out
abbrev pub Refuses : Result LinkerParts LinkFault → LinkFault → Type 0
Refuses due OutOfMemory = IsOk due
Refuses due why = due ≡ Err why
