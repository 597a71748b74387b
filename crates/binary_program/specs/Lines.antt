-- The line that the program writes: how many entries a module has, or what is wrong with the bytes. This project's own.
use Rattle.std.specs.Prelude.{ℕ, List, [], ◌++◌, length, codes, Result, Ok, Err}
use Rattle.std.specs.Fmt.{decimal}
use Rattle.wasm_syntax.specs.declared.declarations.ModuleDecl.{ModuleDecl}
use Rattle.binary_types.specs.declared.faults.BinaryFault.{BinaryFault}
use Rattle.binary_types.specs.declared.faults.BinaryFault.TheVariants.{Malformed, Unsupported, Index, Alignment, Refused, OutOfMemory}

-- a word, a number in decimal, and what follows
abbrev pub counted : List ℕ → ℕ → List ℕ → List ℕ
counted word n rest = word ++ (decimal n ++ rest)

abbrev pub functions_part : ModuleDecl → List ℕ
functions_part m =
    counted (codes " functions ") (length m.functions) (counted (codes " exports ") (length m.exports) (codes "\n"))

-- types that blocks added are counted with those of the type section
abbrev pub module_line : ModuleDecl → List ℕ
module_line m =
    counted (codes "module types ") (length m.types) (counted (codes " imports ") (length m.imports) (functions_part m))

-- want of memory has no line
abbrev pub fault_line : BinaryFault → List ℕ
fault_line Malformed = codes "malformed\n"
fault_line (Unsupported at code) = counted (codes "unsupported ") at (counted (codes " ") code (codes "\n"))
fault_line (Index at) = counted (codes "index ") at (codes "\n")
fault_line (Alignment at) = counted (codes "alignment ") at (codes "\n")
fault_line (Refused at fault) = counted (codes "refused ") at (codes "\n")
fault_line OutOfMemory = []

abbrev pub line_of : Result ModuleDecl BinaryFault → List ℕ
line_of (Ok m) = module_line m
line_of (Err fault) = fault_line fault
