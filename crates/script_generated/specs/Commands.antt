-- The commands of generated sessions. This project's own.
use Rattle.std.specs.Prelude.{ℕ, zero, suc, ◌+◌, ◌*◌, pos, List, [], ◌∷◌, ◌++◌, None, codes}
use Rattle.wasm_values.specs.declared.values.Val.TheVariants.{I32}
use Rattle.spec_machine.specs.declared.command.Command.{Command}
use Rattle.spec_machine.specs.declared.command.Command.TheVariants.{Instantiate, Op}
use Rattle.spec_machine.specs.declared.name.Name.TheVariants.{Reply}
use Rattle.spec_machine.specs.declared.name.Operand.TheVariants as operand
use Rattle.spec_machine.specs.declared.operation.Op.TheVariants.{GetExport, Call, MemoryRead}

-- looks up what the instance, which is reply 0, exports under a name
abbrev pub export_of : List ℕ → Command
export_of name = Op (GetExport (Reply 0) name)

-- calls the exported function, which is reply 1, on a number
abbrev pub call_of : ℕ → Command
call_of k = Op (Call (Reply 1) (operand.Val (I32 (pos k)) ∷ []) None)

-- a call for each number from 1 to n
abbrev pub calls : ℕ → List Command
calls zero = []
calls (suc k) = calls k ++ call_of (suc k) ∷ []

-- an instance of the module, and its function
abbrev pub first_commands : List Command
first_commands = Instantiate 0 [] ∷ export_of (codes "f") ∷ []

-- its memory, which is the reply behind those of the calls, and what was stored at four times n
abbrev pub last_commands : ℕ → List Command
last_commands n = export_of (codes "m") ∷ Op (MemoryRead (Reply (n + 2)) (n * 4) 4) ∷ []

abbrev pub generated_commands : ℕ → List Command
generated_commands n = (first_commands ++ calls n) ++ last_commands n
