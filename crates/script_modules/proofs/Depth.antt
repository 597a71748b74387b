-- Code within a depth.
use Rattle.std.proofs.Common.{◌≡◌, ℕ, zero, suc, ◌-◌, ◌<◌, List, Option, None, Result, refl, sym, subst, arith}
use Rattle.serde_json.specs.Data.{Data}
use Rattle.script_json.specs.declared.faults.ScriptFault.{ScriptFault}
use Rattle.wasm_syntax.specs.declared.instr.Instr.{Instr}
use Rattle.script_modules.specs.Code.{list_by, code_to}
use Rattle.script_modules.specs.CodeParts.{ReadsIn}
use Rattle.script_modules.specs.declared.code_parts.CodeParts.{CodeParts}

pub code_none : (n : ℕ) (d : Data) (parts : CodeParts) → n ≡ 0 → code_to n d parts ≡ None
unfolding code_to
code_none zero d parts e = refl
code_none (suc n) d parts e = absurd (omega arith)

pub code_less : (n : ℕ) (d : Data) (parts : CodeParts) → 0 < n → code_to n d parts ≡ list_by (code_to (n - 1)) d parts
unfolding code_to
code_less zero d parts h = absurd (omega arith)
code_less (suc n) d parts h = let e : suc n - 1 ≡ n = omega arith in rw e refl

pub reads_less : (n : ℕ) (d : Data) (parts : CodeParts) (r : Result (List Instr) ScriptFault) (left : CodeParts) → 0 < n → ReadsIn (list_by (code_to (n - 1)) d parts) r left → ReadsIn (code_to n d parts) r left
reads_less n d parts r left h k = let P : Option (List Instr × CodeParts) → Type 0 = λ o. ReadsIn o r left in subst P (sym (code_less n d parts h)) k
