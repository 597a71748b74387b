-- Worked examples of validity, each by computation: a valid declaration, and each rule broken once.
use Rattle.std.proofs.Common.{◌≡◌, ℕ, zero, suc, true, false, List, [], ◌∷◌, Some, None, refl, pos, replicate}
use Rattle.wasm_types.specs.Signatures as sig
use Rattle.wasm_types.specs.FunctionParts.{ref_type}
use Rattle.wasm_types.specs.GlobalTypes.{global_parts}
use Rattle.wasm_types.specs.declared.plain.Finality.TheVariants.{Final}
use Rattle.wasm_types.specs.declared.plain.Mutability.TheVariants.{Const, Var}
use Rattle.wasm_types.specs.declared.value_types.HeapType.TheVariants as h
use Rattle.wasm_types.specs.declared.value_types.ValType.TheVariants as v
use Rattle.wasm_syntax.specs.FirstBroken.{broken, first_broken, place}
use Rattle.wasm_syntax.specs.Rules.{size}
use Rattle.wasm_syntax.specs.Shapes.{has_shape}
use Rattle.wasm_syntax.specs.declared.constants.ConstExpr.TheVariants as k
use Rattle.wasm_syntax.specs.declared.declarations.Block.{Block}
use Rattle.wasm_syntax.specs.declared.declarations.FuncDecl.{FuncDecl}
use Rattle.wasm_syntax.specs.declared.declarations.ModuleDecl.{ModuleDecl}
use Rattle.wasm_syntax.specs.declared.entities.EntityIndex.TheVariants as e
use Rattle.wasm_syntax.specs.declared.instr.Instr.TheVariants as i
use Rattle.wasm_syntax.specs.declared.module_fault.Part.TheVariants as part
use Rattle.wasm_syntax.specs.declared.module_fault.Rule.TheVariants as rule
use Rattle.wasm_syntax.specs.declared.segments.ElemMode.TheVariants as elem_mode
use Rattle.wasm_syntax.proofs.Samples.{block, function, full, no_items, quiet, table_of}

is_valid : first_broken full ≡ None
unfolding broken
is_valid = refl

abbrev with_function : FuncDecl → ModuleDecl
with_function f = record full { functions = function (block 0 [] ∷ []) ∷ f ∷ [] }

abbrev many : FuncDecl
many = record { ty = 3; locals = replicate 9999 v.I32; blocks = []; targets = [] }

-- 2 parameters and 9,999 locals
size_of_locals : broken rule.Size (with_function many) ≡ Some (place part.Functions 1)
unfolding broken
size_of_locals = refl

size_of_the_list : (size full).types 1000000 quiet ≡ true
size_of_the_list = refl

-- engine 2 in a module of engine 1
engine : first_broken (record full { types = quiet ∷ sig.signature 2 Final sig.root sig.end sig.end ∷ [] }) ≡ Some (rule.Engine, place part.Types 1)
unfolding broken
engine = refl

index_of_a_type : first_broken (with_function (function (block 4 [] ∷ []))) ≡ Some (rule.Index, place part.Functions 1)
unfolding broken
index_of_a_type = refl

index_of_an_export : first_broken (record full { exports = record { name = []; entity = e.Global 2 } ∷ [] }) ≡ Some (rule.Index, place part.Exports 0)
unfolding broken
index_of_an_export = refl

local : first_broken (with_function (record (function (block 0 [] ∷ [])) { locals = v.I32 ∷ v.Ref (ref_type false h.Func) ∷ [] })) ≡ Some (rule.Local, place part.Functions 1)
unfolding broken
local = refl

shape_without_a_block : first_broken (with_function (function [])) ≡ Some (rule.Shape, place part.Functions 1)
unfolding broken
shape_without_a_block = refl

shape_of_another_type : has_shape (function (block 1 [] ∷ [])) ≡ false
shape_of_another_type = refl

shape_of_a_tree : has_shape (function (block 0 (i.Loop 2 ∷ i.Block 1 ∷ []) ∷ block 0 [] ∷ block 0 (i.If 3 4 ∷ []) ∷ block 0 [] ∷ block 0 [] ∷ [])) ≡ true
shape_of_a_tree = refl

-- a block that names itself, one that is named twice, one that is not named, one that is not there
shape_of_a_cycle : has_shape (function (block 0 (i.Block 1 ∷ []) ∷ block 0 (i.Block 1 ∷ []) ∷ [])) ≡ false
shape_of_a_cycle = refl

shape_named_twice : has_shape (function (block 0 (i.Block 1 ∷ i.Block 1 ∷ []) ∷ block 0 [] ∷ [])) ≡ false
shape_named_twice = refl

shape_not_named : has_shape (function (block 0 [] ∷ block 0 [] ∷ [])) ≡ false
shape_not_named = refl

shape_not_there : has_shape (function (block 0 (i.Block 1 ∷ []) ∷ [])) ≡ false
shape_not_there = refl

shape_without_a_default : has_shape (record (function (block 0 [] ∷ [])) { targets = [] ∷ [] }) ≡ false
shape_without_a_default = refl

-- blocks from number n on, each of which names the next: the first k, and a last one
abbrev nested : ℕ → ℕ → List Block
nested zero n = block 0 [] ∷ []
nested (suc k) n = block 0 (i.Block (suc n) ∷ []) ∷ nested k (suc n)

deep_enough : has_shape (function (nested 255 0)) ≡ true
deep_enough = refl

too_deep : first_broken (with_function (function (nested 256 0))) ≡ Some (rule.Shape, place part.Functions 1)
unfolding broken
too_deep = refl

-- a start value that names a global defined after it, or a variable one
const_of_a_later_global : first_broken (record full { globals = record { ty = global_parts v.I32 Const; init = k.GlobalGet 1 } ∷ record { ty = global_parts v.I32 Const; init = k.I32 (pos 4) } ∷ [] }) ≡ Some (rule.Const, place part.Globals 0)
unfolding broken
const_of_a_later_global = refl

const_of_an_earlier_global : first_broken (record full { globals = record { ty = global_parts v.I32 Const; init = k.I32 (pos 4) } ∷ record { ty = global_parts v.I32 Const; init = k.GlobalGet 0 } ∷ [] }) ≡ None
unfolding broken
const_of_an_earlier_global = refl

const_of_a_variable : first_broken (record full { globals = record { ty = global_parts v.I32 Var; init = k.I32 (pos 4) } ∷ record { ty = global_parts v.I32 Const; init = k.GlobalGet 0 } ∷ [] }) ≡ Some (rule.Const, place part.Globals 1)
unfolding broken
const_of_a_variable = refl

-- a table may not name a defined global
const_of_a_table : first_broken (record full { tables = record { ty = table_of h.Func; init = k.GlobalGet 0 } ∷ [] }) ≡ Some (rule.Const, place part.Tables 0)
unfolding broken
const_of_a_table = refl

-- functions for a table of externs
element : first_broken (record full { elements = record { ty = ref_type true h.Func; mode = elem_mode.Active 1 (k.I32 (pos 0)); items = [] } ∷ [] }) ≡ Some (rule.Element, place part.Elements 0)
unfolding broken
element = refl

export_name : first_broken (record full { exports = record { name = 102 ∷ []; entity = e.Func 0 } ∷ record { name = 102 ∷ []; entity = e.Memory 0 } ∷ [] }) ≡ Some (rule.ExportName, place part.Exports 1)
unfolding broken
export_name = refl

start : first_broken (record full { functions = record { ty = 1; locals = []; blocks = block 1 (i.Const32 (pos 1) ∷ []) ∷ []; targets = [] } ∷ [] }) ≡ Some (rule.Start, place part.Start 0)
unfolding broken
start = refl

body : first_broken (with_function (function (block 0 (i.Drop ∷ []) ∷ []))) ≡ Some (rule.Body, place part.Functions 1)
unfolding broken
body = refl

-- by rule first: the export's index before the first function's code
in_order : first_broken (record full { functions = function (block 0 (i.Drop ∷ []) ∷ []) ∷ []; exports = record { name = []; entity = e.Table 3 } ∷ [] }) ≡ Some (rule.Index, place part.Exports 0)
unfolding broken
in_order = refl

empty_is_valid : first_broken no_items ≡ None
unfolding broken
empty_is_valid = refl
