-- Each function type in another is less deep: the law by which a recursion over function types ends.
use Rattle.std.specs.Prelude.{◌≤◌, ◌+◌, max, List, [], ◌∷◌, Option, Some, None}
use Rattle.std.proofs.Common.{arith}
use denote.Param.Weighed.{most}
use Rattle.wasm_types.specs.Signatures.{depth, heap_depth, depth_in, depth_above, Types, Signature}
use Rattle.wasm_types.specs.declared.value_types.FuncType.TheShapes.{weighed-FuncParts-supertype}
use Rattle.wasm_types.specs.FunctionRules.{IsKept}
use Rattle.wasm_types.specs.FunctionParts.{view_of, with_type, heap_of, types_of, supertype_of}
use Rattle.wasm_types.specs.declared.value_types.FuncType.TheInside.{Inside}
use Rattle.wasm_types.specs.declared.value_types.FuncType.TheDeep.{deep-FuncType, deep-ValType, deep-HeapType}
use Rattle.wasm_types.specs.declared.value_types.HeapType.{HeapType}
use Rattle.wasm_types.specs.declared.value_types.HeapType.TheVariants as h
use Rattle.wasm_types.specs.declared.value_types.ValType.{ValType}
use Rattle.wasm_types.specs.declared.value_types.ValType.TheVariants as v

heap_falls : (t : HeapType) → deep-HeapType t ≤ heap_depth (heap_of t) + 1
heap_falls (h.ConcreteFunc t) = omega arith
heap_falls _ = omega arith

type_falls : (t : ValType) (ts : Types) → max (deep-ValType t) (depth_in ts + 1) ≤ depth_in (with_type t ts) + 1
type_falls (v.Ref r) ts = omega (arith, heap_falls r.heap_type)
type_falls _ ts = omega arith

pub types_fall : (ts : List ValType) → most deep-ValType ts ≤ depth_in (types_of ts) + 1
types_fall [] = omega arith
types_fall (t ∷ ts) = omega (arith, type_falls t (types_of ts), types_fall ts)

above_falls : (s : Option Signature) → weighed-FuncParts-supertype.weight Signature (λ t. depth t + 1) s ≤ depth_above (supertype_of s) + 1
above_falls None = omega arith
above_falls (Some t) = omega arith

pub depth_falls : (a : Inside) → IsKept a → deep-FuncType a ≤ depth (view_of a)
depth_falls a h =
    omega (arith, above_falls a.parts.value.supertype, types_fall a.parts.value.params.items, types_fall a.parts.value.results.items)
