-- The type of a function of the host by the static types of its body. The wasmtime crate's `Func::wrap`.
use Rattle.std.specs.Prelude.{ℕ, List, None}
use Rattle.wasm_types.specs.FunctionParts.{parts, from_parts}
use Rattle.wasm_types.specs.Signatures.{Signature}
use Rattle.wasm_types.specs.declared.plain.Finality.TheVariants.{Final}
use Rattle.wasm_types.specs.declared.value_types.ValType.{ValType}

-- the final type without supertype of a function that takes these and gives those
abbrev pub closure_type : ℕ → List ValType → List ValType → Signature
closure_type engine taken given = from_parts (parts engine Final None taken given)
