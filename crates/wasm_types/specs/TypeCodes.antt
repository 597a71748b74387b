-- The codes by which proofs tell heap types, reference types and value types apart; a record that holds one cites them.
use Rattle.std.specs.Coded.{Coded}
use Rattle.wasm_types.specs.declared.value_types.HeapType.{HeapType}
use Rattle.wasm_types.specs.declared.value_types.RefType.{RefType}
use Rattle.wasm_types.specs.declared.value_types.ValType.{ValType}
use Rattle.wasm_types.specs.contracts.value_types.HeapType as heap_type
use Rattle.wasm_types.specs.contracts.value_types.RefType as ref_type
use Rattle.wasm_types.specs.contracts.value_types.ValType as val_type

abbrev pub heap_type_code : Coded HeapType
heap_type_code = heap_type.the_row.coded

abbrev pub ref_type_code : Coded RefType
ref_type_code = ref_type.the_row.coded

abbrev pub val_type_code : Coded ValType
val_type_code = val_type.the_row.coded
