-- The page size of a memory, as a host asks for it: WebAssembly core specification, "Types, memory types"; the page size
-- of one byte is that of the custom page sizes proposal, as the wasmtime crate has it.
use Rattle.std.specs.Prelude.{ℕ, Result, Ok}
use Rattle.wasm_types.specs.MemoryTypes.{page_size}
use Rattle.wasm_values.specs.declared.handles.Memory.{Memory as Handle}
use Rattle.wasm_values.specs.declared.refusals.Refusal.{Refusal}
use Rattle.spec_machine.specs.Machine.{Machine}
use Rattle.spec_machine.specs.MemoryCalls.{memory_at}
use Rattle.spec_machine.specs.Steps.{◌>>=◌}

abbrev pub memory_page_size : Machine → Handle → Result ℕ Refusal
memory_page_size m h = do
  x ← memory_at m h
  Ok (page_size x.ty)

abbrev pub memory_page_size_log2 : Machine → Handle → Result ℕ Refusal
memory_page_size_log2 m h = do
  x ← memory_at m h
  Ok x.ty.page_size_log2
