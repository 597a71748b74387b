-- External values, by cases: WebAssembly core specification, "Execution, runtime structure, external values".
use Rattle.std.specs.Prelude.{Option, Some, None}
use Rattle.wasm_values.specs.declared.handles.Func.{Func}
use Rattle.wasm_values.specs.declared.handles.Global.{Global}
use Rattle.wasm_values.specs.declared.handles.Table.{Table}
use Rattle.wasm_values.specs.declared.handles.Memory.{Memory}
use Rattle.wasm_values.specs.declared.handles.Tag.{Tag}
use Rattle.wasm_values.specs.declared.externals.Extern.{Extern}
use Rattle.wasm_values.specs.declared.externals.Extern.TheVariants as x

-- the handle of an external value of one kind, and nothing of the others
abbrev pub extern_func : Extern → Option Func
extern_func (x.Func h) = Some h
extern_func _ = None

abbrev pub extern_global : Extern → Option Global
extern_global (x.Global h) = Some h
extern_global _ = None

abbrev pub extern_table : Extern → Option Table
extern_table (x.Table h) = Some h
extern_table _ = None

abbrev pub extern_memory : Extern → Option Memory
extern_memory (x.Memory h) = Some h
extern_memory _ = None

abbrev pub extern_tag : Extern → Option Tag
extern_tag (x.Tag h) = Some h
extern_tag _ = None
