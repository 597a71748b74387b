-- The segments of a new instance: an active one is written whole and is then dropped, and a declared one is dropped.
-- The first that is out of range ends this; what was done before it stays.
-- WebAssembly core specification, "Execution, modules, instantiation"
use Rattle.std.specs.Prelude.{ℕ, suc, List, [], ◌∷◌, length}
use Rattle.wasm_syntax.specs.declared.declarations.ModuleDecl.{ModuleDecl}
use Rattle.wasm_syntax.specs.declared.segments.DataDecl.{DataDecl}
use Rattle.wasm_syntax.specs.declared.segments.DataMode.{DataMode}
use Rattle.wasm_syntax.specs.declared.segments.DataMode.TheVariants as data_mode
use Rattle.wasm_syntax.specs.declared.segments.ElemDecl.{ElemDecl}
use Rattle.wasm_syntax.specs.declared.segments.ElemMode.{ElemMode}
use Rattle.wasm_syntax.specs.declared.segments.ElemMode.TheVariants as elem_mode
use Rattle.wasm_values.specs.declared.externals.Extern.{Extern}
use Rattle.wasm_values.specs.declared.refusals.Trap.{Trap}
use Rattle.wasm_objects.specs.declared.raw.RawVal.{RawVal}
use Rattle.spec_machine.specs.Changes.{drop_element, drop_data}
use Rattle.spec_machine.specs.Machine.{Machine}
use Rattle.spec_execution.specs.Allocation.{global_values, function_numbers, offset_of, allocated}
use Rattle.spec_execution.specs.Operands as on
use Rattle.spec_execution.specs.Straight.{Effect, Goes, Traps, Sticks, copied_bytes, copied_elements}

-- the store with all segments taken; or what ended this early, and the store with the segments before it taken
pub data Taken : Type 0 where
  Done : Machine → Taken
  OutOfRange : Trap → Machine → Taken
  -- a segment that fits no rule, as in no valid module
  StuckSegment : Machine → Taken

-- by what a segment comes to in a store
abbrev pub taken_by : Effect → Machine → (Machine → Taken) → Taken
taken_by (Goes m locals operands) before go = go m
taken_by (Traps t) before go = OutOfRange t before
taken_by Sticks before go = StuckSegment before

abbrev pub drop_taken_element : ℕ → ℕ → Machine → Machine
drop_taken_element instance k m =
    on.on_elements m m instance k (λ i items. drop_element m instance i k)

abbrev pub drop_taken_data : ℕ → ℕ → Machine → Machine
drop_taken_data instance k m =
    on.on_data m m instance k (λ i bytes. drop_data m instance i k)

-- of an instance, over the numbers of its functions and the values of its globals
module _ (instance : ℕ) (fs : List ℕ) (gs : List RawVal) where
  abbrev pub init_table : Machine → ℕ → ℕ → ℕ → Effect
  init_table m k table at =
      on.on_table Sticks m instance table (λ n x. on.on_elements Sticks m instance k (λ i items.
      copied_elements (λ after. Goes after [] []) m n x at items 0 (length items)))

  abbrev pub init_memory : Machine → ℕ → ℕ → ℕ → Effect
  init_memory m k memory at =
      on.on_memory Sticks m instance memory (λ n x. on.on_data Sticks m instance k (λ i bytes.
      copied_bytes (λ after. Goes after [] []) m n x at bytes 0 (length bytes)))

  abbrev pub take_element : Machine → ℕ → ElemMode → (Machine → Taken) → Taken
  take_element m k elem_mode.Passive go = go m
  take_element m k elem_mode.Declared go = go (drop_taken_element instance k m)
  take_element m k (elem_mode.Active table offset) go =
      taken_by (init_table m k table (offset_of fs gs offset)) m (λ after. go (drop_taken_element instance k after))

  abbrev pub take_elements : Machine → ℕ → List ElemDecl → (Machine → Taken) → Taken
  take_elements m k [] go = go m
  take_elements m k (e ∷ more) go = take_element m k e.mode (λ after. take_elements after (suc k) more go)

  abbrev pub take_data : Machine → ℕ → DataMode → (Machine → Taken) → Taken
  take_data m k data_mode.Passive go = go m
  take_data m k (data_mode.Active memory offset) go =
      taken_by (init_memory m k memory (offset_of fs gs offset)) m (λ after. go (drop_taken_data instance k after))

  abbrev pub take_datas : Machine → ℕ → List DataDecl → Taken
  take_datas m k [] = Done m
  take_datas m k (e ∷ more) = take_data m k e.mode (λ after. take_datas after (suc k) more)

  -- the element segments in order, and then the data segments
  abbrev pub take_segments : Machine → ModuleDecl → Taken
  take_segments m d = take_elements m 0 d.elements (λ after. take_datas after 0 d.datas)

-- the turn that makes an instance
abbrev pub make : Machine → ModuleDecl → List Extern → Taken
make m d imports =
    take_segments (length m.instances) (function_numbers m d imports) (global_values m d imports)
    (allocated m d imports) d
