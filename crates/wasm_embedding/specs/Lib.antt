pub mod Bodies
pub mod Bytes
pub mod Granting
pub mod HostFaults
pub mod Plain
pub mod Texts
pub use Rattle.law_calls.specs.Alike
pub use Rattle.law_confined.specs.Kept
pub use Rattle.law_confined.specs.Laws as Confinement
pub use Rattle.law_confined.specs.RunLaws
pub use Rattle.law_confined.specs.Sight
pub use Rattle.law_confined.specs.SightFronts
pub use Rattle.law_guests.specs.Deeds
pub use Rattle.law_guests.specs.Depths
pub use Rattle.law_guests.specs.Enclosed
pub use Rattle.law_guests.specs.Segments
pub use Rattle.law_guests.specs.Visits
pub use Rattle.law_plugins.specs.Meeting
pub use Rattle.linker_map.specs.Imports as LinkedImports
pub use Rattle.linker_map.specs.Linkers
pub use Rattle.spec_execution.specs.Askings
pub use Rattle.spec_execution.specs.Instantiation
pub use Rattle.spec_machine.specs.FuelCalls
pub use Rattle.spec_machine.specs.FunctionCalls
pub use Rattle.spec_machine.specs.GlobalCalls
pub use Rattle.spec_machine.specs.InstanceCalls
pub use Rattle.spec_machine.specs.Machine
pub use Rattle.spec_machine.specs.MemoryCalls
pub use Rattle.spec_machine.specs.Names
pub use Rattle.spec_machine.specs.TableCalls
pub use Rattle.spec_machine.specs.ValueCalls
pub use Rattle.spec_machine.specs.WellFormed
pub use Rattle.store_objects.specs.LentData
pub use Rattle.store_state.specs.Calls as StoreChanges
pub use Rattle.store_state.specs.Engines
pub use Rattle.wasm_binary.specs.Modules as BinaryModules
pub use Rattle.wasm_call.specs.Alone
pub use Rattle.wasm_call.specs.Calls as HostCalls
pub use Rattle.wasm_call.specs.Outside
pub use Rattle.wasm_call.specs.Room
pub use Rattle.wasm_host.specs.Callers
pub use Rattle.wasm_host.specs.Hosts
pub use Rattle.wasm_host.specs.Lending as CallerLending
pub use Rattle.wasm_instance.specs.Exports as InstanceExports
pub use Rattle.wasm_instance.specs.Imports
pub use Rattle.wasm_instance.specs.Instances
pub use Rattle.wasm_instance.specs.Left
pub use Rattle.wasm_linker.specs.Defining
pub use Rattle.wasm_linker.specs.Exporting
pub use Rattle.wasm_linker.specs.Linking
pub use Rattle.wasm_meter.specs.CallHooks
pub use Rattle.wasm_meter.specs.Counting
pub use Rattle.wasm_meter.specs.Deadlines
pub use Rattle.wasm_meter.specs.Epochs
pub use Rattle.wasm_meter.specs.Fuel
pub use Rattle.wasm_meter.specs.Growths
pub use Rattle.wasm_meter.specs.ListLaws
pub use Rattle.wasm_meter.specs.Lists
pub use Rattle.wasm_meter.specs.StoreLimits
pub use Rattle.wasm_meter.specs.Unhooked
pub use Rattle.wasm_module.specs.Exports as ModuleExports
pub use Rattle.wasm_module.specs.Faults
pub use Rattle.wasm_pool.specs.Pools
pub use Rattle.wasm_store.specs.Growths as StoreGrowths
pub use Rattle.wasm_store.specs.Lending as StoreLending
pub use Rattle.wasm_store.specs.MemoryLending
pub use Rattle.wasm_store.specs.Meters
pub use Rattle.wasm_store.specs.Refused
pub use Rattle.wasm_store.specs.Stores
pub use Rattle.wasm_syntax.specs.FirstBroken
pub use Rattle.wasm_syntax.specs.Modules
pub use Rattle.wasm_syntax.specs.Rules
pub use Rattle.wasm_types.specs.ExternTypes
pub use Rattle.wasm_types.specs.FunctionRules
pub use Rattle.wasm_types.specs.GlobalTypes
pub use Rattle.wasm_types.specs.Matching
pub use Rattle.wasm_types.specs.MemoryTypes
pub use Rattle.wasm_types.specs.Signatures
pub use Rattle.wasm_types.specs.TableTypes
pub use Rattle.wasm_values.specs.Externals
pub use Rattle.wasm_values.specs.Handles
pub use Rattle.wasm_values.specs.References
pub use Rattle.wasm_values.specs.StoreIds
pub use Rattle.wasm_values.specs.Values
