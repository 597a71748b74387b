-- What the exports of an instance are to a host that looks them up, or that goes over all of them.
-- WebAssembly core specification, "Execution, runtime structure, export instances"; the order is this project's own
use Rattle.std.specs.Prelude.{◌≡◌, ℕ, List, slice_get, Option, Some, Ok}
use Rattle.wasm_values.specs.declared.externals.Extern.{Extern}
use Rattle.wasm_values.specs.declared.handles.Instance.{Instance}
use Rattle.spec_machine.specs.InstanceCalls.{instance_at}
use Rattle.spec_machine.specs.Machine.{Machine, InstanceParts}
use Rattle.spec_machine.specs.WellFormed.{IsWellFormed}
use Rattle.law_store.specs.Laws.{KeepsObjects}
use Rattle.wasm_instance.specs.Exports.{Entry, entries, export_of, export_as}

-- ---- look-ups, one after another

-- the handle that a look-up gave, the same look-up gives of each store that kept every object
abbrev pub LookUpsAgree : Type 0
LookUpsAgree =
    (m after : Machine) (h : Instance) (name : List ℕ) (o : Extern) → KeepsObjects m after →
    export_of m h name ≡ Ok (Some o) → export_of after h name ≡ Ok (Some o)

-- so does a look-up of one kind
abbrev pub LookUpsOfKindAgree : {A : Type 0} → (Extern → Option A) → Type 0
LookUpsOfKindAgree {A} as_kind =
    (m after : Machine) (h : Instance) (name : List ℕ) (a : A) → KeepsObjects m after →
    export_as as_kind m h name ≡ Ok (Some a) → export_as as_kind after h name ≡ Ok (Some a)

-- ---- all exports, and look-ups

-- what an instance exports by its list, it exports under that name
abbrev pub EntriesAreFound : Type 0
EntriesAreFound =
    (m : Machine) (h : Instance) (i : InstanceParts) (k : ℕ) (e : Entry) → IsWellFormed m → instance_at m h ≡ Ok i →
    slice_get (entries m i) k ≡ Some e → export_of m h e.0 ≡ Ok e.1

-- no two places of the list have one name
abbrev pub NamesDiffer : Type 0
NamesDiffer =
    (m : Machine) (h : Instance) (i : InstanceParts) (j k : ℕ) (d e : Entry) → IsWellFormed m →
    instance_at m h ≡ Ok i → slice_get (entries m i) j ≡ Some d → slice_get (entries m i) k ≡ Some e → d.0 ≡ e.0 →
    j ≡ k
