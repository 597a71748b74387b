-- A function type as its five parts, and value types as what code handles and as the members of a signature.
-- WebAssembly core specification, "Types": heap types, reference types, value types, function types, sub types.
use Rattle.std.specs.Prelude.{ℕ, Bool, true, List, [], ◌∷◌}
use Rattle.std.specs.Prelude.{Option, Some, None}
use Rattle.wasm_types.specs.Signatures.{Abstract, Number, Heap, Signature, Supertype, Types, is_heap_of}
use Rattle.wasm_types.specs.Signatures as sig
use Rattle.wasm_types.specs.declared.plain.Finality.{Finality}
use Rattle.wasm_types.specs.declared.value_types.HeapType.{HeapType}
use Rattle.wasm_types.specs.declared.value_types.HeapType.TheVariants as h
use Rattle.wasm_types.specs.declared.value_types.RefType.{RefType}
use Rattle.wasm_types.specs.declared.value_types.ValType.{ValType}
use Rattle.wasm_types.specs.declared.value_types.ValType.TheVariants as v
use Rattle.wasm_types.specs.declared.value_types.FuncType.TheInside.{Inside}

-- a reference type of its two parts, and these parts
abbrev pub ref_type : Bool → HeapType → RefType
ref_type nullable heap_type = record { nullable = nullable; heap_type = heap_type }

abbrev pub is_nullable : RefType → Bool
is_nullable r = r.nullable

abbrev pub heap_type : RefType → HeapType
heap_type r = r.heap_type

-- a nullable reference to a heap type
abbrev pub nullable_ref : HeapType → ValType
nullable_ref t = v.Ref (ref_type true t)

-- a heap type as a signature holds it
abbrev pub heap_of : HeapType → Heap
heap_of h.NoFunc = sig.abstract sig.no_func
heap_of (h.ConcreteFunc t) = sig.concrete t
heap_of h.Func = sig.abstract sig.func
heap_of h.NoExtern = sig.abstract sig.no_extern
heap_of h.Extern = sig.abstract sig.extern
heap_of h.None = sig.abstract sig.none
heap_of h.I31 = sig.abstract sig.i31
heap_of h.Eq = sig.abstract sig.eq
heap_of h.Any = sig.abstract sig.any

-- one value type more in front
abbrev pub with_type : ValType → Types → Types
with_type v.I32 ts = sig.number sig.i32 ts
with_type v.I64 ts = sig.number sig.i64 ts
with_type v.F32 ts = sig.number sig.f32 ts
with_type v.F64 ts = sig.number sig.f64 ts
with_type v.V128 ts = sig.number sig.v128 ts
with_type (v.Ref r) ts = sig.ref (is_nullable r) (heap_of (heap_type r)) ts

-- value types as a signature holds them
abbrev pub types_of : List ValType → Types
types_of [] = sig.end
types_of (t ∷ ts) = with_type t (types_of ts)

abbrev pub supertype_of : Option Signature → Supertype
supertype_of None = sig.root
supertype_of (Some t) = sig.below t

-- the parts of a function type
pub record Parts : Type 0 where
  pub engine : ℕ
  pub finality : Finality
  pub supertype : Option Signature
  pub params : List ValType
  pub results : List ValType

abbrev pub parts : ℕ → Finality → Option Signature → List ValType → List ValType → Parts
parts engine finality supertype params results =
    record { engine = engine; finality = finality; supertype = supertype; params = params; results = results }

-- the function type of these parts
abbrev pub from_parts : Parts → Signature
from_parts p = sig.signature p.engine p.finality (supertype_of p.supertype) (types_of p.params) (types_of p.results)

abbrev pub inside_parts : Inside → Parts
inside_parts a =
    parts a.parts.value.engine.0 a.parts.value.finality a.parts.value.supertype a.parts.value.params.items a.parts.value.results.items

abbrev pub view_of : Inside → Signature
view_of a = from_parts (inside_parts a)

-- a heap type, as code handles it
abbrev pub heap_type_of : Heap → HeapType
heap_type_of (sig.abstract sig.no_func) = h.NoFunc
heap_type_of (sig.abstract sig.func) = h.Func
heap_type_of (sig.abstract sig.no_extern) = h.NoExtern
heap_type_of (sig.abstract sig.extern) = h.Extern
heap_type_of (sig.abstract sig.none) = h.None
heap_type_of (sig.abstract sig.i31) = h.I31
heap_type_of (sig.abstract sig.eq) = h.Eq
heap_type_of (sig.abstract sig.any) = h.Any
heap_type_of (sig.concrete t) = h.ConcreteFunc t

abbrev pub number_type : Number → ValType
number_type sig.i32 = v.I32
number_type sig.i64 = v.I64
number_type sig.f32 = v.F32
number_type sig.f64 = v.F64
number_type sig.v128 = v.V128

-- the members, as value types that code handles
abbrev pub val_types : Types → List ValType
val_types sig.end = []
val_types (sig.number n ts) = number_type n ∷ val_types ts
val_types (sig.ref b h ts) = v.Ref (ref_type b (heap_type_of h)) ∷ val_types ts

abbrev pub option_of : Supertype → Option Signature
option_of sig.root = None
option_of (sig.below t) = Some t

-- the parts of a function type, one by one
abbrev pub engine : Signature → ℕ
engine (sig.signature e f s ps rs) = e

abbrev pub finality : Signature → Finality
finality (sig.signature e f s ps rs) = f

abbrev pub supertype : Signature → Option Signature
supertype (sig.signature e f s ps rs) = option_of s

abbrev pub params : Signature → List ValType
params (sig.signature e f s ps rs) = val_types ps

abbrev pub results : Signature → List ValType
results (sig.signature e f s ps rs) = val_types rs

abbrev pub parts_of : Signature → Parts
parts_of t = parts (engine t) (finality t) (supertype t) (params t) (results t)

-- whether no function type of another engine is in a heap type, a reference type, a value type; this project's own
abbrev pub heap_is_of : ℕ → HeapType → Bool
heap_is_of n t = is_heap_of n (heap_of t)

abbrev pub ref_is_of : ℕ → RefType → Bool
ref_is_of n r = heap_is_of n (heap_type r)

abbrev pub val_is_of : ℕ → ValType → Bool
val_is_of n (v.Ref r) = ref_is_of n r
val_is_of n _ = true
