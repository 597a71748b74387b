-- The rules on the parts of a function type, and what follows for each function type that was made.
use Rattle.std.specs.Prelude.{◌⊎◌, Result, Ok, Err, ◌≡◌, Bool, true, false, not, ◌&&◌, ◌||◌, ltb, List, Option, Some, None, if◌then◌else◌}
use Rattle.wasm_types.specs.Signatures.{Signature, Supertype, Types, Heap, depth, size, is_of}
use Rattle.wasm_types.specs.Signatures as sig
use Rattle.wasm_types.specs.FunctionParts.{Parts, parts, from_parts, option_of, val_types, finality, params, results, view_of}
use Rattle.wasm_types.specs.Matching.{all_match}
use Rattle.wasm_types.specs.declared.func_type.Extent.{Extent}
use Rattle.wasm_types.specs.declared.plain.Finality.{Finality}
use Rattle.wasm_types.specs.declared.plain.Finality.TheVariants.{Final, NonFinal}
use Rattle.wasm_types.specs.declared.faults.TypeFault.{TypeFault}
use Rattle.wasm_types.specs.declared.faults.TypeFault.TheVariants.{WrongEngine, BadSupertype, TypeDepth, OutOfMemory}
use Rattle.wasm_types.specs.declared.value_types.ValType.{ValType}
use Rattle.wasm_types.specs.declared.value_types.FuncType.TheInside.{Inside}

abbrev pub may_be_below : Finality → Bool
may_be_below Final = false
may_be_below NonFinal = true

-- the supertype is not final; each of its parameters matches the new one, and each new result matches its result
-- WebAssembly core specification, "Validation, types, sub types" and "Validation, matching, function types"
abbrev pub fits_below : Option Signature → List ValType → List ValType → Bool
fits_below None ps rs = true
fits_below (Some t) ps rs = may_be_below (finality t) && (all_match (params t) ps && all_match rs (results t))

-- a function type is at most 32 deep, and of size 65,536; this project's own
abbrev pub is_too_large : Signature → Bool
is_too_large t = ltb 32 (depth t) || ltb 65536 (size t)

-- the first rule that parts break: one engine, the supertype rule, the limits of depth and size
abbrev pub fault : Parts → Option TypeFault
fault p =
    if not (is_of p.engine (from_parts p)) then Some WrongEngine
    else if not (fits_below p.supertype p.params p.results) then Some BadSupertype
    else if is_too_large (from_parts p) then Some TypeDepth
    else None

-- what a constructor answers: the fault of the parts; else their type, unless memory runs out
abbrev pub Makes : Option TypeFault → Signature → Result Signature TypeFault → Type 0
Makes (Some f) t r = r ≡ Err f
Makes None t r = (r ≡ Ok t) ⊎ (r ≡ Err OutOfMemory)

abbrev pub IsMade : Parts → Result Signature TypeFault → Type 0
IsMade p r = Makes (fault p) (from_parts p) r

-- a function type's parts break no rule, nor do those of each function type in it
abbrev mutual
  pub IsSound : Signature → Type 0
  IsSound (sig.signature e f s ps rs) =
      (fault (parts e f (option_of s) (val_types ps) (val_types rs)) ≡ None) × IsAboveSound s × AreSound ps × AreSound rs

  pub IsAboveSound : Supertype → Type 0
  IsAboveSound sig.root = Unit {0}
  IsAboveSound (sig.below t) = IsSound t

  pub AreSound : Types → Type 0
  AreSound sig.end = Unit {0}
  AreSound (sig.number n ts) = AreSound ts
  AreSound (sig.ref b h ts) = IsHeapSound h × AreSound ts

  pub IsHeapSound : Heap → Type 0
  IsHeapSound (sig.abstract a) = Unit {0}
  IsHeapSound (sig.concrete t) = IsSound t

-- what each function type keeps: its depth and its size, as numbers, and that it is sound
pub record IsKept (a : Inside) : Type 0 where
  pub depth_is : a.parts.value.depth ≡ depth (view_of a)
  pub size_is : a.parts.value.size ≡ size (view_of a)
  pub sound : IsSound (view_of a)

-- parts that break no rule, with the depth and the size of the type that they make
pub record IsTested (p : Parts) (x : Extent) : Type 0 where
  pub no_fault : fault p ≡ None
  pub depth_is : x.depth ≡ depth (from_parts p)
  pub size_is : x.size ≡ size (from_parts p)
  pub sound : IsSound (from_parts p)
