-- Equality of types: by all parts.
-- WebAssembly core specification, "Validation, matching, defined types": types that are equal in structure are one. That
-- the engine is a part is this project's own.
use Rattle.std.specs.Prelude.{ℕ, Bool, true, false, ◌&&◌, eqb}
use Rattle.std.specs.Bool.{beq}
use Rattle.wasm_types.specs.Signatures.{Abstract, Number, Heap, Signature, Supertype, Types, signature, root, below, end, number, ref, abstract, concrete}
use Rattle.wasm_types.specs.Signatures as sig
use Rattle.wasm_types.specs.declared.plain.Finality.{Finality}
use Rattle.wasm_types.specs.declared.plain.Finality.TheVariants.{Final, NonFinal}

-- the number of a finality, of a number type, of an abstract heap type: each has its own
abbrev pub of_finality : Finality → ℕ
of_finality Final = 0
of_finality NonFinal = 1

abbrev pub of_number : Number → ℕ
of_number sig.i32 = 0
of_number sig.i64 = 1
of_number sig.f32 = 2
of_number sig.f64 = 3
of_number sig.v128 = 4

abbrev pub of_abstract : Abstract → ℕ
of_abstract sig.no_func = 0
of_abstract sig.func = 1
of_abstract sig.no_extern = 2
of_abstract sig.extern = 3
of_abstract sig.none = 4
of_abstract sig.i31 = 5
of_abstract sig.eq = 6
of_abstract sig.any = 7

-- whether two function types have the same engine, finality, supertype, parameters and results
abbrev mutual
  pub same : Signature → Signature → Bool
  same (signature e f s ps rs) (signature e' f' s' ps' rs') =
      eqb e e' && (eqb (of_finality f) (of_finality f') && (same_above s s' && (same_types ps ps' && same_types rs rs')))

  pub same_above : Supertype → Supertype → Bool
  same_above root root = true
  same_above (below t) (below t') = same t t'
  same_above _ _ = false

  pub same_types : Types → Types → Bool
  same_types end end = true
  same_types (number n ts) (number n' ts') = eqb (of_number n) (of_number n') && same_types ts ts'
  same_types (ref b h ts) (ref b' h' ts') = (beq b b' && same_heap h h') && same_types ts ts'
  same_types _ _ = false

  pub same_heap : Heap → Heap → Bool
  same_heap (abstract a) (abstract a') = eqb (of_abstract a) (of_abstract a')
  same_heap (concrete t) (concrete t') = same t t'
  same_heap _ _ = false
