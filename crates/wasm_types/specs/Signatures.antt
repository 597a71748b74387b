-- What contracts see of a function type: a signature, which is a plain tree. Its lists are of its own, since a data type
-- is not nested in another.
-- WebAssembly core specification, "Types": number, vector, heap, reference and value types, function types and sub
-- types. That a signature holds its engine, and the types that it speaks of themselves, is this project's own.
use Rattle.std.specs.Prelude.{ℕ, ◌+◌, max, Bool, true, ◌&&◌, eqb, List, [], ◌∷◌}
use Rattle.wasm_types.specs.declared.plain.Finality.{Finality}

-- a heap type that holds no function type
pub data Abstract : Type 0 where
  no_func : Abstract
  func : Abstract
  no_extern : Abstract
  extern : Abstract
  none : Abstract
  i31 : Abstract
  eq : Abstract
  any : Abstract

-- a number type or the vector type
pub data Number : Type 0 where
  i32 : Number
  i64 : Number
  f32 : Number
  f64 : Number
  v128 : Number

mutual
  -- the number of the engine, the finality, the declared supertype, the parameters, the results
  pub data Signature : Type 0 where
    signature : ℕ → Finality → Supertype → Types → Types → Signature

  pub data Supertype : Type 0 where
    root : Supertype
    below : Signature → Supertype

  -- value types in order: each a number or the vector type, or a reference, nullable or not, to a heap type
  pub data Types : Type 0 where
    end : Types
    number : Number → Types → Types
    ref : Bool → Heap → Types → Types

  pub data Heap : Type 0 where
    abstract : Abstract → Heap
    concrete : Signature → Heap

-- one more than the greatest depth of the supertype and of the function types in it; this project's own
abbrev mutual
  pub depth : Signature → ℕ
  depth (signature e f s ps rs) = 1 + max (depth_above s) (max (depth_in ps) (depth_in rs))

  pub depth_above : Supertype → ℕ
  depth_above root = 0
  depth_above (below t) = depth t

  pub depth_in : Types → ℕ
  depth_in end = 0
  depth_in (number n ts) = depth_in ts
  depth_in (ref b h ts) = max (heap_depth h) (depth_in ts)

  pub heap_depth : Heap → ℕ
  heap_depth (abstract a) = 0
  heap_depth (concrete t) = depth t

-- one for the type, for each parameter and for each result, and the sizes of the supertype and of the function types in
-- it; this project's own
abbrev mutual
  pub size : Signature → ℕ
  size (signature e f s ps rs) = 1 + (size_above s + (size_in ps + size_in rs))

  pub size_above : Supertype → ℕ
  size_above root = 0
  size_above (below t) = size t

  pub size_in : Types → ℕ
  size_in end = 0
  size_in (number n ts) = 1 + size_in ts
  size_in (ref b h ts) = 1 + (heap_size h + size_in ts)

  pub heap_size : Heap → ℕ
  heap_size (abstract a) = 0
  heap_size (concrete t) = size t

-- whether no function type of another engine is in it; this project's own
abbrev mutual
  pub is_of : ℕ → Signature → Bool
  is_of n (signature e f s ps rs) = eqb e n && (is_above_of n s && (are_of n ps && are_of n rs))

  pub is_above_of : ℕ → Supertype → Bool
  is_above_of n root = true
  is_above_of n (below t) = is_of n t

  pub are_of : ℕ → Types → Bool
  are_of n end = true
  are_of n (number k ts) = are_of n ts
  are_of n (ref b h ts) = is_heap_of n h && are_of n ts

  pub is_heap_of : ℕ → Heap → Bool
  is_heap_of n (abstract a) = true
  is_heap_of n (concrete t) = is_of n t

-- the list that begins with the type and goes on with the supertype of each member
-- WebAssembly core specification, "Validation, matching, heap types": the declared supertypes, taken transitively
abbrev mutual
  pub chain : Signature → List Signature
  chain (signature e f s ps rs) = signature e f s ps rs ∷ chain_above s

  pub chain_above : Supertype → List Signature
  chain_above root = []
  chain_above (below t) = chain t
