-- What calls on globals and memories give after others.
use Rattle.std.proofs.Common.{◌≡◌, ℕ, ◌+◌, ◌*◌, ◌/◌, ◌≤◌, Bool, true, false, List, [], ◌∷◌, ◌++◌, length, set, replicate, slice_get, Option, Some, Result, Ok, Err, ok_or, leb, if◌then◌else◌, refl, sym, ap, ap₂, ◌∙◌, subst, arith, length-append, mul-div_cancel, add-zero}
use Rattle.std.proofs.lemmas.Bool.{leb-true, le-leb}
use Rattle.std.proofs.lemmas.List.{length-replicate}
use Rattle.std.proofs.lemmas.Nat.{pow_pos}
use Rattle.std.proofs.lemmas.Option.{slice_get_within}
use Rattle.wasm_types.specs.Memories.{Memory, memory}
use Rattle.wasm_types.specs.MemoryTypes.{page_size}
use Rattle.wasm_types.specs.Ranges.{is_range, range_of, with_range}
use Rattle.wasm_values.specs.Handles.{global_store, global_index, memory_store, memory_index}
use Rattle.wasm_values.specs.declared.handles.Global.{Global as GlobalHandle}
use Rattle.wasm_values.specs.declared.handles.Memory.{Memory as Handle}
use Rattle.wasm_values.specs.declared.refusals.Refusal.{Refusal}
use Rattle.wasm_values.specs.declared.refusals.Refusal.TheVariants.{WrongStore, MemoryAccessError}
use Rattle.wasm_objects.specs.Globals.{Global, global}
use Rattle.wasm_objects.specs.Growth.{longer_memory}
use Rattle.spec_machine.specs.GlobalCalls.{global_at, with_value, global_get}
use Rattle.spec_machine.specs.Growth.{Plan, pages}
use Rattle.spec_machine.specs.Machine.{Machine}
use Rattle.spec_machine.specs.MemoryCalls.{memory_at, with_memory, memory_size, memory_read}
use Rattle.spec_machine.specs.Steps.{◌>>=◌, unless}
use Rattle.spec_machine.specs.Values.{is_id, raw_val, val_at}
use Rattle.spec_machine.specs.WellFormed.{IsMemory}
use Rattle.law_store.specs.Laws.{NewGlobalGives, SetGlobalGives, IsWholePages, GrownMemorySize, GrownMemoryKeeps, GrownMemoryIsZero, WrittenRangeGives, WriteKeepsOthers}
use Rattle.law_store.proofs.Globals.{GlobalSet, global_set_passed, GlobalNew, global_new_passed}
use Rattle.law_store.proofs.Memories.{length_with_range, longer_size, MemoryWrite, memory_write_passed, MemoryGrow, memory_grow_passed}
use Rattle.law_store.proofs.Places.{id_own, val_back}
use Rattle.law_store.proofs.RefusalLemmas.{Passed, passed, given_is}
use Rattle.law_store.proofs.Slices.{slice_append_right, slice_set_same, with_range_gives, range_beside, range_before, range_behind}

-- an object that is there is found
pub look_up : {A : Type 0} (own : Bool) (o : Option A) (w : Refusal) (x : A) → own ≡ true → o ≡ Some x →
    ◌≡◌ {A = Result A Refusal} (if own then ok_or o w else Err w) (Ok x)
look_up own o w x p q = ap₂ (λ (b : Bool) (r : Option _). if b then ok_or r w else Err w) p q

-- an object is found where it was put
pub set_there : {A : Type 0} (xs : List A) (i : ℕ) (x y : A) → slice_get xs i ≡ Some x →
    slice_get (set xs i y) i ≡ Some y
set_there xs i x y e = slice_set_same xs i y (slice_get_within xs i x e)

-- globals
pub set_global_gives : SetGlobalGives
set_global_gives m after h v e =
    let p : GlobalSet m h v after = global_set_passed m after h v e in
    let y : Global = global p.object.ty (raw_val v) in
    let at : global_at (with_value m h p.object v) h ≡ Ok y =
    look_up (is_id (global_store h) m.id)
    (slice_get (set m.globals (global_index h) y) (global_index h)) WrongStore y p.here
    (set_there m.globals (global_index h) p.object y p.found) in
    subst (λ a. global_get a h ≡ Ok v) p.is
    (ap (λ (r : Result Global Refusal). r >>= (λ x. Ok (val_at m.id x.ty.content x.value))) at
    ∙ ap Ok (val_back m v p.object.ty.content p.one p.three))

pub new_global_gives : NewGlobalGives
new_global_gives m after ty v h e =
    let p : GlobalNew m ty v (after, h) = global_new_passed m ty v (after, h) e in
    let y : Global = global ty (raw_val v) in
    let there : slice_get (m.globals ++ y ∷ []) (length m.globals) ≡ Some y =
    ap (slice_get (m.globals ++ y ∷ [])) (sym (add-zero (length m.globals)))
    ∙ slice_append_right m.globals (y ∷ []) 0 in
    subst (λ (d : Machine × GlobalHandle). global_get d.0 d.1 ≡ Ok v) p.is
    (ap (λ (r : Result Global Refusal). r >>= (λ x. Ok (val_at m.id x.ty.content x.value)))
    (look_up (is_id m.id m.id) (slice_get (m.globals ++ y ∷ []) (length m.globals)) WrongStore y (id_own m.id) there)
    ∙ ap Ok (val_back m v ty.content p.one p.three))

-- memories
module _ (m : Machine) (h : Handle) where
  memory_there : (x : Memory) → is_id (memory_store h) m.id ≡ true → slice_get m.memories (memory_index h) ≡ Some x →
      memory_at m h ≡ Ok x
  memory_there x p q = look_up (is_id (memory_store h) m.id) (slice_get m.memories (memory_index h)) WrongStore x p q

  memory_put : (x y : Memory) → is_id (memory_store h) m.id ≡ true → slice_get m.memories (memory_index h) ≡ Some x →
      memory_at (with_memory m h y) h ≡ Ok y
  memory_put x y p q = look_up (is_id (memory_store h) m.id)
      (slice_get (set m.memories (memory_index h) y) (memory_index h)) WrongStore y p
      (set_there m.memories (memory_index h) x y q)

-- the bytes of a range of a memory
abbrev read_of : ℕ → ℕ → Memory → Result (List ℕ) Refusal
read_of at len x = unless MemoryAccessError (is_range at len x.bytes) >>= (λ _. Ok (range_of at len x.bytes))

read_is : (m : Machine) (h : Handle) (at len : ℕ) (x : Memory) → memory_at m h ≡ Ok x →
    memory_read m h at len ≡ read_of at len x
read_is m h at len x e = ap (λ (r : Result Memory Refusal). r >>= read_of at len) e

read_same : (at len : ℕ) (x y : Memory) → is_range at len y.bytes ≡ is_range at len x.bytes →
    range_of at len y.bytes ≡ range_of at len x.bytes → read_of at len y ≡ read_of at len x
read_same at len x y p q = ap₂ (λ (b : Bool) (r : List ℕ). unless MemoryAccessError b >>= (λ _. Ok r)) p q

read_tested : (b : Bool) (r bytes : List ℕ) →
    ◌≡◌ {A = Result (List ℕ) Refusal} (unless MemoryAccessError b >>= (λ _. Ok r)) (Ok bytes) → (b ≡ true) × (r ≡ bytes)
read_tested true r bytes e = (refl, given_is r bytes e)
read_tested false r bytes e = absurd cc

pub written_range_gives : WrittenRangeGives
written_range_gives m after h at bytes e =
    let p : MemoryWrite m h at bytes after = memory_write_passed m after h at bytes e in
    let x : Memory = p.object in
    let y : Memory = memory x.ty (with_range at bytes x.bytes) in
    let fits : at + length bytes ≤ length x.bytes = leb-true _ _ p.one in
    let range : is_range at (length bytes) y.bytes ≡ true =
    le-leb _ _ (omega (arith, fits, length_with_range at bytes x.bytes p.one)) in
    subst (λ a. memory_read a h at (length bytes) ≡ Ok bytes) p.is
    (read_is (with_memory m h y) h at (length bytes) y (memory_put m h x y p.here p.found)
    ∙ ap₂ (λ (b : Bool) (r : List ℕ). unless MemoryAccessError b >>= (λ _. Ok r)) range
    (with_range_gives at bytes x.bytes fits))

pub write_keeps_others : WriteKeepsOthers
write_keeps_others m after h at i len bytes e beside =
    let p : MemoryWrite m h at bytes after = memory_write_passed m after h at bytes e in
    let x : Memory = p.object in
    let y : Memory = memory x.ty (with_range at bytes x.bytes) in
    let fits : at + length bytes ≤ length x.bytes = leb-true _ _ p.one in
    let range : is_range i len y.bytes ≡ is_range i len x.bytes =
    ap (λ n. leb (i + len) n) (length_with_range at bytes x.bytes p.one) in
    subst (λ a. memory_read a h i len ≡ memory_read m h i len) p.is
    (read_is (with_memory m h y) h i len y (memory_put m h x y p.here p.found)
    ∙ read_same i len x y range (range_beside at bytes x.bytes fits i len beside)
    ∙ sym (read_is m h i len x (memory_there m h x p.here p.found)))

-- growth
longer_pages : (x : Memory) (delta : ℕ) → IsMemory x →
    pages (longer_memory x (delta * page_size x.ty)) ≡ pages x + delta
longer_pages x delta h = ap (λ n. n / page_size x.ty) (longer_size x delta h)
    ∙ mul-div_cancel (pages x + delta) (pow_pos x.ty.page_size_log2)

size_is : (m : Machine) (h : Handle) (x : Memory) → memory_at m h ≡ Ok x → memory_size m h ≡ Ok (pages x)
size_is m h x e = ap (λ (r : Result Memory Refusal). r >>= (λ y. Ok (pages y))) e

pub grown_memory_size : GrownMemorySize
grown_memory_size m h delta p w e =
    let q : MemoryGrow m h delta p = memory_grow_passed m h delta p e in
    let x : Memory = q.object in
    let y : Memory = longer_memory x (delta * page_size x.ty) in
    subst (λ (r : Plan ℕ). (memory_size m h ≡ Ok r.gives) × (memory_size r.after h ≡ Ok (r.gives + delta))) q.is (
      size_is m h x (memory_there m h x q.here q.found),
      size_is (with_memory m h y) h y (memory_put m h x y q.here q.found)
          ∙ ap Ok (longer_pages x delta (w.memories_are (memory_index h) x q.found)),
    )

pub grown_memory_keeps : GrownMemoryKeeps
grown_memory_keeps m h delta at len bytes p e r =
    let q : MemoryGrow m h delta p = memory_grow_passed m h delta p e in
    let x : Memory = q.object in
    let more : List ℕ = replicate (delta * page_size x.ty) 0 in
    let y : Memory = longer_memory x (delta * page_size x.ty) in
    let t : (is_range at len x.bytes ≡ true) × (range_of at len x.bytes ≡ bytes) =
    read_tested (is_range at len x.bytes) (range_of at len x.bytes) bytes
    (sym (read_is m h at len x (memory_there m h x q.here q.found)) ∙ r) in
    let fits : at + len ≤ length x.bytes = leb-true _ _ t.0 in
    let range : is_range at len y.bytes ≡ true = le-leb _ _ (omega (arith, fits, length-append x.bytes more)) in
    subst (λ (d : Plan ℕ). memory_read d.after h at len ≡ Ok bytes) q.is
    (read_is (with_memory m h y) h at len y (memory_put m h x y q.here q.found)
    ∙ ap₂ (λ (b : Bool) (s : List ℕ). unless MemoryAccessError b >>= (λ _. Ok s)) range
    (range_before at len x.bytes more fits ∙ t.1))

-- the zeros behind a memory
zeros_of : (x : Memory) (extra : ℕ) → read_of (length x.bytes) extra (longer_memory x extra) ≡ Ok (replicate extra 0)
zeros_of x extra =
    let many : length (replicate extra 0) ≡ extra = length-replicate extra 0 in
    let range : is_range (length x.bytes) extra (x.bytes ++ replicate extra 0) ≡ true =
    le-leb _ _ (omega (arith, many, length-append x.bytes (replicate extra 0))) in
    ap₂ (λ (b : Bool) (s : List ℕ). unless MemoryAccessError b >>= (λ _. Ok s)) range
    (ap (λ n. range_of (length x.bytes) n (x.bytes ++ replicate extra 0)) (sym many)
    ∙ range_behind x.bytes (replicate extra 0))

pub grown_memory_is_zero : GrownMemoryIsZero
grown_memory_is_zero m h ty delta bytes p e t d =
    let q : MemoryGrow m h delta p = memory_grow_passed m h delta p e in
    let x : Memory = q.object in
    let there : memory_at m h ≡ Ok x = memory_there m h x q.here q.found in
    let type_is : x.ty ≡ ty = given_is x.ty ty (sym (ap (λ (r : Result Memory Refusal). r >>= (λ y. Ok y.ty)) there)
    ∙ t) in
    let size : length x.bytes ≡ bytes =
    given_is (length x.bytes) bytes
    (sym (ap (λ (r : Result Memory Refusal). r >>= (λ y. Ok (length y.bytes))) there) ∙ d) in
    let extra : ℕ = delta * page_size x.ty in
    let y : Memory = longer_memory x extra in
    subst (λ (r : Plan ℕ). memory_read r.after h bytes (delta * page_size ty) ≡ Ok
    (replicate (delta * page_size ty) 0)) q.is
    (subst (λ a. memory_read (with_memory m h y) h bytes (delta * page_size a) ≡ Ok
    (replicate (delta * page_size a) 0)) type_is
    (subst (λ n. memory_read (with_memory m h y) h n extra ≡ Ok (replicate extra 0)) size
    (read_is (with_memory m h y) h (length x.bytes) extra y (memory_put m h x y q.here q.found) ∙ zeros_of x extra)))

pub whole_pages : IsWholePages
whole_pages m h ty n bytes w t s d =
    let q : Passed (is_id (memory_store h) m.id) (slice_get m.memories (memory_index h)) (λ (y : Memory). true)
    (λ y. true) (λ y. true) (λ y. y.ty) ty =
    passed ty WrongStore WrongStore WrongStore WrongStore (is_id (memory_store h) m.id)
    (slice_get m.memories (memory_index h)) (λ y. true) (λ y. true) (λ y. true) (λ y. y.ty) t in
    let x : Memory = q.object in
    let there : memory_at m h ≡ Ok x = memory_there m h x q.here q.found in
    let number : pages x ≡ n = given_is (pages x) n (sym (size_is m h x there) ∙ s) in
    let size : length x.bytes ≡ bytes =
    given_is (length x.bytes) bytes
    (sym (ap (λ (r : Result Memory Refusal). r >>= (λ y. Ok (length y.bytes))) there) ∙ d) in
    let was : IsMemory x = w.memories_are (memory_index h) x q.found in
    sym size ∙ was.whole ∙ ap₂ (λ k a. k * page_size a) number q.is
