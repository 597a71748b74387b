-- A call on an object of a store whose tests are passed, but for the last.
use Rattle.std.proofs.Common.{◌≡◌, ℕ, Bool, true, List, replicate, ap, ◌∙◌}
use Rattle.std.specs.Prelude.{◌&&◌, nat_lt, set, length, Option, Result, Ok}
use Rattle.wasm_types.specs.Matching.{ref_matches}
use Rattle.wasm_types.specs.Memories.{Memory}
use Rattle.wasm_types.specs.Ranges.{is_range, range_of, with_range}
use Rattle.wasm_values.specs.declared.handles.Memory.{Memory as MemoryHandle}
use Rattle.wasm_values.specs.declared.handles.Table.{Table as TableHandle}
use Rattle.wasm_values.specs.declared.references.Ref.{Ref}
use Rattle.wasm_values.specs.declared.refusals.Refusal.{Refusal}
use Rattle.wasm_values.specs.declared.refusals.Refusal.TheVariants.{WrongStore, MemoryAccessError, TypeMismatch, Trap}
use Rattle.wasm_values.specs.declared.refusals.Trap.TheVariants.{TableOutOfBounds}
use Rattle.wasm_objects.specs.Tables.{Table}
use Rattle.spec_machine.specs.Machine.{Machine}
use Rattle.spec_machine.specs.MemoryCalls.{memory_at, memory_write, with_memory}
use Rattle.spec_machine.specs.Steps.{◌>>=◌, unless}
use Rattle.spec_machine.specs.TableCalls.{table_at, table_set, table_fill, table_copy, with_elements, owns_given, given_fits, raw_given}
use Rattle.store_state.specs.Objects.{takes_bytes, with_bytes}

-- the object is there, and the first tests hold
module _ {A B : Type 0} (due : Result A Refusal) (x : A) (there : due ≡ Ok x) (b : Bool) where
  pub one_test : (w : Refusal) (test : A → Bool) (gives : A → B) → test x ≡ b →
      (due >>= (λ y. unless w (test y) >>= (λ _. Ok (gives y)))) ≡ (unless w b >>= (λ _. Ok (gives x)))
  one_test w test gives e =
      ap (λ (r : Result A Refusal). r >>= (λ y. unless w (test y) >>= (λ _. Ok (gives y)))) there
      ∙ ap (λ (c : Bool). unless w c >>= (λ _. Ok (gives x))) e

  pub three_tests : (w₁ w₂ w : Refusal) (own fits test : A → Bool) (gives : A → B) → own x ≡ true → fits x ≡ true →
      test x ≡ b →
      (due >>= (λ y. unless w₁ (own y) >>= (λ _. unless w₂ (fits y) >>=
      (λ _. unless w (test y) >>= (λ _. Ok (gives y))))))
      ≡ (unless w b >>= (λ _. Ok (gives x)))
  three_tests w₁ w₂ w own fits test gives o f e =
      ap (λ (r : Result A Refusal). r >>= (λ y. unless w₁ (own y) >>= (λ _. unless w₂ (fits y) >>=
      (λ _. unless w (test y) >>= (λ _. Ok (gives y)))))) there
      ∙ ap (λ (c : Bool). unless w₁ c >>= (λ _. unless w₂ (fits x) >>=
      (λ _. unless w (test x) >>= (λ _. Ok (gives x))))) o
      ∙ ap (λ (c : Bool). unless w₂ c >>= (λ _. unless w (test x) >>= (λ _. Ok (gives x)))) f
      ∙ ap (λ (c : Bool). unless w c >>= (λ _. Ok (gives x))) e

pub memory_write_by : (m : Machine) (h : MemoryHandle) (x : Memory) → memory_at m h ≡ Ok x → (at : ℕ)
    (bytes : List ℕ) (b : Bool) → takes_bytes at bytes x ≡ b →
    memory_write m h at bytes ≡ (unless MemoryAccessError b >>= (λ _. Ok (with_memory m h (with_bytes at bytes x))))
memory_write_by m h x there at bytes b e =
    one_test (memory_at m h) x there b MemoryAccessError (takes_bytes at bytes)
    (λ (y : Memory). with_memory m h (with_bytes at bytes y)) e

module _ (m : Machine) (h : TableHandle) (x : Table) (there : table_at m h ≡ Ok x) (at : ℕ) (val : Option Ref)
    (own : owns_given m val ≡ true) (fits : given_fits m val x.ty.element ≡ true) (b : Bool) where
  pub table_set_by : nat_lt at (length x.elements) ≡ b → table_set m h at val
      ≡ (unless (Trap TableOutOfBounds) b >>= (λ _. Ok (with_elements m h x (set x.elements at (raw_given val)))))
  table_set_by e =
      three_tests (table_at m h) x there b WrongStore TypeMismatch (Trap TableOutOfBounds)
      (λ (y : Table). owns_given m val) (λ (y : Table). given_fits m val y.ty.element)
      (λ (y : Table). nat_lt at (length y.elements))
      (λ (y : Table). with_elements m h y (set y.elements at (raw_given val))) own fits e

  pub table_fill_by : (len : ℕ) → is_range at len x.elements ≡ b → table_fill m h at val len
      ≡ (unless (Trap TableOutOfBounds) b >>=
      (λ _. Ok (with_elements m h x (with_range at (replicate len (raw_given val)) x.elements))))
  table_fill_by len e =
      three_tests (table_at m h) x there b WrongStore TypeMismatch (Trap TableOutOfBounds)
      (λ (y : Table). owns_given m val) (λ (y : Table). given_fits m val y.ty.element)
      (λ (y : Table). is_range at len y.elements)
      (λ (y : Table). with_elements m h y (with_range at (replicate len (raw_given val)) y.elements)) own fits e

pub table_copy_by : (m : Machine) (dst src : TableHandle) (d s : Table) → table_at m dst ≡ Ok d →
    table_at m src ≡ Ok s → (dst_at src_at len : ℕ) →
    (is_range dst_at len d.elements && is_range src_at len s.elements) ≡ true →
    ref_matches s.ty.element d.ty.element ≡ true → table_copy m dst dst_at src src_at len
    ≡ Ok (with_elements m dst d (with_range dst_at (range_of src_at len s.elements) d.elements))
table_copy_by m dst src d s to from dst_at src_at len e f =
    ap (λ (r : Result Table Refusal). r >>= (λ y. table_at m src >>= (λ z.
    unless (Trap TableOutOfBounds) (is_range dst_at len y.elements && is_range src_at len z.elements) >>=
    (λ _. unless TypeMismatch (ref_matches z.ty.element y.ty.element) >>=
    (λ _. Ok (with_elements m dst y (with_range dst_at (range_of src_at len z.elements) y.elements))))))) to
    ∙ ap (λ (r : Result Table Refusal). r >>= (λ z.
    unless (Trap TableOutOfBounds) (is_range dst_at len d.elements && is_range src_at len z.elements) >>=
    (λ _. unless TypeMismatch (ref_matches z.ty.element d.ty.element) >>=
    (λ _. Ok (with_elements m dst d (with_range dst_at (range_of src_at len z.elements) d.elements)))))) from
    ∙ ap (λ (c : Bool). unless (Trap TableOutOfBounds) c >>=
    (λ _. unless TypeMismatch (ref_matches s.ty.element d.ty.element) >>=
    (λ _. Ok (with_elements m dst d (with_range dst_at (range_of src_at len s.elements) d.elements))))) e
    ∙ ap (λ (c : Bool). unless TypeMismatch c >>=
    (λ _. Ok (with_elements m dst d (with_range dst_at (range_of src_at len s.elements) d.elements)))) f
