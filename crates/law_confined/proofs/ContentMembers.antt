-- The host's calls on memories and tables keep to the members, where all that they are given is a member, and do the same in
-- another store.
use Rattle.std.proofs.Common.{◌≡◌, ℕ, Bool, List, [], ◌∷◌, length, replicate, Option, Some, None, refl, ap, arith}
use Rattle.std.specs.Prelude.{◌&&◌, nat_lt, slice_get, option_map, Result, Ok}
use Rattle.wasm_types.specs.Each.{Each}
use Rattle.wasm_types.specs.FunctionParts.{heap_type, ref_is_of}
use Rattle.wasm_types.specs.Matching.{heap_top, ref_matches}
use Rattle.wasm_types.specs.Memories.{new_memory}
use Rattle.wasm_types.specs.MemoryTypes.{MemoryParts}
use Rattle.wasm_types.specs.Ranges.{is_range, range_of}
use Rattle.wasm_types.specs.TableTypes.{TableParts}
use Rattle.wasm_values.specs.Handles.{table_of, table_index, memory_of, memory_index}
use Rattle.wasm_values.specs.Values.{val_ref}
use Rattle.wasm_values.specs.declared.externals.Extern.{Extern}
use Rattle.wasm_values.specs.declared.externals.Extern.TheVariants as x
use Rattle.wasm_values.specs.declared.handles.Memory.{Memory as MemoryHandle}
use Rattle.wasm_values.specs.declared.handles.Table.{Table as TableHandle}
use Rattle.wasm_values.specs.declared.refusals.Refusal.{Refusal}
use Rattle.wasm_values.specs.declared.refusals.Refusal.TheVariants as refusal
use Rattle.wasm_values.specs.declared.refusals.Trap.TheVariants as trap
use Rattle.wasm_values.specs.declared.values.Val.{Val}
use Rattle.wasm_objects.specs.Tables.{Table, new_table}
use Rattle.wasm_objects.specs.declared.raw.RawRef.{RawRef}
use Rattle.spec_machine.specs.Commands.{element_reply}
use Rattle.spec_machine.specs.Machine.{Machine}
use Rattle.spec_machine.specs.MemoryCalls.{memory_new, memory_read, memory_write, memory_size, memory_grow}
use Rattle.spec_machine.specs.TableCalls.{table_new, table_get, table_set, table_fill, table_size, table_grow, table_copy, raw_given, element_of}
use Rattle.spec_machine.specs.Values.{ref_at}
use Rattle.spec_machine.specs.declared.reply.Reply.{Reply}
use Rattle.spec_machine.specs.declared.reply.Reply.TheVariants as reply
use Rattle.law_store.proofs.Lists.{each_append, each_one, each_set, each_range, each_replicate, each_with_range}
use Rattle.spec_reach.specs.Nodes.{Node, memory, table}
use Rattle.spec_reach.specs.Reach.{in_object}
use Rattle.spec_reach.specs.Roots.{in_val}
use Rattle.law_confined.specs.Members.{IsHeldRef, IsIn}
use Rattle.law_confined.proofs.AllMembers.{AllIn, all_none, all_in, in_own}
use Rattle.law_confined.proofs.HeldValues.{given_held, ref_in}
use Rattle.law_confined.proofs.MemberChanges as changed
use Rattle.law_confined.proofs.NewMembers.{HoldsNew, SeesNew}
use Rattle.law_confined.proofs.NewMembers as new
use Rattle.law_confined.proofs.RowMembers.{StoreIn, PlanIn, ReplyIn, plan_is, kept, planned, same_handle, engine_is}
use Rattle.law_confined.proofs.StepMembers.{Gives, Comes, IsFound, gives_then, comes_then, ends, test_gives, memory_gives, table_gives, own_given, given_fits_is}
use Rattle.law_confined.proofs.OtherStores.{Sees}

module _ (M : Node → Bool) (first : Machine) (other : Machine → Machine) (sees : Sees M first other)
    (news : SeesNew M first other) (news_in : HoldsNew M first) (m : Machine) (h : IsIn M first m) where
  abbrev Changes : Result Machine Refusal → Result Machine Refusal → Type 0
  Changes = Comes (StoreIn M first other m.id)

  abbrev Reads : {A : Type 0} → (A → Reply) → Result A Refusal → Result A Refusal → Type 0
  Reads say = Gives (λ a. ReplyIn M m.id (say a))

  abbrev Object : Extern → Type 0
  Object y = AllIn M (in_object m.id y)

  -- ---- memories

  pub memory_new_in :
      (ty : MemoryParts)
      → Comes (PlanIn M first other m.id (λ y. reply.Object (x.Memory y))) (Ok (memory_new m ty))
      (Ok (memory_new (other m) ty))
  memory_new_in ty = record {
    by = (
      new.memories_append M first news_in m h (new_memory ty ∷ []),
      plan_is other (memory_new m ty) _ _ (news.append_memories m (new_memory ty ∷ []) h)
          (same_handle news m h memory_of (length m.memories) _ (news.memories m h)),
      in_own M m.id m.id (memory (length m.memories))
          (new.new_memory M first news_in m h (length m.memories) (omega arith)),
    );
  }

  pub memory_read_in :
      (y : MemoryHandle) (at len : ℕ) → Object (x.Memory y)
      → Reads reply.Bytes (memory_read m y at len) (memory_read (other m) y at len)
  memory_read_in y at len k =
      gives_then _ _ _ _ _ _ (memory_gives M first other sees news m h y k) (λ z f.
      gives_then _ _ _ _ _ _ (test_gives refusal.MemoryAccessError (is_range at len z.bytes) _ refl)
      (λ u e. ends _ _ _ refl (all_none M)))

  pub memory_size_in :
      (y : MemoryHandle) → Object (x.Memory y) → Reads reply.Number (memory_size m y) (memory_size (other m) y)
  memory_size_in y k =
      gives_then _ _ _ _ _ _ (memory_gives M first other sees news m h y k) (λ z f. ends _ _ _ refl (all_none M))

  pub memory_write_in :
      (y : MemoryHandle) (at : ℕ) (bytes : List ℕ) → Object (x.Memory y)
      → Changes (memory_write m y at bytes) (memory_write (other m) y at bytes)
  memory_write_in y at bytes k =
      comes_then _ _ _ _ _ _ (memory_gives M first other sees news m h y k) (λ z f.
      comes_then _ _ _ _ _ _ (test_gives refusal.MemoryAccessError (is_range at (length bytes) z.bytes) _ refl) (λ u e.
      kept M first other m.id _ _ (changed.memory_set M first m h (memory_index y) _ f.0)
      (sees.set_memory m (memory_index y) _ h f.0)))

  pub memory_grow_in :
      (y : MemoryHandle) (delta : ℕ) → Object (x.Memory y)
      → Comes (PlanIn M first other m.id reply.Number) (memory_grow m y delta) (memory_grow (other m) y delta)
  memory_grow_in y delta k =
      comes_then _ _ _ _ _ _ (memory_gives M first other sees news m h y k) (λ z f.
      planned M first other m.id reply.Number _ _ _ (changed.memory_set M first m h (memory_index y) _ f.0)
      (sees.set_memory m (memory_index y) _ h f.0) refl (all_none M))

  -- ---- tables

  pub table_new_in :
      (ty : TableParts) (val : Val) → AllIn M (in_val m.id val)
      → Comes (PlanIn M first other m.id (λ y. reply.Object (x.Table y))) (table_new m ty (val_ref val))
      (table_new (other m) ty (val_ref val))
  table_new_in ty val k =
      comes_then _ _ _ _ _ _ (test_gives refusal.WrongStore _ _ (own_given M first other sees news m h val)) (λ u own.
      comes_then _ _ _ _ _ _ (test_gives refusal.WrongEngine _ _
      (engine_is news m h (λ n. ref_is_of n ty.element))) (λ u e.
      comes_then _ _ _ _ _ _
      (test_gives refusal.TypeMismatch _ _ (given_fits_is M first other sees news m h val ty.element own k)) (λ u e.
      planned M first other m.id (λ y. reply.Object (x.Table y)) _ _ _
      (new.tables_append M first news_in m h (new_table ty (raw_given (val_ref val)) ∷ [])
      (each_one _ (new_table ty (raw_given (val_ref val)))
      (each_replicate (IsHeldRef M) ty.minimum (raw_given (val_ref val)) (given_held M m val own k))))
      (news.append_tables m (new_table ty (raw_given (val_ref val)) ∷ []) h)
      (same_handle news m h table_of (length m.tables) _ (news.tables m h))
      (in_own M m.id m.id (table (length m.tables))
      (new.new_table M first news_in m h (length m.tables) (omega arith))))))

  pub table_size_in :
      (y : TableHandle) → Object (x.Table y) → Reads reply.Number (table_size m y) (table_size (other m) y)
  table_size_in y k =
      gives_then _ _ _ _ _ _ (table_gives M first other sees news m h y k) (λ z f. ends _ _ _ refl (all_none M))

  -- what a member table holds
  elements_held :
      (n : ℕ) (z : Table) → IsFound M first other sees news m h (table n) (slice_get m.tables n) z
      → Each z.elements (IsHeldRef M)
  elements_held n z f = h.closed.tables n z f.0 f.1

  element_in :
      (z : Table) (o : Option RawRef) → ((y : RawRef) → o ≡ Some y → IsHeldRef M y)
      → ReplyIn M m.id (element_reply (option_map (element_of m z) o))
  element_in z None k = all_none M
  element_in z (Some y) k =
      all_in M _ [] (ref_in M m.id (heap_top (heap_type z.ty.element)) y (k y refl)) (all_none M)

  pub table_get_in :
      (y : TableHandle) (at : ℕ) → Object (x.Table y) → Reads element_reply (table_get m y at) (table_get (other m) y at)
  table_get_in y at k =
      gives_then _ _ _ _ _ _ (table_gives M first other sees news m h y k) (λ z f.
      ends _ _ _
      (ap (λ i. option_map (ref_at i (heap_top (heap_type z.ty.element))) (slice_get z.elements at)) (news.same m h).id)
      (element_in z (slice_get z.elements at) (λ e q. elements_held (table_index y) z f at e q)))

  pub table_set_in :
      (y : TableHandle) (at : ℕ) (val : Val) → Object (x.Table y) → AllIn M (in_val m.id val)
      → Changes (table_set m y at (val_ref val)) (table_set (other m) y at (val_ref val))
  table_set_in y at val k l =
      comes_then _ _ _ _ _ _ (table_gives M first other sees news m h y k) (λ z f.
      comes_then _ _ _ _ _ _ (test_gives refusal.WrongStore _ _ (own_given M first other sees news m h val)) (λ u own.
      comes_then _ _ _ _ _ _
      (test_gives refusal.TypeMismatch _ _ (given_fits_is M first other sees news m h val z.ty.element own l)) (λ u e.
      comes_then _ _ _ _ _ _
      (test_gives (refusal.Trap trap.TableOutOfBounds) (nat_lt at (length z.elements)) _ refl) (λ u e.
      kept M first other m.id _ _
      (changed.table_set M first m h (table_index y) _ f.0
      (each_set (IsHeldRef M) z.elements at (raw_given (val_ref val)) (elements_held (table_index y) z f)
      (given_held M m val own l)))
      (sees.set_table m (table_index y) _ h f.0)))))

  pub table_fill_in :
      (y : TableHandle) (at : ℕ) (val : Val) (len : ℕ) → Object (x.Table y) → AllIn M (in_val m.id val)
      → Changes (table_fill m y at (val_ref val) len) (table_fill (other m) y at (val_ref val) len)
  table_fill_in y at val len k l =
      comes_then _ _ _ _ _ _ (table_gives M first other sees news m h y k) (λ z f.
      comes_then _ _ _ _ _ _ (test_gives refusal.WrongStore _ _ (own_given M first other sees news m h val)) (λ u own.
      comes_then _ _ _ _ _ _
      (test_gives refusal.TypeMismatch _ _ (given_fits_is M first other sees news m h val z.ty.element own l)) (λ u e.
      comes_then _ _ _ _ _ _
      (test_gives (refusal.Trap trap.TableOutOfBounds) (is_range at len z.elements) _ refl) (λ u e.
      kept M first other m.id _ _
      (changed.table_set M first m h (table_index y) _ f.0
      (each_with_range (IsHeldRef M) at (replicate len (raw_given (val_ref val))) z.elements
      (each_replicate (IsHeldRef M) len (raw_given (val_ref val)) (given_held M m val own l))
      (elements_held (table_index y) z f)))
      (sees.set_table m (table_index y) _ h f.0)))))

  pub table_grow_in :
      (y : TableHandle) (delta : ℕ) (val : Val) → Object (x.Table y) → AllIn M (in_val m.id val)
      → Comes (PlanIn M first other m.id reply.Number) (table_grow m y delta (val_ref val))
      (table_grow (other m) y delta (val_ref val))
  table_grow_in y delta val k l =
      comes_then _ _ _ _ _ _ (table_gives M first other sees news m h y k) (λ z f.
      comes_then _ _ _ _ _ _ (test_gives refusal.WrongStore _ _ (own_given M first other sees news m h val)) (λ u own.
      comes_then _ _ _ _ _ _
      (test_gives refusal.TypeMismatch _ _ (given_fits_is M first other sees news m h val z.ty.element own l)) (λ u e.
      planned M first other m.id reply.Number _ _ _
      (changed.table_set M first m h (table_index y) _ f.0
      (each_append (IsHeldRef M) z.elements (replicate delta (raw_given (val_ref val)))
      (elements_held (table_index y) z f)
      (each_replicate (IsHeldRef M) delta (raw_given (val_ref val)) (given_held M m val own l))))
      (sees.set_table m (table_index y) _ h f.0) refl (all_none M))))

  pub table_copy_in :
      (dst : TableHandle) (at : ℕ) (src : TableHandle) (from len : ℕ) → Object (x.Table dst) → Object (x.Table src)
      → Changes (table_copy m dst at src from len) (table_copy (other m) dst at src from len)
  table_copy_in dst at src from len k l =
      comes_then _ _ _ _ _ _ (table_gives M first other sees news m h dst k) (λ d f.
      comes_then _ _ _ _ _ _ (table_gives M first other sees news m h src l) (λ s g.
      comes_then _ _ _ _ _ _
      (test_gives (refusal.Trap trap.TableOutOfBounds)
      (is_range at len d.elements && is_range from len s.elements) _ refl) (λ u e.
      comes_then _ _ _ _ _ _
      (test_gives refusal.TypeMismatch (ref_matches s.ty.element d.ty.element) _ refl) (λ u e.
      kept M first other m.id _ _
      (changed.table_set M first m h (table_index dst) _ f.0
      (each_with_range (IsHeldRef M) at (range_of from len s.elements) d.elements
      (each_range (IsHeldRef M) from len s.elements (elements_held (table_index src) s g))
      (elements_held (table_index dst) d f)))
      (sees.set_table m (table_index dst) _ h f.0)))))
