-- An instruction that leads to no other code keeps to the members, and does the same in another store that has the same
-- members: a lemma for each combinator and each way to end, and a few lines for each instruction.
use Rattle.std.proofs.Common.{◌≡◌, ℕ, suc, ◌+◌, ◌==◌, Bool, true, false, List, [], ◌∷◌, length, replicate, slice_get, Option, Some, None, refl, sym, ap, subst}
use Rattle.std.specs.Prelude.{if◌then◌else◌}
use Rattle.std.specs.Int.{from_le_bytes}
use Rattle.wasm_types.specs.Memories.{Memory}
use Rattle.wasm_types.specs.Ranges.{range_of}
use Rattle.wasm_syntax.specs.Operators.{wrap, arith, binary_width, binary_result_width, unary_width, unary_result_width, unary_arith, ArithOutcome, Number, IntegerDivisionByZero, IntegerOverflow}
use Rattle.wasm_syntax.specs.declared.accesses.LoadOp.{LoadOp}
use Rattle.wasm_syntax.specs.declared.instr.Instr.{Instr}
use Rattle.wasm_syntax.specs.declared.instr.Instr.TheVariants as i
use Rattle.wasm_values.specs.declared.refusals.Trap.{Trap}
use Rattle.wasm_values.specs.declared.refusals.Trap.TheVariants as trap
use Rattle.wasm_objects.specs.Globals.{Global}
use Rattle.wasm_objects.specs.Tables.{Table}
use Rattle.wasm_objects.specs.declared.raw.RawRef.{RawRef}
use Rattle.wasm_objects.specs.declared.raw.RawVal.{RawVal}
use Rattle.spec_machine.specs.Changes.{set_memory, set_table, set_global}
use Rattle.spec_machine.specs.Machine.{Machine, InstanceParts}
use Rattle.spec_machine.specs.Growth.{pages}
use Rattle.spec_execution.specs.Operands as on
use Rattle.spec_execution.specs.Straight.{Effect, Goes, Traps, Sticks, bounded, element, result_of, load_shape, store_shape, stored, loaded, extended, bits, bytes, null_bit, write, put, copied_bytes, copied_elements, three, act}
use Rattle.spec_reach.specs.Nodes.{Node, func, instance, memory, table, global}
use Rattle.law_confined.specs.Members.{IsMember, NamesMembers, IsIn}
use Rattle.law_courses.proofs.Bounds.{effect_in}
use Rattle.law_confined.proofs.MemberChanges.{memory_set, table_set, global_set, element_drop, data_drop}
use Rattle.law_confined.proofs.HeldOperands.{AreHeld, AreHeldRefs, HoldsValue, HoldsRef, IsInStore, push, held_if, held_number, held_reference, held_function, held_32, held_64, held_null, set_local, refs_set, refs_range, refs_filled, refs_with, in_value}
use Rattle.law_confined.proofs.OtherStores.{Sees}

module _ (M : Node → Bool) (first : Machine) (other : Machine → Machine) (sees : Sees M first other) where
  abbrev pub GoesIn : Effect → Type 0
  GoesIn (Goes m locals operands) = IsInStore M first m × AreHeld M first locals × AreHeld M first operands
  GoesIn e = Unit {0}

  -- the effect stays with the members, and is the same in the other store
  pub record StaysIn (e e' : Effect) : Type 0 where
    pub by : GoesIn e
    pub same : e' ≡ effect_in other e

  abbrev P : Effect → Effect → Type 0
  P = StaysIn

  abbrev Held : List RawVal → Type 0
  Held = AreHeld M first

  pub sticks : P Sticks Sticks
  sticks = record { by = tt; same = refl }

  pub traps : (t : Trap) → P (Traps t) (Traps t)
  traps t = record { by = tt; same = refl }

  goes : (m : Machine) (locals operands : List RawVal) → IsInStore M first m → Held locals → Held operands
      → P (Goes m locals operands) (Goes (other m) locals operands)
  goes m locals operands h l o = record { by = (h, l, o); same = refl }

  -- ---- what goes on

  there : {A : Type 0} (o : Option A) (go go' : A → Effect) → ((a : A) → o ≡ Some a → P (go a) (go' a))
      → P (on.found Sticks o go) (on.found Sticks o go')
  there None go go' j = sticks
  there (Some a) go go' j = j a refl

  there_in :
      {A : Type 0} (o o' : Option A) (go go' : A → Effect) → o' ≡ o → ((a : A) → o ≡ Some a → P (go a) (go' a))
      → P (on.found Sticks o go) (on.found Sticks o' go')
  there_in o o' go go' e j =
      subst (λ x. P (on.found Sticks o go) (on.found Sticks x go')) (sym e) (there o go go' j)

  value_in :
      (vs : List RawVal) (go go' : RawVal → List RawVal → Effect) → Held vs
      → ((v : RawVal) (rest : List RawVal) → HoldsValue M first v → Held rest → P (go v rest) (go' v rest))
      → P (on.on_value Sticks vs go) (on.on_value Sticks vs go')
  value_in [] go go' h j = sticks
  value_in (v ∷ rest) go go' h j =
      j v rest (record { is = h.each 0 v refl }) (record { each = λ n x e. h.each (suc n) x e })

  integer_in :
      (n : ℕ) (vs : List RawVal) (go go' : ℕ → List RawVal → Effect) → Held vs
      → ((x : ℕ) (rest : List RawVal) → Held rest → P (go x rest) (go' x rest))
      → P (on.on_integer Sticks n vs go) (on.on_integer Sticks n vs go')
  integer_in n vs go go' h j = value_in vs _ _ h (λ v rest hv hr. there (on.integer_in n v) _ _ (λ x e. j x rest hr))

  reference_in :
      (vs : List RawVal) (go go' : RawRef → List RawVal → Effect) → Held vs
      → ((x : RawRef) (rest : List RawVal) → HoldsRef M first x → Held rest → P (go x rest) (go' x rest))
      → P (on.on_reference Sticks vs go) (on.on_reference Sticks vs go')
  reference_in vs go go' h j =
      value_in vs _ _ h
      (λ v rest hv hr. there (on.reference_in v) _ _ (λ x e. j x rest (record { is = in_value M first v x e hv.is }) hr))

  either_in : (b : Bool) (x x' y y' : Effect) → P x x' → P y y' → P (if b then x else y) (if b then x' else y')
  either_in true x x' y y' h j = h
  either_in false x x' y y' h j = j

  bounded_in : (t : Trap) (b : Bool) (e e' : Effect) → P e e' → P (bounded t b e) (bounded t b e')
  bounded_in t true e e' h = h
  bounded_in t false e e' h = traps t

  element_in :
      (rs : List RawRef) (at : ℕ) (go go' : RawRef → Effect) → AreHeldRefs M first rs
      → ((r : RawRef) → HoldsRef M first r → P (go r) (go' r))
      → P (element (slice_get rs at) go) (element (slice_get rs at) go')
  element_in rs at go go' h j = by (slice_get rs at) (λ r e. record { is = h.each at r e })
    where
      by : (o : Option RawRef) → ((r : RawRef) → o ≡ Some r → HoldsRef M first r) → P (element o go) (element o go')
      by None k = traps trap.TableOutOfBounds
      by (Some r) k = j r (k r refl)

  result_in :
      (go go' : RawVal → Effect) (n : ℕ) (o : ArithOutcome) → ((v : RawVal) → HoldsValue M first v → P (go v) (go' v))
      → P (result_of go n o) (result_of go' n o)
  result_in go go' n (Number x) j = j (on.integer n x) (held_number M first n x)
  result_in go go' n IntegerDivisionByZero j = traps trap.IntegerDivisionByZero
  result_in go go' n IntegerOverflow j = traps trap.IntegerOverflow

  module _ (n : ℕ) (home : IsMember M (instance n)) (m : Machine) (h : IsIn M first m) (locals operands : List RawVal)
      (hl : Held locals) (ho : Held operands) where
    same_store : IsInStore M first m
    same_store = record { is = h }

    local_in :
        (x : ℕ) (go go' : RawVal → Effect) → ((v : RawVal) → HoldsValue M first v → P (go v) (go' v))
        → P (on.found Sticks (slice_get locals x) go) (on.found Sticks (slice_get locals x) go')
    local_in x go go' j = there (slice_get locals x) go go' (λ v e. j v (record { is = hl.each x v e }))

    home_in :
        (go go' : InstanceParts → Effect)
        → ((i : InstanceParts) → slice_get m.instances n ≡ Some i → NamesMembers M i → P (go i) (go' i))
        → P (on.on_instance Sticks m n go) (on.on_instance Sticks (other m) n go')
    home_in go go' j =
        there_in (slice_get m.instances n) _ go go' (sees.instances m n h home)
        (λ i e. j i e (h.closed.instances n i home e))

    function_in :
        (k : ℕ) (go go' : ℕ → Effect) → ((f : ℕ) → IsMember M (func f) → P (go f) (go' f))
        → P (on.on_function Sticks m n k go) (on.on_function Sticks (other m) n k go')
    function_in k go go' j =
        home_in _ _ (λ i e names. there (slice_get i.functions k) go go' (λ f e'. j f (names.functions k f e')))

    pub memory_in :
        (k : ℕ) (go go' : ℕ → Memory → Effect)
        → ((x : ℕ) (y : Memory) → IsMember M (memory x) → P (go x y) (go' x y))
        → P (on.on_memory Sticks m n k go) (on.on_memory Sticks (other m) n k go')
    memory_in k go go' j =
        home_in _ _ (λ i e names. there (slice_get i.memories k) _ _ (λ x e'.
        let member : IsMember M (memory x) = names.memories k x e' in
        there_in (slice_get m.memories x) _ (go x) (go' x) (sees.memories m x h member) (λ y e''. j x y member)))

    pub table_in :
        (k : ℕ) (go go' : ℕ → Table → Effect)
        → ((x : ℕ) (y : Table) → IsMember M (table x) → AreHeldRefs M first y.elements → P (go x y) (go' x y))
        → P (on.on_table Sticks m n k go) (on.on_table Sticks (other m) n k go')
    table_in k go go' j =
        home_in _ _ (λ i e names. there (slice_get i.tables k) _ _ (λ x e'.
        let member : IsMember M (table x) = names.tables k x e' in
        there_in (slice_get m.tables x) _ (go x) (go' x) (sees.tables m x h member)
        (λ y e''. j x y member (record { each = h.closed.tables x y member e'' }))))

    global_in :
        (k : ℕ) (go go' : ℕ → Global → Effect)
        → ((x : ℕ) (y : Global) → IsMember M (global x) → HoldsValue M first y.value → P (go x y) (go' x y))
        → P (on.on_global Sticks m n k go) (on.on_global Sticks (other m) n k go')
    global_in k go go' j =
        home_in _ _ (λ i e names. there (slice_get i.globals k) _ _ (λ x e'.
        let member : IsMember M (global x) = names.globals k x e' in
        there_in (slice_get m.globals x) _ (go x) (go' x) (sees.globals m x h member)
        (λ y e''. j x y member (record { is = h.closed.globals x y member e'' }))))

    pub elements_in :
        (k : ℕ) (go go' : InstanceParts → List RawRef → Effect)
        → ((i : InstanceParts) (items : List RawRef) → slice_get m.instances n ≡ Some i → AreHeldRefs M first items
        → P (go i items) (go' i items))
        → P (on.on_elements Sticks m n k go) (on.on_elements Sticks (other m) n k go')
    elements_in k go go' j =
        home_in _ _ (λ i e names. there (slice_get i.elements k) (go i) (go' i)
        (λ items e'. j i items e (record { each = names.elements k items e' })))

    pub data_in :
        (k : ℕ) (go go' : InstanceParts → List ℕ → Effect)
        → ((i : InstanceParts) (bytes : List ℕ) → slice_get m.instances n ≡ Some i → P (go i bytes) (go' i bytes))
        → P (on.on_data Sticks m n k go) (on.on_data Sticks (other m) n k go')
    data_in k go go' j =
        home_in _ _ (λ i e names. there (slice_get i.datas k) (go i) (go' i) (λ bytes e'. j i bytes e))

    -- ---- the ends of instructions

    number_goes :
        (k x : ℕ) (rest : List RawVal) → Held rest
        → P (Goes m locals (on.integer k x ∷ rest)) (Goes (other m) locals (on.integer k x ∷ rest))
    number_goes k x rest hr = goes m locals _ same_store hl (push M first _ rest (held_number M first k x) hr)

    leaves_in :
        (rest : List RawVal) (after after' : Machine) → Held rest → IsIn M first after → after' ≡ other after
        → P (Goes after locals rest) (Goes after' locals rest)
    leaves_in rest after after' hr k e =
        record { by = (record { is = k }, hl, hr); same = ap (λ (x : Machine). Goes x locals rest) e }

    sets_memory :
        (rest : List RawVal) (x : ℕ) (z : Memory) → Held rest → IsMember M (memory x)
        → P (Goes (set_memory m x z) locals rest) (Goes (set_memory (other m) x z) locals rest)
    sets_memory rest x z hr k = leaves_in rest _ _ hr (memory_set M first m h x z k) (sees.set_memory m x z h k)

    sets_table :
        (rest : List RawVal) (x : ℕ) (z : Table) → Held rest → IsMember M (table x) → AreHeldRefs M first z.elements
        → P (Goes (set_table m x z) locals rest) (Goes (set_table (other m) x z) locals rest)
    sets_table rest x z hr k held =
        leaves_in rest _ _ hr (table_set M first m h x z k held.each) (sees.set_table m x z h k)

    sets_global :
        (rest : List RawVal) (x : ℕ) (z : Global) → Held rest → IsMember M (global x) → HoldsValue M first z.value
        → P (Goes (set_global m x z) locals rest) (Goes (set_global (other m) x z) locals rest)
    sets_global rest x z hr k held =
        leaves_in rest _ _ hr (global_set M first m h x z k held.is) (sees.set_global m x z h k)

    writes_in :
        (rest : List RawVal) (x : ℕ) (y : Memory) (at : ℕ) (piece : List ℕ) → Held rest → IsMember M (memory x)
        → P (write (λ after. Goes after locals rest) m x y at piece)
        (write (λ after. Goes after locals rest) (other m) x y at piece)
    writes_in rest x y at piece hr k = bounded_in _ _ _ _ (sets_memory rest x _ hr k)

    pub copies_in :
        (rest : List RawVal) (x : ℕ) (y : Memory) (at : ℕ) (source : List ℕ) (from len : ℕ) → Held rest
        → IsMember M (memory x)
        → P (copied_bytes (λ after. Goes after locals rest) m x y at source from len)
        (copied_bytes (λ after. Goes after locals rest) (other m) x y at source from len)
    copies_in rest x y at source from len hr k = bounded_in _ _ _ _ (sets_memory rest x _ hr k)

    puts_in :
        (rest : List RawVal) (x : ℕ) (y : Table) (at : ℕ) (piece : List RawRef) → Held rest → IsMember M (table x)
        → AreHeldRefs M first y.elements → AreHeldRefs M first piece
        → P (put (λ after. Goes after locals rest) m x y at piece)
        (put (λ after. Goes after locals rest) (other m) x y at piece)
    puts_in rest x y at piece hr k hy hp =
        bounded_in _ _ _ _ (sets_table rest x _ hr k (refs_with M first at piece y.elements hp hy))

    pub moves_in :
        (rest : List RawVal) (x : ℕ) (y : Table) (at : ℕ) (source : List RawRef) (from len : ℕ) → Held rest
        → IsMember M (table x) → AreHeldRefs M first y.elements → AreHeldRefs M first source
        → P (copied_elements (λ after. Goes after locals rest) m x y at source from len)
        (copied_elements (λ after. Goes after locals rest) (other m) x y at source from len)
    moves_in rest x y at source from len hr k hy hs =
        bounded_in _ _ _ _ (sets_table rest x _ hr k
        (refs_with M first at (range_of from len source) y.elements (refs_range M first from len source hs) hy))

    three_in :
        (go go' : ℕ → ℕ → ℕ → List RawVal → Effect)
        → ((a b c : ℕ) (rest : List RawVal) → Held rest → P (go a b c rest) (go' a b c rest))
        → P (three n m locals operands go) (three n (other m) locals operands go')
    three_in go go' j =
        integer_in 32 operands _ _ ho (λ c rest2 h2. integer_in 32 rest2 _ _ h2 (λ b rest1 h1. integer_in 32 rest1 _ _ h1
        (λ a rest h. j a b c rest h)))

    loads_in :
        (op : LoadOp) (piece : List ℕ) (rest : List RawVal) → Held rest
        → P (Goes m locals (loaded op piece ∷ rest)) (Goes (other m) locals (loaded op piece ∷ rest))
    loads_in op piece rest h =
        number_goes (load_shape op).gives
        (extended (bits (load_shape op).reads) (load_shape op).is_signed (load_shape op).gives
        (from_le_bytes (load_shape op).reads piece))
        rest h

    -- ---- the instructions

    pub act_in : (j : Instr) → P (act n m locals j operands) (act n (other m) locals j operands)
    act_in i.Unreachable = sticks
    act_in i.Nop = goes m locals operands same_store hl ho
    act_in i.Drop = value_in operands _ _ ho (λ v rest hv hr. goes m locals rest same_store hl hr)
    act_in i.Select =
        integer_in 32 operands _ _ ho (λ c rest2 h2. value_in rest2 _ _ h2 (λ y rest1 hy h1.
        value_in rest1 _ _ h1 (λ x rest hx hr.
        goes m locals _ same_store hl (push M first _ rest (held_if M first (c == 0) y x hy hx) hr))))
    act_in (i.LocalGet x) = local_in x _ _ (λ v hv. goes m locals _ same_store hl (push M first v operands hv ho))
    act_in (i.LocalSet x) =
        value_in operands _ _ ho (λ v rest hv hr. local_in x _ _ (λ before hb.
        goes m _ rest same_store (set_local M first locals x v hl hv) hr))
    act_in (i.LocalTee x) =
        value_in operands _ _ ho (λ v rest hv hr. local_in x _ _ (λ before hb.
        goes m _ operands same_store (set_local M first locals x v hl hv) ho))
    act_in (i.GlobalGet g) =
        global_in g _ _ (λ x y k hy. goes m locals _ same_store hl (push M first y.value operands hy ho))
    act_in (i.GlobalSet g) =
        value_in operands _ _ ho (λ v rest hv hr. global_in g _ _ (λ x y k hy.
        either_in _ _ _ _ _ (sets_global rest x _ hr k hv) sticks))
    act_in (i.Const32 z) = goes m locals _ same_store hl (push M first _ operands (held_32 M first z) ho)
    act_in (i.Const64 z) = goes m locals _ same_store hl (push M first _ operands (held_64 M first z) ho)
    act_in (i.Unary op) =
        integer_in (unary_width op) operands _ _ ho
        (λ x rest h. number_goes (unary_result_width op) (unary_arith op x) rest h)
    act_in (i.Binary op) =
        integer_in (binary_width op) operands _ _ ho (λ y rest1 h1. integer_in (binary_width op) rest1 _ _ h1 (λ x rest h.
        result_in (λ v. Goes m locals (v ∷ rest)) (λ v. Goes (other m) locals (v ∷ rest)) (binary_result_width op)
        (arith op x y) (λ v hv. goes m locals (v ∷ rest) same_store hl (push M first v rest hv h))))
    act_in (i.Load op k offset) =
        integer_in 32 operands _ _ ho (λ a rest h. memory_in k _ _ (λ x y member.
        bounded_in _ _ _ _ (loads_in op (range_of (a + offset) (bytes (load_shape op).reads) y.bytes) rest h)))
    act_in (i.Store op k offset) =
        integer_in (store_shape op).takes operands _ _ ho (λ v rest1 h1. integer_in 32 rest1 _ _ h1 (λ a rest h.
        memory_in k _ _ (λ x y member. writes_in rest x y (a + offset) (stored op v) h member)))
    act_in (i.MemorySize k) = memory_in k _ _ (λ x y member. number_goes 32 (wrap 32 (pages y)) operands ho)
    act_in (i.MemoryFill k) =
        three_in _ _
        (λ at v len rest h. memory_in k _ _ (λ x y member. writes_in rest x y at (replicate len (wrap 8 v)) h member))
    act_in (i.MemoryCopy dst src) =
        three_in _ _ (λ at from len rest h. memory_in dst _ _ (λ x y member. memory_in src _ _ (λ k z other_.
        copies_in rest x y at z.bytes from len h member)))
    act_in (i.MemoryInit k segment) =
        three_in _ _ (λ at from len rest h. memory_in k _ _ (λ x y member. data_in segment _ _ (λ p bytes e.
        copies_in rest x y at bytes from len h member)))
    act_in (i.DataDrop segment) =
        data_in segment _ _ (λ p bytes e.
        leaves_in operands _ _ ho (data_drop M first m h n segment p home e) (sees.set_instance m n _ h home))
    act_in (i.RefNull t) = goes m locals _ same_store hl (push M first _ operands (held_null M first) ho)
    act_in i.RefIsNull = reference_in operands _ _ ho (λ x rest hx h. number_goes 32 (null_bit x) rest h)
    act_in (i.RefFunc f) =
        function_in f _ _ (λ x k. goes m locals _ same_store hl (push M first _ operands (held_function M first x k) ho))
    act_in (i.TableGet k) =
        integer_in 32 operands _ _ ho (λ at rest h. table_in k _ _ (λ x t member held. element_in t.elements at _ _ held
        (λ r hr. goes m locals _ same_store hl (push M first _ rest (held_reference M first r hr) h))))
    act_in (i.TableSet k) =
        reference_in operands _ _ ho (λ y rest1 hy h1. integer_in 32 rest1 _ _ h1 (λ at rest h.
        table_in k _ _ (λ x t member held.
        bounded_in _ _ _ _ (sets_table rest x _ h member (refs_set M first t.elements at y held hy)))))
    act_in (i.TableSize k) =
        table_in k _ _ (λ x y member held. number_goes 32 (wrap 32 (length y.elements)) operands ho)
    act_in (i.TableFill k) =
        integer_in 32 operands _ _ ho (λ len rest2 h2. reference_in rest2 _ _ h2 (λ y rest1 hy h1.
        integer_in 32 rest1 _ _ h1 (λ at rest h. table_in k _ _ (λ x t member held.
        puts_in rest x t at (replicate len y) h member held (refs_filled M first len y hy)))))
    act_in (i.TableCopy dst src) =
        three_in _ _ (λ at from len rest h. table_in dst _ _ (λ x t member held. table_in src _ _ (λ k u other_ source.
        moves_in rest x t at u.elements from len h member held source)))
    act_in (i.TableInit k segment) =
        three_in _ _ (λ at from len rest h. table_in k _ _
        (λ x t member held. elements_in segment _ _ (λ p items e source.
        moves_in rest x t at items from len h member held source)))
    act_in (i.ElemDrop segment) =
        elements_in segment _ _ (λ p items e source.
        leaves_in operands _ _ ho (element_drop M first m h n segment p home e) (sees.set_instance m n _ h home))
    act_in _ = sticks
