-- Types are read as the grammar has them.
use Rattle.std.proofs.Common.{◌≡◌, ℕ, List, [], ◌∷◌, length, Bool, true, false, Option, Some, None, Result, Ok, Err, refl, sym, ◌∙◌, ap, subst, cond, nat_eq, nat_lt}
use Rattle.std.proofs.lemmas.Bool.{eqb-true}
use Rattle.std.specs.Option.{option_or}
use Rattle.std.specs.Prelude.{option_map, slice_get}
use Rattle.wasm_leb.specs.Places.{Place}
use Rattle.wasm_types.specs.Signatures.{Signature}
use Rattle.wasm_types.specs.MemoryTypes.{MemoryParts, are_memory_limits}
use Rattle.wasm_types.specs.TableTypes.{TableParts, are_table_limits}
use Rattle.wasm_types.specs.declared.faults.TypeFault.TheVariants.{BadLimits}
use Rattle.wasm_types.specs.declared.value_types.RefType.{RefType}
use Rattle.wasm_types.specs.declared.value_types.HeapType.TheVariants as h
use Rattle.wasm_types.specs.declared.value_types.ValType.{ValType}
use Rattle.wasm_types.specs.declared.value_types.ValType.TheVariants as v
use Rattle.binary_types.specs.Reading.{Read, then, done, unless, some_or, ◌>>=◌}
use Rattle.binary_types.specs.Reading as reading
use Rattle.binary_types.specs.Types as read
use Rattle.binary_types.specs.declared.faults.BinaryFault.{BinaryFault}
use Rattle.binary_types.specs.declared.faults.BinaryFault.TheVariants.{Unsupported, Index, Refused}
use Rattle.law_binary.specs.Agreement.{Agree}
use Rattle.law_binary.specs.Formats.{Format, no_table}
use Rattle.law_binary.specs.Formats as formats
use Rattle.law_binary.specs.Types as types
use Rattle.law_binary.proofs.Combining.{agree_gives, agree_then, agree_standing, standing}
use Rattle.law_binary.proofs.Parts.{Chain, agree_refusing, agree_by_code, chained, coded, left_out, refuse, refusing}
use Rattle.law_binary.proofs.Lists.{agree_byte}
use Rattle.law_binary.proofs.Items.{agree_u32, agree_not_below_zero, agree_by_first, IsNotEmpty}

-- ---- readers that answer alike

pub agree_alike : {A : Type 0} (r s : Read A) (F : Format A) → ((p : Place) → r p ≡ s p) → Agree s F → Agree r F
agree_alike {A = A} r s F h a =
    let same : s ≡ r = λ i p. sym (h p) i in
    subst (λ (t : Read A). Agree t F) same a

pub then_then : {A B C : Type 0} (x : Result (A × Place) BinaryFault) (f : A → Read B) (g : B → Read C) → then x (λ a q. then (f a q) g) ≡ then (then x f) g
then_then (Ok r) f g = refl
then_then (Err e) f g = refl

pub unless_is_some : {A : Type 0} (f : BinaryFault) (test : Bool) (x : A) (q : Place) → then (unless f test q) (λ _. done x) ≡ some_or f (cond test (Some x) None) q
unless_is_some f true x q = refl
unless_is_some f false x q = refl

pub some_or_map : {A B : Type 0} (f : BinaryFault) (o : Option A) (g : A → B) (q : Place) → then (some_or f o q) (λ t. done (g t)) ≡ some_or f (option_map g o) q
some_or_map f (Some x) g q = refl
some_or_map f None g q = refl

-- ---- numbers of types

pub agree_type_index : (ts : List Signature) → Agree (read.type_index ts) (types.type_index ts)
agree_type_index ts = agree_alike (read.type_index ts) (standing reading.u32 (types.index_of ts) types.no_type) (types.type_index ts)
    (λ p i. then (reading.u32 p) (λ n q. unless_is_some (Index p.at) (nat_lt n (length ts)) n q i))
    (agree_standing reading.u32 formats.u32 (types.index_of ts) types.no_type agree_u32)

pub agree_type_at : (ts : List Signature) → Agree (read.type_at ts) (types.type_at ts)
agree_type_at ts = agree_standing reading.u32 formats.u32 (slice_get ts) types.no_type agree_u32

pub agree_signed_index : (ts : List Signature) → Agree (read.signed_index ts) (types.signed_index ts)
agree_signed_index ts = agree_alike (read.signed_index ts) (standing read.not_below_zero (types.index_of ts) types.no_type) (types.signed_index ts)
    (λ p i. then (read.not_below_zero p) (λ n q. unless_is_some (Index p.at) (nat_lt n (length ts)) n q i))
    (agree_standing read.not_below_zero formats.s33_from_zero (types.index_of ts) types.no_type agree_not_below_zero)

-- ---- heap types, reference types, value types

pub agree_abstract : Agree read.abstract_type types.abstract_type
agree_abstract = agree_standing reading.byte formats.byte read.abstract_heap types.unsupported agree_byte

pub agree_concrete : (ts : List Signature) → Agree (read.concrete_type ts) (types.concrete_type ts)
agree_concrete ts = agree_alike (read.concrete_type ts) (standing read.not_below_zero (types.concrete_heap ts) types.no_type) (types.concrete_type ts)
    (λ p i. then (read.not_below_zero p) (λ n q. some_or_map (Index p.at) (slice_get ts n) h.ConcreteFunc q i))
    (agree_standing read.not_below_zero formats.s33_from_zero (types.concrete_heap ts) types.no_type agree_not_below_zero)

abstract_not_empty : IsNotEmpty types.abstract_type
abstract_not_empty x s = absurd (cc (s.1))

concrete_not_empty : (ts : List Signature) → IsNotEmpty (types.concrete_type ts)
concrete_not_empty ts x s = absurd s.1

pub agree_heap_type : (ts : List Signature) → Agree (read.heap_type ts) (types.heap_type ts)
agree_heap_type ts = agree_by_first read.is_code (λ b. read.heap_if b ts) types.abstract_type (types.concrete_type ts) agree_abstract (agree_concrete ts) abstract_not_empty (concrete_not_empty ts)

pub agree_reference_to : (nullable : Bool) (ts : List Signature) → Agree (read.prefixed nullable ts) (types.reference_to nullable ts)
agree_reference_to nullable ts = agree_then (read.heap_type ts) _ (types.heap_type ts) _ (agree_heap_type ts) (λ t. agree_gives _)

pub agree_reference_type : (ts : List Signature) → Agree (read.reference_type ts) (types.reference_type ts)
agree_reference_type ts = agree_by_code types.abstract_reference reading.byte formats.byte
    ((0x63, read.prefixed true ts) ∷ (0x64, read.prefixed false ts) ∷ []) (types.references ts) agree_byte
    (refl, refl, refl, agree_reference_to true ts, (refl, refl, refl, agree_reference_to false ts, tt))

-- a value type is a number type or a reference type, whichever is asked first
values : List Signature → Chain ValType
values ts = (0x63, read.prefixed true ts >>= (λ t. done (v.Ref t))) ∷ (0x64, read.prefixed false ts >>= (λ t. done (v.Ref t))) ∷ []

pub value_alone : (ts : List Signature) (at code : ℕ) (p : Place) (o : Option ValType) → nat_eq code 0x63 ≡ false → nat_eq code 0x64 ≡ false → read.value_by ts at code o p ≡ some_or (Unsupported at code) (option_or o (option_map v.Ref (types.abstract_reference code))) p
value_alone ts at code p (Some t) h k = refl
value_alone ts at code p None h k =
    ap (λ (r : Result (RefType × Place) BinaryFault). then r (λ t. done (v.Ref t))) (left_out (nat_eq code 0x63) _ _ h ∙ left_out (nat_eq code 0x64) _ _ k)
    ∙ some_or_map (Unsupported at code) (types.abstract_reference code) v.Ref p

value_chain : (ts : List Signature) (at code : ℕ) (p : Place) → read.value_by ts at code (read.number_type code) p ≡ chained types.value_code (values ts) at code p
unfolding values
value_chain ts at code p = by_63 (nat_eq code 0x63) refl
  where
    Same : ℕ → Type 0
    Same k = read.value_by ts at k (read.number_type k) p ≡ chained types.value_code (values ts) at k p

    by_64 : nat_eq code 0x63 ≡ false → (b : Bool) → nat_eq code 0x64 ≡ b → Same code
    by_64 h true k = subst Same (sym (eqb-true code 0x64 k)) (refl {a = read.value_by ts at 0x64 (read.number_type 0x64) p})
    by_64 h false k =
        value_alone ts at code p (read.number_type code) h k
        ∙ sym (left_out (nat_eq code 0x63) _ _ h ∙ left_out (nat_eq code 0x64) _ _ k)

    by_63 : (b : Bool) → nat_eq code 0x63 ≡ b → Same code
    by_63 true h = subst Same (sym (eqb-true code 0x63 h)) (refl {a = read.value_by ts at 0x63 (read.number_type 0x63) p})
    by_63 false h = by_64 h (nat_eq code 0x64) refl

pub agree_value_to : (nullable : Bool) (ts : List Signature) → Agree (read.prefixed nullable ts >>= (λ t. done (v.Ref t))) (types.value_to nullable ts)
agree_value_to nullable ts = agree_then (read.prefixed nullable ts) _ (types.reference_to nullable ts) _ (agree_reference_to nullable ts) (λ t. agree_gives _)

pub agree_value_type : (ts : List Signature) → Agree (read.value_type ts) (types.value_type ts)
unfolding values
agree_value_type ts = agree_alike (read.value_type ts) (coded types.value_code reading.byte (values ts)) (types.value_type ts)
    (λ p i. then (reading.byte p) (λ code q. value_chain ts p.at code q i))
    (agree_by_code types.value_code reading.byte formats.byte (values ts) (types.reference_values ts) agree_byte
    (refl, refl, refl, agree_value_to true ts, (refl, refl, refl, agree_value_to false ts, tt)))

-- ---- limits, types of tables and memories

agree_open : Agree read.open_limits types.open_limits
agree_open = agree_then reading.u32 _ formats.u32 _ agree_u32 (λ n. agree_gives _)

agree_closed : Agree read.closed_limits types.closed_limits
agree_closed = agree_then reading.u32 _ formats.u32 _ agree_u32 (λ n. agree_then reading.u32 _ formats.u32 _ agree_u32 (λ m. agree_gives _))

pub agree_limits : Agree read.limits types.limits
agree_limits = agree_by_code no_table reading.byte formats.byte
    ((0x00, read.open_limits) ∷ (0x01, read.closed_limits) ∷ []) ((0x00, types.open_limits) ∷ (0x01, types.closed_limits) ∷ []) agree_byte
    (refl, refl, refl, agree_open, (refl, refl, refl, agree_closed, tt))

refuses : {A : Type 0} (at : ℕ) (test : Bool) (x : A) (q : Place) → then (unless (Refused at BadLimits) test q) (λ _. done x) ≡ refuse at (types.rule_if_not test) x q
refuses at true x q = refl
refuses at false x q = refl

agree_table_parts : (ts : List Signature) → Agree (read.reference_type ts >>= (λ e. read.limits >>= (λ l. done (read.table_of e l)))) (types.table_parts ts)
agree_table_parts ts = agree_then (read.reference_type ts) _ (types.reference_type ts) _ (agree_reference_type ts) (λ e. agree_then read.limits _ types.limits _ agree_limits (λ l. agree_gives _))

pub agree_table_type : (ts : List Signature) → Agree (read.table_type ts) (types.table_type ts)
agree_table_type ts =
    let parts : Read TableParts = read.reference_type ts >>= (λ e. read.limits >>= (λ l. done (read.table_of e l))) in
    agree_alike (read.table_type ts) (refusing parts types.table_rule) (types.table_type ts)
    (λ p.
    let refused : TableParts → Read TableParts = λ t. refuse p.at (types.table_rule t) t in
    (λ i. then (read.reference_type ts p) (λ e q. then (read.limits q) (λ l s. refuses p.at (are_table_limits (read.table_of e l)) (read.table_of e l) s i)))
    ∙ (λ i. then (read.reference_type ts p) (λ e q. then_then (read.limits q) (λ l. done (read.table_of e l)) refused i))
    ∙ then_then (read.reference_type ts p) (λ e. read.limits >>= (λ l. done (read.table_of e l))) refused)
    (agree_refusing parts (types.table_parts ts) types.table_rule (agree_table_parts ts))

agree_memory_parts : Agree (read.limits >>= (λ l. done (read.memory_of l))) types.memory_parts
agree_memory_parts = agree_then read.limits _ types.limits _ agree_limits (λ l. agree_gives _)

pub agree_memory_type : Agree read.memory_type types.memory_type
agree_memory_type =
    let parts : Read MemoryParts = read.limits >>= (λ l. done (read.memory_of l)) in
    agree_alike read.memory_type (refusing parts types.memory_rule) types.memory_type
    (λ p.
    let refused : MemoryParts → Read MemoryParts = λ m. refuse p.at (types.memory_rule m) m in
    (λ i. then (read.limits p) (λ l s. refuses p.at (are_memory_limits (read.memory_of l)) (read.memory_of l) s i))
    ∙ then_then (read.limits p) (λ l. done (read.memory_of l)) refused)
    (agree_refusing parts types.memory_parts types.memory_rule agree_memory_parts)

-- ---- types of globals

agree_mutability : Agree read.mutability_at types.mutability
agree_mutability = agree_standing reading.byte formats.byte read.mutability types.unsupported agree_byte

pub agree_global_type : (ts : List Signature) → Agree (read.global_type ts) (types.global_type ts)
agree_global_type ts = agree_then (read.value_type ts) _ (types.value_type ts) _ (agree_value_type ts) (λ t. agree_then read.mutability_at _ types.mutability _ agree_mutability (λ m. agree_gives _))
