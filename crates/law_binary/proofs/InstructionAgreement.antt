-- Straight instructions are read as the grammar has them.
use Rattle.std.proofs.Common.{◌≡◌, ℕ, ◌+◌, ◌-◌, List, [], ◌∷◌, Bool, true, false, Option, Some, None, Result, Ok, Err, arith, refl, sym, ◌∙◌, ap, cond, nat_eq}
use Rattle.std.specs.Option.{option_or}
use Rattle.std.specs.Prelude.{option_map}
use Rattle.std.proofs.lemmas.Bool.{eqb-false, ne_eqb}
use Rattle.wasm_leb.specs.Places.{Place}
use Rattle.wasm_types.specs.Signatures.{Signature}
use Rattle.wasm_syntax.specs.declared.instr.Instr.{Instr}
use Rattle.wasm_syntax.specs.declared.instr.Instr.TheVariants as i
use Rattle.wasm_syntax.specs.declared.accesses.LoadOp.{LoadOp}
use Rattle.wasm_syntax.specs.declared.accesses.StoreOp.{StoreOp}
use Rattle.binary_types.specs.Reading.{Read, then, done, unless, some_or, ◌>>=◌}
use Rattle.binary_types.specs.Reading as reading
use Rattle.binary_types.specs.Types as types
use Rattle.binary_types.specs.declared.faults.BinaryFault.{BinaryFault}
use Rattle.binary_types.specs.declared.faults.BinaryFault.TheVariants.{Malformed, Unsupported, Alignment}
use Rattle.binary_code.specs.AccessCodes.{load_width, store_width}
use Rattle.binary_code.specs.InstrCodes.{long_of}
use Rattle.binary_code.specs.Instructions as read
use Rattle.binary_code.specs.Instructions.{is_aligned, is_counted, names_memory}
use Rattle.law_binary.specs.Agreement.{Agree}
use Rattle.law_binary.specs.Formats.{Format, no_table}
use Rattle.law_binary.specs.Formats as formats
use Rattle.law_binary.specs.Instructions as grammar
use Rattle.law_binary.specs.Types as type_grammar
use Rattle.law_binary.proofs.Combining.{agree_gives, agree_holds, agree_then, agree_standing, standing}
use Rattle.law_binary.proofs.Parts.{Chain, EachRow, agree_by_code, apart, chained, chained_then, coded, left_out, stands_in}
use Rattle.law_binary.proofs.Items.{agree_u32, agree_i32, agree_i64}
use Rattle.law_binary.proofs.Rows.{also, row}
use Rattle.law_binary.proofs.TypeAgreement.{agree_alike, then_then, agree_type_index, agree_heap_type}
use Rattle.law_binary.proofs.DeclarationAgreement.{agree_as}

-- ---- numbers

abbrev pub one : (ℕ → Instr) → Read Instr
one instr = reading.u32 >>= (λ n. done (instr n))

abbrev pub two : (ℕ → ℕ → Instr) → Read Instr
two instr = reading.u32 >>= (λ n. reading.u32 >>= (λ m. done (instr n m)))

pub agree_one : (instr : ℕ → Instr) → Agree (one instr) (grammar.one instr)
agree_one instr = agree_as reading.u32 formats.u32 instr agree_u32

pub agree_two : (instr : ℕ → ℕ → Instr) → Agree (two instr) (grammar.two instr)
agree_two instr = agree_then reading.u32 _ formats.u32 _ agree_u32 (λ n. agree_as reading.u32 formats.u32 (instr n) agree_u32)

-- ---- loads and stores

agree_memory_if : (b : Bool) → Agree (read.memory_if b) (grammar.memory_if b)
agree_memory_if true = agree_u32
agree_memory_if false = agree_gives 0

-- a memory and an offset
abbrev place_behind : (ℕ → ℕ → Instr) → ℕ → Read Instr
place_behind instr exponent = read.memory_if (names_memory exponent) >>= (λ memory. reading.u32 >>= (λ offset. done (instr memory offset)))

abbrev alignment : ℕ → Read ℕ
alignment width = standing reading.u32 (grammar.aligned width) grammar.misaligned

abbrev access : ℕ → (ℕ → ℕ → Instr) → Read Instr
access width instr = alignment width >>= place_behind instr

agree_access : (width : ℕ) (instr : ℕ → ℕ → Instr) → Agree (access width instr) (grammar.access width instr)
agree_access width instr =
    agree_then (alignment width) _ (grammar.alignment width) _ (agree_standing reading.u32 formats.u32 (grammar.aligned width) grammar.misaligned agree_u32) (λ exponent.
    agree_then (read.memory_if (names_memory exponent)) _ (grammar.memory_if (names_memory exponent)) _ (agree_memory_if (names_memory exponent)) (λ memory.
    agree_as reading.u32 formats.u32 (instr memory) agree_u32))

unless_then : {A B : Type 0} (f : BinaryFault) (test : Bool) (x : A) (q : Place) (next : A → Read B) → then (unless f test q) (λ _. next x) ≡ then (some_or f (cond test (Some x) None) q) next
unless_then f true x q next = refl
unless_then f false x q next = refl

-- the parts of an access, as they are read before they are put into an instruction
abbrev ValueOf : {A : Type 0} → Read A → Type 0
ValueOf {A = A} r = A

abbrev Argument : Type 0
Argument = ValueOf (read.argument 0)

abbrev argument : ℕ → ℕ → Argument
argument memory offset = record { memory = memory; offset = offset }

abbrev offset_behind : ℕ → Read Argument
offset_behind memory = reading.u32 >>= (λ offset. done (argument memory offset))

abbrev parts_behind : ℕ → Read Argument
parts_behind e = read.memory_if (names_memory e) >>= offset_behind

abbrev tested : ℕ → ℕ → ℕ → Read Argument
tested width at e = unless (Alignment at) (is_aligned width e) >>= (λ _. parts_behind e)

abbrev made : (ℕ → ℕ → Instr) → Argument → Read Instr
made instr a = done (instr a.memory a.offset)

access_is : (width : ℕ) (instr : ℕ → ℕ → Instr) (p : Place) → then (read.argument width p) (made instr) ≡ access width instr p
access_is width instr p =
    sym (then_then (reading.u32 p) (tested width p.at) (made instr))
    ∙ (λ i. then (reading.u32 p) (λ e q. sym (then_then (unless (Alignment p.at) (is_aligned width e) q) (λ _. parts_behind e) (made instr)) i))
    ∙ (λ i. then (reading.u32 p) (λ e q. then (unless (Alignment p.at) (is_aligned width e) q) (λ _ r. sym (then_then (read.memory_if (names_memory e) r) offset_behind (made instr)) i)))
    ∙ (λ i. then (reading.u32 p) (λ e q. then (unless (Alignment p.at) (is_aligned width e) q) (λ _ r. then (read.memory_if (names_memory e) r) (λ m t. sym (then_then (reading.u32 t) (λ o. done (argument m o)) (made instr)) i))))
    ∙ (λ i. then (reading.u32 p) (λ e q. unless_then (Alignment p.at) (is_aligned width e) e q (place_behind instr) i))
    ∙ then_then (reading.u32 p) (λ e. some_or (Alignment p.at) (grammar.aligned width e)) (place_behind instr)

pub agree_load : (op : LoadOp) → Agree (read.load op) (grammar.load op)
agree_load op = agree_alike (read.load op) (access (load_width op) (i.Load op)) (grammar.load op) (access_is (load_width op) (i.Load op)) (agree_access (load_width op) (i.Load op))

pub agree_store : (op : StoreOp) → Agree (read.store op) (grammar.store op)
agree_store op = agree_alike (read.store op) (access (store_width op) (i.Store op)) (grammar.store op) (access_is (store_width op) (i.Store op)) (agree_access (store_width op) (i.Store op))

-- ---- constants, nulls, indirect calls

pub agree_const_32 : Agree read.const_32 grammar.const_32
agree_const_32 = agree_as reading.i32 formats.i32 i.Const32 agree_i32

pub agree_const_64 : Agree read.const_64 grammar.const_64
agree_const_64 = agree_as reading.i64 formats.i64 i.Const64 agree_i64

pub agree_null : (ts : List Signature) → Agree (read.null ts) (grammar.ref_null ts)
agree_null ts = agree_as (types.heap_type ts) (type_grammar.heap_type ts) _ (agree_heap_type ts)

pub agree_call_indirect : (ts : List Signature) → Agree (read.call_indirect ts) (grammar.call_indirect ts)
agree_call_indirect ts = agree_then (types.type_index ts) _ (type_grammar.type_index ts) _ (agree_type_index ts) (λ ty. agree_as reading.u32 formats.u32 (i.CallIndirect ty) agree_u32)

-- ---- instructions of two codes

two_counted : Bool → (ℕ → ℕ → Instr) → Read Instr
two_counted counted instr = unless Malformed counted >>= (λ _. two instr)

one_counted : Bool → (ℕ → Instr) → Read Instr
one_counted counted instr = unless Malformed counted >>= (λ _. one instr)

agree_two_counted : (counted : Bool) (instr : ℕ → ℕ → Instr) → Agree (two_counted counted instr) (grammar.if_counted counted (grammar.two instr))
unfolding two_counted
agree_two_counted counted instr = agree_then (unless Malformed counted) _ (formats.holds counted) _ (agree_holds counted) (λ _. agree_two instr)

agree_one_counted : (counted : Bool) (instr : ℕ → Instr) → Agree (one_counted counted instr) (grammar.if_counted counted (grammar.one instr))
unfolding one_counted
agree_one_counted counted instr = agree_then (unless Malformed counted) _ (formats.holds counted) _ (agree_holds counted) (λ _. agree_one instr)

abbrev longs : Bool → Chain Instr
longs counted =
    (0xfc08, two_counted counted (λ segment memory. i.MemoryInit memory segment)) ∷ (0xfc09, one_counted counted i.DataDrop)
    ∷ (0xfc0a, two i.MemoryCopy) ∷ (0xfc0b, one i.MemoryFill)
    ∷ (0xfc0c, two (λ segment table. i.TableInit table segment)) ∷ (0xfc0d, one i.ElemDrop)
    ∷ (0xfc0e, two i.TableCopy) ∷ (0xfc0f, one i.TableGrow) ∷ (0xfc10, one i.TableSize) ∷ (0xfc11, one i.TableFill) ∷ []

abbrev long_code : Read ℕ
long_code = reading.u32 >>= (λ n. done (0xfc00 + n))

agree_longs : (counted : Bool) → Agree (coded no_table long_code (longs counted)) (grammar.long counted)
agree_longs counted = agree_by_code no_table long_code grammar.long_code (longs counted) (grammar.longs counted)
    (agree_as reading.u32 formats.u32 (λ n. 0xfc00 + n) agree_u32)
    (row refl refl refl (agree_two_counted counted (λ segment memory. i.MemoryInit memory segment))
    (row refl refl refl (agree_one_counted counted i.DataDrop)
    (row refl refl refl (agree_two i.MemoryCopy)
    (row refl refl refl (agree_one i.MemoryFill)
    (row refl refl refl (agree_two (λ segment table. i.TableInit table segment))
    (row refl refl refl (agree_one i.ElemDrop)
    (row refl refl refl (agree_two i.TableCopy)
    (row refl refl refl (agree_one i.TableGrow)
    (row refl refl refl (agree_one i.TableSize)
    (row refl refl refl (agree_one i.TableFill) tt))))))))))

-- by the number behind fc, as it is read
abbrev long_by : Bool → ℕ → ℕ → Read Instr
long_by counted at n = some_or (Unsupported at (64512 + n)) (long_of n) >>= (λ f. unless Malformed (is_counted counted n) >>= (λ _. read.long_by f))

abbrev long_by_code : Bool → ℕ → ℕ → Read Instr
long_by_code counted at code = long_by counted at (code - 64512)

pub then_done : {A : Type 0} (r : Result (A × Place) BinaryFault) → then r done ≡ r
then_done (Ok r) = refl
then_done (Err e) = refl

each_long : (counted : Bool) (at : ℕ) → EachRow no_table done at (long_by_code counted at) (longs counted)
unfolding two_counted one_counted
each_long true at =
    also (λ q. then_done (two (λ segment memory. i.MemoryInit memory segment) q)) (also (λ q. then_done (one i.DataDrop q))
    (also (λ q. then_done (two i.MemoryCopy q)) (also (λ q. then_done (one i.MemoryFill q))
    (also (λ q. then_done (two (λ segment table. i.TableInit table segment) q)) (also (λ q. then_done (one i.ElemDrop q))
    (also (λ q. then_done (two i.TableCopy q)) (also (λ q. then_done (one i.TableGrow q))
    (also (λ q. then_done (one i.TableSize q)) (also (λ q. then_done (one i.TableFill q)) tt)))))))))
each_long false at =
    also (λ q. refl) (also (λ q. refl)
    (also (λ q. then_done (two i.MemoryCopy q)) (also (λ q. then_done (one i.MemoryFill q))
    (also (λ q. then_done (two (λ segment table. i.TableInit table segment) q)) (also (λ q. then_done (one i.ElemDrop q))
    (also (λ q. then_done (two i.TableCopy q)) (also (λ q. then_done (one i.TableGrow q))
    (also (λ q. then_done (one i.TableSize q)) (also (λ q. then_done (one i.TableFill q)) tt)))))))))

-- a table of codes has none that is not in it
pub none_if : {A : Type 0} (b : Bool) (x rest : Option A) → b ≡ false → rest ≡ None → cond b x rest ≡ None
none_if b x rest h e = left_out b x rest h ∙ e

or_none : {A B C : Type 0} (f : A → C) (g : B → C) (x : Option A) (y : Option B) → x ≡ None → y ≡ None → option_or (option_map f x) (option_map g y) ≡ None
or_none f g x y e h = ap (λ (o : Option _). option_or (option_map f o) (option_map g y)) e ∙ ap (λ (o : Option _). option_map g o) h

other_number : (counted : Bool) (n k : ℕ) → stands_in (longs counted) (64512 + n) ≡ false → stands_in (longs counted) (64512 + k) ≡ true → nat_eq n k ≡ false
other_number counted n k h s =
    let a : nat_eq (64512 + n) (64512 + k) ≡ false = apart (longs counted) (64512 + n) (64512 + k) h s in
    ne_eqb n k (λ same. eqb-false (64512 + n) (64512 + k) a (ap (λ (m : ℕ). 64512 + m) same))

no_long : (counted : Bool) (n : ℕ) → stands_in (longs counted) (64512 + n) ≡ false → long_of n ≡ None
no_long counted n h =
    or_none _ _ _ _
    (none_if (nat_eq n 9) _ _ (other_number counted n 9 h refl) (none_if (nat_eq n 11) _ _ (other_number counted n 11 h refl)
    (none_if (nat_eq n 13) _ _ (other_number counted n 13 h refl) (none_if (nat_eq n 15) _ _ (other_number counted n 15 h refl)
    (none_if (nat_eq n 16) _ _ (other_number counted n 16 h refl) (none_if (nat_eq n 17) _ _ (other_number counted n 17 h refl) refl))))))
    (none_if (nat_eq n 8) _ _ (other_number counted n 8 h refl) (none_if (nat_eq n 10) _ _ (other_number counted n 10 h refl)
    (none_if (nat_eq n 12) _ _ (other_number counted n 12 h refl) (none_if (nat_eq n 14) _ _ (other_number counted n 14 h refl) refl))))

long_chain : (counted : Bool) (at n : ℕ) (q : Place) → long_by counted at n q ≡ chained no_table (longs counted) at (64512 + n) q
long_chain counted at n q =
    let back : (64512 + n) - 64512 ≡ n = omega arith in
    let long : ℕ → Read Instr = long_by counted at in
    sym (
    sym (then_done (chained no_table (longs counted) at (64512 + n) q))
    ∙ chained_then no_table done at (long_by_code counted at) (longs counted) (each_long counted at) (64512 + n) q (λ h.
    sym (ap (λ (k : ℕ). long k q) back ∙ ap (λ (o : Option _). then (some_or (Unsupported at (64512 + n)) o q) (λ f. unless Malformed (is_counted counted n) >>= (λ _. read.long_by f))) (no_long counted n h)))
    ∙ ap (λ (k : ℕ). long k q) back
    )

pub agree_long : (counted : Bool) → Agree (read.long_instr counted) (grammar.long counted)
agree_long counted = agree_alike (read.long_instr counted) (coded no_table long_code (longs counted)) (grammar.long counted)
    (λ p.
    (λ i. then (reading.u32 p) (λ n q. long_chain counted p.at n q i))
    ∙ then_then (reading.u32 p) (λ n. done (0xfc00 + n)) (chained no_table (longs counted) p.at))
    (agree_longs counted)
