-- Constants, imports, exports, tables, tags, globals and segments are read as the grammar has them.
use Rattle.std.proofs.Common.{ℕ, List, [], ◌∷◌, refl, sym, ◌∙◌, nat_eq}
use Rattle.std.specs.Int.{w32, w64, w128, from_le_bytes}
use Rattle.wasm_types.specs.Signatures.{Signature}
use Rattle.wasm_types.specs.declared.extern_type.ExternType.{ExternType}
use Rattle.wasm_types.specs.declared.extern_type.ExternType.TheVariants as x
use Rattle.wasm_syntax.specs.declared.constants.ConstExpr.{ConstExpr}
use Rattle.wasm_syntax.specs.declared.constants.ConstExpr.TheVariants as c
use Rattle.wasm_syntax.specs.declared.entities.EntityIndex.{EntityIndex}
use Rattle.wasm_syntax.specs.declared.entities.EntityIndex.TheVariants as e
use Rattle.binary_types.specs.Constants as read
use Rattle.binary_types.specs.Entries as entries
use Rattle.binary_types.specs.Imports as imports
use Rattle.binary_types.specs.Reading.{Read, then, done, ◌>>=◌, listed, fixed}
use Rattle.binary_types.specs.Reading as reading
use Rattle.binary_types.specs.Types as types
use Rattle.law_binary.specs.Agreement.{Agree}
use Rattle.law_binary.specs.Constants as grammar
use Rattle.law_binary.specs.Declarations as declarations
use Rattle.law_binary.specs.Formats.{Format, no_table}
use Rattle.law_binary.specs.Formats as formats
use Rattle.law_binary.specs.Types as type_grammar
use Rattle.law_binary.proofs.Combining.{agree_gives, agree_then}
use Rattle.law_binary.proofs.Rows.{row}
use Rattle.law_binary.proofs.Parts.{Chain, agree_by_code, coded}
use Rattle.law_binary.proofs.Lists.{agree_byte, agree_fixed, agree_raw}
use Rattle.law_binary.proofs.Items.{agree_u32, agree_i32, agree_i64, agree_name, agree_by_first, IsNotEmpty, nothing_begins}
use Rattle.law_binary.proofs.TypeAgreement.{agree_alike, then_then, agree_type_at, agree_type_index, agree_heap_type, agree_table_type, agree_memory_type, agree_global_type}

-- a number that is given as something, a part that is
pub agree_as : {A B : Type 0} (r : Read A) (F : Format A) (f : A → B) → Agree r F → Agree (r >>= (λ x. done (f x))) (formats.◌>>=◌ F (λ x. formats.gives (f x)))
agree_as r F f a = agree_then r _ F _ a (λ x. agree_gives (f x))

pub agree_behind : {A : Type 0} (b : ℕ) (r : Read A) (F : Format A) → Agree r F → Agree (fixed b >>= (λ _. r)) (formats.◌>>=◌ (formats.the_byte b) (λ _. F))
agree_behind b r F a = agree_then (fixed b) _ (formats.the_byte b) _ (agree_fixed b) (λ _. a)

-- ---- constants

constants : List Signature → Chain ConstExpr
constants ts =
    (0x23, reading.u32 >>= (λ n. done (c.GlobalGet n))) ∷ (0xd0, read.null ts) ∷ (0xd2, reading.u32 >>= (λ n. done (c.RefFunc n)))
    ∷ (0x41, reading.i32 >>= (λ z. done (c.I32 z))) ∷ (0x42, reading.i64 >>= (λ z. done (c.I64 z)))
    ∷ (0x43, read.bits_32 >>= (λ b. done (c.F32 b))) ∷ (0x44, read.bits_64 >>= (λ b. done (c.F64 b)))
    ∷ (0xfd, read.bits_128 >>= (λ b. done (c.V128 b))) ∷ []

agree_f32 : Agree (read.bits_32 >>= (λ b. done (c.F32 b))) grammar.const_f32
agree_f32 = agree_alike (read.bits_32 >>= (λ b. done (c.F32 b))) (reading.raw 4 >>= (λ bs. done (c.F32 (from_le_bytes w32 bs)))) grammar.const_f32
    (λ p. sym (then_then (reading.raw 4 p) (λ bs. done (from_le_bytes w32 bs)) (λ b. done (c.F32 b))))
    (agree_as (reading.raw 4) (formats.raw 4) (λ bs. c.F32 (from_le_bytes w32 bs)) (agree_raw 4))

agree_f64 : Agree (read.bits_64 >>= (λ b. done (c.F64 b))) grammar.const_f64
agree_f64 = agree_alike (read.bits_64 >>= (λ b. done (c.F64 b))) (reading.raw 8 >>= (λ bs. done (c.F64 (from_le_bytes w64 bs)))) grammar.const_f64
    (λ p. sym (then_then (reading.raw 8 p) (λ bs. done (from_le_bytes w64 bs)) (λ b. done (c.F64 b))))
    (agree_as (reading.raw 8) (formats.raw 8) (λ bs. c.F64 (from_le_bytes w64 bs)) (agree_raw 8))

sixteen : Read ConstExpr
sixteen = reading.raw 16 >>= (λ bs. done (c.V128 (from_le_bytes w128 bs)))

agree_v128 : Agree (read.bits_128 >>= (λ b. done (c.V128 b))) grammar.const_v128
unfolding sixteen
agree_v128 = agree_alike (read.bits_128 >>= (λ b. done (c.V128 b))) (fixed 0x0c >>= (λ _. sixteen)) grammar.const_v128
    (λ p.
    sym (then_then (fixed 0x0c p) (λ _. reading.raw 16 >>= (λ bs. done (from_le_bytes w128 bs))) (λ b. done (c.V128 b)))
    ∙ (λ i. then (fixed 0x0c p) (λ _ q. sym (then_then (reading.raw 16 q) (λ bs. done (from_le_bytes w128 bs)) (λ b. done (c.V128 b))) i)))
    (agree_behind 0x0c sixteen (formats.◌>>=◌ (formats.raw 16) (λ bs. formats.gives (c.V128 (from_le_bytes w128 bs))))
    (agree_as (reading.raw 16) (formats.raw 16) (λ bs. c.V128 (from_le_bytes w128 bs)) (agree_raw 16)))

agree_null : (ts : List Signature) → Agree (read.null ts) (grammar.ref_null ts)
agree_null ts = agree_as (types.heap_type ts) (type_grammar.heap_type ts) _ (agree_heap_type ts)

agree_constants : (ts : List Signature) → Agree (coded no_table reading.byte (constants ts)) (formats.by_code formats.byte no_table (grammar.constants ts))
unfolding constants
agree_constants ts = agree_by_code no_table reading.byte formats.byte (constants ts) (grammar.constants ts) agree_byte
    (row refl refl refl (agree_as reading.u32 formats.u32 c.GlobalGet agree_u32)
    (row refl refl refl (agree_null ts)
    (row refl refl refl (agree_as reading.u32 formats.u32 c.RefFunc agree_u32)
    (row refl refl refl (agree_as reading.i32 formats.i32 c.I32 agree_i32)
    (row refl refl refl (agree_as reading.i64 formats.i64 c.I64 agree_i64)
    (row refl refl refl agree_f32
    (row refl refl refl agree_f64
    (row refl refl refl agree_v128 tt))))))))

pub agree_constant : (ts : List Signature) → Agree (read.constant ts) (grammar.constant ts)
unfolding constants
agree_constant ts =
    let end : ConstExpr → Read ConstExpr = λ e. fixed 0x0b >>= (λ _. done e) in
    agree_alike (read.constant ts) (coded no_table reading.byte (constants ts) >>= end) (grammar.constant ts)
    (λ p. then_then (reading.byte p) (read.constant_by ts p.at) end)
    (agree_then (coded no_table reading.byte (constants ts)) end (formats.by_code formats.byte no_table (grammar.constants ts)) _
    (agree_constants ts)
    (λ e. agree_behind 0x0b (done e) (formats.gives e) (agree_gives e)))

-- ---- imports and exports

agree_tag_type : (ts : List Signature) → Agree (imports.tag_type ts) (declarations.tag_type ts)
agree_tag_type ts = agree_behind 0x00 (types.type_at ts) (type_grammar.type_at ts) (agree_type_at ts)

externs : List Signature → Chain ExternType
externs ts =
    (0x00, types.type_at ts >>= (λ t. done (x.Func t))) ∷ (0x01, types.table_type ts >>= (λ t. done (x.Table t)))
    ∷ (0x02, types.memory_type >>= (λ t. done (x.Memory t))) ∷ (0x03, types.global_type ts >>= (λ t. done (x.Global t)))
    ∷ (0x04, imports.tag_type ts >>= (λ t. done (x.Tag t))) ∷ []

agree_extern : (ts : List Signature) → Agree (imports.extern_type ts) (formats.by_code formats.byte no_table (declarations.extern_types ts))
unfolding externs
agree_extern ts = agree_by_code no_table reading.byte formats.byte (externs ts) (declarations.extern_types ts) agree_byte
    (row refl refl refl (agree_as (types.type_at ts) (type_grammar.type_at ts) x.Func (agree_type_at ts))
    (row refl refl refl (agree_as (types.table_type ts) (type_grammar.table_type ts) x.Table (agree_table_type ts))
    (row refl refl refl (agree_as types.memory_type type_grammar.memory_type x.Memory agree_memory_type)
    (row refl refl refl (agree_as (types.global_type ts) (type_grammar.global_type ts) x.Global (agree_global_type ts))
    (row refl refl refl (agree_as (imports.tag_type ts) (declarations.tag_type ts) x.Tag (agree_tag_type ts)) tt)))))

pub agree_import : (ts : List Signature) → Agree (imports.import ts) (declarations.import ts)
agree_import ts =
    agree_then reading.name _ formats.name _ agree_name (λ from.
    agree_then reading.name _ formats.name _ agree_name (λ item.
    agree_as (imports.extern_type ts) (formats.by_code formats.byte no_table (declarations.extern_types ts)) _ (agree_extern ts)))

index : (ℕ → EntityIndex) → Read EntityIndex
index entity = reading.u32 >>= (λ n. done (entity n))

entities : Chain EntityIndex
unfolding index
entities = (0x00, index e.Func) ∷ (0x01, index e.Table) ∷ (0x02, index e.Memory) ∷ (0x03, index e.Global) ∷ (0x04, index e.Tag) ∷ []

agree_index : (entity : ℕ → EntityIndex) → Agree (index entity) (declarations.index entity)
unfolding index
agree_index entity = agree_as reading.u32 formats.u32 entity agree_u32

agree_entity : Agree imports.entity (formats.by_code formats.byte no_table declarations.entities)
unfolding entities index
agree_entity = agree_by_code no_table reading.byte formats.byte entities declarations.entities agree_byte
    (row refl refl refl (agree_index e.Func)
    (row refl refl refl (agree_index e.Table)
    (row refl refl refl (agree_index e.Memory)
    (row refl refl refl (agree_index e.Global)
    (row refl refl refl (agree_index e.Tag) tt)))))

pub agree_export : Agree imports.export declarations.export
agree_export =
    agree_then reading.name _ formats.name _ agree_name (λ item.
    agree_as imports.entity (formats.by_code formats.byte no_table declarations.entities) _ agree_entity)

-- ---- tables, tags, globals

agree_null_table : (ts : List Signature) → Agree (entries.null_table ts) (declarations.null_table ts)
agree_null_table ts = agree_as (types.table_type ts) (type_grammar.table_type ts) _ (agree_table_type ts)

agree_valued_table : (ts : List Signature) → Agree (entries.valued_table ts) (declarations.valued_table ts)
agree_valued_table ts =
    agree_then (fixed 0x40) _ (formats.the_byte 0x40) _ (agree_fixed 0x40) (λ _.
    agree_then (fixed 0x00) _ (formats.the_byte 0x00) _ (agree_fixed 0x00) (λ _.
    agree_then (types.table_type ts) _ (type_grammar.table_type ts) _ (agree_table_type ts) (λ t.
    agree_as (read.constant ts) (grammar.constant ts) _ (agree_constant ts))))

valued_not_empty : (ts : List Signature) → IsNotEmpty (declarations.valued_table ts)
valued_not_empty ts x s = nothing_begins (formats.the_byte 0x40).Spells _ (λ b e. absurd (cc e)) s

reference_not_empty : (ts : List Signature) → IsNotEmpty (type_grammar.reference_type ts)
reference_not_empty ts x s = nothing_begins formats.byte.Spells _ (λ b e. absurd (cc e)) s

null_not_empty : (ts : List Signature) → IsNotEmpty (declarations.null_table ts)
null_not_empty ts x s = nothing_begins (type_grammar.table_type ts).Spells _
    (λ t r. nothing_begins (type_grammar.reference_type ts).Spells _ (reference_not_empty ts) r.0) s

pub agree_table : (ts : List Signature) → Agree (entries.table ts) (declarations.table ts)
agree_table ts = agree_by_first (λ b. nat_eq b 0x40) (λ b. entries.table_if b ts) (declarations.valued_table ts) (declarations.null_table ts) (agree_valued_table ts) (agree_null_table ts) (valued_not_empty ts) (null_not_empty ts)

pub agree_tag : (ts : List Signature) → Agree (entries.tag ts) (declarations.tag ts)
agree_tag ts = agree_behind 0x00 (types.type_index ts) (type_grammar.type_index ts) (agree_type_index ts)

pub agree_global : (ts : List Signature) → Agree (entries.global ts) (declarations.global ts)
agree_global ts = agree_then (types.global_type ts) _ (type_grammar.global_type ts) _ (agree_global_type ts) (λ t.
    agree_as (read.constant ts) (grammar.constant ts) _ (agree_constant ts))
