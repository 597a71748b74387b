-- Element and data segments are read as the grammar has them.
use Rattle.std.proofs.Common.{◌≡◌, ℕ, List, [], ◌∷◌, Bool, true, false, arith, refl, sym, ◌∙◌, subst, nat_eq, nat_lt}
use Rattle.std.proofs.lemmas.Bool.{eqb-true, eqb-false, le-ltb}
use Rattle.wasm_leb.specs.Places.{Place}
use Rattle.wasm_types.specs.Signatures.{Signature}
use Rattle.wasm_types.specs.FunctionParts.{ref_type}
use Rattle.wasm_types.specs.declared.value_types.HeapType.TheVariants as h
use Rattle.wasm_types.specs.declared.value_types.RefType.{RefType}
use Rattle.wasm_syntax.specs.declared.constants.ConstExpr.TheVariants as c
use Rattle.wasm_syntax.specs.declared.segments.DataMode.{DataMode}
use Rattle.wasm_syntax.specs.declared.segments.DataMode.TheVariants as d
use Rattle.wasm_syntax.specs.declared.segments.ElemDecl.{ElemDecl}
use Rattle.wasm_syntax.specs.declared.segments.ElemMode.{ElemMode}
use Rattle.wasm_syntax.specs.declared.segments.ElemMode.TheVariants as m
use Rattle.binary_types.specs.Constants as constants
use Rattle.binary_types.specs.Segments as read
use Rattle.binary_types.specs.Reading.{Read, then, done, ◌>>=◌, listed, fixed}
use Rattle.binary_types.specs.Reading as reading
use Rattle.binary_types.specs.Types as types
use Rattle.law_binary.specs.Agreement.{Agree}
use Rattle.law_binary.specs.Constants as constant_grammar
use Rattle.law_binary.specs.Formats.{Format, no_table}
use Rattle.law_binary.specs.Formats as formats
use Rattle.law_binary.specs.Segments as grammar
use Rattle.law_binary.specs.Types as type_grammar
use Rattle.law_binary.proofs.Combining.{agree_gives, agree_then}
use Rattle.law_binary.proofs.Rows.{row}
use Rattle.law_binary.proofs.Parts.{Chain, agree_by_code, chained, coded, left_out}
use Rattle.law_binary.proofs.Items.{agree_u32, agree_listed, agree_byte_list}
use Rattle.law_binary.proofs.TypeAgreement.{agree_alike, then_then, agree_reference_type}
use Rattle.law_binary.proofs.DeclarationAgreement.{agree_as, agree_behind, agree_constant}

-- ---- functions and constants

agree_functions : (mode : ElemMode) → Agree (read.functions mode) (grammar.functions mode)
agree_functions mode =
    agree_as (listed read.function_item) (formats.vector constant_grammar.ref_func) _
    (agree_listed read.function_item constant_grammar.ref_func (agree_as reading.u32 formats.u32 c.RefFunc agree_u32))

agree_unnamed : (mode : ElemMode) → Agree (read.unnamed mode) (grammar.functions_of_kind mode)
agree_unnamed mode = agree_behind 0x00 (read.functions mode) (grammar.functions mode) (agree_functions mode)

agree_constants : (ts : List Signature) (ty : RefType) (mode : ElemMode) → Agree (read.constants ts ty mode) (grammar.constants_of ts ty mode)
agree_constants ts ty mode =
    agree_as (listed (constants.constant ts)) (formats.vector (constant_grammar.constant ts)) _
    (agree_listed (constants.constant ts) (constant_grammar.constant ts) (agree_constant ts))

agree_typed : (ts : List Signature) (mode : ElemMode) → Agree (read.typed ts mode) (grammar.constants ts mode)
agree_typed ts mode = agree_then (types.reference_type ts) _ (type_grammar.reference_type ts) _ (agree_reference_type ts) (λ ty. agree_constants ts ty mode)

agree_active_at : (ts : List Signature) (table : ℕ) → Agree (read.active_at ts table) (grammar.in_table ts table)
agree_active_at ts table = agree_as (constants.constant ts) (constant_grammar.constant ts) _ (agree_constant ts)

agree_active : (ts : List Signature) → Agree (read.active ts) (grammar.in_a_table ts)
agree_active ts = agree_then reading.u32 _ formats.u32 _ agree_u32 (λ table. agree_active_at ts table)

-- ---- element segments

functions_in : List Signature → Read ElemDecl
functions_in ts = read.active_at ts 0 >>= read.functions

functions_in_a_table : List Signature → Read ElemDecl
functions_in_a_table ts = read.active ts >>= read.unnamed

constants_in : List Signature → Read ElemDecl
constants_in ts = read.active_at ts 0 >>= read.constants ts (ref_type true h.Func)

constants_in_a_table : List Signature → Read ElemDecl
constants_in_a_table ts = read.active ts >>= read.typed ts

abbrev segments : List Signature → Chain ElemDecl
segments ts =
    (0, functions_in ts) ∷ (1, read.unnamed m.Passive) ∷ (2, functions_in_a_table ts) ∷ (3, read.unnamed m.Declared)
    ∷ (4, constants_in ts) ∷ (5, read.typed ts m.Passive) ∷ (6, constants_in_a_table ts) ∷ (7, read.typed ts m.Declared) ∷ []

-- the first four are told from the others before their codes are
segment_chain : (ts : List Signature) (at kind : ℕ) (p : Place) → read.segment_by ts at kind p ≡ chained no_table (segments ts) at kind p
unfolding functions_in functions_in_a_table constants_in constants_in_a_table
segment_chain ts at kind p = by_0 (nat_eq kind 0) refl
  where
    Same : ℕ → Type 0
    Same k = read.segment_by ts at k p ≡ chained no_table (segments ts) at k p

    so : (k : ℕ) → nat_eq kind k ≡ true → Same k → Same kind
    so k e s = subst Same (sym (eqb-true kind k e)) s

    others : nat_eq kind 0 ≡ false → nat_eq kind 1 ≡ false → nat_eq kind 2 ≡ false → nat_eq kind 3 ≡ false → Same kind
    others a b c e =
        let n0 = eqb-false kind 0 a in
        let n1 = eqb-false kind 1 b in
        let n2 = eqb-false kind 2 c in
        let n3 = eqb-false kind 3 e in
        left_out (nat_lt kind 4) _ _ (le-ltb kind 4 (omega arith))
        ∙ sym (left_out (nat_eq kind 0) _ _ a ∙ left_out (nat_eq kind 1) _ _ b ∙ left_out (nat_eq kind 2) _ _ c ∙ left_out (nat_eq kind 3) _ _ e)

    by_3 : nat_eq kind 0 ≡ false → nat_eq kind 1 ≡ false → nat_eq kind 2 ≡ false → (b : Bool) → nat_eq kind 3 ≡ b → Same kind
    by_3 a b c true e = so 3 e (refl {a = read.unnamed m.Declared p})
    by_3 a b c false e = others a b c e

    by_2 : nat_eq kind 0 ≡ false → nat_eq kind 1 ≡ false → (b : Bool) → nat_eq kind 2 ≡ b → Same kind
    by_2 a b true e = so 2 e (refl {a = functions_in_a_table ts p})
    by_2 a b false e = by_3 a b e (nat_eq kind 3) refl

    by_1 : nat_eq kind 0 ≡ false → (b : Bool) → nat_eq kind 1 ≡ b → Same kind
    by_1 a true e = so 1 e (refl {a = read.unnamed m.Passive p})
    by_1 a false e = by_2 a e (nat_eq kind 2) refl

    by_0 : (b : Bool) → nat_eq kind 0 ≡ b → Same kind
    by_0 true e = so 0 e (refl {a = functions_in ts p})
    by_0 false e = by_1 e (nat_eq kind 1) refl

agree_segments : (ts : List Signature) → Agree (coded no_table reading.u32 (segments ts)) (grammar.element_segment ts)
unfolding functions_in functions_in_a_table constants_in constants_in_a_table
agree_segments ts = agree_by_code no_table reading.u32 formats.u32 (segments ts) (grammar.element_segments ts) agree_u32
    (row refl refl refl (agree_then (read.active_at ts 0) _ (grammar.in_table ts 0) _ (agree_active_at ts 0) agree_functions)
    (row refl refl refl (agree_unnamed m.Passive)
    (row refl refl refl (agree_then (read.active ts) _ (grammar.in_a_table ts) _ (agree_active ts) agree_unnamed)
    (row refl refl refl (agree_unnamed m.Declared)
    (row refl refl refl (agree_then (read.active_at ts 0) _ (grammar.in_table ts 0) _ (agree_active_at ts 0) (agree_constants ts (ref_type true h.Func)))
    (row refl refl refl (agree_typed ts m.Passive)
    (row refl refl refl (agree_then (read.active ts) _ (grammar.in_a_table ts) _ (agree_active ts) (agree_typed ts))
    (row refl refl refl (agree_typed ts m.Declared) tt))))))))

pub agree_element_segment : (ts : List Signature) → Agree (read.element_segment ts) (grammar.element_segment ts)
agree_element_segment ts = agree_alike (read.element_segment ts) (coded no_table reading.u32 (segments ts)) (grammar.element_segment ts)
    (λ p i. then (reading.u32 p) (λ kind q. segment_chain ts p.at kind q i))
    (agree_segments ts)

-- ---- data segments

agree_data_active_at : (ts : List Signature) (memory : ℕ) → Agree (read.data_active_at ts memory) (grammar.in_memory ts memory)
agree_data_active_at ts memory = agree_as (constants.constant ts) (constant_grammar.constant ts) _ (agree_constant ts)

agree_data_active : (ts : List Signature) → Agree (read.data_active ts) (grammar.in_a_memory ts)
agree_data_active ts = agree_then reading.u32 _ formats.u32 _ agree_u32 (λ memory. agree_data_active_at ts memory)

abbrev modes : List Signature → Chain DataMode
modes ts = (0, read.data_active_at ts 0) ∷ (1, done d.Passive) ∷ (2, read.data_active ts) ∷ []

agree_modes : (ts : List Signature) → Agree (coded no_table reading.u32 (modes ts)) (formats.by_code formats.u32 no_table (grammar.data_modes ts))
agree_modes ts = agree_by_code no_table reading.u32 formats.u32 (modes ts) (grammar.data_modes ts) agree_u32
    (refl, refl, refl, agree_data_active_at ts 0, (refl, refl, refl, agree_gives d.Passive, (refl, refl, refl, agree_data_active ts, tt)))

pub agree_data_segment : (ts : List Signature) → Agree (read.data_segment ts) (grammar.data_segment ts)
agree_data_segment ts =
    agree_alike (read.data_segment ts) (coded no_table reading.u32 (modes ts) >>= (λ mode. reading.byte_list >>= (λ bytes. done (record { mode = mode; bytes = bytes })))) (grammar.data_segment ts)
    (λ p. then_then (reading.u32 p) (read.data_mode_by ts p.at) (λ mode. reading.byte_list >>= (λ bytes. done (record { mode = mode; bytes = bytes }))))
    (agree_then (coded no_table reading.u32 (modes ts)) _ (formats.by_code formats.u32 no_table (grammar.data_modes ts)) _ (agree_modes ts)
    (λ mode. agree_as reading.byte_list formats.byte_vector _ agree_byte_list))
