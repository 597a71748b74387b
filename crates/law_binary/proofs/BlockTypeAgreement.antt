-- Block types are read as the grammar has them.
use Rattle.std.proofs.Common.{◌≡◌, ℕ, List, [], ◌∷◌, ◌++◌, length, Bool, true, false, Option, Some, None, Result, refl, sym, ◌∙◌, ap, cond, nat_eq}
use Rattle.std.specs.Prelude.{option_map, position}
use Rattle.wasm_leb.specs.Places.{Place}
use Rattle.wasm_types.specs.Signatures.{Signature}
use Rattle.wasm_types.specs.FunctionParts.{from_parts}
use Rattle.wasm_types.specs.FunctionRules as rules
use Rattle.wasm_types.specs.declared.faults.TypeFault.{TypeFault}
use Rattle.wasm_types.specs.declared.value_types.ValType.{ValType}
use Rattle.wasm_types.specs.declared.value_types.ValType.TheVariants as v
use Rattle.binary_types.specs.FunctionTypes.{made_by}
use Rattle.binary_types.specs.Reading.{Read, then, done, some_or, ◌>>=◌}
use Rattle.binary_types.specs.Reading as reading
use Rattle.binary_types.specs.Types as types
use Rattle.binary_types.specs.declared.faults.BinaryFault.{BinaryFault}
use Rattle.binary_types.specs.declared.faults.BinaryFault.TheVariants.{Unsupported}
use Rattle.binary_code.specs.BlockTypes as read
use Rattle.binary_code.specs.declared.context.CodeContext.{CodeContext}
use Rattle.law_binary.specs.Agreement.{Agree}
use Rattle.law_binary.specs.Code as grammar
use Rattle.law_binary.specs.Formats.{Format}
use Rattle.law_binary.specs.Formats as formats
use Rattle.law_binary.specs.Types as type_grammar
use Rattle.law_binary.proofs.Combining.{agree_gives, agree_then}
use Rattle.law_binary.proofs.Rows.{row}
use Rattle.law_binary.proofs.Parts.{Chain, EachRow, agree_by_code, agree_refusing, apart, chained, chained_then, coded, refuse, refusing}
use Rattle.law_binary.proofs.Lists.{agree_byte}
use Rattle.law_binary.proofs.Items.{agree_by_first, IsNotEmpty, nothing_begins}
use Rattle.law_binary.proofs.TypeAgreement.{agree_alike, then_then, some_or_map, value_alone, agree_value_to, agree_signed_index}
use Rattle.law_binary.proofs.DeclarationAgreement.{agree_as}
use Rattle.law_binary.proofs.InstructionAgreement.{then_done}

-- ---- results

value_to : Bool → List Signature → Read ValType
value_to nullable ts = types.prefixed nullable ts >>= (λ t. done (v.Ref t))

abbrev results : List Signature → Chain (List ValType)
results ts = (0x63, value_to true ts >>= (λ t. done (grammar.one_result t))) ∷ (0x64, value_to false ts >>= (λ t. done (grammar.one_result t))) ∷ []

agree_results : (ts : List Signature) → Agree (coded grammar.results_code reading.byte (results ts)) (grammar.results ts)
unfolding value_to
agree_results ts = agree_by_code grammar.results_code reading.byte formats.byte (results ts) (grammar.reference_results ts) agree_byte
    (row refl refl refl (agree_as (value_to true ts) (type_grammar.value_to true ts) grammar.one_result (agree_value_to true ts))
    (row refl refl refl (agree_as (value_to false ts) (type_grammar.value_to false ts) grammar.one_result (agree_value_to false ts)) tt))

each_result : (ts : List Signature) (at : ℕ) → EachRow grammar.results_code done at (read.results_by ts at) (results ts)
unfolding value_to
each_result ts at = (
  (λ q. then_done ((value_to true ts >>= (λ t. done (grammar.one_result t))) q)),
  ((λ q. then_done ((value_to false ts >>= (λ t. done (grammar.one_result t))) q)), tt),
)

other_results : (ts : List Signature) (at code : ℕ) (q : Place) → nat_eq code 0x63 ≡ false → nat_eq code 0x64 ≡ false → (b : Bool) → then (some_or (Unsupported at code) (cond b (Some []) (option_map grammar.one_result (type_grammar.value_code code))) q) done ≡ cond b (done [] q) (then (types.value_by ts at code (types.number_type code) q) (λ t. done (grammar.one_result t)))
other_results ts at code q h k true = refl
other_results ts at code q h k false =
    then_done (some_or (Unsupported at code) (option_map grammar.one_result (type_grammar.value_code code)) q)
    ∙ sym (some_or_map (Unsupported at code) (type_grammar.value_code code) grammar.one_result q)
    ∙ ap (λ (r : Result (ValType × Place) BinaryFault). then r (λ t. done (grammar.one_result t))) (sym (value_alone ts at code q (types.number_type code) h k))

results_chain : (ts : List Signature) (at code : ℕ) (q : Place) → read.results_by ts at code q ≡ chained grammar.results_code (results ts) at code q
results_chain ts at code q = sym (
    sym (then_done (chained grammar.results_code (results ts) at code q))
    ∙ chained_then grammar.results_code done at (read.results_by ts at) (results ts) (each_result ts at) code q (λ h.
    other_results ts at code q (apart (results ts) code 0x63 h refl) (apart (results ts) code 0x64 h refl) (nat_eq code 0x40)))

-- ---- the number of a type

-- a number and the types behind it
abbrev ending : ℕ → List Signature → Read (ℕ × List Signature)
ending n ts = done (n, ts)

made_is : (c : CodeContext) (at : ℕ) (ts : List Signature) (rs : List ValType) (o : Option TypeFault) (t : Signature) (q : Place) → then (made_by at o t q) (λ x. ending (length ts) (ts ++ x ∷ [])) ≡ then (refuse at o rs q) (λ _. ending (length ts) (ts ++ t ∷ []))
made_is c at ts rs None t q = refl
made_is c at ts rs (Some f) t q = refl

number_by_is : (c : CodeContext) (at : ℕ) (ts : List Signature) (rs : List ValType) (o : Option ℕ) (q : Place) → read.number_by c at ts rs o q ≡ then (refuse at (grammar.rule_by c rs o) rs q) (λ _. done (grammar.numbered_by c ts rs o))
number_by_is c at ts rs (Some n) q = refl
number_by_is c at ts rs None q = made_is c at ts rs (rules.fault (read.block_parts c rs)) (from_parts (read.block_parts c rs)) q

same_after : {A B : Type 0} (at : ℕ) (o : Option TypeFault) (x : A) (f : A → Read B) (q : Place) → then (refuse at o x q) (λ _. f x) ≡ then (refuse at o x q) f
same_after at None x f q = refl
same_after at (Some rule) x f q = refl

abbrev refused : CodeContext → List Signature → ℕ → List ValType → Read (List ValType)
refused c ts at rs = refuse at (grammar.block_rule c ts rs) rs

abbrev numbering : CodeContext → List Signature → ℕ → List ValType → Read (ℕ × List Signature)
numbering c ts at rs = refused c ts at rs >>= (λ x. done (grammar.numbered c ts x))

number_is : (c : CodeContext) (at : ℕ) (ts : List Signature) (rs : List ValType) (q : Place) → read.number_of c at ts rs q ≡ numbering c ts at rs q
number_is c at ts rs q =
    number_by_is c at ts rs (position (read.gives rs) ts) q
    ∙ same_after at (grammar.block_rule c ts rs) rs (λ x. done (grammar.numbered c ts x)) q

-- ---- block types

abbrev by_results : CodeContext → List Signature → Read (ℕ × List Signature)
by_results c ts = refusing (coded grammar.results_code reading.byte (results (grammar.declared c ts))) (grammar.block_rule c ts) >>= (λ x. done (grammar.numbered c ts x))

by_results_is : (c : CodeContext) (ts : List Signature) (p : Place) → read.block_if true c ts p ≡ by_results c ts p
by_results_is c ts p =
    let own = grammar.declared c ts in
    (λ i. then (reading.byte p) (λ code q. then (read.results_by own p.at code q) (λ rs r. number_is c p.at ts rs r i)))
    ∙ then_then (reading.byte p) (read.results_by own p.at) (numbering c ts p.at)
    ∙ (λ i. then (then (reading.byte p) (λ code q. results_chain own p.at code q i)) (numbering c ts p.at))
    ∙ then_then (coded grammar.results_code reading.byte (results own) p) (refused c ts p.at) (λ x. done (grammar.numbered c ts x))

agree_by_results : (c : CodeContext) (ts : List Signature) → Agree (read.block_if true c ts) (grammar.block_type_by_results c ts)
agree_by_results c ts =
    let own = grammar.declared c ts in
    let r = coded grammar.results_code reading.byte (results own) in
    agree_alike (read.block_if true c ts) (by_results c ts) (grammar.block_type_by_results c ts) (by_results_is c ts)
    (agree_as (refusing r (grammar.block_rule c ts)) (formats.unless_refused (grammar.results own) (grammar.block_rule c ts)) (grammar.numbered c ts)
    (agree_refusing r (grammar.results own) (grammar.block_rule c ts) (agree_results own)))

agree_by_index : (c : CodeContext) (ts : List Signature) → Agree (read.block_if false c ts) (grammar.block_type_by_index c ts)
agree_by_index c ts = agree_then (types.signed_index (grammar.declared c ts)) _ (type_grammar.signed_index (grammar.declared c ts)) _ (agree_signed_index (grammar.declared c ts)) (λ n. agree_gives _)

results_not_empty : (ts : List Signature) → IsNotEmpty (grammar.results ts)
results_not_empty ts x s = nothing_begins formats.byte.Spells _ (λ b e. absurd (cc e)) s

by_results_not_empty : (c : CodeContext) (ts : List Signature) → IsNotEmpty (grammar.block_type_by_results c ts)
by_results_not_empty c ts x s = nothing_begins (formats.unless_refused (grammar.results (grammar.declared c ts)) (grammar.block_rule c ts)).Spells _
    (λ rs r. results_not_empty (grammar.declared c ts) rs r.0) s

by_index_not_empty : (c : CodeContext) (ts : List Signature) → IsNotEmpty (grammar.block_type_by_index c ts)
by_index_not_empty c ts x s = nothing_begins (type_grammar.signed_index (grammar.declared c ts)).Spells _ (λ n r. absurd r.1) s

pub agree_block_type : (c : CodeContext) (ts : List Signature) → Agree (read.block_type c ts) (grammar.block_type c ts)
agree_block_type c ts = agree_by_first types.is_code (λ b. read.block_if b c ts) (grammar.block_type_by_results c ts) (grammar.block_type_by_index c ts)
    (agree_by_results c ts) (agree_by_index c ts) (by_results_not_empty c ts) (by_index_not_empty c ts)
