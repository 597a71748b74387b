-- Function types are read as the grammar has them.
use Rattle.std.proofs.Common.{◌≡◌, ℕ, zero, suc, List, [], ◌∷◌, ◌++◌, Option, Some, None, refl, ◌∙◌, nat_lt}
use Rattle.wasm_leb.specs.Places.{Place}
use Rattle.wasm_types.specs.Signatures.{Signature}
use Rattle.wasm_types.specs.FunctionParts.{Parts, parts, from_parts}
use Rattle.wasm_types.specs.FunctionRules as rules
use Rattle.wasm_types.specs.declared.faults.TypeFault.{TypeFault}
use Rattle.wasm_types.specs.declared.plain.Finality.{Finality}
use Rattle.wasm_types.specs.declared.plain.Finality.TheVariants.{Final, NonFinal}
use Rattle.binary_types.specs.FunctionTypes as read
use Rattle.binary_types.specs.Reading.{Read, then, done, unless, some_or, ◌>>=◌, listed, fixed}
use Rattle.binary_types.specs.Reading as reading
use Rattle.binary_types.specs.Types as types
use Rattle.binary_types.specs.declared.faults.BinaryFault.TheVariants.{Malformed}
use Rattle.law_binary.specs.Agreement.{Agree}
use Rattle.law_binary.specs.Formats.{Format, no_table}
use Rattle.law_binary.specs.Formats as formats
use Rattle.law_binary.specs.FunctionTypes as grammar
use Rattle.law_binary.specs.Types as type_grammar
use Rattle.law_binary.proofs.Combining.{agree_gives, agree_holds, agree_then}
use Rattle.law_binary.proofs.Parts.{Chain, agree_refusing, agree_by_code, coded, refuse, refusing}
use Rattle.law_binary.proofs.Lists.{agree_byte, agree_fixed}
use Rattle.law_binary.proofs.Items.{agree_u32, agree_listed}
use Rattle.law_binary.proofs.TypeAgreement.{agree_alike, then_then, agree_type_at, agree_value_type}

-- ---- function types

agree_supertypes : (ts : List Signature) (n : ℕ) → Agree (read.supertype_by ts n) (grammar.supertypes ts n)
agree_supertypes ts zero = agree_gives None
agree_supertypes ts (suc n) = agree_then (types.type_at ts) _ (type_grammar.type_at ts) _ (agree_type_at ts) (λ t. agree_gives (Some t))

agree_supertype : (ts : List Signature) → Agree (read.supertype ts) (grammar.supertype ts)
agree_supertype ts =
    agree_then reading.u32 _ formats.u32 _ agree_u32 (λ n.
    agree_then (unless Malformed (nat_lt n 2)) _ (formats.holds (nat_lt n 2)) _ (agree_holds (nat_lt n 2)) (λ _.
    agree_then (read.supertype_by ts n) _ (grammar.supertypes ts n) _ (agree_supertypes ts n) (λ t.
    agree_then (fixed 0x60) _ (formats.the_byte 0x60) _ (agree_fixed 0x60) (λ _. agree_gives t))))

agree_below : (ts : List Signature) (finality : Finality) → Agree (read.below ts finality) (grammar.below ts finality)
agree_below ts finality = agree_then (read.supertype ts) _ (grammar.supertype ts) _ (agree_supertype ts) (λ t. agree_gives _)

abbrev headings : List Signature → Chain grammar.Heading
headings ts = (0x60, done (read.heading_of Final None)) ∷ (0x50, read.below ts NonFinal) ∷ (0x4f, read.below ts Final) ∷ []

abbrev heading : List Signature → Read grammar.Heading
heading ts = coded no_table reading.byte (headings ts)

agree_heading : (ts : List Signature) → Agree (heading ts) (grammar.heading ts)
agree_heading ts = agree_by_code no_table reading.byte formats.byte (headings ts) (grammar.headings ts) agree_byte
    (refl, refl, refl, agree_gives _, (refl, refl, refl, agree_below ts NonFinal, (refl, refl, refl, agree_below ts Final, tt)))

-- the parts behind a heading; and those of a function type
abbrev parts_behind : ℕ → List Signature → grammar.Heading → Read Parts
parts_behind engine ts h =
    listed (types.value_type ts) >>= (λ ps. listed (types.value_type ts) >>= (λ rs. done (parts engine h.finality h.supertype ps rs)))

abbrev function_parts : ℕ → List Signature → Read Parts
function_parts engine ts = heading ts >>= parts_behind engine ts

agree_function_parts : (engine : ℕ) (ts : List Signature) → Agree (function_parts engine ts) (grammar.function_parts engine ts)
agree_function_parts engine ts =
    let vector = agree_listed (types.value_type ts) (type_grammar.value_type ts) (agree_value_type ts) in
    agree_then (heading ts) (parts_behind engine ts) (grammar.heading ts) _ (agree_heading ts) (λ h.
    agree_then (listed (types.value_type ts)) _ (formats.vector (type_grammar.value_type ts)) _ vector (λ ps.
    agree_then (listed (types.value_type ts)) _ (formats.vector (type_grammar.value_type ts)) _ vector (λ rs. agree_gives _)))

made_is : (at : ℕ) (o : Option TypeFault) (p : Parts) (q : Place) → read.made_by at o (from_parts p) q ≡ then (refuse at o p q) (λ x. done (from_parts x))
made_is at None p q = refl
made_is at (Some f) p q = refl

abbrev refused : ℕ → Parts → Read Parts
refused at x = refuse at (rules.fault x) x

abbrev making : ℕ → Parts → Read Signature
making at x = refused at x >>= (λ y. done (from_parts y))

-- what is behind a heading is the same, whether the type is made there or of the parts
behind_is : (engine : ℕ) (ts : List Signature) (at : ℕ) (h : grammar.Heading) (r : Place) → then (listed (types.value_type ts) r) (λ ps s. then (listed (types.value_type ts) s) (λ rs. read.made at (parts engine h.finality h.supertype ps rs))) ≡ then (parts_behind engine ts h r) (making at)
behind_is engine ts at h r =
    (λ i. then (listed (types.value_type ts) r) (λ ps s. then (listed (types.value_type ts) s) (λ rs t.
    let x : Parts = parts engine h.finality h.supertype ps rs in made_is at (rules.fault x) x t i)))
    ∙ (λ i. then (listed (types.value_type ts) r) (λ ps s. then_then (listed (types.value_type ts) s) (λ rs. done (parts engine h.finality h.supertype ps rs)) (making at) i))
    ∙ then_then (listed (types.value_type ts) r) (λ ps. listed (types.value_type ts) >>= (λ rs. done (parts engine h.finality h.supertype ps rs))) (making at)

function_type_is : (engine : ℕ) (ts : List Signature) (p : Place) → read.function_type engine ts p ≡ then (refusing (function_parts engine ts) rules.fault p) (λ x. done (from_parts x))
function_type_is engine ts p =
    let by : ℕ → Read grammar.Heading = read.heading_by ts p.at in
    (λ i. then (reading.byte p) (λ code q. then (by code q) (λ h r. behind_is engine ts p.at h r i)))
    ∙ (λ i. then (reading.byte p) (λ code q. then_then (by code q) (parts_behind engine ts) (making p.at) i))
    ∙ then_then (reading.byte p) (λ code. by code >>= parts_behind engine ts) (making p.at)
    ∙ (λ i. then (then_then (reading.byte p) by (parts_behind engine ts) i) (making p.at))
    ∙ then_then (function_parts engine ts p) (refused p.at) (λ y. done (from_parts y))

pub agree_function_type : (engine : ℕ) (ts : List Signature) → Agree (read.function_type engine ts) (grammar.function_type engine ts)
agree_function_type engine ts =
    agree_alike (read.function_type engine ts) (refusing (function_parts engine ts) rules.fault >>= (λ x. done (from_parts x))) (grammar.function_type engine ts)
    (function_type_is engine ts)
    (agree_then (refusing (function_parts engine ts) rules.fault) _ (formats.unless_refused (grammar.function_parts engine ts) rules.fault) _
    (agree_refusing (function_parts engine ts) (grammar.function_parts engine ts) rules.fault (agree_function_parts engine ts))
    (λ x. agree_gives _))

agree_types_behind : (engine n : ℕ) (ts : List Signature) → Agree (read.types_behind engine n ts) (grammar.types_behind engine n ts)
agree_types_behind engine zero ts = agree_gives ts
agree_types_behind engine (suc n) ts =
    agree_then (read.function_type engine ts) _ (grammar.function_type engine ts) _ (agree_function_type engine ts) (λ t. agree_types_behind engine n (ts ++ t ∷ []))

pub agree_type_section : (engine : ℕ) → Agree (read.type_section engine) (grammar.type_section engine)
agree_type_section engine = agree_then reading.u32 _ formats.u32 _ agree_u32 (λ n. agree_types_behind engine n [])
