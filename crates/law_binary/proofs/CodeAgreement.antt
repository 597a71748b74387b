-- Code, bodies and the code section are read as the grammar has them.
use Rattle.std.proofs.Common.{◌≡◌, ◌⊎◌, ℕ, zero, suc, ◌+◌, ◌≤◌, List, [], ◌∷◌, ◌++◌, length, replicate, Result, Ok, Err, inl, inr, arith, refl, sym, ◌∙◌, ap, subst, nat_eq, nat_le}
use Rattle.std.proofs.lemmas.List.{length-append}
use Rattle.std.specs.Prelude.{set, ⊤}
use Rattle.wasm_leb.specs.Items.{Lie}
use Rattle.wasm_leb.specs.Places.{Place, place}
use Rattle.wasm_types.specs.Signatures.{Signature}
use Rattle.wasm_types.specs.declared.value_types.ValType.{ValType}
use Rattle.wasm_syntax.specs.declared.declarations.Block.{Block}
use Rattle.wasm_syntax.specs.declared.instr.Instr.{Instr}
use Rattle.binary_types.specs.Reading.{Read, then, done, unless, ◌>>=◌}
use Rattle.binary_types.specs.Reading as reading
use Rattle.binary_types.specs.Types as types
use Rattle.binary_types.specs.declared.faults.BinaryFault.{BinaryFault}
use Rattle.binary_types.specs.declared.faults.BinaryFault.TheVariants.{Malformed}
use Rattle.binary_code.specs.Bodies as read
use Rattle.binary_code.specs.Code.{Code, Stop, at_end, code_of, instructions, unless_else}
use Rattle.binary_code.specs.CodeParts.{begun, block, ended, no_parts}
use Rattle.binary_code.specs.declared.context.CodeContext.{CodeContext}
use Rattle.law_binary.specs.Agreement.{Agree}
use Rattle.law_binary.specs.Bodies as bodies
use Rattle.law_binary.specs.Code.{AreTokens, CodeParts, Flat, HasFault, IsCode, Token, has_end, Trees, code_parts, flats_of, texts_of}
use Rattle.law_binary.specs.Code as grammar
use Rattle.law_binary.specs.Formats.{Format}
use Rattle.law_binary.specs.Formats as formats
use Rattle.law_binary.specs.Types as type_grammar
use Rattle.law_binary.proofs.Combining.{then_ok, then_err, both, lie_on, same_value, same_place, agree_gives, agree_holds, agree_then}
use Rattle.law_binary.proofs.Items.{agree_u32, agree_sized, nothing_begins}
use Rattle.law_binary.proofs.TypeAgreement.{agree_alike, then_then, agree_value_type}
use Rattle.law_binary.proofs.DeclarationAgreement.{agree_as}
use Rattle.law_binary.proofs.Trees.{Counts, Found, stop_token}
use Rattle.law_binary.proofs.TreesFound.{found, unless_else_ok}
use Rattle.law_binary.proofs.TreesRead.{again}
use Rattle.law_binary.proofs.TreesFaults.{faulty, unless_else_err}
use Rattle.law_binary.proofs.TreesFirst.{first}

-- each token takes a byte at least
token_not_empty : (c : CodeContext) (ts : List Signature) (item : List ℕ) (w : grammar.Written) → (grammar.token c ts).Spells item w → 1 ≤ length item
token_not_empty c ts [] w s = absurd (nothing_begins formats.byte.Spells _ (λ b e. absurd (cc e)) s)
token_not_empty c ts (x ∷ xs) w s = omega arith

few_tokens : (c : CodeContext) (ts : List Token) (types : List Signature) (item : List ℕ) (after : List Signature) → AreTokens c types item ts after → length ts ≤ length item
few_tokens c [] types item after s = omega arith
few_tokens c (t ∷ ts) types item after s =
    let one : 1 ≤ length s.0 = token_not_empty c types s.0 (t, s.2) s.4 in
    let others : length ts ≤ length s.1 = few_tokens c ts s.2 s.1 after s.5 in
    omega (arith, ap length s.3, length-append s.0 s.1)

module _ (c : CodeContext) (ty : ℕ) (ts : List Signature) where
  abbrev start : CodeParts
  start = begun ty (no_parts ts)

  abbrev finish : Code → Read CodeParts
  finish inner = unless_else inner.stop >>= (λ _. done (ended 0 ty inner.instrs inner.parts))

  counts : Counts 1 0 start
  counts = record { blocks = refl; targets = refl }

  code_found : (p : Place) (parts : CodeParts) (q : Place) → code_of c ty ts p ≡ Ok (both parts q) → (item : List ℕ) × IsCode c ty ts item parts × Lie p item q
  code_found p parts q e =
      let h = then_ok (instructions c start p) finish parts q e in
      let u = then_ok (unless_else h.0.stop h.1) (λ _. done (ended 0 ty h.0.instrs h.0.parts)) parts q h.3 in
      let o = unless_else_ok h.0.stop h.1 u.0 u.1 u.2 in
      let f : Found c 1 0 start p h.0 h.1 = found c (suc (length p.left)) 1 0 start counts p h.0 h.1 h.2 in
      let whole : IsCode c ty ts f.item (ended 0 ty h.0.instrs h.0.parts) = record {
        trees = f.trees;
        spelled = subst (λ (s : Stop). AreTokens c ts f.item (texts_of f.trees ++ stop_token s ∷ []) h.0.parts.types) o.0 f.spelled;
        parts_are = λ j. record {
          types = h.0.parts.types;
          blocks = (ap (λ (bs : List Block). set bs 0 (block ty h.0.instrs)) f.blocks_are ∙ ap (λ (is : List Instr). block ty is ∷ (flats_of 1 0 f.trees).blocks) f.instrs_are) j;
          targets = f.targets_are j;
        };
      } in (
        f.item,
        subst (λ (z : CodeParts). IsCode c ty ts f.item z) (same_value (ended 0 ty h.0.instrs h.0.parts) parts u.1 q u.3) whole,
        lie_on p h.1 q f.item f.lie (o.1 ∙ same_place (ended 0 ty h.0.instrs h.0.parts) parts u.1 q u.3),
      )

  code_only : (p : Place) (item rest : List ℕ) (parts : CodeParts) → p.left ≡ item ++ rest → IsCode c ty ts item parts → code_of c ty ts p ≡ done parts (place (p.at + length item) rest)
  code_only p item rest parts e s =
      let few : length (texts_of s.trees ++ has_end ∷ []) ≤ length item = few_tokens c (texts_of s.trees ++ has_end ∷ []) ts item parts.types s.spelled in
      let all : length (texts_of s.trees ++ has_end ∷ []) ≡ length (texts_of s.trees) + 1 = length-append (texts_of s.trees) (has_end ∷ []) in
      let bytes : length p.left ≡ length item + length rest = ap length e ∙ length-append item rest in
      ap (λ (r : Result (Code × Place) BinaryFault). then r finish)
      (again c (suc (length p.left)) s.trees at_end 1 0 start counts p item rest parts.types e s.spelled (omega arith))
      ∙ (λ j. done (sym s.parts_are j) (place (p.at + length item) rest))

  code_fault : (p : Place) (f : BinaryFault) → code_of c ty ts p ≡ Err f → (f ≡ Malformed) ⊎ HasFault c ts p.at p.left f
  code_fault p f e = elim (then_err (instructions c start p) finish f e) [
    | inl h ↦ faulty c (suc (length p.left)) start p f h
    | inr h ↦ inl (elim (then_err (unless_else h.0.stop h.1) (λ _. done (ended 0 ty h.0.instrs h.0.parts)) f h.3) [
      | inl u ↦ unless_else_err h.0.stop h.1 f u
      | inr u ↦ absurd (cc u.3)
    ])
  ]

  code_first : (p : Place) (f : BinaryFault) → HasFault c ts p.at p.left f → code_of c ty ts p ≡ Err f
  code_first p f h =
      let few : length h.tokens ≤ length h.front = few_tokens c h.tokens ts h.front h.after h.spelled in
      let bytes : length p.left ≡ length h.front + length h.rest = ap length h.split ∙ length-append h.front h.rest in
      ap (λ (r : Result (Code × Place) BinaryFault). then r finish)
      (first c (suc (length p.left)) h.tokens h.more h.trees at_end start p h.front h.rest h.after f h.split h.spelled h.goes_on h.is_open h.fails (omega arith))

  pub agree_code : Agree (code_of c ty ts) (grammar.code c ty ts)
  agree_code = record { found = code_found; only = code_only; fault = code_fault; first = code_first }

-- ---- bodies

abbrev ValueOf : {A : Type 0} → Read A → Type 0
ValueOf {A = A} r = A

abbrev Group : Type 0
Group = ValueOf (read.local_group [] 0)

abbrev group : ℕ → ValType → Group
group count ty = record { count = count; ty = ty }

-- the groups behind one
abbrev behind_group : List Signature → ℕ → ℕ → Group → Read (List ValType)
behind_group ts n old g = read.locals_behind ts n (old + g.count) >>= (λ rest. done (replicate g.count g.ty ++ rest))

abbrev counted : ℕ → ℕ → Read ⊤
counted old count = unless Malformed (nat_le (old + count) 1000000)

abbrev group_by : List Signature → ℕ → Read Group
group_by ts count = types.value_type ts >>= (λ t. done (group count t))

abbrev one_group : List Signature → ℕ → ℕ → Read (List ValType)
one_group ts n old = reading.u32 >>= (λ count. counted old count >>= (λ _. types.value_type ts >>= (λ t. behind_group ts n old (group count t))))

locals_is : (ts : List Signature) (n old : ℕ) (p : Place) → read.locals_behind ts (suc n) old p ≡ one_group ts n old p
locals_is ts n old p =
    sym (then_then (reading.u32 p) (λ count. counted old count >>= (λ _. group_by ts count)) (behind_group ts n old))
    ∙ (λ i. then (reading.u32 p) (λ count q. sym (then_then (counted old count q) (λ _. group_by ts count) (behind_group ts n old)) i))
    ∙ (λ i. then (reading.u32 p) (λ count q. then (counted old count q) (λ _ r. sym (then_then (types.value_type ts r) (λ t. done (group count t)) (behind_group ts n old)) i)))

agree_locals : (ts : List Signature) (n old : ℕ) → Agree (read.locals_behind ts n old) (bodies.locals ts n old)
agree_locals ts zero old = agree_gives []
agree_locals ts (suc n) old = agree_alike (read.locals_behind ts (suc n) old) (one_group ts n old) (bodies.locals ts (suc n) old) (locals_is ts n old)
    (agree_then reading.u32 _ formats.u32 _ agree_u32 (λ count.
    agree_then (counted old count) _ (formats.holds (nat_le (old + count) 1000000)) _ (agree_holds (nat_le (old + count) 1000000)) (λ _.
    agree_then (types.value_type ts) _ (type_grammar.value_type ts) _ (agree_value_type ts) (λ t.
    agree_as (read.locals_behind ts n (old + count)) (bodies.locals ts n (old + count)) (λ rest. replicate count t ++ rest) (agree_locals ts n (old + count))))))

pub agree_body : (c : CodeContext) (ty : ℕ) (ts : List Signature) → Agree (read.body c ty ts) (bodies.body c ty ts)
agree_body c ty ts =
    agree_then reading.u32 _ formats.u32 _ agree_u32 (λ groups.
    agree_then (read.locals_behind (grammar.declared c ts) groups 0) _ (bodies.locals (grammar.declared c ts) groups 0) _ (agree_locals (grammar.declared c ts) groups 0) (λ own.
    agree_as (code_of c ty ts) (grammar.code c ty ts) (read.body_of ty own) (agree_code c ty ts)))

agree_bodies : (c : CodeContext) (tys : List ℕ) (ts : List Signature) → Agree (read.bodies_of c tys ts) (bodies.bodies c tys ts)
agree_bodies c [] ts = agree_gives _
agree_bodies c (ty ∷ tys) ts =
    agree_then (read.sized_body c ty ts) _ (formats.sized (bodies.body c ty ts)) _ (agree_sized (read.body c ty ts) (bodies.body c ty ts) (agree_body c ty ts)) (λ f.
    agree_as (read.bodies_of c tys f.types) (bodies.bodies c tys f.types) (λ rest. read.functions_of (f.function ∷ rest.functions) rest.types) (agree_bodies c tys f.types))

pub agree_code_section : (c : CodeContext) (tys : List ℕ) (ts : List Signature) → Agree (read.code_section c tys ts) (bodies.code_section c tys ts)
agree_code_section c tys ts =
    agree_then reading.u32 _ formats.u32 _ agree_u32 (λ n.
    agree_then (unless Malformed (nat_eq n (length tys))) _ (formats.holds (nat_eq n (length tys))) _ (agree_holds (nat_eq n (length tys))) (λ _.
    agree_bodies c tys ts))
