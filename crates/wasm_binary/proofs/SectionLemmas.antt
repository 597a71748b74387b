-- Section after section: each takes a byte at least, so that the number of the bytes bounds them.
use Rattle.std.proofs.Common.{◌≡◌, ℕ, zero, suc, ◌+◌, ◌-◌, ◌<◌, ◌≤◌, List, [], ◌∷◌, ◌++◌, length, take, Bool, true, false, nat_eq, nat_le, nat_lt, Option, Some, None, Result, Ok, Err, inl, inr, arith, refl, sym, ◌∙◌, ap, if◌then◌else◌}
use Rattle.std.proofs.lemmas.List.{length-append, length-drop}
use Rattle.std.specs.Bool.{⊤}
use Rattle.wasm_leb.specs.Items.{Lie}
use Rattle.wasm_leb.specs.Numbers.{IsUnsigned, unsigned}
use Rattle.wasm_leb.specs.Places.{Place, place, first, bytes, further}
use Rattle.wasm_leb.proofs.NumberLemmas.{chosen, unsigned_found}
use Rattle.wasm_types.specs.declared.plain.EngineId.{EngineId}
use Rattle.binary_types.specs.Reading as reading
use Rattle.binary_types.specs.Reading.{Read, given, done, unless, some_or, all_read, within, sized, byte, u32, raw}
use Rattle.binary_types.specs.declared.faults.BinaryFault.{BinaryFault}
use Rattle.binary_types.specs.declared.faults.BinaryFault.TheVariants.{Malformed, Unsupported, Index, Alignment, Refused, OutOfMemory}
use Rattle.wasm_binary.specs.Sections.{Fills, content, custom, custom_section, kind_of, known_section, rank_of, section, section_if, section_then, sections, sections_to, with_last}
use Rattle.wasm_binary.specs.declared.sections.SectionKind.{SectionKind}
use Rattle.wasm_binary.specs.declared.sections.Sections.{Sections}

-- two parts that were read
then_ok : {A B : Type 0} (r : Result (A × Place) BinaryFault) (f : A → Read B) (y : B) (q : Place) → reading.then r f ≡ Ok (y, q) → (x : A) × (p : Place) × (r ≡ Ok (x, p)) × (f x p ≡ Ok (y, q))
then_ok (Ok r) f y q e = (r.0, r.1, refl, e)
then_ok (Err fault) f y q e = absurd (cc e)

then_same : {A B : Type 0} (r : Result (A × Place) BinaryFault) (f g : A → Read B) → ((x : A) (q : Place) → r ≡ Ok (x, q) → f x q ≡ g x q) → reading.then r f ≡ reading.then r g
then_same (Ok r) f g h = h r.0 r.1 refl
then_same (Err fault) f g h = refl

given_ok : {A : Type 0} (o : Option (A × Place)) (x : A) (q : Place) → given o ≡ Ok (x, q) → o ≡ Some (x, q)
given_ok (Some r) x q e = cc e
given_ok None x q e = absurd (cc e)

-- equal answers end at one place
abbrev both : {A : Type 0} → A → Place → A × Place
both x p = (x, p)

one_end : {A : Type 0} (x y : A) (p q : Place) → both x p ≡ both y q → p ≡ q
one_end {A = A} x y p q e = ap (λ (r : A × Place). r.1) e

one_place : {A : Type 0} (x y : A) (p q : Place) → done x p ≡ done y q → p ≡ q
one_place x y p q e = one_end x y p q (cc e)

found_place : {A : Type 0} (x y : A) (p q : Place) → Some (both x p) ≡ Some (both y q) → p ≡ q
found_place x y p q e = one_end x y p q (cc e)

-- how many bytes are left behind each
first_shorter : (at : ℕ) (bs : List ℕ) (b : ℕ) (q : Place) → first at bs ≡ Some (b, q) → length q.left < length bs
first_shorter at [] b q e = absurd (cc e)
first_shorter at (x ∷ xs) b q e =
    let same : place (at + 1) xs ≡ q = found_place x b (place (at + 1) xs) q e in
    let l : length q.left ≡ length xs = ap (λ (r : Place). length r.left) (sym same) in
    omega arith

byte_shorter : (p : Place) (b : ℕ) (q : Place) → byte p ≡ Ok (b, q) → length q.left < length p.left
byte_shorter p b q e = first_shorter p.at p.left b q (given_ok (first p.at p.left) b q e)

u32_shorter : (p : Place) (n : ℕ) (q : Place) → u32 p ≡ Ok (n, q) → length q.left ≤ length p.left
u32_shorter p n q e =
    let found : (item : List ℕ) × IsUnsigned 32 item n × Lie p item q = unsigned_found 32 p n q (given_ok (unsigned 32 p) n q e) in
    let l : length p.left ≡ length found.0 + length q.left = ap (λ (xs : List ℕ). length xs) found.2.left ∙ length-append found.0 q.left in
    omega arith

bytes_shorter : (n : ℕ) (p : Place) (part : List ℕ) (q : Place) → bytes n p ≡ Some (part, q) → length q.left ≤ length p.left
bytes_shorter n p part q e =
    elim (chosen (nat_le n (length p.left)) _ _ (Some (part, q)) e) as (λ _. length q.left ≤ length p.left) [
      | inl h ↦
          let same : further n p ≡ q = found_place (take n p.left) part (further n p) q h.1 in
          let l : length q.left ≡ length p.left - n = ap (λ (r : Place). length r.left) (sym same) ∙ length-drop n p.left in
          omega arith
      | inr h ↦ absurd (cc h.1)
    ]

all_read_place : {A : Type 0} (behind : Place) (r : Result (A × Place) BinaryFault) (x : A) (q : Place) → all_read behind r ≡ Ok (x, q) → behind ≡ q
all_read_place behind (Ok (y, end)) x q e =
    let a = then_ok (unless Malformed (nat_eq (length end.left) 0) end) (λ _ _. Ok (y, behind)) x q e in
    one_place y x behind q a.3
all_read_place behind (Err fault) x q e = absurd (cc e)

within_shorter : {A : Type 0} (read : Read A) (n : ℕ) (p : Place) (x : A) (q : Place) → within read n p ≡ Ok (x, q) → length q.left ≤ length p.left
within_shorter read n p x q e =
    let a = then_ok (raw n p) (λ part behind. all_read behind (read (place p.at part))) x q e in
    let same : a.1 ≡ q = all_read_place a.1 (read (place p.at a.0)) x q a.3 in
    let l : length a.1.left ≤ length p.left = bytes_shorter n p a.0 a.1 (given_ok (bytes n p) a.0 a.1 a.2) in
    let s : length q.left ≡ length a.1.left = ap (λ (r : Place). length r.left) (sym same) in
    omega arith

sized_shorter : {A : Type 0} (read : Read A) (p : Place) (x : A) (q : Place) → sized read p ≡ Ok (x, q) → length q.left ≤ length p.left
sized_shorter read p x q e =
    let a = then_ok (u32 p) (λ n. within read n) x q e in
    let l : length a.1.left ≤ length p.left = u32_shorter p a.0 a.1 a.2 in
    let m : length q.left ≤ length a.1.left = within_shorter read a.0 a.1 x q a.3 in
    omega arith

unless_place : (fault : BinaryFault) (b : Bool) (p : Place) (x : ⊤) (q : Place) → unless fault b p ≡ Ok (x, q) → q ≡ p
unless_place fault true p x q e = sym (one_place tt x p q e)
unless_place fault false p x q e = absurd (cc e)

some_or_place : {A : Type 0} (fault : BinaryFault) (o : Option A) (p : Place) (x : A) (q : Place) → some_or fault o p ≡ Ok (x, q) → q ≡ p
some_or_place fault (Some y) p x q e = sym (one_place y x p q e)
some_or_place fault None p x q e = absurd (cc e)

known_shorter : (engine : EngineId) (s : Sections) (k : SectionKind) (p : Place) (t : Sections) (q : Place) → known_section engine s k p ≡ Ok (t, q) → length q.left ≤ length p.left
known_shorter engine s k p t q e =
    let rest : Sections → Read Sections = λ u. done (with_last (rank_of k) u) in
    let a = then_ok (unless Malformed (nat_lt s.last (rank_of k)) p) (λ _ r. reading.then (sized (content engine k s) r) rest) t q e in
    let at : a.1 ≡ p = unless_place Malformed (nat_lt s.last (rank_of k)) p a.0 a.1 a.2 in
    let b = then_ok (sized (content engine k s) a.1) rest t q a.3 in
    let l : length b.1.left ≤ length a.1.left = sized_shorter (content engine k s) a.1 b.0 b.1 b.2 in
    let end : length q.left ≡ length b.1.left = ap (λ (r : Place). length r.left) (sym (one_place (with_last (rank_of k) b.0) t b.1 q b.3)) in
    let m : length a.1.left ≡ length p.left = ap (λ (r : Place). length r.left) at in
    omega arith

custom_shorter : (s : Sections) (p : Place) (t : Sections) (q : Place) → custom_section s p ≡ Ok (t, q) → length q.left ≤ length p.left
custom_shorter s p t q e =
    let a = then_ok (sized custom p) (λ _. done s) t q e in
    let l : length a.1.left ≤ length p.left = sized_shorter custom p a.0 a.1 a.2 in
    let end : length q.left ≡ length a.1.left = ap (λ (r : Place). length r.left) (sym (one_place s t a.1 q a.3)) in
    omega arith

section_if_shorter : (b : Bool) (engine : EngineId) (id : ℕ) (s : Sections) (p : Place) (t : Sections) (q : Place) → section_if b engine id s p ≡ Ok (t, q) → length q.left ≤ length p.left
section_if_shorter true engine id s p t q e = custom_shorter s p t q e
section_if_shorter false engine id s p t q e =
    let a = then_ok (some_or Malformed (kind_of id) p) (known_section engine s) t q e in
    let at : a.1 ≡ p = some_or_place Malformed (kind_of id) p a.0 a.1 a.2 in
    let l : length q.left ≤ length a.1.left = known_shorter engine s a.0 a.1 t q a.3 in
    let m : length a.1.left ≡ length p.left = ap (λ (r : Place). length r.left) at in
    omega arith

pub section_shorter : (engine : EngineId) (s : Sections) (p : Place) (t : Sections) (q : Place) → section engine s p ≡ Ok (t, q) → length q.left < length p.left
section_shorter engine s p t q e =
    let a = then_ok (byte p) (λ id. section_if (nat_eq id 0) engine id s) t q e in
    let l : length a.1.left < length p.left = byte_shorter p a.0 a.1 a.2 in
    let m : length q.left ≤ length a.1.left = section_if_shorter (nat_eq a.0 0) engine a.0 s a.1 t q a.3 in
    omega arith

-- any number past that of the bytes will do
enough : (n m : ℕ) (engine : EngineId) (s : Sections) (p : Place) → length p.left < n → length p.left < m → sections_to n engine s p ≡ sections_to m engine s p
enough zero m engine s p h k = absurd (omega arith)
enough (suc n) zero engine s p h k = absurd (omega arith)
enough (suc n) (suc m) engine s p h k =
    ap (λ (r : Result (Sections × Place) BinaryFault). if nat_eq (length p.left) 0 then done s p else r)
    (then_same (section engine s p) (sections_to n engine) (sections_to m engine) (λ t q e.
    let l : length q.left < length p.left = section_shorter engine s p t q e in
    enough n m engine t q (omega arith) (omega arith)))

pub sections_ended : (engine : EngineId) (s : Sections) (p : Place) → nat_eq (length p.left) 0 ≡ true → sections engine s p ≡ Ok (s, p)
sections_ended engine s p h =
    ap (λ (b : Bool). if b then done s p else section_then (sections_to (length p.left) engine) engine s p) h

left_over : (engine : EngineId) (s : Sections) (p : Place) → nat_eq (length p.left) 0 ≡ false → sections engine s p ≡ reading.then (section engine s p) (sections_to (length p.left) engine)
left_over engine s p h =
    ap (λ (b : Bool). if b then done s p else section_then (sections_to (length p.left) engine) engine s p) h

pub sections_more : (engine : EngineId) (s : Sections) (p : Place) (t : Sections) (q : Place) → nat_eq (length p.left) 0 ≡ false → section engine s p ≡ Ok (t, q) → sections engine s p ≡ sections engine t q
sections_more engine s p t q h e =
    let l : length q.left < length p.left = section_shorter engine s p t q e in
    left_over engine s p h
    ∙ ap (λ (r : Result (Sections × Place) BinaryFault). reading.then r (sections_to (length p.left) engine)) e
    ∙ enough (length p.left) (suc (length q.left)) engine t q l (omega arith)

sections_failed : (engine : EngineId) (s : Sections) (p : Place) (fault : BinaryFault) → nat_eq (length p.left) 0 ≡ false → section engine s p ≡ Err fault → sections engine s p ≡ Err fault
sections_failed engine s p fault h e =
    left_over engine s p h
    ∙ ap (λ (r : Result (Sections × Place) BinaryFault). reading.then r (sections_to (length p.left) engine)) e

-- a fault of the section at hand is that of the whole
pub sections_stopped : (engine : EngineId) (s : Sections) (p : Place) (fault : BinaryFault) (t : Sections) (q : Place) (total : Result (Sections × Place) BinaryFault) → nat_eq (length p.left) 0 ≡ false → total ≡ sections engine s p → Fills (section engine s p) (Err fault) t q → Fills total (Err fault) t q
sections_stopped engine s p Malformed t q total h k e = k ∙ sections_failed engine s p Malformed h e
sections_stopped engine s p (Unsupported a c) t q total h k e = k ∙ sections_failed engine s p (Unsupported a c) h e
sections_stopped engine s p (Index a) t q total h k e = k ∙ sections_failed engine s p (Index a) h e
sections_stopped engine s p (Alignment a) t q total h k e = k ∙ sections_failed engine s p (Alignment a) h e
sections_stopped engine s p (Refused a f) t q total h k e = k ∙ sections_failed engine s p (Refused a f) h e
sections_stopped engine s p OutOfMemory t q total h k e = tt
