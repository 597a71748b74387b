-- What is due of the outermost list of instructions, as the lists within it are read.
use Rattle.std.proofs.Common.{◌≡◌, ℕ, zero, suc, ◌+◌, ◌-◌, ◌≤◌, ◌<◌, List, [], ◌∷◌, ◌++◌, length, Bool, true, false, Option, Some, None, Result, Ok, Err, arith, refl, sym, ◌∙◌, ap, subst, append_assoc, append-nil, length-set, take}
use Rattle.wasm_leb.specs.Places.{Place}
use Rattle.wasm_types.specs.Signatures.{Signature}
use Rattle.wasm_syntax.specs.declared.instr.Instr.{Instr}
use Rattle.wasm_syntax.specs.declared.instr.Instr.TheVariants as i
use Rattle.binary_types.specs.Reading.{Read, Reads, ◌>>=◌, then, done, some_or, byte}
use Rattle.binary_types.specs.declared.faults.BinaryFault.{BinaryFault}
use Rattle.binary_types.specs.declared.faults.BinaryFault.TheVariants.{Malformed, Unsupported, Index, Alignment, Refused, OutOfMemory}
use Rattle.binary_code.specs.BlockTypes.{block_type}
use Rattle.binary_code.specs.Code.{Code, code, Coder, Stop, at_end, at_else, behind, code_by, code_of, code_to, labels, opened, rest_behind, second, unless_else}
use Rattle.binary_code.specs.CodeParts.{begun, ended, listed_in, no_parts, with_types}
use Rattle.binary_code.specs.InstrCodes.{form_of}
use Rattle.binary_code.specs.Instructions.{straight}
use Rattle.binary_code.specs.Nesting.{IsDue, IsDueBy, Leaves, Outcome, Owes, Steps, around, closed, entered, fresh, led, left_list, not_whole, open_list, owner_of, pushed, switched, whole, with_block, with_straight, with_table}
use Rattle.binary_code.specs.declared.code_parts.CodeParts.{CodeParts}
use Rattle.binary_code.specs.declared.context.CodeContext.{CodeContext}
use Rattle.binary_code.specs.declared.forms.Form.{Form}
use Rattle.binary_code.specs.declared.forms.Form.TheVariants as form
use Rattle.binary_code.specs.declared.forms.Opener.{Opener}
use Rattle.binary_code.specs.declared.forms.Opener.TheVariants as opener
use Rattle.binary_code.specs.declared.forms.StraightForm.{StraightForm}
use Rattle.binary_code.specs.declared.nesting.Nesting.{Nesting}
use Rattle.binary_code.specs.declared.nesting.OpenList.{OpenList}
use Rattle.binary_code.specs.declared.nesting.Owner.{Owner}
use Rattle.binary_code.specs.declared.nesting.Owner.TheVariants as owner

-- fewer instructions at least
pub owes_fewer : (c : CodeContext) (m k : ℕ) (ls : List OpenList) (inner outer : Outcome) → k ≤ m → Owes c m ls inner outer → Owes c k ls inner outer
owes_fewer c m k [] inner outer h o = o
owes_fewer c m k (l ∷ ls) inner outer h o = let e : m ≤ o.0 = o.1 in (o.0, omega arith, o.2, owes_fewer c m k ls inner o.2 h o.3, o.4)

-- one list more that is open, and one less
pub owes_entered : (c : CodeContext) (m n : ℕ) (ls : List OpenList) (l : OpenList) (inner outer : Outcome) → m ≤ n → Owes c m ls (around (code_to n c) l inner) outer → Owes c m (ls ++ l ∷ []) inner outer
owes_entered c m n [] l inner outer h o = (n, h, inner, refl, o)
owes_entered c m n (k ∷ ls) l inner outer h o = (o.0, o.1, o.2, owes_entered c m n ls l inner o.2 h o.3, o.4)

pub owes_left : (c : CodeContext) (m : ℕ) (ls : List OpenList) (l : OpenList) (inner outer : Outcome) → Owes c m (ls ++ l ∷ []) inner outer → (n : ℕ) × (m ≤ n) × Owes c m ls (around (code_to n c) l inner) outer
owes_left c m [] l inner outer o = (o.0, o.1, o.4 ∙ ap (around (code_to o.0 c) l) o.3)
owes_left c m (k ∷ ls) l inner outer o =
    let r : (n : ℕ) × (m ≤ n) × Owes c m ls (around (code_to n c) l inner) o.2 = owes_left c m ls l inner o.2 o.3 in
    (r.0, r.1, (o.0, o.1, o.2, r.2, o.4))

-- a fault of the innermost list is one of the outermost
pub owes_fault : (c : CodeContext) (m : ℕ) (ls : List OpenList) (fault : BinaryFault) (outer : Outcome) → Owes c m ls (Err fault) outer → outer ≡ Err fault
owes_fault c m [] fault outer o = o
owes_fault c m (l ∷ ls) fault outer o = o.4 ∙ ap (around (code_to o.0 c) l) (owes_fault c m ls fault o.2 o.3)

pub owes_alike : (c : CodeContext) (m : ℕ) (ls : List OpenList) (inner same outer : Outcome) → inner ≡ same → Owes c m ls inner outer → Owes c m ls same outer
owes_alike c m ls inner same outer e o = subst (λ (x : Outcome). Owes c m ls x outer) e o

-- instructions in front of the rest of a list
pub led_nothing : (r : Outcome) → r ≡ led [] r
led_nothing (Ok r) = refl
led_nothing (Err fault) = refl

pub led_behind : (instrs : List Instr) (instr : Instr) (r : Outcome) → led instrs (then r (λ rest. done (behind instr rest))) ≡ led (instrs ++ instr ∷ []) r
led_behind instrs instr (Ok r) = ap (λ (xs : List Instr). Ok (code xs r.0.stop r.0.parts, r.1)) (sym (append_assoc instrs (instr ∷ []) r.0.instrs))
led_behind instrs instr (Err fault) = refl

-- a fault of what was read on the way
pub fails_by : {A : Type 0} (c : CodeContext) (m : ℕ) (ls : List OpenList) (instrs : List Instr) (outer : Outcome) (fault : BinaryFault) (due : Result (A × Place) BinaryFault) (rest : A → Read Code) (f : A → Nesting) → Owes c m ls (led instrs (then due rest)) outer → then due (λ x. done (f x)) ≡ Err fault → whole outer ≡ Err fault
fails_by c m ls instrs outer fault (Ok r) rest f o e = absurd (cc e)
fails_by c m ls instrs outer fault (Err g) rest f o e =
    let same : g ≡ fault = cc e in
    ap whole (owes_fault c m ls g outer o) ∙ ap (λ (x : BinaryFault). Err x) same

-- an instruction more, by what was read
pub goes_by : {A : Type 0} (c : CodeContext) (m n : ℕ) (s t : Nesting) (q : Place) (outer : Outcome) (due : Result (A × Place) BinaryFault) (instr : A → Instr) (parts : A → CodeParts) → m ≤ n
    → Owes c m s.lists (led s.instrs (then due (λ x. rest_behind (code_to n c) (instr x) (parts x)))) outer
    → then due (λ x. done (pushed (instr x) (record s { parts = parts x }))) ≡ Ok (t, q) → IsDue c m t q outer
goes_by c m n s t q outer (Ok r) instr parts h o e =
    let same : (pushed (instr r.0) (record s { parts = parts r.0 }), r.1) ≡ (t, q) = cc e in
    subst (λ (x : Nesting × Place). IsDue c m x.0 x.1 outer) same
    (record { most = n; enough = h; owes = owes_alike c m s.lists _ _ outer (led_behind s.instrs (instr r.0) (code_to n c (parts r.0) r.1)) o })
goes_by c m n s t q outer (Err g) instr parts h o e = absurd (cc e)

-- a list within, by what was read
opened_closed : (coder : Coder) (o : Opener) (ty : ℕ) (parts : CodeParts) (q : Place) → opened coder o ty parts q ≡ then (coder (begun ty parts) q) (closed coder (owner_of o) (length parts.blocks) ty)
opened_closed coder opener.Block ty parts q = refl
opened_closed coder opener.Loop ty parts q = refl
opened_closed coder opener.If ty parts q = refl

within : (c : CodeContext) (m n : ℕ) (ls : List OpenList) (l : OpenList) (parts : CodeParts) (q : Place) (outer : Outcome) → m ≤ n → Owes c m ls (around (code_to n c) l (code_to n c parts q)) outer → IsDue c m (record { parts = parts; lists = ls ++ l ∷ []; instrs = [] }) q outer
within c m n ls l parts q outer h o =
    record { most = n; enough = h; owes = owes_alike c m (ls ++ l ∷ []) _ _ outer (led_nothing (code_to n c parts q)) (owes_entered c m n ls l (code_to n c parts q) outer h o) }

pub enters_by : (c : CodeContext) (m n : ℕ) (s t : Nesting) (q : Place) (outer : Outcome) (o : Opener) (due : Result ((ℕ × List Signature) × Place) BinaryFault) → m ≤ n
    → Owes c m s.lists (led s.instrs (then due (λ ty. opened (code_to n c) o ty.0 (with_types ty.1 s.parts)))) outer
    → then due (λ ty. done (entered (owner_of o) ty.0 (record s { parts = with_types ty.1 s.parts }))) ≡ Ok (t, q) → IsDue c m t q outer
enters_by c m n s t q outer o (Ok r) h owes e =
    let parts : CodeParts = with_types r.0.1 s.parts in
    let same : (entered (owner_of o) r.0.0 (record s { parts = parts }), r.1) ≡ (t, q) = cc e in
    subst (λ (x : Nesting × Place). IsDue c m x.0 x.1 outer) same
    (within c m n s.lists (open_list (owner_of o) (length parts.blocks) r.0.0 s.instrs) (begun r.0.0 parts) r.1 outer h
    (owes_alike c m s.lists _ _ outer (ap (led s.instrs) (opened_closed (code_to n c) o r.0.0 parts r.1)) owes))
enters_by c m n s t q outer o (Err g) h owes e = absurd (cc e)

-- the end of the outermost list
pub ends : (c : CodeContext) (m : ℕ) (s : Nesting) (p : Place) (outer : Outcome) → IsDueBy c m form.End s p outer → s.lists ≡ [] → outer ≡ Ok (code s.instrs at_end s.parts, p)
ends c m s p outer due e =
    subst (λ (ls : List OpenList). Owes c m ls (Ok (code (s.instrs ++ []) at_end s.parts, p)) outer) e due.owes
    ∙ ap (λ (xs : List Instr). Ok (code xs at_end s.parts, p)) (append-nil s.instrs)

-- the list around the one that ended
around_end : (coder : Coder) (o : Owner) (number ty : ℕ) (before : List Instr) (s : Nesting) (p : Place) →
    around coder (open_list o number ty before) (Ok (code s.instrs at_end s.parts, p))
    ≡ led (left_list (open_list o number ty before) s).instrs (coder (left_list (open_list o number ty before) s).parts p)
around_end coder owner.Block number ty before s p = led_behind before (i.Block number) (coder (ended number ty s.instrs s.parts) p)
around_end coder owner.Loop number ty before s p = led_behind before (i.Loop number) (coder (ended number ty s.instrs s.parts) p)
around_end coder owner.First number ty before s p =
    led_behind before (i.If number (length s.parts.blocks)) (coder (begun ty (ended number ty s.instrs s.parts)) p)
    ∙ ap (λ (k : ℕ). led (before ++ i.If number k ∷ []) (coder (begun ty (ended number ty s.instrs s.parts)) p))
    (sym (length-set s.parts.blocks number _))
around_end coder (owner.Second first) number ty before s p = led_behind before (i.If first number) (coder (ended number ty s.instrs s.parts) p)

-- the innermost list that ended so, where it stood in another
pub ended_in : (c : CodeContext) (m : ℕ) (f : Form) (stop : Stop) (s : Nesting) (ls : List OpenList) (l : OpenList) (p : Place) (outer : Outcome)
    → ((coder : Coder) → code_by c coder f s.parts p ≡ Ok (code [] stop s.parts, p)) → IsDueBy c m f s p outer → s.lists ≡ ls ++ l ∷ []
    → (n : ℕ) × (m ≤ n) × Owes c m ls (around (code_to n c) l (Ok (code s.instrs stop s.parts, p))) outer
ended_in c m f stop s ls l p outer is due e =
    let spelled : led s.instrs (code_by c (code_to due.most c) f s.parts p) ≡ Ok (code s.instrs stop s.parts, p) =
    ap (led s.instrs) (is (code_to due.most c)) ∙ ap (λ (xs : List Instr). Ok (code xs stop s.parts, p)) (append-nil s.instrs) in
    owes_left c m ls l (Ok (code s.instrs stop s.parts, p)) outer
    (subst (λ (xs : List OpenList). Owes c m xs (Ok (code s.instrs stop s.parts, p)) outer) e (owes_alike c m s.lists _ _ outer spelled due.owes))

pub leaves : (c : CodeContext) (m : ℕ) (s : Nesting) (ls : List OpenList) (l : OpenList) (p : Place) (outer : Outcome) → IsDueBy c m form.End s p outer → s.lists ≡ ls ++ l ∷ [] → IsDue c m (left_list l (record s { lists = ls })) p outer
leaves c m s ls l p outer due e =
    let r : (n : ℕ) × (m ≤ n) × Owes c m ls (around (code_to n c) l (Ok (code s.instrs at_end s.parts, p))) outer = ended_in c m form.End at_end s ls l p outer (λ coder. refl) due e in
    record { most = r.0; enough = r.1; owes = owes_alike c m ls _ _ outer (around_end (code_to r.0 c) l.owner l.number l.ty l.before s p) r.2 }

-- the second list of an if as one behind the first
second_stop : (coder : Coder) (first number ty : ℕ) (instrs : List Instr) (stop : Stop) (parts : CodeParts) (q : Place) →
    then (then (unless_else stop q) (λ _. done (ended number ty instrs parts))) (rest_behind coder (i.If first number)) ≡ closed coder (owner.Second first) number ty (code instrs stop parts) q
second_stop coder first number ty instrs at_end parts q = refl
second_stop coder first number ty instrs at_else parts q = refl

second_closed : (coder : Coder) (first number ty : ℕ) (r : Outcome) →
    then (then r (λ inner. unless_else inner.stop >>= (λ _. done (ended number ty inner.instrs inner.parts)))) (rest_behind coder (i.If first number)) ≡ then r (closed coder (owner.Second first) number ty)
second_closed coder first number ty (Ok r) = second_stop coder first number ty r.0.instrs r.0.stop r.0.parts r.1
second_closed coder first number ty (Err fault) = refl

around_else : (coder : Coder) (number ty : ℕ) (before : List Instr) (s : Nesting) (p : Place) →
    around coder (open_list owner.First number ty before) (Ok (code s.instrs at_else s.parts, p))
    ≡ around coder (open_list (owner.Second number) (length (ended number ty s.instrs s.parts).blocks) ty before) (coder (begun ty (ended number ty s.instrs s.parts)) p)
around_else coder number ty before s p =
    let parts : CodeParts = ended number ty s.instrs s.parts in
    ap (λ (k : ℕ). led before (then (second coder ty at_else parts p) (rest_behind coder (i.If number k)))) (sym (length-set s.parts.blocks number _))
    ∙ ap (led before) (second_closed coder number (length parts.blocks) ty (coder (begun ty parts) p))

pub switches : (c : CodeContext) (m : ℕ) (s : Nesting) (ls : List OpenList) (l : OpenList) (p : Place) (outer : Outcome) → IsDueBy c m form.Else s p outer → s.lists ≡ ls ++ l ∷ [] → l.owner ≡ owner.First → IsDue c m (switched l (record s { lists = ls })) p outer
switches c m s ls l p outer due e first =
    let r : (n : ℕ) × (m ≤ n) × Owes c m ls (around (code_to n c) l (Ok (code s.instrs at_else s.parts, p))) outer = ended_in c m form.Else at_else s ls l p outer (λ coder. refl) due e in
    let here : Owes c m ls (around (code_to r.0 c) (open_list owner.First l.number l.ty l.before) (Ok (code s.instrs at_else s.parts, p))) outer =
    subst (λ (o : Owner). Owes c m ls (around (code_to r.0 c) (open_list o l.number l.ty l.before) (Ok (code s.instrs at_else s.parts, p))) outer) first r.2 in
    within c m r.0 ls (open_list (owner.Second l.number) (length (ended l.number l.ty s.instrs s.parts).blocks) l.ty l.before) (begun l.ty (ended l.number l.ty s.instrs s.parts)) p outer r.1
    (owes_alike c m ls _ _ outer (around_else (code_to r.0 c) l.number l.ty l.before s p) here)

-- an else that stands in no first list
around_no_else : (coder : Coder) (o : Owner) (number ty : ℕ) (before instrs : List Instr) (parts : CodeParts) (p : Place) → (o ≡ owner.First → ⊥) →
    around coder (open_list o number ty before) (Ok (code instrs at_else parts, p)) ≡ Err Malformed
around_no_else coder owner.Block number ty before instrs parts p h = refl
around_no_else coder owner.Loop number ty before instrs parts p h = refl
around_no_else coder owner.First number ty before instrs parts p h = absurd (h refl)
around_no_else coder (owner.Second first) number ty before instrs parts p h = refl

pub no_else_within : (c : CodeContext) (m : ℕ) (s : Nesting) (ls : List OpenList) (l : OpenList) (p : Place) (outer : Outcome) → IsDueBy c m form.Else s p outer → s.lists ≡ ls ++ l ∷ [] → (l.owner ≡ owner.First → ⊥) → whole outer ≡ Err Malformed
no_else_within c m s ls l p outer due e other =
    let r : (n : ℕ) × (m ≤ n) × Owes c m ls (around (code_to n c) l (Ok (code s.instrs at_else s.parts, p))) outer = ended_in c m form.Else at_else s ls l p outer (λ coder. refl) due e in
    ap whole (owes_fault c m ls Malformed outer (owes_alike c m ls _ _ outer (around_no_else (code_to r.0 c) l.owner l.number l.ty l.before s.instrs s.parts p other) r.2))

pub no_else_outermost : (c : CodeContext) (m : ℕ) (s : Nesting) (p : Place) (outer : Outcome) → IsDueBy c m form.Else s p outer → s.lists ≡ [] → whole outer ≡ Err Malformed
no_else_outermost c m s p outer due e =
    ap whole (subst (λ (ls : List OpenList). Owes c m ls (Ok (code (s.instrs ++ []) at_else s.parts, p)) outer) e due.owes)

-- an instruction, by the byte at its front
abbrev pub by_byte : CodeContext → Coder → CodeParts → Place → Result (ℕ × Place) BinaryFault → Outcome
by_byte c coder parts p r = then r (λ b. some_or (Unsupported p.at b) (form_of b) >>= (λ f. code_by c coder f parts))

one_more : (c : CodeContext) (m n : ℕ) (s : Nesting) (p : Place) (outer : Outcome) → suc m ≤ n → Owes c (suc m) s.lists (led s.instrs (code_to n c s.parts p)) outer → (k : ℕ) × (m ≤ k) × Owes c m s.lists (led s.instrs (by_byte c (code_to k c) s.parts p (byte p))) outer
one_more c m zero s p outer h o = absurd (omega (arith, h))
one_more c m (suc n) s p outer h o = (n, omega (arith, h), owes_fewer c (suc m) m s.lists _ outer (omega arith) o)

next : (c : CodeContext) (m : ℕ) (s : Nesting) (p : Place) (outer : Outcome) (r : Result (ℕ × Place) BinaryFault) → IsDue c (suc m) s p outer → byte p ≡ r → (k : ℕ) × (m ≤ k) × Owes c m s.lists (led s.instrs (by_byte c (code_to k c) s.parts p r)) outer
next c m s p outer r due e =
    let o : (k : ℕ) × (m ≤ k) × Owes c m s.lists (led s.instrs (by_byte c (code_to k c) s.parts p (byte p))) outer = one_more c m due.most s p outer due.enough due.owes in
    (o.0, o.1, owes_alike c m s.lists _ _ outer (ap (λ (x : Result (ℕ × Place) BinaryFault). led s.instrs (by_byte c (code_to o.0 c) s.parts p x)) e) o.2)

pub no_byte : (c : CodeContext) (m : ℕ) (s : Nesting) (p : Place) (outer : Outcome) (fault : BinaryFault) → IsDue c (suc m) s p outer → byte p ≡ Err fault → whole outer ≡ Err fault
no_byte c m s p outer fault due e = ap whole (owes_fault c m s.lists fault outer (next c m s p outer (Err fault) due e).2)

by_form : (c : CodeContext) (coder : Coder) (s : Nesting) (p q : Place) (b : ℕ) (o : Option Form) → form_of b ≡ o → by_byte c coder s.parts p (Ok (b, q)) ≡ then (some_or (Unsupported p.at b) o q) (λ f. code_by c coder f s.parts)
by_form c coder s p q b o e = ap (λ (x : Option Form). then (some_or (Unsupported p.at b) x q) (λ f. code_by c coder f s.parts)) e

pub no_form : (c : CodeContext) (m : ℕ) (s : Nesting) (p q : Place) (b : ℕ) (outer : Outcome) → IsDue c (suc m) s p outer → byte p ≡ Ok (b, q) → form_of b ≡ None → whole outer ≡ Err (Unsupported p.at b)
no_form c m s p q b outer due e g =
    let o : (k : ℕ) × (m ≤ k) × Owes c m s.lists (led s.instrs (by_byte c (code_to k c) s.parts p (Ok (b, q)))) outer = next c m s p outer (Ok (b, q)) due e in
    ap whole (owes_fault c m s.lists (Unsupported p.at b) outer (owes_alike c m s.lists _ _ outer (ap (led s.instrs) (by_form c (code_to o.0 c) s p q b None g)) o.2))

pub goes_on : (c : CodeContext) (m : ℕ) (s : Nesting) (p q : Place) (b : ℕ) (f : Form) (outer : Outcome) → IsDue c (suc m) s p outer → byte p ≡ Ok (b, q) → form_of b ≡ Some f → IsDueBy c m f s q outer
goes_on c m s p q b f outer due e g =
    let o : (k : ℕ) × (m ≤ k) × Owes c m s.lists (led s.instrs (by_byte c (code_to k c) s.parts p (Ok (b, q)))) outer = next c m s p outer (Ok (b, q)) due e in
    record { most = o.0; enough = o.1; owes = owes_alike c m s.lists _ _ outer (ap (led s.instrs) (by_form c (code_to o.0 c) s p q b (Some f) g)) o.2 }

-- what each form leaves
pub straight_read : (c : CodeContext) (m : ℕ) (f : StraightForm) (s t : Nesting) (p q : Place) (outer : Outcome) → IsDueBy c m (form.Straight f) s p outer → with_straight c f s p ≡ Ok (t, q) → IsDue c m t q outer
straight_read c m f s t p q outer due e =
    goes_by c m due.most s t q outer (straight (take c.declared s.parts.types) c.counted f p) (λ x. x) (λ _. s.parts) due.enough due.owes e

pub straight_failed : (c : CodeContext) (m : ℕ) (f : StraightForm) (s : Nesting) (p : Place) (outer : Outcome) (fault : BinaryFault) → IsDueBy c m (form.Straight f) s p outer → with_straight c f s p ≡ Err fault → whole outer ≡ Err fault
straight_failed c m f s p outer fault due e =
    fails_by c m s.lists s.instrs outer fault (straight (take c.declared s.parts.types) c.counted f p) _ (λ instr. pushed instr s) due.owes e

pub table_read : (c : CodeContext) (m : ℕ) (s t : Nesting) (p q : Place) (outer : Outcome) → IsDueBy c m form.BrTable s p outer → with_table s p ≡ Ok (t, q) → IsDue c m t q outer
table_read c m s t p q outer due e =
    goes_by c m due.most s t q outer (labels p) (λ _. i.BrTable (length s.parts.targets)) (λ targets. listed_in targets s.parts) due.enough due.owes e

pub table_failed : (c : CodeContext) (m : ℕ) (s : Nesting) (p : Place) (outer : Outcome) (fault : BinaryFault) → IsDueBy c m form.BrTable s p outer → with_table s p ≡ Err fault → whole outer ≡ Err fault
table_failed c m s p outer fault due e =
    fails_by c m s.lists s.instrs outer fault (labels p) _ (λ targets. pushed (i.BrTable (length s.parts.targets)) (record s { parts = listed_in targets s.parts })) due.owes e

pub block_read : (c : CodeContext) (m : ℕ) (o : Opener) (s t : Nesting) (p q : Place) (outer : Outcome) → IsDueBy c m (form.Opens o) s p outer → with_block c o s p ≡ Ok (t, q) → IsDue c m t q outer
block_read c m o s t p q outer due e = enters_by c m due.most s t q outer o (block_type c s.parts.types p) due.enough due.owes e

pub block_failed : (c : CodeContext) (m : ℕ) (o : Opener) (s : Nesting) (p : Place) (outer : Outcome) (fault : BinaryFault) → IsDueBy c m (form.Opens o) s p outer → with_block c o s p ≡ Err fault → whole outer ≡ Err fault
block_failed c m o s p outer fault due e =
    fails_by c m s.lists s.instrs outer fault (block_type c s.parts.types p) _ (λ ty. entered (owner_of o) ty.0 (record s { parts = with_types ty.1 s.parts })) due.owes e

-- the answer of a step
pub steps_after : {A : Type 0} (c : CodeContext) (m : ℕ) (outer : Outcome) (due : Result (Nesting × Place) BinaryFault) (read : Result A BinaryFault) (t : Nesting) (q : Place) → Leaves due read t q
    → (due ≡ Ok (t, q) → IsDue c m t q outer) → ((fault : BinaryFault) → due ≡ Err fault → whole outer ≡ Err fault) → Steps c m outer (not_whole read) t q
steps_after c m outer due (Ok x) t q h ok f = ok h
steps_after c m outer due (Err Malformed) t q h ok f = f Malformed h
steps_after c m outer due (Err (Unsupported a k)) t q h ok f = f (Unsupported a k) h
steps_after c m outer due (Err (Index a)) t q h ok f = f (Index a) h
steps_after c m outer due (Err (Alignment a)) t q h ok f = f (Alignment a) h
steps_after c m outer due (Err (Refused a k)) t q h ok f = f (Refused a k) h
steps_after c m outer due (Err OutOfMemory) t q h ok f = tt

pub by_straight : {A : Type 0} (c : CodeContext) (m : ℕ) (outer : Outcome) (g : Form) (f : StraightForm) (s t : Nesting) (p q : Place) (read : Result A BinaryFault) (result : Result Bool BinaryFault) → g ≡ form.Straight f → IsDueBy c m g s p outer → Leaves (with_straight c f s p) read t q → result ≡ not_whole read → Steps c m outer result t q
by_straight c m outer g f s t p q read result is due h e =
    let by : IsDueBy c m (form.Straight f) s p outer = subst (λ (x : Form). IsDueBy c m x s p outer) is due in
    subst (λ (r : Result Bool BinaryFault). Steps c m outer r t q) (sym e)
    (steps_after c m outer (with_straight c f s p) read t q h (straight_read c m f s t p q outer by) (λ fault. straight_failed c m f s p outer fault by))

pub by_table : {A : Type 0} (c : CodeContext) (m : ℕ) (outer : Outcome) (g : Form) (s t : Nesting) (p q : Place) (read : Result A BinaryFault) (result : Result Bool BinaryFault) → g ≡ form.BrTable → IsDueBy c m g s p outer → Leaves (with_table s p) read t q → result ≡ not_whole read → Steps c m outer result t q
by_table c m outer g s t p q read result is due h e =
    let by : IsDueBy c m form.BrTable s p outer = subst (λ (x : Form). IsDueBy c m x s p outer) is due in
    subst (λ (r : Result Bool BinaryFault). Steps c m outer r t q) (sym e)
    (steps_after c m outer (with_table s p) read t q h (table_read c m s t p q outer by) (λ fault. table_failed c m s p outer fault by))

pub by_block : {A : Type 0} (c : CodeContext) (m : ℕ) (outer : Outcome) (g : Form) (o : Opener) (s t : Nesting) (p q : Place) (read : Result A BinaryFault) (result : Result Bool BinaryFault) → g ≡ form.Opens o → IsDueBy c m g s p outer → Leaves (with_block c o s p) read t q → result ≡ not_whole read → Steps c m outer result t q
by_block c m outer g o s t p q read result is due h e =
    let by : IsDueBy c m (form.Opens o) s p outer = subst (λ (x : Form). IsDueBy c m x s p outer) is due in
    subst (λ (r : Result Bool BinaryFault). Steps c m outer r t q) (sym e)
    (steps_after c m outer (with_block c o s p) read t q h (block_read c m o s t p q outer by) (λ fault. block_failed c m o s p outer fault by))

pub no_form_at : (c : CodeContext) (m : ℕ) (s : Nesting) (p q : Place) (b at k : ℕ) (outer : Outcome) → IsDue c (suc m) s p outer → byte p ≡ Ok (b, q) → form_of b ≡ None → at ≡ p.at → k ≡ b → whole outer ≡ Err (Unsupported at k)
no_form_at c m s p q b at k outer due e g same code =
    no_form c m s p q b outer due e g ∙ ap (λ (x : ℕ). Err (Unsupported x b)) (sym same) ∙ ap (λ (x : ℕ). Err (Unsupported at x)) (sym code)

pub byte_failed : (c : CodeContext) (m : ℕ) (outer : Outcome) (p : Place) (fault : BinaryFault) (t : Nesting) (q r : Place) → Reads (byte p) (Err fault) r → (byte p ≡ Err fault → whole outer ≡ Err fault) → Steps c m outer (Err fault) t q
byte_failed c m outer p Malformed t q r h f = f h
byte_failed c m outer p (Unsupported a k) t q r h f = f h
byte_failed c m outer p (Index a) t q r h f = f h
byte_failed c m outer p (Alignment a) t q r h f = f h
byte_failed c m outer p (Refused a k) t q r h f = f h
byte_failed c m outer p OutOfMemory t q r h f = tt

-- the code of a function, by what is due of its outermost list
pub due_fewer : (c : CodeContext) (m k : ℕ) (s : Nesting) (p : Place) (outer : Outcome) → k ≤ m → IsDue c m s p outer → IsDue c k s p outer
due_fewer c m k s p outer h due = let e : m ≤ due.most = due.enough in record { most = due.most; enough = omega arith; owes = owes_fewer c m k s.lists _ outer h due.owes }

abbrev pub outermost : CodeContext → ℕ → List Signature → Place → Outcome
outermost c ty types p = code_to (suc (length p.left)) c (begun ty (no_parts types)) p

pub due_begun : (c : CodeContext) (ty : ℕ) (types : List Signature) (p : Place) (n : ℕ) → n ≤ suc (length p.left) → IsDue c n (fresh ty types) p (outermost c ty types p)
due_begun c ty types p n h = record { most = suc (length p.left); enough = h; owes = led_nothing (outermost c ty types p) }

abbrev pub finished : ℕ → Outcome → Result (CodeParts × Place) BinaryFault
finished ty outer = then outer (λ inner. unless_else inner.stop >>= (λ _. done (ended 0 ty inner.instrs inner.parts)))

pub code_read : (c : CodeContext) (ty : ℕ) (types : List Signature) (p q : Place) (s : Nesting) → outermost c ty types p ≡ Ok (code s.instrs at_end s.parts, q) → code_of c ty types p ≡ Ok (ended 0 ty s.instrs s.parts, q)
code_read c ty types p q s e = ap (finished ty) e

fault_at : (ty : ℕ) (instrs : List Instr) (stop : Stop) (parts : CodeParts) (q : Place) (fault : BinaryFault) → whole (Ok (code instrs stop parts, q)) ≡ Err fault → finished ty (Ok (code instrs stop parts, q)) ≡ Err fault
fault_at ty instrs at_end parts q fault e = absurd (cc e)
fault_at ty instrs at_else parts q fault e = let same : Malformed ≡ fault = cc e in ap (λ (x : BinaryFault). Err x) same

fault_whole : (ty : ℕ) (outer : Outcome) (fault : BinaryFault) → whole outer ≡ Err fault → finished ty outer ≡ Err fault
fault_whole ty (Ok r) fault e = fault_at ty r.0.instrs r.0.stop r.0.parts r.1 fault e
fault_whole ty (Err g) fault e = let same : g ≡ fault = cc e in ap (λ (x : BinaryFault). Err x) same

pub code_failed : (c : CodeContext) (m ty : ℕ) (types : List Signature) (p q r : Place) (s : Nesting) (fault : BinaryFault) → Steps c m (outermost c ty types p) (Err fault) s q → Reads (code_of c ty types p) (Err fault) r
code_failed c m ty types p q r s Malformed h = fault_whole ty (outermost c ty types p) Malformed h
code_failed c m ty types p q r s (Unsupported a k) h = fault_whole ty (outermost c ty types p) (Unsupported a k) h
code_failed c m ty types p q r s (Index a) h = fault_whole ty (outermost c ty types p) (Index a) h
code_failed c m ty types p q r s (Alignment a) h = fault_whole ty (outermost c ty types p) (Alignment a) h
code_failed c m ty types p q r s (Refused a k) h = fault_whole ty (outermost c ty types p) (Refused a k) h
code_failed c m ty types p q r s OutOfMemory h = tt

-- the loop over instructions
pub loop_begun : (c : CodeContext) (ty : ℕ) (types : List Signature) (p : Place) (s : Nesting) (left : List ℕ) → s ≡ fresh ty types → left ≡ p.left → IsDue c (suc (length left) - 0) s p (outermost c ty types p)
loop_begun c ty types p s left e same =
    let long : length left ≡ length p.left = ap length same in
    subst (λ (x : Nesting). IsDue c (suc (length left) - 0) x p (outermost c ty types p)) (sym e) (due_begun c ty types p (suc (length left) - 0) (omega (arith, long)))

pub loop_step : (c : CodeContext) (n k : ℕ) (s t : Nesting) (p q : Place) (outer : Outcome) (result : Result Bool BinaryFault) → ((m : ℕ) (total : Outcome) → IsDue c (suc m) s p total → Steps c m total result t q) → k < n → IsDue c (suc n - k) s p outer → Steps c (n - k) outer result t q
loop_step c n k s t p q outer result go h due = go (n - k) outer (due_fewer c (suc n - k) (suc (n - k)) s p outer (omega arith) due)

pub loop_done : (c : CodeContext) (m : ℕ) (t : Nesting) (q : Place) (outer : Outcome) (result : Result Bool BinaryFault) (b : Bool) → Steps c m outer result t q → result ≡ Ok b → b ≡ true → outer ≡ Ok (code t.instrs at_end t.parts, q)
loop_done c m t q outer result b h e true_is =
    subst (λ (x : Bool). Steps c m outer (Ok x) t q) true_is (subst (λ (r : Result Bool BinaryFault). Steps c m outer r t q) e h)

pub loop_on : (c : CodeContext) (n k : ℕ) (t : Nesting) (q : Place) (outer : Outcome) (result : Result Bool BinaryFault) (b : Bool) → Steps c (n - k) outer result t q → result ≡ Ok b → b ≡ false → IsDue c (suc n - (k + 1)) t q outer
loop_on c n k t q outer result b h e false_is =
    due_fewer c (n - k) (suc n - (k + 1)) t q outer (omega arith)
    (subst (λ (x : Bool). Steps c (n - k) outer (Ok x) t q) false_is (subst (λ (r : Result Bool BinaryFault). Steps c (n - k) outer r t q) e h))

pub loop_failed : (c : CodeContext) (m ty : ℕ) (types : List Signature) (p q r : Place) (t : Nesting) (result : Result Bool BinaryFault) (fault : BinaryFault) → Steps c m (outermost c ty types p) result t q → result ≡ Err fault → Reads (code_of c ty types p) (Err fault) r
loop_failed c m ty types p q r t result fault h e =
    code_failed c m ty types p q r t fault (subst (λ (x : Result Bool BinaryFault). Steps c m (outermost c ty types p) x t q) e h)

pub loop_ended : (c : CodeContext) (n k ty : ℕ) (types : List Signature) (p q r : Place) (s : Nesting) (fault : BinaryFault) → k ≤ n → IsDue c (suc n - k) s q (outermost c ty types p) → Reads (byte q) (Err fault) r → Reads (code_of c ty types p) (Err fault) r
loop_ended c n k ty types p q r s fault h due e =
    let last : IsDue c 1 s q (outermost c ty types p) = due_fewer c (suc n - k) 1 s q (outermost c ty types p) (omega arith) due in
    code_failed c 0 ty types p q r s fault
    (byte_failed c 0 (outermost c ty types p) q fault s q r e (no_byte c 0 s q (outermost c ty types p) fault last))
