-- What a status says of a whole input, by what it says of the bytes that were taken; and the reply that is told.
use Rattle.std.proofs.Common.{◌≡◌, ◌⊎◌, inl, inr, ℕ, ◌≤◌, List, [], ◌∷◌, ◌++◌, length, Bool, true, false, Option, Some, None, Result, Err, refl, sym, ◌∙◌, ap, subst, if◌then◌else◌, arith}
use Rattle.std.specs.Prelude.{nat_eq, ◌||◌}
use Rattle.std.proofs.lemmas.Bool.{le-leb}
use Rattle.std.proofs.lemmas.List.{append-nil}
use Rattle.wasm_streams.specs.Streams.{before, HasNothing}
use Rattle.spec_machine.specs.declared.reply.Reply.{Reply}
use Rattle.wasm_call.specs.Outside.{Readings}
use Rattle.wasm_run.specs.Sessions.{limit}
use Rattle.binary_run.specs.Calls.{Call, call_by, call_within, spelled, due, due_for}
use Rattle.binary_run.specs.Starts.{command_count}
use Rattle.binary_run.specs.Statuses.{Says, IsAfterInput, IsDecided, is_refused, verdict}
use Rattle.binary_run.specs.Words.{Asked, asked}
use Rattle.binary_run.specs.declared.status.Status.{Status}
use Rattle.binary_run.specs.declared.status.Status.TheVariants.{Done, BadWords, ReadFault, TooLong, BadModule, NoFunction, InvalidModule, TakesNoBytes, BadArguments, OutOfMemory, WriteFault}

-- ---- the input

-- what was taken of a source that has nothing left is all that it had
whole : (taken input : List ℕ) (left : Option (List ℕ)) → Some input ≡ before taken left → HasNothing left → taken ≡ input
whole taken input None e n = cc
whole taken input (Some rest) e n =
    let same : input ≡ taken ++ rest = cc in
    sym (append-nil taken) ∙ ap (λ r. taken ++ r) (sym n) ∙ sym same

spelled_as : (words : List (List ℕ)) (a : Asked) (input taken items : List ℕ) (left : Option (List ℕ)) →
    asked words ≡ Some a → Some input ≡ before taken left → HasNothing left → items ≡ taken → length taken ≤ limit →
    call_within a items ≡ spelled words input
spelled_as words a input taken items left f e n i w =
    let same : taken ≡ input = whole taken input left e n in
    let within : length input ≤ limit = subst (λ (xs : List ℕ). length xs ≤ limit) same w in
    ap (λ (xs : List ℕ). call_within a xs) (i ∙ same)
    ∙ sym (ap (λ (b : Bool). if b then call_within a input else Err TooLong) (le-leb (length input) limit within))
    ∙ sym (ap (λ (o : Option Asked). call_by o input) f)

-- the same of bytes that were taken of a source that does not tell what it has left
pub says_of_taken_by : {E : Type 0} (readings : Readings E) (e0 e1 : E) (o n : Option (List ℕ)) (words : List (List ℕ))
    (a : Asked) (taken items : List ℕ) (r : Status) → asked words ≡ Some a → items ≡ taken → length taken ≤ limit →
    Says readings e0 e1 o n (call_within a items) r → Says readings e0 e1 o n (spelled words taken) r
says_of_taken_by readings e0 e1 o n words a taken items r f i w s =
    let same : call_within a items ≡ spelled words taken =
    ap (λ (xs : List ℕ). call_within a xs) i
    ∙ sym (ap (λ (b : Bool). if b then call_within a taken else Err TooLong) (le-leb (length taken) limit w))
    ∙ sym (ap (λ (p : Option Asked). call_by p taken) f) in
    subst (λ (d : Result Call Status). Says readings e0 e1 o n d r) same s

-- ---- the status

decided_by : {E : Type 0} (readings : Readings E) (e0 e1 : E) (o n : Option (List ℕ)) (d : Result Call Status)
    (r : Status) → Says readings e0 e1 o n d r → IsDecided r → r ≡ due_for d
decided_by readings e0 e1 o n d Done s k = sym (ap due_for s.1)
decided_by readings e0 e1 o n d BadWords s k = sym (ap due_for s.0)
decided_by readings e0 e1 o n d ReadFault s k = absurd k
decided_by readings e0 e1 o n d TooLong s k = sym (ap due_for s.0)
decided_by readings e0 e1 o n d (BadModule f) s k = sym (ap due_for s.0)
decided_by readings e0 e1 o n d NoFunction s k = sym (ap due_for s.0)
decided_by readings e0 e1 o n d (InvalidModule rule place) s k = sym (ap due_for s.0)
decided_by readings e0 e1 o n d (TakesNoBytes part) s k = sym (ap due_for s.0)
decided_by readings e0 e1 o n d BadArguments s k = sym (ap due_for s.0)
decided_by readings e0 e1 o n d OutOfMemory s k = absurd k
decided_by readings e0 e1 o n d WriteFault s k = absurd k

complete_by : {E : Type 0} (readings : Readings E) (e0 e1 : E) (o n : Option (List ℕ)) (d : Result Call Status)
    (r : Status) → Says readings e0 e1 o n d r → IsAfterInput r → (r ≡ WriteFault → ⊥) →
    (r ≡ due_for d) ⊎ (r ≡ OutOfMemory)
complete_by readings e0 e1 o n d Done s k w = inl (sym (ap due_for s.1))
complete_by readings e0 e1 o n d BadWords s k w = absurd k
complete_by readings e0 e1 o n d ReadFault s k w = absurd k
complete_by readings e0 e1 o n d TooLong s k w = absurd k
complete_by readings e0 e1 o n d (BadModule f) s k w = inl (sym (ap due_for s.0))
complete_by readings e0 e1 o n d NoFunction s k w = inl (sym (ap due_for s.0))
complete_by readings e0 e1 o n d (InvalidModule rule place) s k w = inl (sym (ap due_for s.0))
complete_by readings e0 e1 o n d (TakesNoBytes part) s k w = inl (sym (ap due_for s.0))
complete_by readings e0 e1 o n d BadArguments s k w = inl (sym (ap due_for s.0))
complete_by readings e0 e1 o n d OutOfMemory s k w = inr refl
complete_by readings e0 e1 o n d WriteFault s k w = absurd (w refl)

pub says_of : {E : Type 0} (readings : Readings E) (e0 e1 : E) (o n : Option (List ℕ)) (words : List (List ℕ)) (a : Asked)
    (input taken items : List ℕ) (left : Option (List ℕ)) (r : Status) → asked words ≡ Some a →
    Some input ≡ before taken left → HasNothing left → items ≡ taken → length taken ≤ limit →
    Says readings e0 e1 o n (call_within a items) r → Says readings e0 e1 o n (spelled words input) r
says_of readings e0 e1 o n words a input taken items left r f e h i w s =
    subst (λ (d : Result Call Status). Says readings e0 e1 o n d r) (spelled_as words a input taken items left f e h i w) s

pub decided_of : {E : Type 0} (readings : Readings E) (e0 e1 : E) (o n : Option (List ℕ)) (words : List (List ℕ))
    (a : Asked) (input taken items : List ℕ) (left : Option (List ℕ)) (r : Status) → asked words ≡ Some a →
    Some input ≡ before taken left → HasNothing left → items ≡ taken → length taken ≤ limit →
    Says readings e0 e1 o n (call_within a items) r → IsDecided r → r ≡ due words input
decided_of readings e0 e1 o n words a input taken items left r f e h i w s k =
    decided_by readings e0 e1 o n (spelled words input) r
    (says_of readings e0 e1 o n words a input taken items left r f e h i w s) k

pub complete_of : {E : Type 0} (readings : Readings E) (e0 e1 : E) (o n : Option (List ℕ)) (words : List (List ℕ))
    (a : Asked) (input taken items : List ℕ) (left : Option (List ℕ)) (r : Status) → asked words ≡ Some a →
    Some input ≡ before taken left → HasNothing left → items ≡ taken → length taken ≤ limit →
    Says readings e0 e1 o n (call_within a items) r → IsAfterInput r → (r ≡ WriteFault → ⊥) →
    (r ≡ due words input) ⊎ (r ≡ OutOfMemory)
complete_of readings e0 e1 o n words a input taken items left r f e h i w s k v =
    complete_by readings e0 e1 o n (spelled words input) r
    (says_of readings e0 e1 o n words a input taken items left r f e h i w s) k v

-- ---- the reply

one_of : (b : Bool) (r : Reply) (o : Option Reply) → (o ≡ None → ⊥) → (if b then Some r else o) ≡ None → ⊥
one_of true r o never e = absurd cc
one_of false r o never e = never e

no_verdict : (r : Reply) (rs : List Reply) → verdict (r ∷ rs) ≡ None → ⊥
no_verdict r [] e = absurd cc
no_verdict r (s ∷ rs) e =
    one_of (nat_eq (length (s ∷ rs)) 0 || is_refused r) r (verdict (s ∷ rs)) (no_verdict s rs) e

-- of the replies to the commands of a call one is told
pub one_is_told : (bytes : Option (List ℕ)) (rs : List Reply) → length rs ≡ command_count bytes → verdict rs ≡ None → ⊥
one_is_told None [] h e = absurd (omega (arith, h))
one_is_told (Some bytes) [] h e = absurd (omega (arith, h))
one_is_told bytes (r ∷ rs) h e = no_verdict r rs e
