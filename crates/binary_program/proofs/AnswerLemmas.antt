-- What a status says of the bytes that were taken, and of a whole input.
use Rattle.std.proofs.Common.{◌≡◌, ℕ, ◌+◌, ◌≤◌, ◌<◌, ◌⊎◌, inl, inr, List, [], ◌++◌, length, Bool, Option, Some, None, Result, Ok, Err, arith, refl, sym, ◌∙◌, ap, subst, if◌then◌else◌}
use Rattle.std.proofs.lemmas.Bool.{le-leb, lt-leb}
use Rattle.std.proofs.lemmas.List.{append-nil, length-append}
use Rattle.wasm_streams.specs.Streams.{after, before, Fronts, HasNothing}
use Rattle.wasm_syntax.specs.declared.declarations.ModuleDecl.{ModuleDecl}
use Rattle.binary_types.specs.declared.faults.BinaryFault.{BinaryFault}
use Rattle.binary_types.specs.declared.faults.BinaryFault.TheVariants as fault
use Rattle.binary_program.specs.Lines.{line_of}
use Rattle.binary_program.specs.Statuses.{Answered, Says, IsDecided, IsOfWhole, IsQuiet, IsWritten, due, due_for_module, limit, read_of}
use Rattle.binary_program.specs.declared.status.BinaryStatus.{BinaryStatus}
use Rattle.binary_program.specs.declared.status.BinaryStatus.TheVariants.{Done, Refused, ReadFault, TooLong, OutOfMemory, WriteFault}

-- neither a stream's fault nor the length of an input is due for what was read
abbrev pub IsOfModule : BinaryStatus → Type 0
IsOfModule Done = Unit {0}
IsOfModule Refused = Unit {0}
IsOfModule OutOfMemory = Unit {0}
IsOfModule status = ⊥

of_module : (r : Result ModuleDecl BinaryFault) → IsOfModule (due_for_module r)
of_module (Ok m) = tt
of_module (Err fault.Malformed) = tt
of_module (Err (fault.Unsupported at code)) = tt
of_module (Err (fault.Index at)) = tt
of_module (Err (fault.Alignment at)) = tt
of_module (Err (fault.Refused at f)) = tt
of_module (Err fault.OutOfMemory) = tt

of_module_by : (status : BinaryStatus) (r : Result ModuleDecl BinaryFault) → status ≡ due_for_module r → IsOfModule status
of_module_by status r e = subst (λ (s : BinaryStatus). IsOfModule s) (sym e) (of_module r)

pub no_write_fault : (status : BinaryStatus) (r : Result ModuleDecl BinaryFault) → status ≡ due_for_module r → status ≡ WriteFault → ⊥
no_write_fault status r d e = subst (λ (s : BinaryStatus). IsOfModule s) e (of_module_by status r d)

pub no_read_fault : (status : BinaryStatus) (r : Result ModuleDecl BinaryFault) → status ≡ due_for_module r → status ≡ ReadFault → ⊥
no_read_fault status r d e = subst (λ (s : BinaryStatus). IsOfModule s) e (of_module_by status r d)

pub not_quiet : (status : BinaryStatus) → IsWritten status → IsQuiet status → ⊥
not_quiet Done w q = q
not_quiet Refused w q = q
not_quiet ReadFault w q = w
not_quiet TooLong w q = w
not_quiet OutOfMemory w q = w
not_quiet WriteFault w q = w

all_after : (text : List ℕ) (old : Option (List ℕ)) (new : Option (List ℕ)) → new ≡ after text old → Fronts text old new
all_after text old new e = (text, [], sym (append-nil text), e)

nothing_after : (old : Option (List ℕ)) → old ≡ after [] old
nothing_after None = refl
nothing_after (Some held) = ap (λ (xs : List ℕ). Some xs) (sym (append-nil held))

pub nothing : (text : List ℕ) (old new : Option (List ℕ)) → new ≡ old → Fronts text old new
nothing text old new e = ([], text, refl, e ∙ nothing_after old)

-- a line that was written whole
pub answered : (taken : List ℕ) (old new : Option (List ℕ)) (status : BinaryStatus) → length taken ≤ limit → status ≡ due_for_module (read_of taken) → new ≡ after (line_of (read_of taken)) old → Says taken old new status
answered taken old new Done w d e = record { within = w; due_status = d; wrote = e }
answered taken old new Refused w d e = record { within = w; due_status = d; wrote = e }
answered taken old new OutOfMemory w d e = record { within = w; front = all_after (line_of (read_of taken)) old new e }
answered taken old new ReadFault w d e = absurd (of_module_by ReadFault (read_of taken) d)
answered taken old new TooLong w d e = absurd (of_module_by TooLong (read_of taken) d)
answered taken old new WriteFault w d e = absurd (of_module_by WriteFault (read_of taken) d)

-- what was taken of a source that has nothing left is all that it had
whole : (taken input : List ℕ) (left : Option (List ℕ)) → Some input ≡ before taken left → HasNothing left → taken ≡ input
whole taken input None e n = cc
whole taken input (Some rest) e n =
    let same : input ≡ taken ++ rest = cc in
    sym (append-nil taken) ∙ ap (λ r. taken ++ r) (sym n) ∙ sym same

no_shorter : (taken input : List ℕ) (left : Option (List ℕ)) → Some input ≡ before taken left → length taken ≤ length input
no_shorter taken input None e =
    let same : input ≡ taken = cc in
    let l : length input ≡ length taken = ap (λ (xs : List ℕ). length xs) same in
    omega arith
no_shorter taken input (Some rest) e =
    let same : input ≡ taken ++ rest = cc in
    let l : length input ≡ length taken + length rest = ap (λ (xs : List ℕ). length xs) same ∙ length-append taken rest in
    omega arith

due_within : (input : List ℕ) → length input ≤ limit → due input ≡ due_for_module (read_of input)
due_within input h = ap (λ (b : Bool). if b then due_for_module (read_of input) else TooLong) (le-leb (length input) limit h)

due_past : (input : List ℕ) → limit < length input → due input ≡ TooLong
due_past input h = ap (λ (b : Bool). if b then due_for_module (read_of input) else TooLong) (lt-leb (length input) limit h)

due_answered : (taken input : List ℕ) (old new : Option (List ℕ)) (status : BinaryStatus) → taken ≡ input → Answered taken old new status → status ≡ due input
due_answered taken input old new status e a =
    let within : length input ≤ limit = subst (λ (xs : List ℕ). length xs ≤ limit) e a.within in
    a.due_status ∙ ap (λ (xs : List ℕ). due_for_module (read_of xs)) e ∙ sym (due_within input within)

pub decided_of : (taken input : List ℕ) (left old new : Option (List ℕ)) (status : BinaryStatus) → Some input ≡ before taken left → (IsOfWhole status → HasNothing left) → Says taken old new status → IsDecided status → status ≡ due input
decided_of taken input left old new Done e n says d = due_answered taken input old new Done (whole taken input left e (n tt)) says
decided_of taken input left old new Refused e n says d = due_answered taken input old new Refused (whole taken input left e (n tt)) says
decided_of taken input left old new TooLong e n says d =
    let l : length taken ≤ length input = no_shorter taken input left e in
    let k : length taken ≡ limit + 1 = says.0 in
    sym (due_past input (omega arith))
decided_of taken input left old new ReadFault e n says d = absurd d
decided_of taken input left old new OutOfMemory e n says d = absurd d
decided_of taken input left old new WriteFault e n says d = absurd d

pub complete_of : (taken input : List ℕ) (left old new : Option (List ℕ)) (status : BinaryStatus) → Some input ≡ before taken left → (IsOfWhole status → HasNothing left) → Says taken old new status → (status ≡ ReadFault → ⊥) → (status ≡ WriteFault → ⊥) → (status ≡ due input) ⊎ (status ≡ OutOfMemory)
complete_of taken input left old new Done e n says r w = inl (decided_of taken input left old new Done e n says tt)
complete_of taken input left old new Refused e n says r w = inl (decided_of taken input left old new Refused e n says tt)
complete_of taken input left old new TooLong e n says r w = inl (decided_of taken input left old new TooLong e n says tt)
complete_of taken input left old new ReadFault e n says r w = absurd (r refl)
complete_of taken input left old new OutOfMemory e n says r w = inr refl
complete_of taken input left old new WriteFault e n says r w = absurd (w refl)

line_answered : (taken input : List ℕ) (old new : Option (List ℕ)) (status : BinaryStatus) → taken ≡ input → Answered taken old new status → new ≡ after (line_of (read_of input)) old
line_answered taken input old new status e a = a.wrote ∙ ap (λ (xs : List ℕ). after (line_of (read_of xs)) old) e

pub written_of : (taken input : List ℕ) (left old new : Option (List ℕ)) (status : BinaryStatus) → Some input ≡ before taken left → (IsOfWhole status → HasNothing left) → Says taken old new status → IsWritten status → new ≡ after (line_of (read_of input)) old
written_of taken input left old new Done e n says d = line_answered taken input old new Done (whole taken input left e (n tt)) says
written_of taken input left old new Refused e n says d = line_answered taken input old new Refused (whole taken input left e (n tt)) says
written_of taken input left old new TooLong e n says d = absurd d
written_of taken input left old new ReadFault e n says d = absurd d
written_of taken input left old new OutOfMemory e n says d = absurd d
written_of taken input left old new WriteFault e n says d = absurd d

front_by : (taken : List ℕ) (old new : Option (List ℕ)) (status : BinaryStatus) → Says taken old new status → Fronts (line_of (read_of taken)) old new
front_by taken old new Done says = all_after (line_of (read_of taken)) old new says.wrote
front_by taken old new Refused says = all_after (line_of (read_of taken)) old new says.wrote
front_by taken old new ReadFault says = nothing (line_of (read_of taken)) old new says.1
front_by taken old new TooLong says = nothing (line_of (read_of taken)) old new says.1
front_by taken old new OutOfMemory says = says.front
front_by taken old new WriteFault says = says.front

pub front_of : (taken input : List ℕ) (left old new : Option (List ℕ)) (status : BinaryStatus) → Some input ≡ before taken left → HasNothing left ⊎ (new ≡ old) → Says taken old new status → Fronts (line_of (read_of input)) old new
front_of taken input left old new status e (inl n) says =
    subst (λ (xs : List ℕ). Fronts (line_of (read_of xs)) old new) (whole taken input left e n) (front_by taken old new status says)
front_of taken input left old new status e (inr same) says = nothing (line_of (read_of input)) old new same
