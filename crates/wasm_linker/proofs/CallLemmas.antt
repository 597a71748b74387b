-- What a call makes of a linker, where it did not run out of memory.
use Rattle.std.proofs.Common.{◌≡◌, sym, ap, ◌∙◌, refl, Result, Ok, Err, OnOk, OnErr, IfErr}
use Rattle.std.specs.Prelude.{⊤}
use Rattle.linker_map.specs.Linkers.{LinkerParts, Refuses}
use Rattle.linker_map.specs.declared.faults.LinkFault.{LinkFault}
use Rattle.linker_map.specs.declared.faults.LinkFault.TheVariants.{AlreadyDefined, UnknownName, UnknownImport, Refused, OutOfMemory}
use Rattle.wasm_linker.specs.Calls.{or_same}

-- a fact where a call came to its end, or did not
pub on_ok : {A E : Type 0} {P Q : Type 0} (r : Result A E) → (P → Q) → OnOk r P → OnOk r Q
on_ok (Ok a) f p = f p
on_ok (Err e) f p = tt

pub always_on_err : {A E : Type 0} {P : Type 0} (r : Result A E) → P → OnErr r P
always_on_err (Ok a) p = tt
always_on_err (Err e) p = p

-- no fault changed anything, but for want of memory
abbrev pub KeepsUnlessShort : Result ⊤ LinkFault → LinkerParts → LinkerParts → Type 0
KeepsUnlessShort answer old new = IfErr answer (λ why. ¬ (why ≡ OutOfMemory) → new ≡ old)

pub keeps : (answer : Result ⊤ LinkFault) (old new : LinkerParts) → OnErr answer (new ≡ old) → KeepsUnlessShort answer old new
keeps (Ok a) old new h = tt
keeps (Err why) old new h = λ other. h

same_by : (due : Result LinkerParts LinkFault) (why : LinkFault) (old new : LinkerParts) → due ≡ Err why → new ≡ old → new ≡ or_same old due
same_by due why old new e same = same ∙ sym (ap (or_same old) e)

refused_is : (due : Result LinkerParts LinkFault) (why : LinkFault) (old new : LinkerParts) → Refuses due why → ¬ (why ≡ OutOfMemory) → new ≡ old → new ≡ or_same old due
refused_is due AlreadyDefined old new e other same = same_by due AlreadyDefined old new e same
refused_is due UnknownName old new e other same = same_by due UnknownName old new e same
refused_is due (UnknownImport i) old new e other same = same_by due (UnknownImport i) old new e same
refused_is due (Refused why) old new e other same = same_by due (Refused why) old new e same
refused_is due OutOfMemory old new e other same = absurd (other refl)

pub call_is : (due : Result LinkerParts LinkFault) (old new : LinkerParts) (answer : Result ⊤ LinkFault) →
    OnOk answer (due ≡ Ok new) → IfErr answer (λ why. Refuses due why) → KeepsUnlessShort answer old new →
    ¬ (answer ≡ Err OutOfMemory) → new ≡ or_same old due
call_is due old new (Ok a) ok refuses keeps enough = sym (ap (or_same old) ok)
call_is due old new (Err why) ok refuses keeps enough =
    let other : ¬ (why ≡ OutOfMemory) = λ e. enough (ap Err e) in refused_is due why old new refuses other (keeps other)
