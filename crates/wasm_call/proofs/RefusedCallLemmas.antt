-- A call whose conditions do not hold is told so.
use Rattle.std.proofs.Common.{◌≡◌, ℕ, List, Option, ap, ◌∙◌, subst}
use Rattle.std.specs.Global.{Global as GlobalSpec}
use Rattle.std.specs.Prelude.{⊤, Result, Ok, Err, IfErr, IsErrAnd, Vec}
use Rattle.wasm_values.specs.declared.handles.Func.{Func}
use Rattle.wasm_values.specs.declared.refusals.Refusal.{Refusal}
use Rattle.wasm_values.specs.declared.values.Val.{Val}
use Rattle.spec_machine.specs.FunctionCalls.{Called, called}
use Rattle.store_state.specs.Conditions.{conditions}
use Rattle.wasm_store.specs.Stores.{StoreParts}

-- the refusal that is due, where one is, is the result
abbrev pub IsTold : {A : Type 0} → Result Called Refusal → Result A Refusal → Type 0
IsTold due result = IfErr due (λ why. result ≡ Err why)

-- by what was asked
pub told_refused : {A : Type 0} (due : Result Called Refusal) (why : Refusal) (result : Result A Refusal) →
    Err why ≡ conditions due → IsErrAnd result (λ told. told ≡ why) → IsTold due result
told_refused (Ok c) why result e told = tt
told_refused (Err cause) why (Ok a) e told = absurd told
told_refused (Err cause) why (Err said) e told = let same : why ≡ cause = cc in ap Err (told ∙ same)

pub told_none : {A : Type 0} (due : Result Called Refusal) (result : Result A Refusal) → Ok tt ≡ conditions due →
    IsTold due result
told_none (Ok c) result e = tt
told_none (Err cause) result e = absurd cc

-- the same of what is made of the result
as_told : (due : Result Called Refusal) (why : Refusal) (result : Result ⊤ Refusal) →
    IsTold {A = Vec Val GlobalSpec} due (Err why) → IsErrAnd result (λ told. told ≡ why) → IsTold due result
as_told (Ok c) why result h told = tt
as_told (Err cause) why (Ok u) h told = absurd told
as_told (Err cause) why (Err said) h told = let same : why ≡ cause = cc in ap Err (told ∙ same)

as_returned : (due : Result Called Refusal) (vals : Vec Val GlobalSpec) → IsTold due (Ok vals) →
    IsTold {A = ⊤} due (Ok tt)
as_returned (Ok c) vals h = tt
as_returned (Err cause) vals h = absurd cc

-- of a store whose turns are counted anew
module _ {T : Type 0} (old mid : StoreParts T) (f : Func) (args : List Val) (wanted : Option ℕ)
    (e : mid ≡ record old { turns = 0 }) where
  pub outermost_told : (why : Refusal) (result : Result ⊤ Refusal) →
      IsTold {A = Vec Val GlobalSpec} (called mid.machine f args wanted) (Err why) →
      IsErrAnd result (λ told. told ≡ why) → IsTold (called old.machine f args wanted) result
  outermost_told why result h told =
      as_told (called old.machine f args wanted) why result
      (subst (λ (s : StoreParts T). IsTold {A = Vec Val GlobalSpec} (called s.machine f args wanted) (Err why)) e h) told

  pub outermost_returned : (vals : Vec Val GlobalSpec) → IsTold (called mid.machine f args wanted) (Ok vals) →
      IsTold {A = ⊤} (called old.machine f args wanted) (Ok tt)
  outermost_returned vals h =
      as_returned (called old.machine f args wanted) vals
      (subst (λ (s : StoreParts T). IsTold (called s.machine f args wanted) (Ok vals)) e h)
