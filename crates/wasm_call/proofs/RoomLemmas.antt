-- Want of memory in an operation: it may take memory, and it is not refused.
use Rattle.std.proofs.Common.{◌≡◌, true, ℕ, List, [], length, map, Bool, false, if◌then◌else◌, refl, ap, sym}
use Rattle.std.proofs.lemmas.Option.{same_Some}
use Rattle.std.specs.List.{list_all}
use Rattle.std.specs.Option.{ok_or}
use Rattle.std.specs.Prelude.{nat_eq, ⊤, Option, Some, None, Result, Ok, Err, IfErr, IfOk, IfSome, OnErr}
use Rattle.wasm_types.specs.FunctionParts.{params, results}
use Rattle.wasm_types.specs.Signatures.{Signature}
use Rattle.wasm_types.specs.declared.faults.OutOfMemory.{OutOfMemory as NoMemory}
use Rattle.wasm_values.specs.Handles.{func_index}
use Rattle.wasm_values.specs.declared.handles.Func.{Func}
use Rattle.wasm_values.specs.declared.refusals.Refusal.{Refusal}
use Rattle.wasm_values.specs.declared.refusals.Refusal.TheVariants.{OutOfMemory, WrongStore, ArgumentCount, ResultCount, TypeMismatch}
use Rattle.wasm_values.specs.declared.values.Val.{Val}
use Rattle.spec_machine.specs.Commands.{Row, Refuse, invokes, operation}
use Rattle.spec_machine.specs.FunctionCalls.{Called, called, is_count}
use Rattle.spec_machine.specs.Machine.{Machine}
use Rattle.spec_machine.specs.Names.{Scope}
use Rattle.spec_machine.specs.Steps.{◌>>=◌, unless}
use Rattle.spec_machine.specs.ValueCalls.{func_ty}
use Rattle.spec_machine.specs.Values.{owns_val, all_fit, raw_val}
use Rattle.spec_machine.specs.declared.operation.Op.{Op}
use Rattle.spec_machine.specs.declared.operation.Op.TheVariants.{Call}
use Rattle.spec_machine.specs.declared.reply.Reply.{Reply}
use Rattle.spec_machine.specs.declared.reply.Reply.TheVariants.{Refused}
use Rattle.spec_execution.specs.Outcomes.{World}
use Rattle.store_state.specs.Conditions.{conditions}
use Rattle.wasm_call.specs.Outcomes.{AnsweredWithin, PerformedWithin, Operated}
use Rattle.wasm_call.specs.Outside.{Moving, Surrounded}
use Rattle.wasm_call.specs.Room.{takes_memory, refusal_of}

pub taken : (op : Op) (result : Result Reply NoMemory) → takes_memory op ≡ true →
    OnErr result (takes_memory op ≡ true)
taken op (Ok reply) e = tt
taken op (Err none) e = e

-- ---- what is due where there was no memory

-- an act that was due is no refusal
pub performed_met : {T H E : Type 0} (rel : Moving T H E) (limit : ℕ) (r : Row) (old new : Surrounded T H E)
    (result : Result Reply NoMemory) → PerformedWithin rel limit r old result new → OnErr result (refusal_of r ≡ None)
performed_met rel limit r old new (Ok reply) p = tt
performed_met rel limit (Refuse why) old new (Err none) p = absurd cc (p.led.ends [] [])
performed_met rel limit r old new (Err none) p = refl

-- the conditions of a call do not ask for memory
abbrev tests : Bool → Bool → Bool → Bool → Called → Result Called Refusal
tests own counted result fit c =
    unless WrongStore own >>= (λ _. unless ArgumentCount counted >>= (λ _. unless ResultCount result >>=
    (λ _. unless TypeMismatch fit >>= (λ _. Ok c))))

tests_told : (own counted result fit : Bool) (c : Called) → tests own counted result fit c ≡ Err OutOfMemory → ⊥
tests_told false counted result fit c e = cc
tests_told true false result fit c e = cc
tests_told true true false fit c e = cc
tests_told true true true false c e = cc
tests_told true true true true c e = cc

type_told : (own : Bool) (o : Option Signature) → (if own then ok_or o WrongStore else Err WrongStore) ≡ Err OutOfMemory → ⊥
type_told true (Some t) e = cc
type_told true None e = cc
type_told false o e = cc

pub called_told : (m : Machine) (f : Func) (args : List Val) (wanted : Option ℕ) →
    called m f args wanted ≡ Err OutOfMemory → ⊥
called_told m f args wanted e = by_type (func_ty m f) (type_told _ _) e where
  by_type : (r : Result Signature Refusal) → (r ≡ Err OutOfMemory → ⊥) →
      (r >>= (λ t. tests (list_all (owns_val m) args) (nat_eq (length args) (length (params t)))
      (is_count wanted (length (results t))) (all_fit m args (params t))
      (record { function = func_index f; arguments = map raw_val args; results = results t }))) ≡ Err OutOfMemory → ⊥
  by_type (Ok t) h q = tests_told _ _ _ _ _ q
  by_type (Err why) h q = let same : why ≡ OutOfMemory = cc in h (ap Err same)

-- so what is told of a call is no want of memory where a refusal is due
pub unmade_met : {A : Type 0} (due : Result Called Refusal) (said : Result A Refusal) (why : Refusal)
    (result : Result Reply NoMemory) → (due ≡ Err OutOfMemory → ⊥) → said ≡ Err why → IfErr due (λ w. said ≡ Err w) →
    OnErr result (why ≡ OutOfMemory) → OnErr result (refusal_of (invokes due) ≡ None)
unmade_met due said why (Ok reply) never is told short = tt
unmade_met (Ok c) said why (Err none) never is told short = refl
unmade_met (Err w) said why (Err none) never is told short =
    let same : w ≡ OutOfMemory = cc in absurd (never (ap Err same))

-- ---- a refusal that is due is told

none_due : (o : Option Refusal) (P : Refusal → Type 0) → o ≡ None → IfSome o P
none_due None P e = tt
none_due (Some why) P e = absurd cc

module _ {T H E : Type 0} (rel : Moving T H E) where
  refused_by : (limit : ℕ) (r : Row) (reply : Reply) (old new : Surrounded T H E) →
      AnsweredWithin rel limit r old reply new →
      IfSome (refusal_of r) (λ why. ◌≡◌ {A = Result Reply NoMemory} (Ok reply) (Ok (Refused why)))
  refused_by limit (Refuse why) reply old new p =
      ap Ok (sym (ap (λ (x : Reply × World). x.0) (same_Some _ _ (p.ends [] []))))
  refused_by limit r reply old new p = tt

  pub row_refused : (limit : ℕ) (r : Row) (result : Result Reply NoMemory) (old new : Surrounded T H E) →
      IfOk result (λ reply. AnsweredWithin rel limit r old reply new) → OnErr result (refusal_of r ≡ None) →
      IfSome (refusal_of r) (λ why. result ≡ Ok (Refused why))
  row_refused limit r (Ok reply) old new p met = refused_by limit r reply old new p
  row_refused limit r (Err none) old new p met = none_due (refusal_of r) _ met

  pub operated_refused : (s : Scope) (op : Op) (result : Result Reply NoMemory) (old new : Surrounded T H E) →
      Operated rel s op old result new → OnErr result (refusal_of (operation old.store.machine s op) ≡ None) →
      IfSome (refusal_of (operation old.store.machine s op)) (λ why. result ≡ Ok (Refused why))
  operated_refused s op (Err none) old new p met = none_due (refusal_of (operation old.store.machine s op)) _ met
  operated_refused s (Call func args wanted) (Ok reply) old new p met =
      refused_by old.store.machine.engine.turns (operation old.store.machine s (Call func args wanted)) reply old new p
  operated_refused s op (Ok reply) old new p met =
      refused_by old.store.machine.engine.turns (operation old.store.machine s op) reply old new p

-- ---- a condition that holds

pub always : {A F P : Type 0} (r : Result A F) → P → OnErr r P
always (Ok a) p = tt
always (Err e) p = p

pub met_called : (due : Result Called Refusal) (u : ⊤) → Ok u ≡ conditions due → refusal_of (invokes due) ≡ None
met_called (Ok c) u e = refl
met_called (Err why) u e = absurd cc
