-- A call on a store by its conditions and its run, with what is outside around the store.
use Rattle.std.proofs.Common.{◌≡◌, ℕ, suc, inl, inr, List, Bool, true, false, Option, Some, None, refl, ap, sym, ◌∙◌, subst, length, if◌then◌else◌, ok_or}
use Rattle.std.specs.Global.{Global as GlobalSpec}
use Rattle.std.specs.List.{list_all}
use Rattle.std.specs.Prelude.{⊤, Result, Ok, Err, IfOk, IfErr, IsErrAnd, IsOk, Vec, nat_eq}
use Rattle.wasm_types.specs.FunctionParts.{params, results}
use Rattle.wasm_types.specs.Signatures.{Signature}
use Rattle.wasm_values.specs.Handles.{func_store, func_index}
use Rattle.wasm_values.specs.declared.handles.Func.{Func}
use Rattle.wasm_values.specs.declared.refusals.Refusal.{Refusal}
use Rattle.wasm_values.specs.declared.refusals.Refusal.TheVariants.{WrongStore, ArgumentCount, ResultCount, TypeMismatch}
use Rattle.wasm_values.specs.declared.refusals.Refusal.TheVariants as refusal
use Rattle.wasm_values.specs.declared.values.Val.{Val}
use Rattle.spec_machine.specs.Commands.{Row, Refuse, invokes}
use Rattle.spec_machine.specs.FunctionCalls.{Called, is_count, called}
use Rattle.spec_machine.specs.Machine.{Machine}
use Rattle.spec_machine.specs.Steps.{◌>>=◌, unless}
use Rattle.spec_machine.specs.Values.{function_type, is_id, owns_val, all_fit}
use Rattle.spec_machine.specs.declared.reply.Reply.TheVariants as reply
use Rattle.spec_execution.specs.Outcomes.{World}
use Rattle.store_state.specs.Conditions.{conditions}
use Rattle.store_objects.specs.declared.objects.ObjectParts.{ObjectParts}
use Rattle.wasm_store.specs.Stores.{StoreParts, store_parts}
use Rattle.wasm_call.specs.Calls.{call_row, Returned, Failed, ResultsFit}
use Rattle.wasm_call.specs.Invoking.{machine_in, store_in}
use Rattle.wasm_call.specs.Outcomes.{Leads, by_row, answer_of, stop_of, lack_of}
use Rattle.wasm_call.specs.Outside.{Moving, Surrounded, surrounded}
use Rattle.wasm_call.proofs.AllowedCallLemmas.{call_of}
use Rattle.wasm_call.proofs.RepliedCallLemmas.{failed_by, fit_length}
use Rattle.wasm_call.proofs.CommandLemmas.{refused_row}
use Rattle.wasm_call.proofs.StopLemmas.{refused_cut}

-- ---- its conditions

-- a call that holds also where it is not said how many results there are to be; and there are as many as was said
record Holds (m : Machine) (f : Func) (args : List Val) (wanted : Option ℕ) : Type 0 where
  own : Signature
  found : function_type m (func_index f) ≡ Some own
  is : called m f args wanted ≡ Ok (call_of f args own)
  unsaid : called m f args None ≡ Ok (call_of f args own)
  count : is_count wanted (length (results own)) ≡ true

module _ (m : Machine) (f : Func) (args : List Val) (wanted : Option ℕ) where
  abbrev tests : Signature → Bool → Bool → Bool → Bool → Result Called Refusal
  tests own b₁ b₂ b₃ b₄ =
      unless WrongStore b₁ >>= (λ (_ : ⊤). unless ArgumentCount b₂ >>= (λ (_ : ⊤). unless ResultCount b₃ >>=
      (λ (_ : ⊤). unless TypeMismatch b₄ >>= (λ (_ : ⊤). Ok (call_of f args own)))))

  -- of a function of this type, and of one that may not be there
  abbrev by_type : Option ℕ → Signature → Result Called Refusal
  by_type count own =
      tests own (list_all (owns_val m) args) (nat_eq (length args) (length (params own)))
      (is_count count (length (results own))) (all_fit m args (params own))

  abbrev by_function : Option ℕ → Bool → Option Signature → Result Called Refusal
  by_function count b o = (if b then ok_or o WrongStore else Err WrongStore) >>= by_type count

  record Passed (own : Signature) (b₁ b₂ b₃ b₄ : Bool) : Type 0 where
    is : tests own b₁ b₂ b₃ b₄ ≡ Ok (call_of f args own)
    unsaid : tests own b₁ b₂ true b₄ ≡ Ok (call_of f args own)
    count : b₃ ≡ true

  passed : (own : Signature) (b₁ b₂ b₃ b₄ : Bool) → Ok tt ≡ conditions (tests own b₁ b₂ b₃ b₄) →
      Passed own b₁ b₂ b₃ b₄
  passed own true true true true e = record { is = refl; unsaid = refl; count = refl }
  passed own true true true false e = absurd cc
  passed own true true false b₄ e = absurd cc
  passed own true false b₃ b₄ e = absurd cc
  passed own false b₂ b₃ b₄ e = absurd cc

  holds_by : (b : Bool) (o : Option Signature) → is_id (func_store f) m.id ≡ b → function_type m (func_index f) ≡ o →
      Ok tt ≡ conditions (by_function wanted b o) → Holds m f args wanted
  holds_by true (Some own) eb eo e =
      let t = passed own (list_all (owns_val m) args) (nat_eq (length args) (length (params own)))
      (is_count wanted (length (results own))) (all_fit m args (params own)) e in
      let due : (count : Option ℕ) → called m f args count ≡ by_type count own =
      λ count. ap (λ b. by_function count b (function_type m (func_index f))) eb ∙ ap (by_function count true) eo in
      record { own = own; found = eo; is = due wanted ∙ t.is; unsaid = due None ∙ t.unsaid; count = t.count }
  holds_by true None eb eo e = absurd cc
  holds_by false o eb eo e = absurd cc

  holds : Ok tt ≡ conditions (called m f args wanted) → Holds m f args wanted
  holds e = holds_by (is_id (func_store f) m.id) (function_type m (func_index f)) refl refl e

is_ok : (r : Result Called Refusal) (c : Called) → r ≡ Ok c → IsOk r
is_ok r c e = subst (λ (x : Result Called Refusal). IsOk x) (sym e) refl

-- on the objects that were taken out of the store
pub run_allowed : (p : ObjectParts) (m : Machine) (f : Func) (args : List Val) (wanted : Option ℕ) → machine_in p ≡ m →
    Ok tt ≡ conditions (called m f args wanted) → IsOk (called (machine_in p) f args None)
run_allowed p m f args wanted same e =
    let h = holds m f args wanted e in
    is_ok (called (machine_in p) f args None) (call_of f args h.own) (ap (λ x. called x f args None) same ∙ h.unsaid)

-- ---- refused

pub refuses : (due : Result Called Refusal) (why : Refusal) → Err why ≡ conditions due → invokes due ≡ Refuse why
refuses (Ok c) why e = absurd cc
refuses (Err cause) why e = let same : cause ≡ why = cc in ap Refuse same

module _ {T H E : Type 0} (moves : Moving T H E) (s : StoreParts T) (host : H) (epochs : E) (f : Func)
    (args : List Val) (wanted : Option ℕ) (why : Refusal) (fresh : s.turns ≡ 0)
    (e : Err why ≡ conditions (called s.machine f args wanted)) where
  abbrev own : Surrounded T H E
  own = surrounded s host epochs

  abbrev Fails : Refusal → Type 0
  Fails told = Failed moves (call_row s.machine f args wanted) own told own

  refused_failed : Fails why
  refused_failed =
      subst (λ (row : Row). Failed moves row own why own) (sym (refuses (called s.machine f args wanted) why e))
      (failed_by moves (Refuse why) own own why (refused_row moves (Refuse why) why own refl fresh)
      (refused_cut moves own fresh why))

  -- the same of the result that tells it
  pub refused_result : (result : Result (Vec Val GlobalSpec) Refusal) → IsErrAnd result (λ told. told ≡ why) →
      IfErr result Fails
  refused_result (Ok vals) h = tt
  refused_result (Err told) h = subst Fails (sym h) refused_failed

-- the store with the objects put back
pub left_after : {T : Type 0} {new mid : StoreParts T} {m n after : Machine} {turns : ℕ} {t : T} →
    new ≡ store_parts m mid.turns mid.host_data → mid ≡ store_parts n turns t → m ≡ after →
    new ≡ store_parts after turns t
left_after {T} {new} {mid} {m} {n} {after} {turns} {t} e f g =
    e ∙ ap (λ (s : StoreParts T). store_parts m s.turns s.host_data) f ∙ ap (λ x. store_parts x turns t) g

-- ---- run

module _ {T H E : Type 0} (asked : Moving T H E) (old new : StoreParts T) (host host' : H) (epochs epochs' : E)
    (f : Func) (args : List Val) (wanted : Option ℕ)
    (e : Ok tt ≡ conditions (called old.machine f args wanted)) (fresh : old.turns ≡ 0) (p p' : ObjectParts)
    (turns : ℕ) (t t' : T) (same : machine_in p ≡ old.machine) (own : t ≡ old.host_data)
    (after : new ≡ store_in p' turns t') (result : Result (Vec Val GlobalSpec) Refusal) where
  abbrev before_it : StoreParts T → Surrounded T H E
  before_it s = surrounded s host epochs

  abbrev behind_it : StoreParts T → Surrounded T H E
  behind_it s = surrounded s host' epochs'

  h : Holds old.machine f args wanted
  h = holds old.machine f args wanted e

  row_is : call_row (machine_in p) f args None ≡ call_row old.machine f args wanted
  row_is = ap (λ m. call_row m f args None) same ∙ ap invokes (h.unsaid ∙ sym h.is)

  store_is : store_in p 0 t ≡ old
  store_is =
      ap (λ m. store_parts m 0 t) same ∙ ap (λ k. store_parts old.machine k t) (sym fresh)
      ∙ ap (store_parts old.machine old.turns) own

  pub host_returned : IfOk result (λ vals.
      Returned asked (call_row (machine_in p) f args None) (before_it (store_in p 0 t)) vals.items
      (behind_it (store_in p' turns t'))) →
      IfOk result (λ vals. Returned asked (call_row old.machine f args wanted) (before_it old) vals.items (behind_it new))
  host_returned x =
      subst (λ (s : StoreParts T). IfOk result (λ vals.
      Returned asked (call_row old.machine f args wanted) (before_it old) vals.items (behind_it s))) (sym after)
      (subst (λ (s : StoreParts T). IfOk result (λ vals.
      Returned asked (call_row old.machine f args wanted) (before_it s) vals.items (behind_it (store_in p' turns t'))))
      store_is
      (subst (λ (r : Row). IfOk result (λ vals.
      Returned asked r (before_it (store_in p 0 t)) vals.items (behind_it (store_in p' turns t')))) row_is x))

  pub host_failed : IfErr result (λ why.
      Failed asked (call_row (machine_in p) f args None) (before_it (store_in p 0 t)) why
      (behind_it (store_in p' turns t'))) →
      IfErr result (λ why. Failed asked (call_row old.machine f args wanted) (before_it old) why (behind_it new))
  host_failed x =
      subst (λ (s : StoreParts T). IfErr result (λ why.
      Failed asked (call_row old.machine f args wanted) (before_it old) why (behind_it s))) (sym after)
      (subst (λ (s : StoreParts T). IfErr result (λ why.
      Failed asked (call_row old.machine f args wanted) (before_it s) why (behind_it (store_in p' turns t')))) store_is
      (subst (λ (r : Row). IfErr result (λ why.
      Failed asked r (before_it (store_in p 0 t)) why (behind_it (store_in p' turns t')))) row_is x))

  pub host_counted : IfOk result (λ vals. ResultsFit (machine_in p) f (machine_in p') vals.items) →
      IfOk result (λ vals. is_count wanted (length vals.items) ≡ true)
  host_counted x = by_result result x where
    by_result : (r : Result (Vec Val GlobalSpec) Refusal) →
        IfOk r (λ vals. ResultsFit (machine_in p) f (machine_in p') vals.items) →
        IfOk r (λ vals. is_count wanted (length vals.items) ≡ true)
    by_result (Ok vals) x =
        ap (is_count wanted) (fit_length (machine_in p') vals.items (results h.own)
        (x h.own (ap (λ m. function_type m (func_index f)) same ∙ h.found))) ∙ h.count
    by_result (Err why) x = tt

  -- of the store
  machine_is : machine_in p' ≡ new.machine
  machine_is = sym (ap (λ (s : StoreParts T). s.machine) after)

  pub host_fit : IfOk result (λ vals. ResultsFit (machine_in p) f (machine_in p') vals.items) →
      IfOk result (λ vals. ResultsFit old.machine f new.machine vals.items)
  host_fit x =
      subst (λ (m : Machine). IfOk result (λ vals. ResultsFit old.machine f m vals.items)) machine_is
      (subst (λ (m : Machine). IfOk result (λ vals. ResultsFit m f (machine_in p') vals.items)) same x)

  pub host_owned : IfOk result (λ vals. list_all (owns_val (machine_in p')) vals.items ≡ true) →
      IfOk result (λ vals. list_all (owns_val new.machine) vals.items ≡ true)
  host_owned x = subst (λ (m : Machine). IfOk result (λ vals. list_all (owns_val m) vals.items ≡ true)) machine_is x

-- ---- of a store whose turns are counted anew

abbrev fresh_in : {T H E : Type 0} → Surrounded T H E → Surrounded T H E
fresh_in s = surrounded (record s.store { turns = 0 }) s.host s.epochs

pub leads_fresh : {T H E O : Type 0} (rel : Moving T H E) (command : World → O) (turns : ℕ) (old : Surrounded T H E)
    (ending : World → O) (new : Surrounded T H E) →
    Leads rel command turns (fresh_in old) ending new → Leads rel command turns old ending new
leads_fresh rel command turns old ending new l = record {
  heard = l.heard;
  left = l.left;
  within = l.within;
  chained = l.chained;
  ends = λ before rest. l.ends before rest;
}

failed_fresh : {T H E : Type 0} (rel : Moving T H E) (row : Row) (old : Surrounded T H E) (why : Refusal)
    (new : Surrounded T H E) → Failed rel row (fresh_in old) why new → Failed rel row old why new
failed_fresh rel row old refusal.OutOfMemory new (inl k) =
    inl (record {
      led = leads_fresh rel (λ w. stop_of (by_row row w)) new.store.turns old (λ w. Some w) new k.led;
      within = k.within;
    })
failed_fresh rel row old refusal.OutOfMemory new (inr k) =
    inr (record {
      led = leads_fresh rel (λ w. lack_of (by_row row w)) (suc new.store.turns) old (λ w. Some w) new k.led;
      within = k.within;
    })
failed_fresh rel row old why new l =
    leads_fresh rel (λ w. answer_of (by_row row w)) old.store.machine.engine.turns old
    (λ w. Some (reply.Refused why, w)) new l

pub outermost_failed : {T H E : Type 0} (rel : Moving T H E) (host host' : H) (epochs epochs' : E)
    (old mid new : StoreParts T) (f : Func) (args : List Val) (wanted : Option ℕ) (why : Refusal)
    (result : Result ⊤ Refusal) → mid ≡ record old { turns = 0 } →
    Failed rel (call_row mid.machine f args wanted) (surrounded mid host epochs) why (surrounded new host' epochs') →
    IsErrAnd result (λ told. told ≡ why) →
    IfErr result (λ told. Failed rel (call_row old.machine f args wanted) (surrounded old host epochs) told
    (surrounded new host' epochs'))
outermost_failed rel host host' epochs epochs' old mid new f args wanted why (Ok _) e h told = tt
outermost_failed {T} rel host host' epochs epochs' old mid new f args wanted why (Err said) e h told =
    let after = surrounded new host' epochs' in
    subst (λ (x : Refusal). Failed rel (call_row old.machine f args wanted) (surrounded old host epochs) x after)
    (sym told)
    (failed_fresh rel (call_row old.machine f args wanted) (surrounded old host epochs) why after
    (subst (λ (s : StoreParts T). Failed rel (call_row s.machine f args wanted) (surrounded s host epochs) why after)
    e h))
