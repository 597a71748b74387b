-- A call that a body of the host asks for, before its function is entered: it is refused, or the function is to be called.
use Rattle.std.proofs.Common.{◌≡◌, ◌⊎◌, inl, inr, ℕ, ◌+◌, List, [], ◌++◌, Option, Some, None, refl, ap, sym, ◌∙◌, subst, arith, map}
use Rattle.std.specs.Prelude.{Result, Ok, Err, IsOk, IfErr, ⊤}
use Rattle.std.proofs.lemmas.List.{append-nil}
use Rattle.wasm_types.specs.declared.faults.OutOfMemory.{OutOfMemory as NoMemory}
use Rattle.wasm_values.specs.Handles.{func_index}
use Rattle.wasm_values.specs.declared.handles.Func.{Func}
use Rattle.wasm_values.specs.declared.refusals.Refusal.{Refusal}
use Rattle.wasm_values.specs.declared.values.Val.{Val}
use Rattle.spec_machine.specs.Commands.{Row, Refuse, Invoke, named, invokes, operation}
use Rattle.spec_machine.specs.FunctionCalls.{Called, called}
use Rattle.spec_machine.specs.Machine.{Machine}
use Rattle.spec_machine.specs.Names.{Scope, named_func, operand_values}
use Rattle.spec_machine.specs.Values.{raw_val}
use Rattle.spec_machine.specs.declared.command.Command.TheVariants as command
use Rattle.spec_machine.specs.declared.name.Name.{Name}
use Rattle.spec_machine.specs.declared.name.Operand.{Operand}
use Rattle.spec_machine.specs.declared.operation.Op.{Op}
use Rattle.spec_machine.specs.declared.operation.Op.TheVariants.{Call}
use Rattle.spec_machine.specs.declared.reply.Reply.{Reply}
use Rattle.spec_machine.specs.declared.reply.Reply.TheVariants.{Refused}
use Rattle.spec_execution.specs.Askings.{Answer, Asking}
use Rattle.spec_execution.specs.Bodies.{exec}
use Rattle.spec_execution.specs.Commands.{perform}
use Rattle.spec_execution.specs.Outcomes.{World, world, Outcome, Over}
use Rattle.store_state.specs.Conditions.{conditions}
use Rattle.store_state.specs.Machine.{type_named}
use Rattle.store_state.specs.Parts.{HeldParts}
use Rattle.code_leaps.specs.Leading.{Setting, Leads}
use Rattle.code_hosts.specs.Hosting.{opened}
use Rattle.code_hosts.specs.Operating.{operating}
use Rattle.code_hosts.specs.declared.operations.Invoked.{Invoked}
use Rattle.code_hosts.specs.declared.operations.Operated.{Operated}
use Rattle.code_hosts.specs.declared.operations.Operated.TheVariants as operated
use Rattle.wasm_call.specs.Calls.{call_row}
use Rattle.wasm_call.specs.Operating.{IsHeld, ComesTo, WantsRoom}
use Rattle.wasm_call.proofs.AllowedCallLemmas.{IsAllowed, allowed, call_of}
use Rattle.wasm_call.proofs.HostCallLemmas.{refuses}
use Rattle.wasm_call.proofs.OperatedLemmas.{begins, ends_in, stops_at_once, stops_halts}
use Rattle.wasm_call.proofs.Plain.{IsCodeless, codeless}

-- ---- by its row

module _ (scope : Scope) (op : Op) (m : Machine) (g : Setting HeldParts) (h h' : HeldParts) (was : IsHeld g h m)
    (is : IsHeld g h' m) (depth : ℕ) (go : World → Reply → Outcome) where
  after_none : (what : World → Outcome) (base : Machine) → g.is_base base → (extra : ℕ) (before : List Asking)
      (rest : List Answer) →
      what (world m (0 + extra) before rest) ≡ what (world (g.put base h') extra (before ++ []) rest)
  after_none what base b extra before rest =
      let none : 0 + extra ≡ extra = omega arith in
      ap (λ n. what (world m n before rest)) none
      ∙ ap (λ (heard : List Asking). what (world m extra heard rest)) (sym (append-nil before))
      ∙ ap what (ends_in g scope op h h' m m was is base b extra (before ++ []) rest)

  row_goes : (r : Row) → operation m scope op ≡ r → Leads g (operating scope op depth go) h 0 []
      (λ w. perform Over exec depth w r go) h'
  row_goes r e = record {
    by = λ base b extra before rest.
        begins g scope op h h' m m was is base b depth go (0 + extra) before rest
        ∙ ap (λ (x : Row). perform Over exec depth (world m (0 + extra) before rest) x go) e
        ∙ after_none (λ w. perform Over exec depth w r go) base b extra before rest;
  }

-- ---- what it comes to

module _ (scope : Scope) (op : Op) (m : Machine) where
  pub refused_comes : (why : Refusal) → operation m scope op ≡ Refuse why →
      ComesTo scope op m (operated.Replies (Refused why))
  refused_comes why e = λ program bounds id engine h h' types was is left depth go. record {
    by = (row_goes scope op m (opened program bounds id engine) h h' was is depth go (Refuse why) e).by;
  }

  -- ---- no memory: for the operation where it runs no code or is refused, else for the arguments

  pub wants_by : (r : Row) → operation m scope op ≡ r → (IsCodeless r ⊎ ((c : Called) × (r ≡ Invoke c))) →
      WantsRoom scope op m
  wants_by r e (inl plain) = λ program bounds id engine h h' types was is.
      inl (λ depth go due. stops_halts (opened program bounds id engine) scope op h h' m m was is depth go 0 []
      (stops_at_once scope op m (subst IsCodeless (sym e) plain) (opened program bounds id engine) h h' was is depth go
      due))
  wants_by r e (inr x) = λ program bounds id engine h h' types was is.
      inr (
        x.0,
        λ depth go. record {
          by = (row_goes scope op m (opened program bounds id engine) h h' was is depth go (Invoke x.0) (e ∙ x.1)).by;
        },
      )

-- ---- the row of a call

module _ (m : Machine) (scope : Scope) where
  invokes_or : (r : Result Called Refusal) → IsCodeless (invokes r) ⊎ ((c : Called) × (invokes r ≡ Invoke c))
  invokes_or (Ok c) = inr (c, refl)
  invokes_or (Err why) = inl tt

  valued_or : (f : Func) (wanted : Option ℕ) (o : Option (List Val)) →
      IsCodeless (named o (λ vals. call_row m f vals wanted))
      ⊎ ((c : Called) × (named o (λ vals. call_row m f vals wanted) ≡ Invoke c))
  valued_or f wanted None = inl tt
  valued_or f wanted (Some vals) = invokes_or (called m f vals wanted)

  named_or : (args : List Operand) (wanted : Option ℕ) (o : Option Func) →
      IsCodeless (named o (λ f. named (operand_values scope args) (λ vals. call_row m f vals wanted)))
      ⊎ ((c : Called) ×
      (named o (λ f. named (operand_values scope args) (λ vals. call_row m f vals wanted)) ≡ Invoke c))
  named_or args wanted None = inl tt
  named_or args wanted (Some f) = valued_or f wanted (operand_values scope args)

  pub wants_room : (op : Op) → WantsRoom scope op m
  wants_room (Call name args wanted) =
      wants_by scope (Call name args wanted) m (operation m scope (Call name args wanted)) refl
      (named_or args wanted (named_func scope name))
  wants_room op = wants_by scope op m (operation m scope op) refl (inl (codeless [] m scope (command.Op op) tt))

  pub wants_on : (op : Op) (result : Result Operated NoMemory) → IfErr result (λ none. WantsRoom scope op m)
  wants_on op (Ok what) = tt
  wants_on op (Err none) = wants_room op

conditions_hold : (r : Result Called Refusal) (u : ⊤) → conditions r ≡ Ok u → IsOk r
conditions_hold (Ok c) u e = refl
conditions_hold (Err why) u e = absurd cc

module _ (m : Machine) (scope : Scope) (name : Name) (args : List Operand) (wanted : Option ℕ) (f : Func) (vals : List Val)
    (e : operation m scope (Call name args wanted) ≡ call_row m f vals wanted) where
  -- its conditions do not hold
  pub unmet_comes : (why : Refusal) (said : Result ⊤ Refusal) → said ≡ Err why →
      said ≡ conditions (called m f vals wanted) → ComesTo scope (Call name args wanted) m (operated.Replies (Refused why))
  unmet_comes why said is same =
      refused_comes scope (Call name args wanted) m why (e ∙ refuses (called m f vals wanted) why (sym is ∙ same))

  -- they hold
  module _ (u : ⊤) (said : Result ⊤ Refusal) (is : said ≡ Ok u) (same : said ≡ conditions (called m f vals wanted)) where
    abbrev met : IsAllowed m f vals wanted
    met = allowed m f vals wanted (conditions_hold (called m f vals wanted) u (sym same ∙ is))

    abbrev c : Called
    c = call_of f vals met.own

    pub invoked_comes : (x : Invoked) → x.function ≡ func_index f → x.arguments.items ≡ map raw_val vals →
        ComesTo scope (Call name args wanted) m (operated.Invokes x)
    invoked_comes x function arguments = λ program bounds id engine h h' types was is left. (
      c,
      (
        sym function,
        sym arguments,
        (
          met.own,
          ap (type_named program) function ∙ sym (types (func_index f))
              ∙ met.found,
          refl,
        ),
      ),
      λ depth go. record {
        by = (row_goes scope (Call name args wanted) m (opened program bounds id engine) h h' was is depth go (Invoke c)
            (e ∙ ap invokes met.is)).by;
      },
    )
