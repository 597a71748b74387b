-- What an operation that a step asked for comes to: its reply, or a function that is to be called. This project's own.
use Rattle.std.specs.Prelude.{◌≡◌, ℕ, ◌≤◌, ◌⊎◌, List, [], Some}
use Rattle.wasm_types.specs.FunctionParts.{results}
use Rattle.wasm_types.specs.Signatures.{Signature}
use Rattle.wasm_types.specs.declared.value_types.ValType.{ValType}
use Rattle.wasm_values.specs.declared.values.Val.{Val}
use Rattle.spec_machine.specs.FunctionCalls.{Called}
use Rattle.spec_machine.specs.Names.{Scope}
use Rattle.spec_machine.specs.declared.operation.Op.{Op}
use Rattle.spec_machine.specs.declared.reply.Reply.{Reply}
use Rattle.spec_execution.specs.Askings.{Growing, Reading, Grown, Read, Asking, Chain}
use Rattle.spec_execution.specs.Bodies.{exec}
use Rattle.spec_execution.specs.Commands.{call_reply, by_run, invoke, operation}
use Rattle.spec_execution.specs.Hosts.{returned}
use Rattle.spec_execution.specs.Outcomes.{World, Outcome, Over, Stopped}
use Rattle.store_state.specs.Machine.{type_named}
use Rattle.store_state.specs.Parts.{ProgramParts, HeldParts}
use Rattle.code_run.specs.Asking.{Moving}
use Rattle.code_leaps.specs.Leading.{Doing, Setting, Leads, Stops, Halts}
use Rattle.code_hosts.specs.declared.replies.How.{How}
use Rattle.code_hosts.specs.Behind.{ended}
use Rattle.code_hosts.specs.declared.operations.Invoked.{Invoked}
use Rattle.code_hosts.specs.declared.operations.Operated.{Operated}
use Rattle.code_hosts.specs.declared.operations.Operated.TheVariants as operated
use Rattle.code_hosts.specs.declared.operations.Operation.{Operation}

-- an operation that runs no code asks a limiter and an epoch source, and nobody else
abbrev pub AsksFor : {W : Type 0} → Moving W → Moving W
AsksFor moves old (Growing g) (Grown answer) new = moves old (Growing g) (Grown answer) new
AsksFor moves old Reading (Read answer) new = moves old Reading (Read answer) new
AsksFor moves old q a new = ⊥

-- with so many functions open around it, and this done behind its reply
abbrev pub operating : Scope → Op → ℕ → (World → Reply → Outcome) → Doing
operating scope op depth go w = operation Over exec depth scope op w go

-- the function that is to be called, and what is done behind its reply
abbrev pub invoking : Called → ℕ → (World → Reply → Outcome) → Doing
invoking called depth go w = by_run Over (call_reply called) go (invoke exec depth w called)

-- it is a function of the program, and these are its results
abbrev pub IsInvoked : ProgramParts → Called → Invoked → Type 0
IsInvoked program called f =
    (called.function ≡ f.function) × (called.arguments ≡ f.arguments.items) ×
    ((ty : Signature) × (type_named program f.function ≡ Some ty) × (called.results ≡ results ty))

-- what is done behind a reply is stopped where no turn is left
abbrev pub IsDue : (World → Reply → Outcome) → Type 0
IsDue go = (v : World) (answer : Reply) → v.turns ≡ 0 → go v answer ≡ Over Stopped v

-- so many turns of those that are left, with these questions and answers, lead to what is done behind the reply, or to
-- the call; or they are all, so that nothing is done behind the reply either
module _ (g : Setting HeldParts) (program : ProgramParts) (scope : Scope) (op : Op) (h : HeldParts) (left spent : ℕ)
    (heard : List Asking) (h' : HeldParts) where
  abbrev pub OperatesBy : Operated → Type 0
  OperatesBy (operated.Replies answer) =
      (depth : ℕ) (go : World → Reply → Outcome) →
      Leads g (operating scope op depth go) h spent heard (λ w. go w answer) h'
  OperatesBy (operated.Invokes f) =
      (called : Called) × IsInvoked program called f × ((depth : ℕ) (go : World → Reply → Outcome) →
      Leads g (operating scope op depth go) h spent heard (invoking called depth go) h')
  OperatesBy operated.Limit =
      ((depth : ℕ) (go : World → Reply → Outcome) → IsDue go →
      Stops g (operating scope op depth go) h spent heard h') × (spent ≡ left)

module _ {W : Type 0} (g : Setting HeldParts) (program : ProgramParts) (moves : Moving W)
    (scope : Scope) (op : Op) (h : HeldParts) (o : W) (left : ℕ) where
  pub record Operates (d : Operation) (h' : HeldParts) (o' : W) : Type 0 where
    pub within : d.spent ≤ left
    pub heard : List Asking
    pub chain : Chain moves o heard o'
    pub by : OperatesBy g program scope op h left d.spent heard h' d.what

  -- there was no memory after so many turns; or none for the arguments of a function that is to be called
  pub record Misses (spent : ℕ) (h' : HeldParts) (o' : W) : Type 0 where
    pub within : spent ≤ left
    pub heard : List Asking
    pub chain : Chain moves o heard o'
    pub misses :
        ((depth : ℕ) (go : World → Reply → Outcome) → IsDue go → Halts g (operating scope op depth go) h spent heard h')
        ⊎ ((called : Called) × ((depth : ℕ) (go : World → Reply → Outcome) →
        Leads g (operating scope op depth go) h spent heard (invoking called depth go) h'))

-- what a body returns: its values as its store holds them, or that they do not fit
abbrev pub Returns : Setting HeldParts → List ValType → List Val → HeldParts → How → HeldParts → Type 0
Returns g types vals h how h' = Leads g (λ w. returned w types vals) h 0 [] (ended how) h'
