-- What bounds a run and another one beside it, and what is to be shown of each turn by itself for the whole run to keep it.
use Rattle.std.proofs.Common.{◌≡◌, ◌⊎◌, ℕ, ◌*◌, List, [], ◌∷◌, ◌++◌, Option, Some, None}
use Rattle.std.specs.Prelude.{true, ◌&&◌, map, reverse, length, slice_get, Ok}
use Rattle.std.specs.List.{list_all}
use Rattle.wasm_types.specs.Each.{Each}
use Rattle.wasm_types.specs.Memories.{Memory}
use Rattle.wasm_types.specs.MemoryTypes.{page_size}
use Rattle.wasm_types.specs.Signatures.{Signature}
use Rattle.wasm_syntax.specs.declared.declarations.FuncDecl.{FuncDecl}
use Rattle.wasm_syntax.specs.declared.declarations.ModuleDecl.{ModuleDecl}
use Rattle.wasm_syntax.specs.declared.instr.Instr.{Instr}
use Rattle.wasm_values.specs.Handles.{instance_of}
use Rattle.wasm_values.specs.declared.externals.Extern.{Extern}
use Rattle.wasm_values.specs.declared.refusals.Refusal.{Refusal}
use Rattle.wasm_values.specs.declared.values.Val.{Val}
use Rattle.wasm_objects.specs.Growth.{longer_memory, longer_table}
use Rattle.wasm_objects.specs.Tables.{Table}
use Rattle.wasm_objects.specs.declared.raw.RawRef.{RawRef}
use Rattle.wasm_objects.specs.declared.raw.RawRef.TheVariants as r
use Rattle.wasm_objects.specs.declared.raw.RawVal.{RawVal}
use Rattle.wasm_objects.specs.declared.raw.RawVal.TheVariants as w
use Rattle.spec_machine.specs.Changes.{set_memory, set_table, set_deadline, charge}
use Rattle.spec_machine.specs.Commands.{Row, Refuse, Act, ActAt, Grow, Invoke, Instantiate}
use Rattle.spec_machine.specs.Commands as machine
use Rattle.spec_machine.specs.FunctionCalls.{Called}
use Rattle.spec_machine.specs.Machine.{Machine, Function, guest, host, InstanceParts}
use Rattle.spec_machine.specs.Values.{function_type, owns_val, raw_val, all_fit}
use Rattle.spec_machine.specs.declared.reply.Reply.{Reply}
use Rattle.spec_machine.specs.declared.reply.Reply.TheVariants as reply
use Rattle.spec_execution.specs.Activations.{Activation, view, scope_of, replied}
use Rattle.spec_execution.specs.Allocation.{function_numbers}
use Rattle.spec_execution.specs.Askings.{Stepped, Asking}
use Rattle.spec_execution.specs.Entering.{activation, begun_locals}
use Rattle.spec_execution.specs.Hosts.{question}
use Rattle.spec_execution.specs.Instantiation.{imports_fit, Counted, Within, Past, counted}
use Rattle.spec_execution.specs.Operands as on
use Rattle.spec_execution.specs.Outcomes.{World}
use Rattle.spec_execution.specs.Segments.{Taken, Done, OutOfRange, StuckSegment, make}
use Rattle.spec_execution.specs.Straight.{Effect, Goes, act}
use Rattle.spec_execution.specs.declared.answer.Answer.{Answer as Say}
use Rattle.spec_execution.specs.declared.answer.Answer.TheVariants as say
use Rattle.spec_execution.specs.declared.answer.Event.{Event}

-- ---- what an effect, a row, counts and segments come to in another store

module _ (other : Machine → Machine) where
  abbrev pub effect_in : Effect → Effect
  effect_in (Goes m locals operands) = Goes (other m) locals operands
  effect_in e = e

  abbrev pub row_in : Row → Row
  row_in (Act after answer) = Act (other after) answer
  row_in (ActAt after answer) = ActAt (λ reading. other (after reading)) answer
  row_in (Grow p) = Grow (record p { after = other p.after })
  row_in r = r

  abbrev pub counted_in : Counted → Counted
  counted_in (Within m) = Within (other m)
  counted_in (Past which m) = Past which (other m)

  abbrev pub taken_in : Taken → Taken
  taken_in (Done m) = Done (other m)
  taken_in (OutOfRange t m) = OutOfRange t (other m)
  taken_in (StuckSegment m) = StuckSegment (other m)

-- what is never changed and is the same in both stores
pub record HasSame (m n : Machine) : Type 0 where
  pub id : n.id ≡ m.id
  pub engine : n.engine ≡ m.engine
  pub functions : n.functions ≡ m.functions
  pub fuel : n.fuel ≡ m.fuel
  pub deadline : n.deadline ≡ m.deadline
  pub is_limited : n.is_limited ≡ m.is_limited
  pub is_hooked : n.is_hooked ≡ m.is_hooked
  pub is_behaving : n.is_behaving ≡ m.is_behaving
  pub instances : length n.instances ≡ length m.instances

-- which stores are on the way; which values, functions, instances, activations, replies and imports code may hold there;
-- the second run's store; and what of what was heard leads out of the way, so that nothing is said behind it
pub record Bounds : Type 1 where
  pub IsIn : Machine → Type 0
  pub IsHeld : RawVal → Type 0
  pub IsCallee : ℕ → Type 0
  pub IsHome : ℕ → Type 0
  pub IsOpen : Activation → Type 0
  pub IsSaid : Activation → Say → Type 0
  pub IsReply : Reply → Type 0
  pub AreNamed : List Extern → Type 0
  pub AreGiven : List Extern → Type 0
  pub other : Machine → Machine
  pub Began : List Asking → Type 0
  pub Strays : List Asking → Type 0

-- a reference in an element
abbrev pub reference : RawRef → RawVal
reference x = w.Reference x

module _ (B : Bounds) where
  abbrev pub AreHeld : List RawVal → Type 0
  AreHeld vs = Each vs B.IsHeld

  abbrev pub IsEffectIn : Effect → Type 0
  IsEffectIn (Goes m locals operands) = B.IsIn m × AreHeld locals × AreHeld operands
  IsEffectIn e = Unit {0}

  abbrev pub IsRowIn : Row → Type 0
  IsRowIn (Refuse why) = Unit {0}
  IsRowIn (Act after answer) = B.IsIn after × B.IsReply answer
  IsRowIn (ActAt after answer) = ((reading : ℕ) → B.IsIn (after reading)) × B.IsReply answer
  IsRowIn (Grow p) = B.IsIn p.after × B.IsReply p.gives
  IsRowIn (Invoke c) = B.IsCallee c.function × AreHeld c.arguments
  IsRowIn (Instantiate d imports) = B.AreNamed imports

  abbrev pub IsCountedIn : Counted → Type 0
  IsCountedIn (Within m) = B.IsIn m
  IsCountedIn (Past which m) = B.IsIn m

  abbrev pub IsTakenIn : Taken → Type 0
  IsTakenIn (Done m) = B.IsIn m
  IsTakenIn (OutOfRange t m) = B.IsIn m
  IsTakenIn (StuckSegment m) = B.IsIn m

  abbrev pub IsHomeOf : Option ℕ → Type 0
  IsHomeOf None = Unit {0}
  IsHomeOf (Some n) = B.IsHome n

  -- what a function leads to
  abbrev pub LeadsIn : Function → Type 0
  LeadsIn (guest n k) = B.IsHome n
  LeadsIn (host ty body stored) = Unit {0}

  -- what is shown of each turn by itself
  pub record Turns : Type 0 where
    pub same : (m : Machine) → B.IsIn m → HasSame m (B.other m)
    -- straight instructions
    pub acts :
        (m : Machine) (n : ℕ) (locals operands : List RawVal) (j : Instr) → B.IsIn m → B.IsHome n → AreHeld locals
        → AreHeld operands
        → IsEffectIn (act n m locals j operands)
        × (act n (B.other m) locals j operands ≡ effect_in B.other (act n m locals j operands))
    pub charges :
        (m : Machine) (amount : ℕ) → B.IsIn m
        → B.IsIn (charge m amount) × (charge (B.other m) amount ≡ B.other (charge m amount))
    pub delays :
        (m : Machine) (deadline : ℕ) → B.IsIn m
        → B.IsIn (set_deadline m deadline) × (set_deadline (B.other m) deadline ≡ B.other (set_deadline m deadline))
    -- what code names
    pub instance_is :
        (m : Machine) (n : ℕ) → B.IsIn m → B.IsHome n
        → slice_get (B.other m).instances n ≡ slice_get m.instances n
    pub function_named :
        (m : Machine) (n k f : ℕ) (i : InstanceParts) → B.IsIn m → B.IsHome n → slice_get m.instances n ≡ Some i
        → slice_get i.functions k ≡ Some f → B.IsCallee f
    pub memory_is :
        (m : Machine) (n k x : ℕ) (i : InstanceParts) → B.IsIn m → B.IsHome n → slice_get m.instances n ≡ Some i
        → slice_get i.memories k ≡ Some x → slice_get (B.other m).memories x ≡ slice_get m.memories x
    pub table_is :
        (m : Machine) (n k x : ℕ) (i : InstanceParts) → B.IsIn m → B.IsHome n → slice_get m.instances n ≡ Some i
        → slice_get i.tables k ≡ Some x → slice_get (B.other m).tables x ≡ slice_get m.tables x
    pub element_held :
        (m : Machine) (n k x at : ℕ) (i : InstanceParts) (t : Table) (y : RawRef) → B.IsIn m → B.IsHome n
        → slice_get m.instances n ≡ Some i → slice_get i.tables k ≡ Some x → slice_get m.tables x ≡ Some t
        → slice_get t.elements at ≡ Some y → B.IsHeld (reference y)
    pub callee_held : (f : ℕ) → B.IsHeld (reference (r.Func f)) → B.IsCallee f
    pub number_held : (n x : ℕ) → B.IsHeld (on.integer n x)
    pub begun_held : (f : FuncDecl) → AreHeld (begun_locals f)
    -- growth by code
    pub memory_grows :
        (m : Machine) (n k x delta : ℕ) (i : InstanceParts) (y : Memory) → B.IsIn m → B.IsHome n
        → slice_get m.instances n ≡ Some i → slice_get i.memories k ≡ Some x → slice_get m.memories x ≡ Some y
        → B.IsIn (set_memory m x (longer_memory y (delta * page_size y.ty)))
        × (set_memory (B.other m) x (longer_memory y (delta * page_size y.ty))
        ≡ B.other (set_memory m x (longer_memory y (delta * page_size y.ty))))
    pub table_grows :
        (m : Machine) (n k x delta : ℕ) (i : InstanceParts) (t : Table) (y : RawRef) → B.IsIn m → B.IsHome n
        → slice_get m.instances n ≡ Some i → slice_get i.tables k ≡ Some x → slice_get m.tables x ≡ Some t
        → B.IsHeld (reference y)
        → B.IsIn (set_table m x (longer_table t delta y))
        × (set_table (B.other m) x (longer_table t delta y) ≡ B.other (set_table m x (longer_table t delta y)))
    -- calls
    pub type_is : (m : Machine) (f : ℕ) → B.IsIn m → B.IsCallee f → function_type (B.other m) f ≡ function_type m f
    pub leads :
        (m : Machine) (n : ℕ) (f : Function) → B.IsIn m → B.IsCallee n → slice_get m.functions n ≡ Some f → LeadsIn f
    pub opens :
        (m : Machine) (n depth body : ℕ) (t : Signature) (stored : List Extern) (args : List RawVal)
        (caller : Option ℕ) → B.IsIn m → B.IsCallee n → slice_get m.functions n ≡ Some (host t body stored)
        → AreHeld args → IsHomeOf caller
        → B.IsOpen (activation m depth t body stored args caller)
        × (activation (B.other m) depth t body stored args caller ≡ activation m depth t body stored args caller)
    -- steps of the host
    pub view_is : (m : Machine) (a : Activation) → B.IsIn m → B.IsOpen a → view (B.other m) a ≡ view m a
    pub goes_on : (heard : List Asking) (asking : Asking) → B.Began heard → B.Began (heard ++ asking ∷ [])
    pub strays_on : (heard : List Asking) (asking : Asking) → B.Strays heard → B.Strays (heard ++ asking ∷ [])
    pub says :
        (v : World) (a : Activation) (event : Event) (after : ℕ) (what : Say) → B.IsIn v.machine → B.Began v.heard
        → B.IsOpen a
        → B.IsSaid a what ⊎ B.Strays (v.heard ++ (question a event v, Stepped after (Ok what)) ∷ [])
    pub stepped : (a : Activation) (after : ℕ) → B.IsOpen a → B.IsOpen (record a { state = after })
    pub said_on :
        (a : Activation) (after : ℕ) (what : Say) → B.IsSaid a what → B.IsSaid (record a { state = after }) what
    pub replies : (a : Activation) (answer : Reply) → B.IsOpen a → B.IsReply answer → B.IsOpen (replied a answer)
    pub returns :
        (m : Machine) (a : Activation) (vals : List Val) → B.IsIn m → B.IsOpen a → B.IsSaid a (say.Return vals)
        → ((list_all (owns_val m) vals && all_fit m vals a.results) ≡ true → AreHeld (reverse (map raw_val vals)))
        × ((list_all (owns_val (B.other m)) vals && all_fit (B.other m) vals a.results)
        ≡ (list_all (owns_val m) vals && all_fit m vals a.results))
    pub operates :
        (m : Machine) (a : Activation) (op : _) → B.IsIn m → B.IsOpen a → B.IsSaid a (say.Call op)
        → IsRowIn (machine.operation m (scope_of m a) op)
        × (machine.operation (B.other m) (scope_of (B.other m) a) op
        ≡ row_in B.other (machine.operation m (scope_of m a) op))
    -- replies of commands
    pub refused : (why : Refusal) → B.IsReply (reply.Refused why)
    pub called_reply :
        (m : Machine) (c : Called) (operands : List RawVal) → B.IsIn m → AreHeld operands
        → B.IsReply (reply.Values (Rattle.spec_execution.specs.Commands.results_of m c operands))
        × (Rattle.spec_execution.specs.Commands.results_of (B.other m) c operands
        ≡ Rattle.spec_execution.specs.Commands.results_of m c operands)
    pub new_home : (m : Machine) → B.IsIn m → B.IsHome (length m.instances)
    pub new_instance : (m : Machine) → B.IsIn m → B.IsReply (reply.Instance (instance_of m.id (length m.instances)))
    -- instantiation
    pub checks :
        (m : Machine) (d : ModuleDecl) (imports : List Extern) → B.IsIn m → B.AreNamed imports
        → (imports_fit m d imports ≡ Ok tt → B.AreGiven imports)
        × (imports_fit (B.other m) d imports ≡ imports_fit m d imports)
    pub counts :
        (m : Machine) (d : ModuleDecl) → B.IsIn m
        → IsCountedIn (counted m d) × (counted (B.other m) d ≡ counted_in B.other (counted m d))
    pub makes :
        (m : Machine) (d : ModuleDecl) (imports : List Extern) → B.IsIn m → B.AreGiven imports
        → IsTakenIn (make m d imports) × (make (B.other m) d imports ≡ taken_in B.other (make m d imports))
    pub numbers :
        (m : Machine) (d : ModuleDecl) (imports : List Extern) → B.IsIn m → B.AreGiven imports
        → Each (function_numbers m d imports) B.IsCallee
        × (function_numbers (B.other m) d imports ≡ function_numbers m d imports)
