-- Instructions that lead to other code of instances, and ends of blocks and functions, with what stands around the operands
-- and the locals before and behind them.
-- This project's own; WebAssembly core specification, "Execution, instructions": control instructions, blocks
use Rattle.std.specs.Prelude.{◌≡◌, ℕ, suc, slice_get, Some, ◌+◌, ◌-◌, ◌<◌, ◌⊎◌, List, [], ◌∷◌, Bool, map, reverse, length, nat_lt}
use Rattle.wasm_types.specs.FunctionParts.{params, results}
use Rattle.wasm_syntax.specs.declared.declarations.Block.{Block}
use Rattle.wasm_syntax.specs.declared.instr.Instr.{Instr}
use Rattle.wasm_objects.specs.Tables.{Table}
use Rattle.wasm_objects.specs.declared.raw.RawVal.{RawVal}
use Rattle.spec_execution.specs.Bodies.{block, iterate, one, exec}
use Rattle.spec_execution.specs.Checks.{check}
use Rattle.spec_execution.specs.Entering.{Frame, Run}
use Rattle.spec_execution.specs.Outcomes.{World, State, state, Outcome, Branch}
use Rattle.spec_machine.specs.Machine.{guest}
use Rattle.store_state.specs.Parts.{ProgramParts, HeldParts}
use Rattle.code_stack.specs.Cuts.{RowParts}
use Rattle.code_stack.specs.declared.row.Rows.{Rows}
use Rattle.code_stack.specs.Values.{below, ValuesParts, values_parts}
use Rattle.code_straight.specs.Frames.{topmost}
use Rattle.code_straight.specs.declared.frames.Framed.TheVariants as framed
use Rattle.code_leaps.specs.Bursts.{Surrounding, behind}
use Rattle.code_leaps.specs.Calling.{IsOf, IsThere, begun_values}
use Rattle.code_stack.specs.Layers.{Configuration, frame_at, state_at, owing, means}
use Rattle.code_leaps.specs.Leading.{Leads}
use Rattle.code_leaps.specs.Rounds.{Lets, IsFree}
use Rattle.code_leaps.specs.Running.{ruled, charged, executing, IsQuiet}
use Rattle.code_stack.specs.Steps.{HasCalled}
use Rattle.code_leaps.specs.declared.burst.Burst.{Burst}
use Rattle.code_stack.specs.declared.layers.Activation.{Activation}
use Rattle.code_leaps.specs.declared.calls.Callee.{Callee}
use Rattle.code_stack.specs.declared.layers.Caller.{Caller}
use Rattle.code_stack.specs.declared.layers.Layer.{Layer}
use Rattle.code_stack.specs.declared.layers.Layer.TheVariants as layer
use Rattle.code_leaps.specs.declared.leap_calls.Called.{Called}
use Rattle.code_leaps.specs.declared.leaps.Aim.{Aim}
use Rattle.code_leaps.specs.declared.leaps.Aim.TheVariants as aim
use Rattle.code_leaps.specs.declared.entries.Led.{Led}
use Rattle.code_leaps.specs.declared.rounds.Hop.{Hop}
use Rattle.code_stack.specs.declared.rules.Rules.{Rules}

-- what stands around the last segment of a row of operands, where these are the locals further out
abbrev pub amid : Activation → List Layer → RowParts → List (List RawVal) → Surrounding
amid a ls row further = record { activation = a; layers = ls; below = below (map reverse row.before) further }

-- the values, where so many of the last segment count
abbrev pub placed_values : RowParts → List (List RawVal) → ℕ → List RawVal → ValuesParts
placed_values row further height locals =
    values_parts (topmost height row.last) locals (below (map reverse row.before) further) 0

abbrev pub placed : Activation → List Layer → RowParts → List (List RawVal) → List Instr → ℕ → List RawVal →
    Configuration
placed a ls row further code height locals =
    record { activation = a; code = code; layers = ls; values = placed_values row further height locals }

-- what is done where an instruction leads, and the same outwards
abbrev pub aimed : Aim → Frame → List Instr → State → Outcome
aimed (aim.Block b) fr rest s = block exec fr b rest s
aimed (aim.Loop b) fr rest s = iterate exec fr b rest s (λ body. exec (Run fr body.instrs))
aimed (aim.Branch l) fr rest s = Branch l s

abbrev pub aiming : Aim → Configuration → World → Outcome
aiming x c w = owing c (aimed x (frame_at c) c.code (state_at c w))

-- an instruction whose turn comes first leads there, with these of the operands
pub record Aims (fr : Frame) (j : Instr) (operands : List RawVal) (a : Aim) (kept : List RawVal) : Type 0 where
  pub quiet : IsQuiet j
  pub leads : (rest : List Instr) (locals : List RawVal) (w : World) →
      one exec fr j rest (state w locals operands) ≡ aimed a fr rest (state w locals kept)

-- nothing that counts has changed: the room may
pub record AreSame (a : Activation) (ls : List Layer) (rows : Rows) (a_after : Activation) (ls_after : List Layer)
    (rows_after : Rows) : Type 0 where
  pub activation : a_after ≡ a
  pub layers : ls_after ≡ ls
  pub operands : rows_after.operands.last ≡ rows.operands.last
  pub around : rows_after.operands.before ≡ rows.operands.before
  pub locals : rows_after.locals.last ≡ rows.locals.last
  pub callers : rows_after.locals.before ≡ rows.locals.before

-- the end of a block leads there
abbrev pub EndsBlock : List Layer → RowParts → ℕ → List Layer → RowParts → Hop → Type 0
EndsBlock ls row height ls_after row_after h =
    (a : Activation) (further : List (List RawVal)) (locals : List RawVal) (w : World) →
    means (placed a ls row further [] height locals) w
    ≡ means (placed a ls_after row_after further h.code.now h.height locals) w

-- the end of a block, or of a function, leads there
abbrev pub Ends : Activation → List Layer → RowParts → RowParts → ℕ → Activation → List Layer → RowParts → RowParts →
    Hop → Type 0
Ends a ls row own height a_after ls_after row_after own_after h =
    (w : World) → means (placed a ls row own.before [] height own.last) w
    ≡ means (placed a_after ls_after row_after own_after.before h.code.now h.height own_after.last) w

-- what is done where an instruction leads is what is done from there on
abbrev pub Reaches : Aim → Activation → List Instr → List Layer → RowParts → ℕ → List Layer → RowParts → Hop → Type 0
Reaches x a rest ls row height ls_after row_after h =
    (further : List (List RawVal)) (locals : List RawVal) (w : World) →
    aiming x (placed a ls row further rest height locals) w
    ≡ means (placed a ls_after row_after further h.code.now h.height locals) w

-- the same of a loop, behind the check
abbrev pub Begins : ℕ → Activation → List Instr → List Layer → RowParts → ℕ → List Layer → RowParts → Hop → Type 0
Begins b a rest ls row height ls_after row_after h =
    (further : List (List RawVal)) (locals : List RawVal) (w : World) →
    aiming (aim.Loop b) (placed a ls row further rest height locals) w
    ≡ check w (means (placed a ls_after row_after further h.code.now h.height locals))

-- the next instruction, with its turn, leads from this state to that, in each store of the program with these tables
pub record LeapsTo (program : ProgramParts) (tables : List Table) (frames : ℕ) (passes : Bool) (old new : Configuration)
    : Type 0 where
  pub instr : Instr
  pub rest : List Instr
  pub code_is : old.code ≡ instr ∷ rest
  pub quiet : IsQuiet instr
  pub leads : (w : World) → IsOf program frames w.machine → w.machine.tables ≡ tables → Lets passes w →
      executing (record old { code = rest }) instr w ≡ means new w

-- a function of an instance that is called by its number in the store, as it is entered
pub record IsCalledAs (program : ProgramParts) (frames : ℕ) (a : Activation) (n : ℕ) (c : Called) : Type 0 where
  pub instance : ℕ
  pub number : ℕ
  pub count : ℕ
  pub depth : ℕ
  pub callee : Callee
  pub body : Block
  pub found : slice_get program.functions n ≡ Some (guest instance number)
  pub there : IsThere program instance number callee
  pub is : c.activation ≡ record {
    instance = instance;
    «module» = callee.«module»;
    function = callee.function;
    results = count;
    depth = depth;
  }
  pub results_are : count ≡ length (results callee.ty.now)
  pub deeper : depth ≡ suc a.depth
  pub shallow : a.depth ≡ frames → ⊥
  pub begins : slice_get callee.function.now.blocks 0 ≡ Some body
  pub code_is : c.code.now ≡ body.instrs
  pub params_are : c.params ≡ length (params callee.ty.now)
  pub locals_are : c.locals.now ≡ callee.function.now.locals

-- such a function was entered
pub record HasEnteredAs (c : Called) (old new : Configuration) : Type 0 where
  pub caller : Caller
  pub same : caller.activation ≡ old.activation
  pub behind : caller.rest.now ≡ old.code
  pub activation : new.activation ≡ c.activation
  pub code : new.code ≡ c.code.now
  pub layers : new.layers ≡ layer.Call caller ∷ old.layers
  pub values : HasCalled c.params (begun_values c.locals.now) old.values new.values

-- behind such a burst the run goes on there, at the end of a block or a function, or with a turn: one is left for that, and
-- checks pass where more than `floor` turns are left behind it
pub record LeadsBehind (program : ProgramParts) (tables : List Table) (frames : ℕ) (ran : Burst) (floor : ℕ)
    (a : Activation) (ls : List Layer) (row own : RowParts) (a_after : Activation) (ls_after : List Layer) (row_after own_after : RowParts) (l : Led) : Type 0 where
  pub top : ℕ
  pub goes : ran.framed ≡ framed.Goes top
  pub leads :
      ((ran.rest.now ≡ []) × (l.left ≡ ran.left) × (length ls_after < length ls)
      × Ends a ls row own top a_after ls_after row_after own_after l.hop)
      ⊎ ((0 < ran.left) × (l.left ≡ ran.left - 1) × (length ls_after < length ls + 2)
      × LeapsTo program tables frames (nat_lt floor (ran.left - 1)) (placed a ls row own.before ran.rest.now top own.last)
      (placed a_after ls_after row_after own_after.before l.hop.code.now l.hop.height own_after.last))

-- from a state of a function with these labels, operands and locals, under each of the rules by which checks pass as long
-- as more than `floor` turns are left: so many turns lead there, and no question is asked
abbrev pub Leaps : ProgramParts → ℕ → ℕ → HeldParts → Activation → List Layer → List Instr → ℕ → RowParts → RowParts → ℕ →
    Burst → HeldParts → Activation → List Layer → RowParts → RowParts → Type 0
Leaps program frames floor held a ls code height row own turns b held_after a_after ls_after row_after own_after =
    (rules : Rules) (owed : ℕ) → rules.frames ≡ frames → IsFree rules held.fuel owed (turns - floor) →
    Leads (ruled program rules) (means (placed a ls row own.before code height own.last))
    (charged rules.consumes_fuel held owed) (turns - b.left) []
    (behind (amid a_after ls_after row_after own_after.before) b.rest.now row_after.last own_after.last b.framed)
    (charged rules.consumes_fuel held_after (owed + (turns - b.left)))

-- the same of blocks that were entered, with a turn for each: what is held stays, and the locals do
abbrev pub Enters : Activation → List Layer → List Instr → ℕ → RowParts → ℕ → Led → List Layer → RowParts → Type 0
Enters a ls code height row turns l ls_after row_after =
    (program : ProgramParts) (rules : Rules) (owed : ℕ) (held : HeldParts) (further : List (List RawVal))
    (locals : List RawVal) →
    Leads (ruled program rules) (means (placed a ls row further code height locals))
    (charged rules.consumes_fuel held owed) (turns - l.left) []
    (means (placed a ls_after row_after further l.hop.code.now l.hop.height locals))
    (charged rules.consumes_fuel held (owed + (turns - l.left)))
