-- How code runs, in big steps over structured code: a block is the outcome of its inner list, and then the rest.
-- WebAssembly core specification, "Execution, instructions": control instructions, instruction sequences, blocks
use Rattle.std.specs.Prelude.{ℕ, zero, suc, Bool, true, false, ◌==◌, ◌-◌, ◌^◌, ◌*◌, List, [], ◌∷◌, ◌++◌, length, reverse, if◌then◌else◌, slice_get, Option, Some, None}
use Rattle.wasm_types.specs.Signatures.{Signature}
use Rattle.wasm_types.specs.FunctionParts.{params, results}
use Rattle.wasm_types.specs.Matching.{matches}
use Rattle.wasm_types.specs.MemoryTypes.{page_size}
use Rattle.wasm_syntax.specs.declared.declarations.Block.{Block}
use Rattle.wasm_syntax.specs.declared.instr.Instr.{Instr}
use Rattle.wasm_syntax.specs.declared.instr.Instr.TheVariants as i
use Rattle.wasm_values.specs.declared.refusals.Refusal.TheVariants as refusal
use Rattle.wasm_values.specs.declared.refusals.Trap.{Trap}
use Rattle.wasm_values.specs.declared.refusals.Trap.TheVariants as trap
use Rattle.wasm_objects.specs.Growth.{longer_memory, longer_table}
use Rattle.wasm_objects.specs.declared.raw.RawRef.{RawRef}
use Rattle.wasm_objects.specs.declared.raw.RawRef.TheVariants as r
use Rattle.wasm_objects.specs.declared.raw.RawVal.{RawVal}
use Rattle.spec_machine.specs.Changes.{set_memory, set_table, charge}
use Rattle.spec_machine.specs.Growth.{Decision, Granted, Failed, Faulted, Plan, plan, memory_range, table_range, memory_growing, table_growing, pages}
use Rattle.spec_machine.specs.Values.{function_type}
use Rattle.spec_execution.specs.Checks.{check, on_fuel, decide}
use Rattle.spec_execution.specs.Costs.{is_bulk, cost}
use Rattle.spec_execution.specs.Entering.{Frame, Code, Run, Again, Step, Exec, enter}
use Rattle.spec_execution.specs.Hosts as hosts
use Rattle.spec_execution.specs.Operands as on
use Rattle.spec_execution.specs.Outcomes.{World, State, state, Outcome, Values, Branch, Return, Over, Trapped, Refused, Stopped, Stuck, spend}
use Rattle.spec_execution.specs.Straight.{Effect, Goes, Traps, Sticks, act}

abbrev pub stuck : State → Outcome
stuck s = Over Stuck s.world

abbrev pub trapped : Trap → State → Outcome
trapped t s = Over (Trapped t) s.world

abbrev pub with_operands : State → List RawVal → State
with_operands s operands = record s { operands = operands }

-- ---- blocks and branches

-- where a branch to a label leads, and how many operands it takes along
pub record Exit : Type 0 where
  pub arity : ℕ
  pub target : Code

abbrev pub exit : ℕ → Code → Exit
exit arity target = record { arity = arity; target = target }

-- what follows a block: the code around it, on what the block leaves and the operands below
abbrev pub after : Exec → Code → Exit → List RawVal → Outcome → Outcome
after f next e below (Values s) = f next (with_operands s (s.operands ++ below))
after f next e below (Branch zero s) =
    on.on_front (stuck s) e.arity s.operands (λ front rest. f e.target (with_operands s (front ++ below)))
after f next e below (Branch (suc l) s) = Branch l s
after f next e below (Return s) = Return s
after f next e below (Over end w) = Over end w

-- a block of the function, and its type
abbrev pub on_block : Frame → ℕ → State → (Block → Signature → Outcome) → Outcome
on_block fr b s go =
    on.found (stuck s) (slice_get fr.function.blocks b) (λ (block : Block).
    on.found (stuck s) (slice_get fr.decl.types block.ty) (go block))

-- inner code on the block's parameters alone
abbrev pub inside : Exec → Code → Exit → Signature → State → (State → Outcome) → Outcome
inside f next e t s inner =
    on.on_front (stuck s) (length (params t)) s.operands (λ front below.
    after f next e below (inner (with_operands s front)))

abbrev pub block : Exec → Frame → ℕ → List Instr → State → Outcome
block f fr b is s =
    on_block fr b s (λ body t.
    inside f (Run fr is) (exit (length (results t)) (Run fr is)) t s (f (Run fr body.instrs)))

-- a loop: its operands are taken, then the check, and then its block, whose label leads to its operands again
abbrev pub loop_exit : Frame → ℕ → List Instr → Signature → Exit
loop_exit fr b is t = exit (length (params t)) (Again fr b is)

abbrev pub iterate : Exec → Frame → ℕ → List Instr → State → (Block → State → Outcome) → Outcome
iterate f fr b is s inner =
    on_block fr b s (λ body t.
    inside f (Run fr is) (loop_exit fr b is t) t s (λ own. check own.world (λ w. inner body (record own { world = w }))))

abbrev pub branch_if : ℕ → ℕ → State → (State → Outcome) → Outcome
branch_if zero l s go = go s
branch_if (suc n) l s go = Branch l s

-- the label of a target list at a place, or the last one where the list has no such place
abbrev pub target_at : Option ℕ → Option ℕ → Option ℕ
target_at None last = last
target_at (Some l) last = Some l

abbrev pub target : List ℕ → ℕ → Option ℕ
target labels n = target_at (slice_get labels n) (slice_get labels (length labels - 1))

-- ---- calls

-- the code behind a call goes on with the results and its own locals
abbrev pub back : Exec → Code → List RawVal → List RawVal → Outcome → Outcome
back f next locals below (Values s) = f next (state s.world locals (s.operands ++ below))
back f next locals below (Over e w) = Over e w
back f next locals below (Branch l s) = stuck s
back f next locals below (Return s) = stuck s

-- a function of the store, on the topmost operands, the last one on top
abbrev pub call : Exec → Frame → List Instr → State → ℕ → Outcome
call f fr is s n =
    on.found (stuck s) (function_type s.world.machine n) (λ t.
    on.on_front (stuck s) (length (params t)) s.operands (λ front below.
    back f (Run fr is) s.locals below (enter f fr.depth n (reverse front) (Some fr.instance) s.world)))

-- the function in an element of a table
abbrev pub callee : RawRef → State → (ℕ → Outcome) → Outcome
callee r.Null s go = trapped trap.IndirectCallToNull s
callee (r.Func n) s go = go n
callee _ s go = stuck s

abbrev pub element : Option RawRef → State → (RawRef → Outcome) → Outcome
element None s go = trapped trap.TableOutOfBounds s
element (Some x) s go = go x

-- a function whose type matches
abbrev pub signed_by : Option Signature → Signature → State → Outcome → Outcome
signed_by None wanted s o = stuck s
signed_by (Some own) wanted s o = if matches own wanted then o else trapped trap.BadSignature s

abbrev pub call_indirect : Exec → Frame → ℕ → ℕ → List Instr → State → Outcome
call_indirect f fr ty k is s =
    on.on_i32 (stuck s) s.operands (λ at rest.
    on.found (stuck s) (slice_get fr.decl.types ty) (λ wanted.
    on.on_table (stuck s) s.world.machine fr.instance k (λ n x.
    element (slice_get x.elements at) (with_operands s rest) (λ y. callee y (with_operands s rest) (λ g.
    signed_by (function_type s.world.machine g) wanted (with_operands s rest)
    (call f fr is (with_operands s rest) g))))))

-- ---- growth

-- the turn of a growth that was decided: the size before, or -1 where it fails
abbrev pub grown : Exec → Code → State → Plan ℕ → Decision → World → Outcome
grown f next s p Granted w =
    spend 1 w (λ v. f next (state (record v { machine = charge p.after 1 }) s.locals (on.integer 32 p.gives ∷ s.operands)))
grown f next s p Failed w = spend 1 w (λ v. f next (state v s.locals (on.integer 32 (2 ^ 32 - 1) ∷ s.operands)))
grown f next s p Faulted w = Over (Refused refusal.LimiterFault) w

abbrev pub grow : Exec → Code → State → Plan ℕ → Outcome
grow f next s p = decide Over s.world p (grown f next s p)

abbrev pub memory_grow : Exec → Frame → ℕ → List Instr → State → Outcome
memory_grow f fr k is s =
    on.on_i32 (stuck s) s.operands (λ delta rest. on.on_memory (stuck s) s.world.machine fr.instance k (λ n x.
    grow f (Run fr is) (with_operands s rest) (plan (memory_range x.ty) (memory_growing x.ty (pages x) delta)
    (set_memory s.world.machine n (longer_memory x (delta * page_size x.ty)))
    (pages x))))

abbrev pub table_grow : Exec → Frame → ℕ → List Instr → State → Outcome
table_grow f fr k is s =
    on.on_i32 (stuck s) s.operands (λ delta rest1. on.on_reference (stuck s) rest1 (λ y rest.
    on.on_table (stuck s) s.world.machine fr.instance k (λ n x.
    grow f (Run fr is) (with_operands s rest) (plan table_range (table_growing x.ty (length x.elements) delta)
    (set_table s.world.machine n (longer_table x delta y))
    (length x.elements)))))

-- ---- instructions

abbrev pub then_run : Exec → Code → State → Effect → Outcome
then_run f next s (Goes m locals operands) = f next (state (record s.world { machine = m }) locals operands)
then_run f next s (Traps t) = trapped t s
then_run f next s Sticks = stuck s

-- an instruction whose turn was taken, and then the rest
abbrev pub one : Exec → Frame → Instr → List Instr → State → Outcome
one f fr i.Unreachable is s = trapped trap.UnreachableCodeReached s
one f fr (i.Block b) is s = block f fr b is s
one f fr (i.Loop b) is s = iterate f fr b is s (λ body. f (Run fr body.instrs))
one f fr (i.If a b) is s =
    on.on_i32 (stuck s) s.operands (λ x rest. block f fr (if x == 0 then b else a) is (with_operands s rest))
one f fr (i.Br l) is s = Branch l s
one f fr (i.BrIf l) is s =
    on.on_i32 (stuck s) s.operands (λ x rest. branch_if x l (with_operands s rest) (f (Run fr is)))
one f fr (i.BrTable k) is s =
    on.on_i32 (stuck s) s.operands (λ x rest. on.found (stuck s) (slice_get fr.function.targets k) (λ labels.
    on.found (stuck s) (target labels x) (λ l. Branch l (with_operands s rest))))
one f fr i.Return is s = Return s
one f fr (i.Call k) is s = on.on_function (stuck s) s.world.machine fr.instance k (call f fr is s)
one f fr (i.CallIndirect ty k) is s = call_indirect f fr ty k is s
one f fr i is s = then_run f (Run fr is) s (act fr.instance s.world.machine s.locals i s.operands)

-- the fuel is tested before a bulk form
abbrev pub where_bulk : Bool → World → (World → Outcome) → Outcome
where_bulk true w go = on_fuel w go
where_bulk false w go = go w

-- an instruction, and then the rest: what is asked of a growth, or tested before a bulk form, comes before its turn
abbrev pub instruction : Exec → Frame → Instr → List Instr → State → Outcome
instruction f fr (i.MemoryGrow k) is s = memory_grow f fr k is s
instruction f fr (i.TableGrow k) is s = table_grow f fr k is s
instruction f fr i is s =
    where_bulk (is_bulk i) s.world (λ w. spend (cost i s.operands) w (λ v. one f fr i is (record s { world = v })))

-- a list of which the first instruction is run at once; an empty one is never branched from
abbrev pub at_once : Exec → Frame → List Instr → State → Outcome
at_once f fr [] s = stuck s
at_once f fr (i ∷ is) s = instruction f fr i is s

abbrev pub list : Exec → Frame → List Instr → State → Outcome
list f fr [] s = Values s
list f fr (i ∷ is) s = instruction f fr i is s

-- ---- all code

-- one equation, over what the parts of code do; each part stands behind a turn
unfoldable pub step : Exec → Exec
step f (Run fr is) s = list f fr is s
step f (Again fr b is) s = iterate f fr b is s (λ body. at_once f fr body.instrs)
step f (Step a event) s = hosts.step f a event s.world

-- its solution, to so many parts
unfoldable pub unfolded : ℕ → Exec
unfolded zero c s = Over Stopped s.world
unfolded (suc n) c s = step (unfolded n) c s

-- what code does: there are no more parts than turns
unfoldable pub exec : Exec
exec c s = unfolded (suc s.world.turns) c s
