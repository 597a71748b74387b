-- That confinement is not empty, each by computation: what leads to a victim's memory is reached and writes there, and
-- without that one link the set would be too small.
use Rattle.std.proofs.Common.{◌≡◌, ℕ, true, List, [], ◌∷◌, length, Option, Some, None, refl, sym, inl, inr}
use Rattle.std.specs.Prelude.{pos}
use Rattle.std.proofs.lemmas.Bool.{false≢true}
use Rattle.wasm_types.specs.FunctionParts.{nullable_ref}
use Rattle.wasm_types.specs.GlobalTypes.{global_parts}
use Rattle.wasm_types.specs.MemoryTypes.{memory_parts}
use Rattle.wasm_types.specs.declared.extern_type.ExternType.TheVariants as ty
use Rattle.wasm_types.specs.declared.plain.Mutability.TheVariants.{Var}
use Rattle.wasm_types.specs.declared.value_types.HeapType.TheVariants as h
use Rattle.wasm_syntax.specs.declared.declarations.ModuleDecl.{ModuleDecl}
use Rattle.wasm_syntax.specs.declared.instr.Instr.TheVariants as i
use Rattle.wasm_values.specs.Handles.{func_of, memory_of}
use Rattle.wasm_values.specs.declared.externals.Extern.{Extern}
use Rattle.wasm_values.specs.declared.externals.Extern.TheVariants as x
use Rattle.wasm_values.specs.declared.refusals.Trap.TheVariants as trap
use Rattle.wasm_values.specs.declared.values.Val.TheVariants as v
use Rattle.wasm_objects.specs.Globals.{global}
use Rattle.wasm_objects.specs.declared.raw.RawRef.{RawRef}
use Rattle.wasm_objects.specs.declared.raw.RawRef.TheVariants as raw
use Rattle.wasm_objects.specs.declared.raw.RawVal.TheVariants as w
use Rattle.spec_machine.specs.Machine.{Machine, guest, host, InstanceParts}
use Rattle.spec_machine.specs.declared.name.Name.TheVariants as name
use Rattle.spec_machine.specs.declared.operation.Op.TheVariants as op
use Rattle.spec_execution.specs.Askings.{Answer, Has}
use Rattle.spec_execution.specs.Bodies.{exec, unfolded, step}
use Rattle.spec_execution.specs.Entering.{entry}
use Rattle.spec_execution.specs.Instantiation.{instantiate}
use Rattle.spec_execution.specs.Outcomes.{World, Outcome, Over, End, Trapped, Stopped}
use Rattle.spec_execution.specs.declared.answer.Answer.TheVariants as say
use Rattle.spec_reach.specs.Nodes.{Node, func, memory, has}
use Rattle.spec_reach.specs.Nodes as node
use Rattle.spec_reach.specs.Outside.{SameOutside}
use Rattle.spec_reach.specs.Reach.{reach}
use Rattle.law_confined.specs.Laws.{left, all_roots, KeepsReach}
use Rattle.law_confined.specs.Shown.{unshown}
use Rattle.law_confined.proofs.ConfinementSamples.{quiet, giving, id, doing, decl, instance, writing, calling, victim, byte, store, with_second, first, too_small, says, begun}

-- what a call of function 1 leaves, in so many turns, with these answers
abbrev called : Machine → ℕ → List Answer → World
called m turns answers = left (entry exec 0 1 [] None (begun m turns answers))

-- ---- a function in a shared table

abbrev shared : Machine
shared = store [] (raw.Func 0 ∷ [])

-- nothing of the memory of the third instance is reached
abbrev with_third : Machine
with_third = record shared {
  memories = byte ∷ byte ∷ byte ∷ [];
  functions = guest 0 0 ∷ guest 1 0 ∷ guest 2 0 ∷ [];
  instances =
      victim ∷ record (instance (doing (calling [])) (1 ∷ []) (1 ∷ [])) { tables = 0 ∷ [] }
      ∷ record (instance (writing []) (2 ∷ []) (2 ∷ [])) { tables = 0 ∷ [] } ∷ [];
}

third_is_out_of_reach :
    reach with_third (func 1 ∷ [])
    ≡ func 0 ∷ func 1 ∷ node.instance 0 ∷ node.instance 1 ∷ memory 0 ∷ memory 1 ∷ node.table 0 ∷ []
third_is_out_of_reach = refl

table_leads : has (reach shared (func 1 ∷ [])) (memory 0) ≡ true
table_leads = refl

-- as if the table led nowhere
needs_the_table : SameOutside (reach (store [] (raw.Null ∷ [])) (func 1 ∷ [])) shared (called shared 20 []).machine → ⊥
unfolding exec unfolded step
needs_the_table = too_small _ shared (called shared 20 []).machine 0 byte first refl refl refl

-- ---- a function in a passive segment, that is put into the table first

abbrev passive : List RawRef → Machine
passive items =
    with_second (λ (j : InstanceParts). record j { elements = items ∷ [] })
    (store (i.Const32 (pos 0) ∷ i.Const32 (pos 0) ∷ i.Const32 (pos 1) ∷ i.TableInit 0 0 ∷ []) (raw.Null ∷ []))

segment_leads : has (reach (passive (raw.Func 0 ∷ [])) (func 1 ∷ [])) (memory 0) ≡ true
segment_leads = refl

needs_the_segment :
    let m = passive (raw.Func 0 ∷ []) in
    SameOutside (reach (passive []) (func 1 ∷ [])) m (called m 20 []).machine → ⊥
unfolding exec unfolded step
needs_the_segment =
    let m = passive (raw.Func 0 ∷ []) in too_small _ m (called m 20 []).machine 0 byte first refl refl refl

-- ---- a chain through a global

abbrev chained : RawRef → Machine
chained y =
    with_second (λ (j : InstanceParts). record j { globals = 0 ∷ [] })
    (record (store (i.Const32 (pos 0) ∷ i.GlobalGet 0 ∷ i.TableSet 0 ∷ []) (raw.Null ∷ [])) {
      globals = global (global_parts (nullable_ref h.Func) Var) (w.Reference y) ∷ [];
    })

global_leads : has (reach (chained (raw.Func 0)) (func 1 ∷ [])) (memory 0) ≡ true
global_leads = refl

needs_the_global :
    let m = chained (raw.Func 0) in
    SameOutside (reach (chained raw.Null) (func 1 ∷ [])) m (called m 20 []).machine → ⊥
unfolding exec unfolded step
needs_the_global =
    let m = chained (raw.Func 0) in too_small _ m (called m 20 []).machine 0 byte first refl refl refl

-- ---- a memory that a function of the host has stored: its body writes there, or grows it

abbrev hosting : List Extern → Machine
hosting stored = record (store [] (raw.Null ∷ [])) { functions = guest 0 0 ∷ host quiet 0 stored ∷ [] }

abbrev holding : Machine
holding = hosting (x.Memory (memory_of id 0) ∷ [])

abbrev wrote : World
wrote =
    called holding 20
    (Has true ∷ says (say.Call (op.MemoryWrite (name.Stored 0) 0 (255 ∷ []))) ∷ says (say.Return []) ∷ [])

stored_leads : has (reach holding (func 1 ∷ [])) (memory 0) ≡ true
stored_leads = refl

needs_what_is_stored : SameOutside (reach (hosting []) (func 1 ∷ [])) holding wrote.machine → ⊥
unfolding exec unfolded step
needs_what_is_stored = too_small _ holding wrote.machine 0 byte first refl refl refl

-- what was shown is not handed out unshown
nothing_is_unshown : unshown id wrote.heard ≡ []
unfolding exec unfolded step
nothing_is_unshown = refl

abbrev grew : World
grew =
    called holding 20
    (Has true ∷ says (say.Call (op.MemoryGrow (name.Stored 0) 1)) ∷ says (say.Return []) ∷ [])

needs_it_for_a_growth : SameOutside (reach (hosting []) (func 1 ∷ [])) holding grew.machine → ⊥
unfolding exec unfolded step
needs_it_for_a_growth = too_small _ holding grew.machine 0 byte length refl refl refl

-- ---- a body that returns a function that it was not shown, which code then calls

abbrev handing : Machine
handing = record (store (i.Const32 (pos 0) ∷ i.Call 1 ∷ i.TableSet 0 ∷ []) (raw.Null ∷ [])) {
  functions = guest 0 0 ∷ guest 1 0 ∷ host giving 0 [] ∷ [];
  instances =
      victim
      ∷ record (instance (doing (calling (i.Const32 (pos 0) ∷ i.Call 1 ∷ i.TableSet 0 ∷ []))) (1 ∷ 2 ∷ []) (1 ∷ [])) {
        tables = 0 ∷ [];
      } ∷ [];
}

abbrev handed : World
handed = called handing 20 (Has true ∷ says (say.Return (v.FuncRef (Some (func_of id 0)) ∷ [])) ∷ [])

is_unshown : unshown id handed.heard ≡ func 0 ∷ []
unfolding exec unfolded step
is_unshown = refl

unshown_leads : has (reach handing (all_roots (func 1 ∷ []) (begun handing 20 []) handed)) (memory 0) ≡ true
unfolding exec unfolded step
unshown_leads = refl

needs_what_is_unshown : SameOutside (reach handing (func 1 ∷ [])) handing handed.machine → ⊥
unfolding exec unfolded step
needs_what_is_unshown = too_small _ handing handed.machine 0 byte first refl refl refl

-- nor would what is out of reach stay so: the victim's function stands in the table then
needs_it_for_what_is_reached : KeepsReach handing handed.machine (reach handing (func 1 ∷ [])) → ⊥
unfolding exec unfolded step
needs_it_for_what_is_reached k =
    elim (k (func 0) refl) [ inl p ↦ false≢true p | inr p ↦ false≢true (sym p) ]

-- ---- a start function that traps behind its write: what it was given is changed all the same

abbrev starting : ModuleDecl
starting = record (decl (writing (i.Unreachable ∷ []) ∷ [])) {
  imports = record { «module» = []; name = []; ty = ty.Memory (memory_parts 1 None 0) } ∷ [];
  start = Some 0;
}

abbrev given : List Extern
given = x.Memory (memory_of id 0) ∷ []

abbrev started : Outcome
started = instantiate exec 0 (begun shared 20 []) starting given

abbrev ends : Outcome → Option End
ends (Over e v) = Some e
ends o = None

traps : ends started ≡ Some (Trapped trap.UnreachableCodeReached)
unfolding exec unfolded step
traps = refl

needs_what_is_given : SameOutside (reach shared []) shared (left started).machine → ⊥
unfolding exec unfolded step
needs_what_is_given = too_small _ shared (left started).machine 0 byte first refl refl refl

-- ---- a stop in the middle of each: no turn is left behind the write

-- whether a call of function 1 is stopped after so many turns
abbrev is_stopped : Machine → ℕ → List Answer → Option End
is_stopped m turns answers = ends (entry exec 0 1 [] None (begun m turns answers))

stops_in_shared : is_stopped shared 5 [] ≡ Some Stopped
unfolding exec unfolded step
stops_in_shared = refl

needs_the_table_at_a_stop :
    SameOutside (reach (store [] (raw.Null ∷ [])) (func 1 ∷ [])) shared (called shared 5 []).machine → ⊥
unfolding exec unfolded step
needs_the_table_at_a_stop = too_small _ shared (called shared 5 []).machine 0 byte first refl refl refl

stops_in_passive : is_stopped (passive (raw.Func 0 ∷ [])) 9 [] ≡ Some Stopped
unfolding exec unfolded step
stops_in_passive = refl

needs_the_segment_at_a_stop :
    let m = passive (raw.Func 0 ∷ []) in
    SameOutside (reach (passive []) (func 1 ∷ [])) m (called m 9 []).machine → ⊥
unfolding exec unfolded step
needs_the_segment_at_a_stop =
    let m = passive (raw.Func 0 ∷ []) in too_small _ m (called m 9 []).machine 0 byte first refl refl refl

stops_in_chained : is_stopped (chained (raw.Func 0)) 8 [] ≡ Some Stopped
unfolding exec unfolded step
stops_in_chained = refl

needs_the_global_at_a_stop :
    let m = chained (raw.Func 0) in
    SameOutside (reach (chained raw.Null) (func 1 ∷ [])) m (called m 8 []).machine → ⊥
unfolding exec unfolded step
needs_the_global_at_a_stop =
    let m = chained (raw.Func 0) in too_small _ m (called m 8 []).machine 0 byte first refl refl refl

-- the second step of the body has no turn
abbrev half_written : List Answer
half_written = Has true ∷ says (say.Call (op.MemoryWrite (name.Stored 0) 0 (255 ∷ []))) ∷ []

stops_in_dialogue : is_stopped holding 2 half_written ≡ Some Stopped
unfolding exec unfolded step
stops_in_dialogue = refl

needs_what_is_stored_at_a_stop :
    SameOutside (reach (hosting []) (func 1 ∷ [])) holding (called holding 2 half_written).machine → ⊥
unfolding exec unfolded step
needs_what_is_stored_at_a_stop =
    too_small _ holding (called holding 2 half_written).machine 0 byte first refl refl refl

abbrev half_grown : List Answer
half_grown = Has true ∷ says (say.Call (op.MemoryGrow (name.Stored 0) 1)) ∷ []

stops_in_growth : is_stopped holding 2 half_grown ≡ Some Stopped
unfolding exec unfolded step
stops_in_growth = refl

needs_it_for_a_growth_at_a_stop :
    SameOutside (reach (hosting []) (func 1 ∷ [])) holding (called holding 2 half_grown).machine → ⊥
unfolding exec unfolded step
needs_it_for_a_growth_at_a_stop =
    too_small _ holding (called holding 2 half_grown).machine 0 byte length refl refl refl

abbrev half_handed : List Answer
half_handed = Has true ∷ says (say.Return (v.FuncRef (Some (func_of id 0)) ∷ [])) ∷ []

stops_in_handing : is_stopped handing 9 half_handed ≡ Some Stopped
unfolding exec unfolded step
stops_in_handing = refl

needs_what_is_unshown_at_a_stop :
    SameOutside (reach handing (func 1 ∷ [])) handing (called handing 9 half_handed).machine → ⊥
unfolding exec unfolded step
needs_what_is_unshown_at_a_stop =
    too_small _ handing (called handing 9 half_handed).machine 0 byte first refl refl refl

abbrev half_started : Outcome
half_started = instantiate exec 0 (begun shared 4 []) starting given

stops_in_start : ends half_started ≡ Some Stopped
unfolding exec unfolded step
stops_in_start = refl

needs_what_is_given_at_a_stop : SameOutside (reach shared []) shared (left half_started).machine → ⊥
unfolding exec unfolded step
needs_what_is_given_at_a_stop = too_small _ shared (left half_started).machine 0 byte first refl refl refl
