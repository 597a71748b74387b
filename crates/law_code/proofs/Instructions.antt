-- Each instruction, and what follows, ends as its typing says.
use Rattle.std.proofs.Common.{◌≡◌, ℕ, zero, suc, ◌==◌, Bool, true, false, if◌then◌else◌, List, [], ◌∷◌, length, reverse, slice_get, Some, sym, ap, ◌∙◌, subst}
use Rattle.std.proofs.lemmas.Bool.{eqb-true}
use Rattle.wasm_types.specs.FunctionParts.{params, results}
use Rattle.wasm_types.specs.Matching.{ref_matches}
use Rattle.wasm_types.specs.MemoryTypes.{MemoryParts}
use Rattle.wasm_types.specs.Memories.{Memory}
use Rattle.wasm_types.specs.Signatures.{Signature}
use Rattle.wasm_types.specs.TableTypes.{TableParts}
use Rattle.wasm_types.specs.declared.value_types.ValType.{ValType}
use Rattle.wasm_types.specs.declared.value_types.ValType.TheVariants as t
use Rattle.wasm_syntax.specs.Contexts as context
use Rattle.wasm_syntax.specs.Typing.{Typed, Reached, Unreached, IllTyped, onto, function_references, want_labels, type_one, typing_to}
use Rattle.wasm_syntax.specs.declared.declarations.Block.{Block}
use Rattle.wasm_syntax.specs.declared.declarations.ModuleDecl.{ModuleDecl}
use Rattle.wasm_syntax.specs.declared.instr.Instr.{Instr}
use Rattle.wasm_syntax.specs.declared.instr.Instr.TheVariants as i
use Rattle.wasm_values.specs.declared.refusals.Trap.TheVariants as trap
use Rattle.wasm_objects.specs.Tables.{Table}
use Rattle.wasm_objects.specs.declared.raw.RawVal.{RawVal}
use Rattle.spec_machine.specs.Machine.{Machine, InstanceParts}
use Rattle.spec_machine.specs.Values.{function_type, raw_ref_fits}
use Rattle.spec_execution.specs.Bodies.{block, stuck, with_operands, target, callee, element, signed_by, call, memory_grow, table_grow, then_run, one, where_bulk, instruction}
use Rattle.spec_execution.specs.Costs.{is_bulk, length_of}
use Rattle.spec_execution.specs.Entering.{Frame, Run, Exec}
use Rattle.spec_execution.specs.Operands as on
use Rattle.spec_execution.specs.Outcomes.{World, State, Outcome, Branch, Trapped, spend}
use Rattle.spec_execution.specs.Straight.{act}
use Rattle.spec_execution.proofs.CostLemmas.{length_within}
use Rattle.law_code.specs.Good.{IsHome, CodeMayRun, context_of}
use Rattle.law_code.specs.Runs.{GoodIn, IsBlock, IsFilled, IsNoBranch, IsSoundExec}
use Rattle.law_code.specs.Typed.{HaveTypes}
use Rattle.law_code.proofs.Blocks.{Then, early, target_there, block_good, iterate_good, branch_good, labels_good, branch_if_good, then_run_good}
use Rattle.law_code.proofs.CallInstructionLemmas.{call_good, element_good, grow_good}
use Rattle.law_code.proofs.Checks.{fuels}
use Rattle.law_code.proofs.Combinators.{at_found, sound_there, sound_given, sound_all, sound_i32, sound_reference}
use Rattle.law_code.proofs.Ends.{return_as_typed}
use Rattle.law_code.proofs.Growths.{memory_plan, table_plan, memory_grown, table_grown}
use Rattle.law_code.proofs.IndexLemmas.{NamedTable, NamedMemory, NamedFunction, named_table, named_memory, named_function}
use Rattle.law_code.proofs.StraightLemmas.{IsStraight, straight}
use Rattle.law_code.proofs.TypedValues.{have_later}
use Rattle.law_code.proofs.Worlds.{may_run_later, IsNext, spends, meters}

-- all instructions but growth, whose question comes before their turn
abbrev pub IsNoGrowth : Instr → Type 0
IsNoGrowth (i.MemoryGrow k) = ⊥
IsNoGrowth (i.TableGrow k) = ⊥
IsNoGrowth _ = Unit {0}

module _ (f : Exec) (sound : IsSoundExec f) (base : World) (fr : Frame)
    (labels : List (List ValType)) (n : ℕ) (is : List Instr) where
  abbrev Q : Typed → Outcome → Type 0
  Q = Then f sound base fr labels n is

  abbrev none : (o : Outcome) → Q IllTyped o
  none o = tt

  abbrev type_of : Instr → List ValType → Typed
  type_of j ts = type_one (context_of fr) (typing_to (context_of fr) n) labels j ts

  -- an empty list does not branch
  never_empty : (instrs : List Instr) (u at : State) → f (Run fr instrs) u ≡ Branch zero at → IsFilled instrs
  never_empty [] u at e = subst IsNoBranch e (sound.empty fr u)
  never_empty (j ∷ js) u at e = tt

  module _ (ts : List ValType) (s : State) (may : CodeMayRun s.world fr) (g : GoodIn base fr ts s) where
    abbrev m : Machine
    m = s.world.machine

    abbrev home : IsHome m fr
    home = may.home

    -- the state on other operands
    on_operands : (us : List ValType) (rest : List RawVal) → HaveTypes m us rest →
        GoodIn base fr us (with_operands s rest)
    on_operands us rest h = record { world = g.world; locals_are = g.locals_are; operands_are = h }

    here : (us : List ValType) → HaveTypes m us s.operands → GoodIn base fr us s
    here us h = record { world = g.world; locals_are = g.locals_are; operands_are = h }

    -- what an instance has where the typing finds it
    at_function : (k : ℕ) (ty : Signature) (next : Typed) (go : ℕ → Outcome) →
        context.function_type (context.functions fr.decl) k ≡ Some ty →
        ((h : NamedFunction m home.parts k ty) → Q next (go h.number)) →
        Q next (on.on_function (stuck s) m fr.instance k go)
    at_function k ty next go e h =
        let x : NamedFunction m home.parts k ty = named_function m g.world.well fr.instance home.parts home.found k ty
        (ap (λ (d : ModuleDecl). context.function_type (context.functions d) k) home.same ∙ e) in
        at_found (Q next) (stuck s) (slice_get m.instances fr.instance) home.parts
        (λ (p : InstanceParts). on.found (stuck s) (slice_get p.functions k) go) home.found
        (at_found (Q next) (stuck s) (slice_get home.parts.functions k) x.number go x.named (h x))

    at_table : (k : ℕ) (ty : TableParts) (next : Typed) (go : ℕ → Table → Outcome) →
        slice_get (context.tables fr.decl) k ≡ Some ty →
        ((h : NamedTable m home.parts k ty) → Q next (go h.number h.object)) →
        Q next (on.on_table (stuck s) m fr.instance k go)
    at_table k ty next go e h =
        let x : NamedTable m home.parts k ty = named_table m g.world.well fr.instance home.parts home.found k ty
        (ap (λ (d : ModuleDecl). slice_get (context.tables d) k) home.same ∙ e) in
        at_found (Q next) (stuck s) (slice_get m.instances fr.instance) home.parts
        (λ (p : InstanceParts). on.found (stuck s) (slice_get p.tables k)
        (λ j. on.found (stuck s) (slice_get m.tables j) (go j))) home.found
        (at_found (Q next) (stuck s) (slice_get home.parts.tables k) x.number
        (λ j. on.found (stuck s) (slice_get m.tables j) (go j)) x.named
        (at_found (Q next) (stuck s) (slice_get m.tables x.number) x.object (go x.number) x.found (h x)))

    at_memory : (k : ℕ) (ty : MemoryParts) (next : Typed) (go : ℕ → Memory → Outcome) →
        slice_get (context.memories fr.decl) k ≡ Some ty →
        ((h : NamedMemory m home.parts k) → Q next (go h.number h.object)) →
        Q next (on.on_memory (stuck s) m fr.instance k go)
    at_memory k ty next go e h =
        let x : NamedMemory m home.parts k = named_memory m g.world.well fr.instance home.parts home.found k ty
        (ap (λ (d : ModuleDecl). slice_get (context.memories d) k) home.same ∙ e) in
        at_found (Q next) (stuck s) (slice_get m.instances fr.instance) home.parts
        (λ (p : InstanceParts). on.found (stuck s) (slice_get p.memories k)
        (λ j. on.found (stuck s) (slice_get m.memories j) (go j))) home.found
        (at_found (Q next) (stuck s) (slice_get home.parts.memories k) x.number
        (λ j. on.found (stuck s) (slice_get m.memories j) (go j)) x.named
        (at_found (Q next) (stuck s) (slice_get m.memories x.number) x.object (go x.number) x.found (h x)))

    -- one of two blocks of one type
    either_block : (b : Bool) (x y : ℕ) (ty : Signature) (us : List ValType) (u : State) →
        IsBlock fr (typing_to (context_of fr) n) labels (results ty) x ty →
        IsBlock fr (typing_to (context_of fr) n) labels (results ty) y ty → CodeMayRun u.world fr →
        GoodIn base fr (onto (params ty) us) u →
        Q (Reached (onto (results ty) us)) (block f fr (if b then y else x) is u)
    either_block true x y ty us u bx by hu gu = block_good f sound base fr labels n is y ty by us u hu gu
    either_block false x y ty us u bx by hu gu = block_good f sound base fr labels n is x ty bx us u hu gu

    -- ---- the instructions that lead to other code

    type_block : (b : ℕ) → Q (type_of (i.Block b) ts) (one f fr (i.Block b) is s)
    type_block b =
        sound_there Q none (slice_get fr.function.blocks b) _ _ (λ (body : Block) p.
        sound_there Q none (slice_get fr.decl.types body.ty) _ _ (λ ty q.
        sound_all Q none m (reverse (params ty)) ts s.operands _ _ g.operands_are (λ us h.
        sound_given Q none _ _ _ (λ ends.
        block_good f sound base fr labels n is b ty
        (record { block = body; found = p; type_is = q; ends = ends }) us s may (here (onto (params ty) us) h)))))

    type_loop : (b : ℕ) → Q (type_of (i.Loop b) ts) (one f fr (i.Loop b) is s)
    type_loop b =
        sound_there Q none (slice_get fr.function.blocks b) _ _ (λ (body : Block) p.
        sound_there Q none (slice_get fr.decl.types body.ty) _ _ (λ ty q.
        sound_all Q none m (reverse (params ty)) ts s.operands _ _ g.operands_are (λ us h.
        sound_given Q none _ _ _ (λ ends.
        iterate_good f sound base fr labels n is b ty
        (record { block = body; found = p; type_is = q; ends = ends }) us s (λ (x : Block). f (Run fr x.instrs)) may
        (here (onto (params ty) us) h)
        (λ mid u hu gu. sound.runs mid fr (params ty ∷ labels) n (onto (params ty) []) body.instrs u hu gu)
        (λ u at e. never_empty body.instrs u at e)))))

    type_if : (a b : ℕ) → Q (type_of (i.If a b) ts) (one f fr (i.If a b) is s)
    type_if a b =
        sound_i32 Q none m (stuck s) ts s.operands _ _ g.operands_are (λ us x rest h.
        sound_there Q none (slice_get fr.function.blocks a) _ _ (λ (body : Block) p.
        sound_there Q none (slice_get fr.decl.types body.ty) _ _ (λ ty q.
        sound_there Q none (slice_get fr.function.blocks b) _ _ (λ (other : Block) p'.
        sound_there Q none (slice_get fr.decl.types other.ty) _ _ (λ own q'.
        sound_given Q none _ _ _ (λ same.
        sound_all Q none m (reverse (params ty)) us rest _ _ h (λ vs k.
        sound_given Q none _ _ _ (λ ends_a.
        sound_given Q none _ _ _ (λ ends_b.
        either_block (x == 0) a b ty vs (with_operands s rest)
        (record { block = body; found = p; type_is = q; ends = ends_a })
        (record {
          block = other;
          found = p';
          type_is = ap (slice_get fr.decl.types) (sym (eqb-true body.ty other.ty same)) ∙ q;
          ends = ends_b;
        })
        may (on_operands (onto (params ty) vs) rest k))))))))))

    type_br : (l : ℕ) → Q (type_of (i.Br l) ts) (one f fr (i.Br l) is s)
    type_br l =
        sound_there Q none (slice_get labels l) _ _ (λ label e.
        sound_all Q none m (reverse label) ts s.operands _ _ g.operands_are (λ us h.
        branch_good f sound base fr labels n is Unreached l label ts s e g us h))

    type_br_if : (l : ℕ) → Q (type_of (i.BrIf l) ts) (one f fr (i.BrIf l) is s)
    type_br_if l =
        sound_i32 Q none m (stuck s) ts s.operands _ _ g.operands_are (λ us x rest h.
        sound_there Q none (slice_get labels l) _ _ (λ label e.
        sound_all Q none m (reverse label) us rest _ _ h (λ vs k.
        branch_if_good f sound base fr labels n is x l label us vs (with_operands s rest) e may
        (on_operands us rest h) k)))

    type_br_table : (k : ℕ) → Q (type_of (i.BrTable k) ts) (one f fr (i.BrTable k) is s)
    type_br_table k =
        sound_i32 Q none m (stuck s) ts s.operands _ _ g.operands_are (λ us x rest h.
        sound_there Q none (slice_get fr.function.targets k) _ _ (λ ls p.
        sound_there Q none (slice_get ls 0) _ _ (λ l q.
        sound_there Q none (slice_get labels l) _ _ (λ label e.
        let to : (j : ℕ) × (target ls x ≡ Some j) × ((place : ℕ) × (slice_get ls place ≡ Some j)) =
        target_there ls l x q in
        let next : Typed = want_labels labels (length label) ls us in
        at_found (Q next) (stuck s) (slice_get fr.function.targets k) ls
        (λ js. on.found (stuck s) (target js x) (λ j. Branch j (with_operands s rest))) p
        (at_found (Q next) (stuck s) (target ls x) to.0 (λ j. Branch j (with_operands s rest)) to.1
        (labels_good f sound base fr labels n is ls to.2.0 to.0 (length label) us (with_operands s rest) to.2.1
        (on_operands us rest h)))))))

    type_return : Q (type_of i.Return ts) (one f fr i.Return is s)
    type_return =
        sound_all Q none m (reverse (context_of fr).results) ts s.operands _ _ g.operands_are (λ us h.
        return_as_typed base (context_of fr).locals (context_of fr).results labels Unreached s
        (record { rest = us; good = here (onto (context_of fr).results us) h }))

    type_call : (k : ℕ) → Q (type_of (i.Call k) ts) (one f fr (i.Call k) is s)
    type_call k =
        sound_there Q none (context.function_type (context.functions fr.decl) k) _ _ (λ ty e.
        sound_all Q none m (reverse (params ty)) ts s.operands _ _ g.operands_are (λ us h.
        at_function k ty (Reached (onto (results ty) us)) (call f fr is s) e (λ x.
        call_good f sound base fr labels n is x.number x.own ty us s x.found x.fits may
        (here (onto (params ty) us) h))))

    type_call_indirect : (j k : ℕ) → Q (type_of (i.CallIndirect j k) ts) (one f fr (i.CallIndirect j k) is s)
    type_call_indirect j k =
        sound_there Q none (slice_get fr.decl.types j) _ _ (λ ty p.
        sound_there Q none (slice_get (context.tables fr.decl) k) _ _ (λ table e.
        sound_given Q none (ref_matches table.element function_references) _ _ (λ q.
        sound_i32 Q none m (stuck s) ts s.operands _ _ g.operands_are (λ us x rest h.
        sound_all Q none m (reverse (params ty)) us rest _ _ h (λ vs have.
        let u : State = with_operands s rest in
        at_found (Q (Reached (onto (results ty) vs))) (stuck s) (slice_get fr.decl.types j) ty
        (λ wanted. on.on_table (stuck s) m fr.instance k (λ number object. element (slice_get object.elements x) u (λ y.
        callee y u (λ fun. signed_by (function_type m fun) wanted u (call f fr is u fun))))) p
        (at_table k table (Reached (onto (results ty) vs)) _ e (λ found.
        element_good f sound base fr labels n is found.object.elements x table.element ty vs u may
        (on_operands (onto (params ty) vs) rest have) found.are q)))))))

    -- ---- growth

    type_memory_grow : (k : ℕ) → Q (type_of (i.MemoryGrow k) ts) (memory_grow f fr k is s)
    type_memory_grow k =
        sound_there Q none (slice_get (context.memories fr.decl) k) _ _ (λ ty e.
        sound_i32 Q none m (stuck s) ts s.operands _ _ g.operands_are (λ us delta rest h.
        at_memory k ty (Reached (t.I32 ∷ us)) _ e (λ x.
        grow_good f sound base fr labels n is us (with_operands s rest)
        (memory_plan m g.world.well x.number x.object delta) may (on_operands us rest h)
        (memory_grown m g.world.well x.number x.object delta x.found))))

    type_table_grow : (k : ℕ) → Q (type_of (i.TableGrow k) ts) (table_grow f fr k is s)
    type_table_grow k =
        sound_there Q none (slice_get (context.tables fr.decl) k) _ _ (λ ty e.
        sound_i32 Q none m (stuck s) ts s.operands _ _ g.operands_are (λ us delta rest h.
        sound_reference Q none m (stuck s) ty.element us rest _ _ h (λ vs y below there fits have.
        at_table k ty (Reached (t.I32 ∷ vs)) _ e (λ x.
        grow_good f sound base fr labels n is vs (with_operands s below)
        (table_plan m g.world.well x.number x.object delta y) may (on_operands vs below have)
        (table_grown m g.world.well x.number x.object delta y x.found there
        (ap (raw_ref_fits m y) x.same ∙ fits))))))

    -- ---- all instructions

    type_straight : (j : Instr) → IsStraight j →
        Q (type_of j ts) (then_run f (Run fr is) s (act fr.instance m s.locals j s.operands))
    type_straight j p =
        then_run_good f sound base fr labels n is (type_of j ts) s (act fr.instance m s.locals j s.operands) ts
        may g
        (straight m fr ts s.locals s.operands g.world.well home g.locals_are g.operands_are
        (typing_to (context_of fr) n) labels j p)

    pub one_good : (j : Instr) → IsNoGrowth j → Q (type_of j ts) (one f fr j is s)
    one_good i.Unreachable p =
        early f sound base fr labels n is Unreached (Trapped trap.UnreachableCodeReached) s.world g.world
    one_good (i.Block b) p = type_block b
    one_good (i.Loop b) p = type_loop b
    one_good (i.If a b) p = type_if a b
    one_good (i.Br l) p = type_br l
    one_good (i.BrIf l) p = type_br_if l
    one_good (i.BrTable k) p = type_br_table k
    one_good i.Return p = type_return
    one_good (i.Call k) p = type_call k
    one_good (i.CallIndirect j k) p = type_call_indirect j k
    one_good (i.MemoryGrow k) p = absurd p
    one_good (i.TableGrow k) p = absurd p
    one_good j p = type_straight j tt

  -- an instruction with its turn, before which the fuel is tested or not
  module _ (ts : List ValType) (s : State) (j : Instr) (p : IsNoGrowth j) (may : CodeMayRun s.world fr)
      (g : GoodIn base fr ts s) where
    abbrev turned : World → Outcome
    turned w = one f fr j is (record s { world = w })

    turned_good : (w : World) → IsNext base s.world w → Q (type_of j ts) (turned w)
    turned_good w next =
        let fs = g.world.well.functions_are in
        one_good ts (record s { world = w }) (may_run_later s.world w fr next.since may)
        (record {
          world = next.good;
          locals_are =
              have_later s.world.machine w.machine next.since.store fs (context_of fr).locals s.locals g.locals_are;
          operands_are = have_later s.world.machine w.machine next.since.store fs ts s.operands g.operands_are;
        }) j p

    spent : (bulk : Bool) →
        Q (type_of j ts)
        (where_bulk bulk s.world (λ w. spend (suc (if bulk then length_of s.operands else 0)) w turned))
    spent true =
        let amount : ℕ = suc (length_of s.operands) in
        fuels base (Q (type_of j ts)) (early f sound base fr labels n is (type_of j ts)) s.world
        (λ w. spend amount w turned) (λ found.
        meters base (Q (type_of j ts)) (early f sound base fr labels n is (type_of j ts)) s.world amount turned g.world
        found (length_within s.operands) (λ w next fewer. turned_good w next)) g.world
    spent false =
        spends base (Q (type_of j ts)) (early f sound base fr labels n is (type_of j ts)) s.world turned g.world
        may.paid (λ w next fewer. turned_good w next)

  pub instruction_good : (ts : List ValType) (s : State) (j : Instr) → CodeMayRun s.world fr →
      GoodIn base fr ts s → Q (type_of j ts) (instruction f fr j is s)
  instruction_good ts s (i.MemoryGrow k) home g = type_memory_grow ts s home g k
  instruction_good ts s (i.TableGrow k) home g = type_table_grow ts s home g k
  instruction_good ts s j home g = spent ts s j tt home g (is_bulk j)
