-- Blocks, loops, branches and what follows an instruction: each ends as its typing says.
use Rattle.std.proofs.Common.{◌≡◌, ℕ, zero, suc, ◌-◌, ◌<◌, List, [], ◌∷◌, ◌++◌, length, reverse, slice_get, Option, Some, None, refl, sym, ap, ◌∙◌, subst, arith, append-nil}
use Rattle.std.proofs.lemmas.Bool.{lt-ltb}
use Rattle.std.proofs.lemmas.List.{length-reverse}
use Rattle.std.proofs.lemmas.Option.{same_Some, none-some, slice_get_within}
use Rattle.wasm_types.specs.FunctionParts.{params, results}
use Rattle.wasm_types.specs.Signatures.{Signature}
use Rattle.wasm_types.specs.declared.value_types.ValType.{ValType}
use Rattle.wasm_syntax.specs.Contexts.{Context}
use Rattle.wasm_syntax.specs.Typing.{Typed, Reached, Unreached, IllTyped, Inner, onto, want_labels, typed_then, type_list, typing_to}
use Rattle.wasm_syntax.specs.declared.declarations.Block.{Block}
use Rattle.wasm_syntax.specs.declared.instr.Instr.{Instr}
use Rattle.spec_machine.specs.Machine.{Machine}
use Rattle.spec_execution.specs.Bodies.{Exit, exit, after, inside, on_block, block, loop_exit, iterate, branch_if, target_at, target, then_run, stuck, with_operands}
use Rattle.spec_execution.specs.Checks.{check}
use Rattle.spec_execution.specs.Entering.{Frame, Run, Exec}
use Rattle.spec_execution.specs.Operands as on
use Rattle.spec_execution.specs.Outcomes.{World, State, state, Outcome, Branch, Over, End, Trapped}
use Rattle.spec_execution.specs.Straight.{Effect, Goes, Traps, Sticks}
use Rattle.law_code.specs.Effects.{IsEffect}
use Rattle.law_code.specs.Good.{CodeMayRun, context_of, IsGoodWorld, IsGoodEnd, IsBranch}
use Rattle.law_code.specs.Runs.{AsTyped, GoodIn, IsBlock, IsFilled, IsSoundExec}
use Rattle.law_code.specs.Typed.{HaveTypes}
use Rattle.law_code.proofs.Changes.{IsSafeChange}
use Rattle.law_code.proofs.Checks.{checks}
use Rattle.law_code.proofs.Combinators.{at_found, front_of, sound_there, sound_given, sound_all}
use Rattle.law_code.proofs.Ends.{end_as_typed, branch_as_typed, ends_good, after_good}
use Rattle.law_code.proofs.Functions.{within}
use Rattle.law_code.proofs.TypedValues.{have_later, have_append}
use Rattle.law_code.proofs.Worlds.{may_run_later, later_own, IsNext, next_own, machine_next}

-- a place of a target list that a branch table leads to
target_by : (ls : List ℕ) (l : ℕ) (o : Option ℕ) (x : ℕ) → slice_get ls 0 ≡ Some l → slice_get ls x ≡ o →
    (k : ℕ) × (target_at o (slice_get ls (length ls - 1)) ≡ Some k) × ((j : ℕ) × (slice_get ls j ≡ Some k))
target_by ls l (Some k) x e p = (k, refl, (x, p))
target_by ls l None x e p =
    let some : 0 < length ls = slice_get_within ls 0 l e in
    let last : (k : ℕ) × (slice_get ls (length ls - 1) ≡ Some k) =
    within ls (length ls - 1) (lt-ltb (length ls - 1) (length ls) (omega (arith, some))) in
    (last.0, last.1, (length ls - 1, last.1))

pub target_there : (ls : List ℕ) (l x : ℕ) → slice_get ls 0 ≡ Some l →
    (k : ℕ) × (target ls x ≡ Some k) × ((j : ℕ) × (slice_get ls j ≡ Some k))
target_there ls l x e = target_by ls l (slice_get ls x) x e refl

-- a good world is later than itself
pub world_here : (base w : World) → IsGoodWorld base w → IsGoodWorld w w
world_here base w g = record { well = g.well; later = later_own w; turns = g.turns; typed = g.typed }

module _ (f : Exec) (sound : IsSoundExec f) (base : World) (fr : Frame)
    (labels : List (List ValType)) (n : ℕ) (is : List Instr) where
  abbrev c : Context
  c = context_of fr

  abbrev inner : Inner
  inner = typing_to c n

  -- an outcome of an instruction and the rest, as the typing of the instruction says
  abbrev pub Then : Typed → Outcome → Type 0
  Then ty o = AsTyped base fr labels (typed_then ty (λ us. type_list c (typing_to c n) labels us is)) o

  pub bad : (o : Outcome) → Then IllTyped o
  bad o = tt

  pub early : (ty : Typed) (e : End) (w : World) → IsGoodEnd base e w → Then ty (Over e w)
  early ty e w h =
      end_as_typed base c.locals c.results labels
      (typed_then ty (λ us. type_list c (typing_to c n) labels us is)) e w h

  pub branches : (ty : Typed) (l : ℕ) (s : State) → IsBranch base c.locals labels l s → Then ty (Branch l s)
  branches ty l s h =
      branch_as_typed base c.locals c.results labels
      (typed_then ty (λ us. type_list c (typing_to c n) labels us is)) l s h

  -- the rest
  pub rest_good : (us : List ValType) (s : State) → CodeMayRun s.world fr → GoodIn base fr us s →
      Then (Reached us) (f (Run fr is) s)
  rest_good us s home g = sound.runs base fr labels (suc n) us is s home g

  -- ---- a block

  inside_good : (label : List ValType) (b : ℕ) (t : Signature) (body : IsBlock fr inner labels label b t)
      (us : List ValType) (s : State) (e : Exit) (run : State → Outcome) → e.arity ≡ length label →
      CodeMayRun s.world fr → GoodIn base fr (onto (params t) us) s →
      ((mid : World) (u : State) → CodeMayRun u.world fr → GoodIn mid fr (onto (params t) []) u →
      AsTyped mid fr (label ∷ labels) (inner (label ∷ labels) (onto (params t) []) body.block.instrs) (run u)) →
      ((u at : State) → IsGoodWorld s.world u.world → run u ≡ Branch zero at → (v : State) → CodeMayRun v.world fr →
      GoodIn base fr (onto label us) v → Then (Reached (onto (results t) us)) (f e.target v)) →
      Then (Reached (onto (results t) us)) (inside f (Run fr is) e t s run)
  inside_good label b t body us s e run arity home g inner_good target_good =
      let m : Machine = s.world.machine in
      front_of (Then (Reached (onto (results t) us))) m (stuck s) (reverse (params t)) us (length (params t)) s.operands
      (λ front below. after f (Run fr is) e below (run (with_operands s front))) g.operands_are
      (sym (length-reverse (params t))) (λ front below hf hb.
      let u : State = with_operands s front in
      let gu : GoodIn s.world fr (onto (params t) []) u = record {
        world = world_here base s.world g.world;
        locals_are = g.locals_are;
        operands_are = subst (HaveTypes m (onto (params t) [])) (append-nil front)
            (have_append m (reverse (params t)) [] front [] hf tt);
      } in
      after_good base s.world g.world.later g.world.well.functions_are fr home us below hb f (Run fr is) e
      c.locals c.results label (results t) labels (type_list c (typing_to c n) labels (onto (results t) us) is) (run u)
      arity (rest_good (onto (results t) us)) (λ at. target_good u at gu.world)
      (ends_good s.world c.locals c.results (label ∷ labels) (results t)
      (inner (label ∷ labels) (onto (params t) []) body.block.instrs) (run u) body.ends (inner_good s.world u home gu)))

  on_blocks : (ty : Typed) (label : List ValType) (b : ℕ) (t : Signature) (body : IsBlock fr inner labels label b t)
      (s : State) (go : Block → Signature → Outcome) → Then ty (go body.block t) → Then ty (on_block fr b s go)
  on_blocks ty label b t body s go h =
      at_found (Then ty) (stuck s) (slice_get fr.function.blocks b) body.block
      (λ (x : Block). on.found (stuck s) (slice_get fr.decl.types x.ty) (go x)) body.found
      (at_found (Then ty) (stuck s) (slice_get fr.decl.types body.block.ty) t (go body.block) body.type_is h)

  pub block_good : (b : ℕ) (t : Signature) (body : IsBlock fr inner labels (results t) b t) (us : List ValType)
      (s : State) → CodeMayRun s.world fr → GoodIn base fr (onto (params t) us) s →
      Then (Reached (onto (results t) us)) (block f fr b is s)
  block_good b t body us s home g =
      on_blocks (Reached (onto (results t) us)) (results t) b t body s
      (λ x u. inside f (Run fr is) (exit (length (results u)) (Run fr is)) u s (f (Run fr x.instrs)))
      (inside_good (results t) b t body us s (exit (length (results t)) (Run fr is)) (f (Run fr body.block.instrs)) refl
      home g
      (λ mid u hu gu.
      sound.runs mid fr (results t ∷ labels) n (onto (params t) []) body.block.instrs u hu gu)
      (λ u at gw e v hv gv. rest_good (onto (results t) us) v hv gv))

  -- a loop, whose block is run in a way that branches only where it has instructions
  pub iterate_good : (b : ℕ) (t : Signature) (body : IsBlock fr inner labels (params t) b t) (us : List ValType)
      (s : State) (run : Block → State → Outcome) → CodeMayRun s.world fr →
      GoodIn base fr (onto (params t) us) s →
      ((mid : World) (u : State) → CodeMayRun u.world fr → GoodIn mid fr (onto (params t) []) u →
      AsTyped mid fr (params t ∷ labels) (inner (params t ∷ labels) (onto (params t) []) body.block.instrs)
      (run body.block u)) →
      ((u at : State) → run body.block u ≡ Branch zero at → IsFilled body.block.instrs) →
      Then (Reached (onto (results t) us)) (iterate f fr b is s run)
  iterate_good b t body us s run home g inner_good filled =
      let checked : State → Outcome = λ own. check own.world (λ w. run body.block (record own { world = w })) in
      on_blocks (Reached (onto (results t) us)) (params t) b t body s
      (λ x u. inside f (Run fr is) (loop_exit fr b is u) u s
      (λ own. check own.world (λ w. run x (record own { world = w }))))
      (inside_good (params t) b t body us s (loop_exit fr b is t) checked refl home g
      (λ mid u hu gu.
      let ty : Typed = inner (params t ∷ labels) (onto (params t) []) body.block.instrs in
      checks mid (AsTyped mid fr (params t ∷ labels) ty) (end_as_typed mid c.locals c.results (params t ∷ labels) ty)
      u.world (λ w. run body.block (record u { world = w })) (λ w next paid.
      let fs = gu.world.well.functions_are in
      inner_good mid (record u { world = w }) (may_run_later u.world w fr next.since hu)
      (record {
        world = next.good;
        locals_are = have_later u.world.machine w.machine next.since.store fs c.locals u.locals gu.locals_are;
        operands_are =
            have_later u.world.machine w.machine next.since.store fs (onto (params t) []) u.operands gu.operands_are;
      })) gu.world)
      (λ u at gw e v hv gv.
      sound.loops base fr labels n b t us is v body
      (checks s.world (λ o. o ≡ Branch zero at → IsFilled body.block.instrs) (λ end w good q. absurd cc) u.world
      (λ w. run body.block (record u { world = w })) (λ w next paid q. filled (record u { world = w }) at q) gw e)
      hv gv))

  -- ---- branches

  pub branch_good : (ty : Typed) (l : ℕ) (label us : List ValType) (s : State) → slice_get labels l ≡ Some label →
      GoodIn base fr us s → (rest : List ValType) → HaveTypes s.world.machine (reverse label ++ rest) s.operands →
      Then ty (Branch l s)
  branch_good ty l label us s e g rest h =
      branches ty l s (record {
        label = label;
        found = e;
        good = record {
          rest = rest;
          good = record { world = g.world; locals_are = g.locals_are; operands_are = h };
        };
      })

  pub labels_good : (ls : List ℕ) (j l k : ℕ) (us : List ValType) (s : State) → slice_get ls j ≡ Some l →
      GoodIn base fr us s → Then (want_labels labels k ls us) (Branch l s)
  labels_good [] j l k us s e g = absurd (none-some l e)
  labels_good (i ∷ ls) zero l k us s e g =
      sound_there Then bad (slice_get labels i) _ (Branch l s) (λ label p.
      sound_given Then bad _ _ (Branch l s) (λ same.
      sound_all Then bad s.world.machine (reverse label) us s.operands _ (Branch l s) g.operands_are (λ rest h.
      branch_good (want_labels labels k ls us) l label us s
      (ap (slice_get labels) (sym (same_Some i l e)) ∙ p) g rest h)))
  labels_good (i ∷ ls) (suc j) l k us s e g =
      sound_there Then bad (slice_get labels i) _ (Branch l s) (λ label p.
      sound_given Then bad _ _ (Branch l s) (λ same.
      sound_all Then bad s.world.machine (reverse label) us s.operands _ (Branch l s) g.operands_are (λ rest h.
      labels_good ls j l k us s e g)))

  pub branch_if_good : (x l : ℕ) (label us rest : List ValType) (s : State) → slice_get labels l ≡ Some label →
      CodeMayRun s.world fr → GoodIn base fr us s →
      HaveTypes s.world.machine (reverse label ++ rest) s.operands →
      Then (Reached (onto label rest)) (branch_if x l s (f (Run fr is)))
  branch_if_good zero l label us rest s e home g h =
      rest_good (onto label rest) s home (record { world = g.world; locals_are = g.locals_are; operands_are = h })
  branch_if_good (suc x) l label us rest s e home g h = branch_good (Reached (onto label rest)) l label us s e g rest h

  -- ---- behind an instruction that leads to no other code

  pub then_run_good : (ty : Typed) (s : State) (e : Effect) (us : List ValType) → CodeMayRun s.world fr →
      GoodIn base fr us s → IsEffect s.world.machine c.locals ty e → Then ty (then_run f (Run fr is) s e)
  then_run_good IllTyped s e us home g h = tt
  then_run_good Unreached s (Traps t) us home g h = early Unreached (Trapped t) s.world g.world
  then_run_good Unreached s (Goes m locals operands) us home g h = absurd h
  then_run_good Unreached s Sticks us home g h = absurd h
  then_run_good (Reached ts) s (Traps t) us home g h = early (Reached ts) (Trapped t) s.world g.world
  then_run_good (Reached ts) s Sticks us home g h = absurd h
  then_run_good (Reached ts) s (Goes m locals operands) us home g h =
      let a : IsSafeChange s.world.machine m = record { well = h.well; later = h.later; owed = h.owed } in
      let next : IsNext base s.world (record s.world { machine = m }) =
      machine_next base s.world s.world m g.world (next_own base s.world g.world) a in
      rest_good ts (state (record s.world { machine = m }) locals operands)
      (may_run_later s.world (record s.world { machine = m }) fr next.since home)
      (record { world = next.good; locals_are = h.locals_are; operands_are = h.operands_are })
