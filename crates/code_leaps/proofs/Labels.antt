-- Blocks are entered, left at their ends, and left by branches.
use Rattle.std.proofs.Common.{◌≡◌, ℕ, ◌≤◌, ◌<◌, List, [], ◌∷◌, ◌++◌, length, take, drop, Option, Some, None, inl, inr, refl, sym, ap, ◌∙◌, Bool, true, false}
use Rattle.std.specs.Prelude.{nat_le, cond, slice_get}
use Rattle.std.proofs.lemmas.Bool.{lt-leb, le-leb}
use Rattle.wasm_types.specs.FunctionParts.{params, results}
use Rattle.wasm_types.specs.Signatures.{Signature}
use Rattle.wasm_syntax.specs.declared.declarations.Block.{Block as CodeBlock}
use Rattle.wasm_syntax.specs.declared.instr.Instr.{Instr}
use Rattle.wasm_objects.specs.declared.raw.RawVal.{RawVal}
use Rattle.spec_execution.specs.Bodies.{stuck, with_operands, Exit, exit, after, on_block, inside, block, iterate, loop_exit, at_once, exec}
use Rattle.spec_execution.specs.Checks.{check}
use Rattle.spec_execution.specs.Entering.{Frame, Code, Run}
use Rattle.spec_execution.specs.Operands as on
use Rattle.spec_execution.specs.Outcomes.{World, State, state, Outcome, Values, Branch, Over, Stuck}
use Rattle.code_stack.specs.declared.layers.Activation.{Activation}
use Rattle.code_stack.specs.declared.layers.Label.{Label}
use Rattle.code_stack.specs.declared.layers.Layer.{Layer}
use Rattle.code_stack.specs.declared.layers.Layer.TheVariants.{Block}
use Rattle.code_stack.specs.Values.{Below, ValuesParts, HasOpened, HasClosed, HasFinished, CannotClose}
use Rattle.code_stack.specs.Layers.{frame_of, target_of, outwards, past, Configuration, frame_at, owing, state_at, means}
use Rattle.code_stack.specs.declared.layers.Opening.{Opening}
use Rattle.code_stack.specs.Steps.{Opens, IsOpening}
use Rattle.spec_execution.proofs.EquationLemmas.{run_nil, run_cons, again_at_once}
use Rattle.code_leaps.proofs.CheckLemmas.{check_through}
use Rattle.code_stack.proofs.LayerLemmas.{outwards_over, owing_over, past_found, past_none, past_stuck}

-- enough operands, or too few
pub front : {O : Type 0} (u : O) (n : ℕ) (ops : List RawVal) (go : List RawVal → List RawVal → O) → n ≤ length ops →
    on.on_front u n ops go ≡ go (take n ops) (drop n ops)
front u n ops go le = ap (λ b. cond b (go (take n ops) (drop n ops)) u) (le-leb n (length ops) le)

pub few : {O : Type 0} (u : O) (n : ℕ) (ops : List RawVal) (go : List RawVal → List RawVal → O) → length ops < n →
    on.on_front u n ops go ≡ u
few u n ops go lt = ap (λ b. cond b (go (take n ops) (drop n ops)) u) (lt-leb n (length ops) lt)

either_owing : (c : Configuration) (w : World) (b : Bool) (x y : Outcome) → owing c x ≡ y →
    owing c (cond b x (Over Stuck w)) ≡ cond b y (Over Stuck w)
either_owing c w true x y h = h
either_owing c w false x y h =
    outwards_over c.activation c.layers c.values.below.operands c.values.below.locals Stuck w

-- the state with a block around other code
abbrev pub entered : Configuration → Label → List Instr → ValuesParts → Configuration
entered c p code v = record { activation = c.activation; code = code; layers = Block p ∷ c.layers; values = v }

-- what is owed behind inner code is what a state with the block around that code means
pub enters : (c : Configuration) (p : Label) (code : List Instr) (n : ℕ) (v : ValuesParts) (w : World) →
    p.rest.now ≡ c.code → HasOpened n c.values v →
    owing c (after exec (Run (frame_at c) c.code) (exit p.arity (target_of (frame_at c) c.code p.again))
    (drop n c.values.operands)
    (exec (Run (frame_at c) code) (state w c.values.locals (take n c.values.operands))))
    ≡ means (entered c p code v) w
enters c p code n v w er h =
    let fr = frame_at c in
    ap (λ is. owing c (after exec (Run fr is) (exit p.arity (target_of fr is p.again)) (drop n c.values.operands)
    (exec (Run fr code) (state w c.values.locals (take n c.values.operands))))) (sym er)
    ∙ ap (λ (b : Below). outwards c.activation (Block p ∷ c.layers) b.operands b.locals
    (exec (Run fr code) (state w c.values.locals (take n c.values.operands)))) (sym h.below)
    ∙ ap (λ ops. outwards c.activation (Block p ∷ c.layers) v.below.operands v.below.locals
    (exec (Run fr code) (state w c.values.locals ops))) (sym h.operands)
    ∙ ap (λ locals. outwards c.activation (Block p ∷ c.layers) v.below.operands v.below.locals
    (exec (Run fr code) (state w locals v.operands))) (sym h.locals)

-- a block at its end
pub closes : (c : Configuration) (p : Label) (ls : List Layer) (v : ValuesParts) (w : World) → c.layers ≡ Block p ∷ ls
    → c.code ≡ [] → HasFinished c.values v →
    means c w ≡ means (record { activation = c.activation; code = p.rest.now; layers = ls; values = v }) w
closes c p ls v w el ec h =
    let fr = frame_at c in
    ap (λ is. owing c (exec (Run fr is) (state_at c w))) ec
    ∙ ap (λ o. owing c o) (run_nil fr (state_at c w))
    ∙ ap (λ xs. outwards c.activation xs c.values.below.operands c.values.below.locals (Values (state_at c w))) el
    ∙ ap (λ b. outwards c.activation (Block p ∷ ls) b c.values.below.locals (Values (state_at c w))) h.around
    ∙ ap (λ (b : Below). outwards c.activation ls b.operands b.locals
    (exec (Run fr p.rest.now) (state w c.values.locals (c.values.operands ++ h.outer)))) (sym h.below)
    ∙ ap (λ ops. outwards c.activation ls v.below.operands v.below.locals
    (exec (Run fr p.rest.now) (state w c.values.locals ops))) (sym h.operands)
    ∙ ap (λ locals. outwards c.activation ls v.below.operands v.below.locals
    (exec (Run fr p.rest.now) (state w locals v.operands))) (sym h.locals)

pub closes_lost : (c : Configuration) (p : Label) (ls : List Layer) (w : World) → c.layers ≡ Block p ∷ ls →
    c.code ≡ [] → c.values.below.operands ≡ [] →
    means c w ≡ Over Stuck w
closes_lost c p ls w el ec eb =
    ap (λ is. owing c (exec (Run (frame_at c) is) (state_at c w))) ec
    ∙ ap (λ o. owing c o) (run_nil (frame_at c) (state_at c w))
    ∙ ap (λ xs. outwards c.activation xs c.values.below.operands c.values.below.locals (Values (state_at c w))) el
    ∙ ap (λ b. outwards c.activation (Block p ∷ ls) b c.values.below.locals (Values (state_at c w))) eb

-- ---- the code of a block of the function

module _ (fr : Frame) (b : ℕ) (o : Opening) (x : Opens fr b o) where
  pub found_block : (s : State) (go : CodeBlock → Signature → Outcome) → on_block fr b s go ≡ go x.body x.ty
  found_block s go =
      ap (λ y. on.found (stuck s) y (λ (block : CodeBlock).
      on.found (stuck s) (slice_get fr.decl.types block.ty) (go block))) x.found_body
      ∙ ap (λ y. on.found (stuck s) y (go x.body)) x.found_ty

  -- code behind the operands that it takes along
  inside_front : (s : State) (e : Exit) (next : Code) (inner : State → Outcome) → o.params ≤ length s.operands →
      inside exec next e x.ty s inner ≡ after exec next e (drop o.params s.operands)
      (inner (with_operands s (take o.params s.operands)))
  inside_front s e next inner le =
      ap (λ n. on.on_front (stuck s) n s.operands (λ front below.
      after exec next e below (inner (with_operands s front)))) (sym x.params)
      ∙ front (stuck s) o.params s.operands (λ front below. after exec next e below (inner (with_operands s front))) le

  inside_few : (s : State) (e : Exit) (next : Code) (inner : State → Outcome) → length s.operands < o.params →
      inside exec next e x.ty s inner ≡ stuck s
  inside_few s e next inner lt =
      ap (λ n. on.on_front (stuck s) n s.operands (λ front below.
      after exec next e below (inner (with_operands s front)))) (sym x.params)
      ∙ few (stuck s) o.params s.operands (λ front below. after exec next e below (inner (with_operands s front))) lt

-- the code of a loop behind its check
abbrev pub checked : (State → Outcome) → State → Outcome
checked inner own = check own.world (λ w. inner (record own { world = w }))

module _ (c : Configuration) (b : ℕ) (w : World) where
  pub block_absent : IsOpening (frame_at c) b None →
      owing c (block exec (frame_at c) b c.code (state_at c w)) ≡ Over Stuck w
  block_absent e = owing_over c (block exec (frame_at c) b c.code (state_at c w)) Stuck w (e (state_at c w) _)

  pub loop_absent : (inner : CodeBlock → State → Outcome) → IsOpening (frame_at c) b None →
      owing c (iterate exec (frame_at c) b c.code (state_at c w) inner) ≡ Over Stuck w
  loop_absent inner e = owing_over c (iterate exec (frame_at c) b c.code (state_at c w) inner) Stuck w
      (e (state_at c w) _)

  module _ (o : Opening) (x : Opens (frame_at c) b o) where
    block_found : block exec (frame_at c) b c.code (state_at c w)
        ≡ inside exec (Run (frame_at c) c.code) (exit (length (results x.ty)) (Run (frame_at c) c.code)) x.ty
        (state_at c w) (exec (Run (frame_at c) x.body.instrs))
    block_found = found_block (frame_at c) b o x (state_at c w)
        (λ body t. inside exec (Run (frame_at c) c.code) (exit (length (results t)) (Run (frame_at c) c.code)) t
        (state_at c w) (exec (Run (frame_at c) body.instrs)))

    loop_found : (inner : CodeBlock → State → Outcome) →
        iterate exec (frame_at c) b c.code (state_at c w) inner
        ≡ inside exec (Run (frame_at c) c.code) (loop_exit (frame_at c) b c.code x.ty) x.ty (state_at c w)
        (checked (inner x.body))
    loop_found inner =
        found_block (frame_at c) b o x (state_at c w) (λ body t.
        inside exec (Run (frame_at c) c.code) (loop_exit (frame_at c) b c.code t) t (state_at c w)
        (checked (inner body)))

    pub block_few : length c.values.operands < o.params →
        owing c (block exec (frame_at c) b c.code (state_at c w)) ≡ Over Stuck w
    block_few lt =
        owing_over c (block exec (frame_at c) b c.code (state_at c w)) Stuck w (block_found
        ∙ inside_few (frame_at c) b o x (state_at c w) (exit (length (results x.ty)) (Run (frame_at c) c.code))
        (Run (frame_at c) c.code) (exec (Run (frame_at c) x.body.instrs)) lt)

    pub loop_few : (inner : CodeBlock → State → Outcome) → length c.values.operands < o.params →
        owing c (iterate exec (frame_at c) b c.code (state_at c w) inner) ≡ Over Stuck w
    loop_few inner lt =
        owing_over c (iterate exec (frame_at c) b c.code (state_at c w) inner) Stuck w (loop_found inner
        ∙ inside_few (frame_at c) b o x (state_at c w) (loop_exit (frame_at c) b c.code x.ty)
        (Run (frame_at c) c.code) (checked (inner x.body)) lt)

    module _ (p : Label) (v : ValuesParts) (rest : p.rest.now ≡ c.code) (h : HasOpened o.params c.values v) where
      le : o.params ≤ length c.values.operands
      le = h.enough

      -- a block
      pub block_enters : p.arity ≡ o.results → p.again ≡ None →
          owing c (block exec (frame_at c) b c.code (state_at c w)) ≡ means (entered c p o.code.now v) w
      block_enters ea en =
          let fr = frame_at c in
          let s = state_at c w in
          let due : ℕ → Option ℕ → List Instr → Outcome = λ n again is.
          owing c (after exec (Run fr c.code) (exit n (target_of fr c.code again)) (drop o.params s.operands)
          (exec (Run fr is) (with_operands s (take o.params s.operands)))) in
          ap (λ o. owing c o) (block_found ∙ inside_front fr b o x s (exit (length (results x.ty)) (Run fr c.code))
          (Run fr c.code) (exec (Run fr x.body.instrs)) le)
          ∙ ap (λ n. due n None x.body.instrs) (sym (ea ∙ x.results))
          ∙ ap (λ y. due p.arity y x.body.instrs) (sym en)
          ∙ ap (λ is. due p.arity p.again is) (sym x.code)
          ∙ enters c p o.code.now o.params v w rest h

      -- a loop, of which the code is run behind the check
      pub loop_enters : (inner : CodeBlock → State → Outcome) → p.arity ≡ o.params → p.again ≡ Some b →
          ((s : State) → inner x.body s ≡ exec (Run (frame_at c) o.code.now) s) →
          owing c (iterate exec (frame_at c) b c.code (state_at c w) inner)
          ≡ check w (means (entered c p o.code.now v))
      loop_enters inner ea en ei =
          let fr = frame_at c in
          let s = state_at c w in
          let due : ℕ → Option ℕ → Outcome → Outcome = λ n again o'.
          owing c (after exec (Run fr c.code) (exit n (target_of fr c.code again)) (drop o.params s.operands) o') in
          let front_of = with_operands s (take o.params s.operands) in
          ap (λ o. owing c o) (loop_found inner ∙ inside_front fr b o x s (loop_exit fr b c.code x.ty)
          (Run fr c.code) (checked (inner x.body)) le)
          ∙ check_through (λ o'. due (length (params x.ty)) (Some b) o')
          (λ e u. outwards_over c.activation c.layers c.values.below.operands c.values.below.locals e u)
          (λ u. inner x.body (record front_of { world = u })) (means (entered c p o.code.now v))
          (λ u. ap (λ n. due n (Some b) (inner x.body (record front_of { world = u }))) (sym (ea ∙ x.params))
          ∙ ap (λ y. due p.arity y (inner x.body (record front_of { world = u }))) (sym en)
          ∙ ap (λ o'. due p.arity p.again o') (ei (record front_of { world = u }))
          ∙ enters c p o.code.now o.params v u rest h) w

    -- the code of the instruction, and that of a branch back to it
    pub run_inner : (s : State) → exec (Run (frame_at c) x.body.instrs) s ≡ exec (Run (frame_at c) o.code.now) s
    run_inner s = ap (λ is. exec (Run (frame_at c) is) s) (sym x.code)

    pub again_inner : (j : Instr) (js : List Instr) → o.code.now ≡ j ∷ js → (s : State) →
        at_once exec (frame_at c) x.body.instrs s ≡ exec (Run (frame_at c) o.code.now) s
    again_inner j js e s =
        ap (λ is. at_once exec (frame_at c) is s) (sym x.code ∙ e) ∙ sym (run_cons (frame_at c) j js s)
        ∙ ap (λ is. exec (Run (frame_at c) is) s) (sym e)

    -- an empty one is never branched from: where the check passes nothing fits
    pub again_empty : o.code.now ≡ [] →
        owing c (iterate exec (frame_at c) b c.code (state_at c w) (λ body. at_once exec (frame_at c) body.instrs))
        ≡ cond (nat_le o.params (length c.values.operands)) (check w (λ v. Over Stuck v)) (Over Stuck w)
    again_empty e =
        let fr = frame_at c in
        let s = state_at c w in
        let inner : CodeBlock → State → Outcome = λ body. at_once exec fr body.instrs in
        let F : Outcome → Outcome = λ o'.
        owing c (after exec (Run fr c.code) (loop_exit fr b c.code x.ty) (drop (length (params x.ty)) c.values.operands)
        o') in
        ap (λ o. owing c o) (loop_found inner
        ∙ ap (λ is. inside exec (Run fr c.code) (loop_exit fr b c.code x.ty) x.ty s (checked (at_once exec fr is)))
        (sym x.code ∙ e))
        ∙ either_owing c w (nat_le (length (params x.ty)) (length c.values.operands)) _ (check w (λ v. Over Stuck v))
        (check_through F (λ e u. outwards_over c.activation c.layers c.values.below.operands c.values.below.locals e u)
        (λ v. Over Stuck v) (λ v. Over Stuck v)
        (λ v. outwards_over c.activation c.layers c.values.below.operands c.values.below.locals Stuck v) w)
        ∙ ap (λ n. cond (nat_le n (length c.values.operands)) (check w (λ v. Over Stuck v)) (Over Stuck w))
        (sym x.params)

-- ---- branches

module _ (a : Activation) (p : Label) (ls : List Layer) (old : ValuesParts) (skipped : ℕ) (w : World) where
  -- what is due at a branch to the block p, past so many blocks
  abbrev pub branching : Outcome
  branching = past a skipped (Block p ∷ ls) old.below.operands old.below.locals
      (Branch 0 (state w old.locals old.operands))

  pub branch_stuck : CannotClose skipped p.arity old → branching ≡ Over Stuck w
  branch_stuck (inr e) = past_none a skipped (Block p ∷ ls) old.below.operands old.below.locals
      (Branch 0 (state w old.locals old.operands)) e
  branch_stuck (inl lt) =
      past_stuck a skipped (Block p ∷ ls) old.below.operands old.below.locals
      (Branch 0 (state w old.locals old.operands)) w refl (λ ops further.
      ap (λ o. outwards a ls further old.below.locals o)
      (few (stuck (state w old.locals old.operands)) p.arity old.operands
      (λ front rest. exec (target_of (frame_of a) p.rest.now p.again) (state w old.locals (front ++ ops))) lt)
      ∙ outwards_over a ls further old.below.locals Stuck w)

  module _ (v : ValuesParts) (h : HasClosed skipped p.arity old v) where
    -- the state behind the branch
    abbrev pub branched : Configuration
    branched = record { activation = a; code = p.rest.now; layers = ls; values = v }

    branch_target : branching ≡ owing branched (exec (target_of (frame_of a) p.rest.now p.again) (state_at branched w))
    branch_target =
        let due : List RawVal → List RawVal → Below → Outcome = λ ops locals b.
        outwards a ls b.operands b.locals (exec (target_of (frame_of a) p.rest.now p.again) (state w locals ops))
        in
        past_found a skipped (Block p ∷ ls) old.below.operands old.below.locals h.outer h.further
        (Branch 0 (state w old.locals old.operands)) h.around
        ∙ ap (λ o. outwards a ls h.further old.below.locals o)
        (front (stuck (state w old.locals old.operands)) p.arity old.operands
        (λ front rest. exec (target_of (frame_of a) p.rest.now p.again) (state w old.locals (front ++ h.outer)))
        h.enough)
        ∙ ap (λ b. due (take p.arity old.operands ++ h.outer) old.locals b) (sym h.below)
        ∙ ap (λ ops. due ops old.locals v.below) (sym h.operands)
        ∙ ap (λ locals. due v.operands locals v.below) (sym h.locals)

    pub branch_out : p.again ≡ None → branching ≡ means branched w
    branch_out e = branch_target ∙ ap (λ y. owing branched
        (exec (target_of (frame_of a) p.rest.now y) (state_at branched w))) e

    pub branch_again : (b : ℕ) → p.again ≡ Some b → branching
        ≡ owing branched (iterate exec (frame_at branched) b branched.code (state_at branched w)
        (λ body. at_once exec (frame_at branched) body.instrs))
    branch_again b e =
        branch_target
        ∙ ap (λ y. owing branched (exec (target_of (frame_of a) p.rest.now y) (state_at branched w))) e
        ∙ ap (λ o. owing branched o) (again_at_once (frame_at branched) b p.rest.now (state_at branched w))
