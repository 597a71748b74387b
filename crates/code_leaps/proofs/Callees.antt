-- A function is called.
use Rattle.std.proofs.Common.{◌≡◌, ℕ, suc, ◌≤◌, ◌<◌, List, [], ◌∷◌, ◌++◌, length, take, drop, Option, Some, None, sym, ap, ◌∙◌, arith, true, false}
use Rattle.std.specs.Prelude.{nat_eq, cond, reverse, slice_get, Bool}
use Rattle.std.proofs.lemmas.Bool.Decides.{nat_tests}
use Rattle.wasm_types.specs.FunctionParts.{params, results}
use Rattle.wasm_types.specs.Signatures.{Signature}
use Rattle.wasm_syntax.specs.declared.declarations.Block.{Block as CodeBlock}
use Rattle.wasm_syntax.specs.declared.instr.Instr.{Instr}
use Rattle.wasm_values.specs.declared.externals.Extern.{Extern}
use Rattle.wasm_values.specs.declared.refusals.Trap.TheVariants as trap
use Rattle.wasm_objects.specs.declared.raw.RawVal.{RawVal}
use Rattle.spec_machine.specs.Machine.{Machine, Function, guest, host, InstanceParts}
use Rattle.spec_machine.specs.Values.{function_type}
use Rattle.spec_execution.specs.Bodies.{stuck, back, call, exec}
use Rattle.spec_execution.specs.Checks.{check}
use Rattle.spec_execution.specs.Entering.{Frame, Run, leave, enter, enter_function, enter_guest, enter_host, run_body, begun_locals, frame}
use Rattle.spec_execution.specs.Operands as on
use Rattle.spec_execution.specs.Outcomes.{World, State, state, Outcome, Over, Trapped, Stuck}
use Rattle.code_stack.specs.declared.layers.Activation.{Activation}
use Rattle.code_stack.specs.declared.layers.Caller.{Caller}
use Rattle.code_stack.specs.Values.{Below, ValuesParts}
use Rattle.code_stack.specs.declared.layers.Layer.TheVariants.{Call}
use Rattle.code_stack.specs.Layers.{frame_of, outwards, Configuration, frame_at, owing, state_at, means}
use Rattle.code_stack.specs.Steps.{HasCalled, hosted}
use Rattle.code_stack.specs.declared.steps.HostCall.{HostCall}
use Rattle.code_leaps.proofs.CheckLemmas.{check_through}
use Rattle.code_stack.proofs.LayerLemmas.{outwards_over, owing_over}
use Rattle.code_leaps.proofs.Labels.{front, few}

-- the state as a function is called
abbrev pub called : Configuration → Activation → Caller → List Instr → ValuesParts → Configuration
called c a q code v = record { activation = a; code = code; layers = Call q ∷ c.layers; values = v }

-- a function that an instance has: all that is looked up as it is entered, but for its body
pub record IsGuestTo (m : Machine) (n : ℕ) (a : Activation) (t : Signature) : Type 0 where
  pub number : ℕ
  pub parts : InstanceParts
  pub found_function : slice_get m.functions n ≡ Some (guest a.instance number)
  pub found_instance : slice_get m.instances a.instance ≡ Some parts
  pub found_decl : slice_get parts.decl.functions number ≡ Some a.function.now
  pub found_type : slice_get parts.decl.types a.function.now.ty ≡ Some t
  pub decl : a.«module».now ≡ parts.decl

module _ (n : ℕ) (args : List RawVal) (caller : Option ℕ) (w : World) (depth : ℕ) where
  by_depth : Outcome → Bool → Outcome
  by_depth o b = cond b (Over (Trapped trap.StackOverflow) w) o

  pub enter_deep : depth ≡ w.machine.engine.frames →
      enter exec depth n args caller w ≡ Over (Trapped trap.StackOverflow) w
  unfolding by_depth
  enter_deep e =
      let eq : nat_eq depth w.machine.engine.frames ≡ true = grind (arith, nat_tests) in
      ap (λ b. by_depth (on.found (Over Stuck w) (slice_get w.machine.functions n)
      (enter_function exec depth args caller w)) b) eq

  module _ (shallow : nat_eq depth w.machine.engine.frames ≡ false) where
    pub enter_found : (o : Option Function) → slice_get w.machine.functions n ≡ o →
        enter exec depth n args caller w ≡ on.found (Over Stuck w) o (enter_function exec depth args caller w)
    unfolding by_depth
    enter_found o e =
        ap (λ b. by_depth (on.found (Over Stuck w) (slice_get w.machine.functions n)
        (enter_function exec depth args caller w)) b) shallow
        ∙ ap (λ o. on.found (Over Stuck w) o (enter_function exec depth args caller w)) e

    pub enter_none : slice_get w.machine.functions n ≡ None → enter exec depth n args caller w ≡ Over Stuck w
    enter_none e = enter_found None e

    pub enters_host : (t : Signature) (body : ℕ) (stored : List Extern) →
        slice_get w.machine.functions n ≡ Some (host t body stored) →
        enter exec depth n args caller w ≡ enter_host exec depth t body stored args caller w
    enters_host t body stored e = enter_found (Some (host t body stored)) e

    -- up to the block of the body
    enter_body : (a : Activation) (t : Signature) (x : IsGuestTo w.machine n a t) → a.depth ≡ suc depth →
        enter exec depth n args caller w ≡ on.found (Over Stuck w) (slice_get a.function.now.blocks 0)
        (run_body exec (frame_of a) args w t)
    enter_body a t x ed =
        let fn = a.function.now in
        let fr : InstanceParts → Frame = λ parts. frame a.instance parts fn (suc depth) in
        enter_found (Some (guest a.instance x.number)) x.found_function
        ∙ ap (λ o. on.found (Over Stuck w) o (λ parts.
        on.found (Over Stuck w) (slice_get parts.decl.functions x.number)
        (λ function. enter_guest exec depth a.instance parts function args w))) x.found_instance
        ∙ ap (λ o. on.found (Over Stuck w) o (λ function. enter_guest exec depth a.instance x.parts function args w))
        x.found_decl
        ∙ ap (λ o. on.found (Over Stuck w) o (λ t. on.found (Over Stuck w) (slice_get fn.blocks 0)
        (run_body exec (fr x.parts) args w t))) x.found_type
        ∙ ap (λ d. on.found (Over Stuck w) (slice_get fn.blocks 0)
        (run_body exec (record { instance = a.instance; decl = d; function = fn; depth = suc depth }) args w t))
        (sym x.decl)
        ∙ ap (λ d. on.found (Over Stuck w) (slice_get fn.blocks 0)
        (run_body exec (record { instance = a.instance; decl = a.«module».now; function = fn; depth = d }) args w t))
        (sym ed)

    pub enter_bodiless : (a : Activation) (t : Signature) → IsGuestTo w.machine n a t → a.depth ≡ suc depth →
        slice_get a.function.now.blocks 0 ≡ None →
        enter exec depth n args caller w ≡ Over Stuck w
    enter_bodiless a t x ed e = enter_body a t x ed
        ∙ ap (λ o. on.found (Over Stuck w) o (run_body exec (frame_of a) args w t)) e

    -- behind the check its code runs
    pub enter_is : (a : Activation) (t : Signature) (body : CodeBlock) → IsGuestTo w.machine n a t →
        a.depth ≡ suc depth → slice_get a.function.now.blocks 0 ≡ Some body →
        a.results ≡ length (results t) →
        enter exec depth n args caller w ≡ check w (λ v. leave a.results
        (exec (Run (frame_of a) body.instrs) (state v (args ++ begun_locals a.function.now) [])))
    enter_is a t body x ed e er =
        let fn = a.function.now in
        enter_body a t x ed
        ∙ ap (λ o. on.found (Over Stuck w) o (run_body exec (frame_of a) args w t)) e
        ∙ ap (λ k. check w (λ v. leave k (exec (Run (frame_of a) body.instrs) (state v (args ++ begun_locals fn) []))))
        (sym er)

module _ (c : Configuration) (w : World) (n : ℕ) where
  behind : ℕ → List RawVal → List RawVal → Outcome
  behind depth args below = back exec (Run (frame_at c) c.code) c.values.locals below
      (enter exec depth n args (Some c.activation.instance) w)

  with_type : Option Signature → Outcome
  with_type o = on.found (stuck (state_at c w)) o
      (λ t. on.on_front (stuck (state_at c w)) (length (params t)) c.values.operands
      (λ front below. behind c.activation.depth (reverse front) below))

  pub call_untyped : function_type w.machine n ≡ None →
      owing c (call exec (frame_at c) c.code (state_at c w) n) ≡ Over Stuck w
  unfolding behind with_type
  call_untyped e = owing_over c (call exec (frame_at c) c.code (state_at c w) n) Stuck w (ap with_type e)

  module _ (t : Signature) (count : ℕ) (typed : function_type w.machine n ≡ Some t)
      (count_is : count ≡ length (params t)) where
    pub call_few : length c.values.operands < count →
        owing c (call exec (frame_at c) c.code (state_at c w) n) ≡ Over Stuck w
    unfolding behind with_type
    call_few lt =
        owing_over c (call exec (frame_at c) c.code (state_at c w) n) Stuck w
        (ap with_type typed ∙ ap (λ k. on.on_front (stuck (state_at c w)) k c.values.operands
        (λ front below. behind c.activation.depth (reverse front) below)) (sym count_is)
        ∙ few (stuck (state_at c w)) count c.values.operands
        (λ front below. behind c.activation.depth (reverse front) below) lt)

    module _ (le : count ≤ length c.values.operands) where
      -- the call is that of the function, and what is behind it
      call_enters : call exec (frame_at c) c.code (state_at c w) n ≡ behind c.activation.depth
          (reverse (take count c.values.operands)) (drop count c.values.operands)
      unfolding behind with_type
      call_enters =
          ap with_type typed ∙ ap (λ k. on.on_front (stuck (state_at c w)) k c.values.operands
          (λ front below. behind c.activation.depth (reverse front) below)) (sym count_is)
          ∙ front (stuck (state_at c w)) count c.values.operands
          (λ front below. behind c.activation.depth (reverse front) below) le

      pub call_deep : c.activation.depth ≡ w.machine.engine.frames →
          owing c (call exec (frame_at c) c.code (state_at c w) n) ≡ Over (Trapped trap.StackOverflow) w
      unfolding behind
      call_deep e =
          owing_over c (call exec (frame_at c) c.code (state_at c w) n) (Trapped trap.StackOverflow) w
          (call_enters ∙ ap (λ o. back exec (Run (frame_at c) c.code) c.values.locals (drop count c.values.operands) o)
          (enter_deep n (reverse (take count c.values.operands)) (Some c.activation.instance)
          w c.activation.depth e))

      module _ (shallow : nat_eq c.activation.depth w.machine.engine.frames ≡ false) where
        pub call_none : slice_get w.machine.functions n ≡ None →
            owing c (call exec (frame_at c) c.code (state_at c w) n) ≡ Over Stuck w
        unfolding behind
        call_none e =
            owing_over c (call exec (frame_at c) c.code (state_at c w) n) Stuck w
            (call_enters ∙ ap (λ o. back exec (Run (frame_at c) c.code) c.values.locals (drop count c.values.operands)
            o)
            (enter_none n (reverse (take count c.values.operands)) (Some c.activation.instance)
            w c.activation.depth shallow e))

        pub call_host : (x : HostCall) → count ≡ length (params x.ty.now) →
            slice_get w.machine.functions n ≡ Some (host x.ty.now x.body x.stored.now) →
            owing c (call exec (frame_at c) c.code (state_at c w) n) ≡ hosted c x w
        unfolding behind
        call_host x ec e =
            ap (λ o. owing c o) call_enters
            ∙ ap (λ o. owing c (back exec (Run (frame_at c) c.code) c.values.locals (drop count c.values.operands) o))
            (enters_host n (reverse (take count c.values.operands)) (Some c.activation.instance)
            w c.activation.depth shallow x.ty.now x.body x.stored.now e)
            ∙ ap (λ k. owing c (back exec (Run (frame_at c) c.code) c.values.locals (drop k c.values.operands)
            (enter_host exec c.activation.depth x.ty.now x.body x.stored.now
            (reverse (take k c.values.operands)) (Some c.activation.instance) w))) ec

        pub call_bodiless : (a : Activation) (ty : Signature) → IsGuestTo w.machine n a ty →
            a.depth ≡ suc c.activation.depth → slice_get a.function.now.blocks 0 ≡ None →
            owing c (call exec (frame_at c) c.code (state_at c w) n) ≡ Over Stuck w
        unfolding behind
        call_bodiless a ty x ed e =
            owing_over c (call exec (frame_at c) c.code (state_at c w) n) Stuck w
            (call_enters ∙ ap (λ o. back exec (Run (frame_at c) c.code) c.values.locals (drop count c.values.operands)
            o)
            (enter_bodiless n (reverse (take count c.values.operands)) (Some c.activation.instance)
            w c.activation.depth shallow a ty x ed e))

        pub call_guest : (a : Activation) (q : Caller) (body : CodeBlock) (ty : Signature) (v : ValuesParts) →
            IsGuestTo w.machine n a ty →
            a.depth ≡ suc c.activation.depth → slice_get a.function.now.blocks 0 ≡ Some body →
            a.results ≡ length (results ty) →
            q.activation ≡ c.activation → q.rest.now ≡ c.code →
            HasCalled count (begun_locals a.function.now) c.values v →
            owing c (call exec (frame_at c) c.code (state_at c w) n) ≡ check w (means (called c a q body.instrs v))
        unfolding behind
        call_guest a q body ty v x ed eb es eq er h =
            let below = drop count c.values.operands in
            let code = body.instrs in
            let started : World → State = λ u.
            state u (reverse (take count c.values.operands) ++ begun_locals a.function.now) [] in
            let due : World → Activation → List Instr → Outcome = λ u b is.
            outwards b c.layers c.values.below.operands c.values.below.locals
            (back exec (Run (frame_of b) is) c.values.locals below
            (leave a.results (exec (Run (frame_of a) code) (started u)))) in
            let all : Below → State → Outcome = λ b s. outwards a (Call q ∷ c.layers) b.operands b.locals
            (exec (Run (frame_of a) code) s) in
            ap (λ o. owing c o) (call_enters ∙ ap (λ o. back exec (Run (frame_at c) c.code) c.values.locals below o)
            (enter_is n (reverse (take count c.values.operands)) (Some c.activation.instance)
            w c.activation.depth shallow a ty body x ed eb es))
            ∙ check_through (λ o. owing c (back exec (Run (frame_at c) c.code) c.values.locals below o))
            (λ e u. outwards_over c.activation c.layers c.values.below.operands c.values.below.locals e u)
            (λ u. leave a.results (exec (Run (frame_of a) code) (started u))) (means (called c a q body.instrs v))
            (λ u. ap (λ b. due u b c.code) (sym eq)
            ∙ ap (λ is. due u q.activation is) (sym er)
            ∙ ap (λ b. all b (started u)) (sym h.below)
            ∙ ap (λ locals. all v.below (state u locals [])) (sym h.locals)
            ∙ ap (λ ops. all v.below (state u v.locals ops)) (sym h.operands)) w
