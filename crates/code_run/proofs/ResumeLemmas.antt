-- A thread behind a function of the host that its code called.
use Rattle.std.proofs.Common.{◌≡◌, ℕ, zero, suc, ◌-◌, ◌≤◌, ◌<◌, min, List, [], ◌∷◌, ◌++◌, drop, length, inl, inr, refl, sym, ap, ◌∙◌, append_assoc, arith, false}
use Rattle.std.proofs.lemmas.Bool.{cases_lt}
use Rattle.std.proofs.Math.Seq.{take-append_seam}
use Rattle.std.proofs.lemmas.List.{reverse-append, reverse-reverse, length-reverse, length-drop, take-append-drop, take_all}
use Rattle.std.specs.Prelude.{◌⊎◌, reverse, take}
use Rattle.wasm_objects.specs.declared.raw.RawVal.{RawVal}
use Rattle.spec_execution.specs.Bodies.{exec}
use Rattle.spec_execution.specs.Entering.{Run}
use Rattle.spec_execution.specs.Outcomes.{World, state, Outcome, Over, End}
use Rattle.code_stack.specs.Values.{Below}
use Rattle.wasm_syntax.specs.declared.instr.Instr.{Instr}
use Rattle.code_stack.specs.Layers.{Configuration, frame_of, outwards, resumed}
use Rattle.code_run.specs.Pausing.{Resumes, ResumeWaits}
use Rattle.code_stack.specs.Steps.{taken_by}
use Rattle.code_run.specs.Steps.{seen}
use Rattle.code_leaps.specs.Turns.{going}
use Rattle.code_stack.specs.declared.layers.Activation.{Activation}
use Rattle.code_stack.specs.declared.layers.Layer.{Layer}
use Rattle.code_stack.specs.declared.steps.HostCall.{HostCall}
use Rattle.code_run.specs.declared.thread.Thread.{Thread}
use Rattle.code_stack.proofs.LayerLemmas.{outwards_over}
use Rattle.code_run.proofs.NoTurnLemmas.{means_halts}

-- an early end of the function goes outwards as it is
pub resumed_over : (c : Configuration) (count : ℕ) (e : End) (w : World) → resumed c count (Over e w) ≡ Over e w
resumed_over c count e w = outwards_over c.activation c.layers c.values.below.operands c.values.below.locals e w

-- the results take the place of the arguments
pub resumes : (old new : Thread) (call : HostCall) (results : List RawVal) → new.unchecked ≡ false →
    new.activation ≡ old.activation → new.code.now ≡ old.code.now → new.layers ≡ old.layers →
    new.values.operands ≡ reverse results ++ drop (taken_by call) old.values.operands →
    new.values.locals ≡ old.values.locals → new.values.below ≡ old.values.below → Resumes old call results new
resumes old new call results eu ea ec es eo el eb = λ w.
    let ops = reverse results ++ drop (taken_by call) old.values.operands in
    let due : Activation → List Instr → List Layer → Below → List RawVal → List RawVal → Outcome =
    λ a is ls b own ops.
    outwards a ls b.operands b.locals (exec (Run (frame_of a) is) (state w own ops)) in
    ap (λ a. due a old.code.now old.layers old.values.below old.values.locals ops) (sym ea)
    ∙ ap (λ is. due new.activation is old.layers old.values.below old.values.locals ops) (sym ec)
    ∙ ap (λ ls. due new.activation new.code.now ls old.values.below old.values.locals ops) (sym es)
    ∙ ap (λ b. due new.activation new.code.now new.layers b old.values.locals ops) (sym eb)
    ∙ ap (λ own. due new.activation new.code.now new.layers new.values.below own ops) (sym el)
    ∙ ap (λ ops. due new.activation new.code.now new.layers new.values.below new.values.locals ops) (sym eo)
    ∙ ap (λ b. going b (seen new) w) (sym eu)

pub resume_waits : (old : Thread) (call : HostCall) (results : List RawVal) → ResumeWaits old call results
resume_waits old call results = λ w none.
    let v = old.values in
    means_halts (record {
      activation = old.activation;
      code = old.code.now;
      layers = old.layers;
      values = record v { operands = reverse results ++ drop (taken_by call) v.operands };
    }) w none

-- ---- operands

pub dropped_more : {A : Type 0} (left : ℕ) (old new : List A) (x : A) → old ≡ x ∷ new → 0 < left →
    drop (left - 1) new ≡ drop left old
dropped_more zero old new x e lt = absurd (omega (arith, lt))
dropped_more (suc k) old new x e lt =
    let z : suc k - 1 ≡ k = omega arith in
    ap (λ n. drop n new) z ∙ sym (ap (λ ys. drop (suc k) ys) e)

pub added_more : {A : Type 0} (x : A) (xs ys : List A) → reverse xs ++ (x ∷ ys) ≡ reverse (x ∷ xs) ++ ys
added_more x xs ys =
    sym (ap (λ zs. zs ++ ys) (reverse-append (x ∷ []) xs) ∙ append_assoc (reverse xs) (x ∷ []) ys)

drop_past : {A : Type 0} (n : ℕ) (xs : List A) → length xs ≤ n → drop n xs ≡ []
drop_past zero [] le = refl
drop_past (suc n) [] le = refl
drop_past zero (x ∷ xs) le = absurd (omega (arith, le))
drop_past (suc n) (x ∷ xs) le = drop_past n xs (omega (arith, le))

pub drop_most : {A : Type 0} (n : ℕ) (xs : List A) → drop (min n (length xs)) xs ≡ drop n xs
drop_most n xs = by_length (cases_lt (length xs) n)
  where
    by_length : (length xs < n) ⊎ (n ≤ length xs) → drop (min n (length xs)) xs ≡ drop n xs
    by_length (inl lt) =
        let z : min n (length xs) ≡ length xs = omega (arith, lt) in
        ap (λ k. drop k xs) z ∙ drop_past (length xs) xs (omega arith) ∙ sym (drop_past n xs (omega (arith, lt)))
    by_length (inr le) =
        let z : min n (length xs) ≡ n = omega (arith, le) in
        ap (λ k. drop k xs) z

-- the last items, turned round, are the first ones of the list turned round
pub last_items : {A : Type 0} (n : ℕ) (xs ys : List A) → xs ≡ reverse ys →
    reverse (drop (length xs - n) xs) ≡ take n ys
last_items n xs ys e = by_length (cases_lt (length xs) n)
  where
    turned_back : reverse xs ≡ ys
    turned_back = ap reverse e ∙ reverse-reverse ys

    by_length : (length xs < n) ⊎ (n ≤ length xs) → reverse (drop (length xs - n) xs) ≡ take n ys
    by_length (inl lt) =
        let z : length xs - n ≡ 0 = omega (arith, lt) in
        ap (λ k. reverse (drop k xs)) z ∙ turned_back
        ∙ sym (take_all n ys (omega (arith, lt, ap length e, length-reverse ys)))
    by_length (inr le) =
        let front = reverse (drop (length xs - n) xs) in
        let back = reverse (take (length xs - n) xs) in
        let cut : reverse xs ≡ front ++ back =
        ap reverse (sym (take-append-drop (length xs - n) xs))
        ∙ reverse-append (take (length xs - n) xs) (drop (length xs - n) xs) in
        let so_many : length front ≡ n =
        omega (arith, le, length-reverse (drop (length xs - n) xs), length-drop (length xs - n) xs) in
        sym (take-append_seam front back) ∙ ap (λ k. take k (front ++ back)) so_many
        ∙ ap (take n) (sym cut ∙ turned_back)
