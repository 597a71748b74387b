-- A typed call: where it ends before its run, and where it is the call of its function.
use Rattle.std.proofs.Common.{rules, ap, ◌∙◌, sym, subst, arith}
use Rattle.std.proofs.Math.Seq.{take-append_seam}
use Rattle.std.proofs.lemmas.List.{append-nil}
use lib.ListN.{take}
use Rattle.std.specs.List.{list_all}
use Rattle.std.specs.Option.{ok_or}
use Rattle.std.specs.Prelude.{◌≡◌, ℕ, zero, suc, ◌≤◌, pos, Bool, true, false, not, List, ◌++◌, length, map, nat_eq, [], ◌∷◌, Option, Some, None, is_some, Result, Ok, Err, IfErr, IsErrAnd, ⊤, refl, if◌then◌else◌}
use Rattle.wasm_types.specs.Equality.{same}
use Rattle.wasm_types.specs.EqualityLaws.{same_is}
use Rattle.wasm_types.specs.FunctionParts.{params, results}
use Rattle.wasm_types.specs.Signatures.{Signature}
use Rattle.wasm_types.specs.declared.value_types.ValType.{ValType}
use Rattle.wasm_values.specs.Handles.{func_store, func_index}
use Rattle.wasm_values.specs.declared.refusals.Refusal.{Refusal}
use Rattle.wasm_values.specs.declared.refusals.Refusal.TheVariants.{TypeMismatch, WrongStore, ArgumentCount, ResultCount}
use Rattle.wasm_values.specs.declared.values.Val.{Val}
use Rattle.wasm_values.specs.declared.values.Val.TheVariants as v
use Rattle.spec_machine.specs.Commands.{Row, Refuse, invokes}
use Rattle.spec_machine.specs.FunctionCalls.{Called, called, is_count}
use Rattle.spec_machine.specs.Machine.{Machine}
use Rattle.spec_machine.specs.Steps.{◌>>=◌, unless}
use Rattle.spec_machine.specs.ValueCalls.{func_ty}
use Rattle.spec_machine.specs.Values.{is_id, function_type, owns_val, raw_val, all_fit}
use Rattle.spec_machine.specs.declared.reply.Reply.TheVariants as reply
use Rattle.spec_execution.specs.Askings.{Asking, Relations}
use Rattle.spec_execution.specs.Outcomes.{world}
use Rattle.typed_values.specs.ListLaws.{EachAccepted}
use Rattle.typed_values.specs.StaticTypes.{all_checked}
use Rattle.typed_values.specs.declared.checks.TypeCheckPosition.TheVariants as at
use Rattle.wasm_call.proofs.RepliedCallLemmas.{failed_by}
use Rattle.wasm_call.proofs.StopLemmas.{refused_cut}
use Rattle.wasm_call.specs.Calls.{call_row, Failed, ResultsFit}
use Rattle.store_state.specs.Conditions.{conditions}
use Rattle.wasm_store.specs.Stores.{StoreParts}
use Rattle.wasm_call.specs.Confined.{handled}
use Rattle.wasm_call.specs.Outcomes.{AnsweredRow, CutRow}
use Rattle.wasm_call.specs.Outside.{Moving, Surrounded, surrounded, typed}
use Rattle.wasm_typed.specs.TypedFunctions.{TypedFunction, fits_types, is_kept, typed_called, typed_row}

-- the store, with its turns counted anew
abbrev pub begun : {T H E : Type 0} → Surrounded T H E → Surrounded T H E
begun s = surrounded (record s.store { turns = 0 }) s.host s.epochs

module _ {T H E : Type 0} (moves : Moving T H E) (old : Surrounded T H E) where
  -- a refusal that is due: nothing is heard
  refusal_told : (why : Refusal) → AnsweredRow moves (Refuse why) old (reply.Refused why) (begun old)
  refusal_told why = record {
    heard = [];
    left = old.store.machine.engine.turns;
    within = omega arith;
    chained = refl;
    ends = λ before rest.
        ap (λ (heard : List Asking). Some (
          reply.Refused why,
          world old.store.machine old.store.machine.engine.turns heard rest,
        )) (sym (append-nil before));
  }

  cut_begun : (row : Row) → CutRow moves row (begun old) (begun old) → CutRow moves row old (begun old)
  cut_begun row k = record {
    led = record {
      heard = k.led.heard;
      left = k.led.left;
      within = k.led.within;
      chained = k.led.chained;
      ends = λ before rest. k.led.ends before rest;
    };
    within = k.within;
  }

  refused_cut_begun : (why : Refusal) → CutRow moves (Refuse why) old (begun old)
  refused_cut_begun why = cut_begun (Refuse why) (refused_cut moves (begun old) refl why)

  refused_by : (row : Row) (why : Refusal) → row ≡ Refuse why → Failed moves row old why (begun old)
  refused_by row why e =
      subst (λ (r : Row). Failed moves r old why (begun old)) (sym e)
      (failed_by moves (Refuse why) old (begun old) why (refusal_told why) (refused_cut_begun why))

  module _ (f : TypedFunction) (args : List Val) (n : ℕ) where
    abbrev m : Machine
    m = old.store.machine

    -- a condition of it was not met
    pub unstarted : (why : Refusal) → typed_called m f args n ≡ Err why → Failed moves (typed_row m f args n) old why (begun old)
    unstarted why e = refused_by (typed_row m f args n) why (ap (λ (due : Result Called Refusal). invokes due) e)

-- ---- a function of the type that it had

bound : (r s : Result ⊤ Refusal) → (r >>= λ _. s) ≡ Ok tt → s ≡ Ok tt
bound (Ok u) s e = e
bound (Err why) s e = absurd cc

holds : (why : Refusal) (b : Bool) → unless why b ≡ Ok tt → b ≡ true
holds why true e = refl
holds why false e = absurd cc

-- ---- its call, by whether the function and the arguments are of the store

module _ (m : Machine) (f : TypedFunction) (args : List Val) where
  abbrev owned : Bool
  owned = list_all (owns_val m) args

  -- the call of the function, and the typed call, by the type of the function
  abbrev called_by : Option ℕ → Result Signature Refusal → Bool → Result Called Refusal
  called_by wanted due own = do
    t ← due
    _ ← unless WrongStore own
    _ ← unless ArgumentCount (nat_eq (length args) (length (params t)))
    _ ← unless ResultCount (is_count wanted (length (results t)))
    _ ← unless TypeMismatch (all_fit m args (params t))
    Ok (record { function = func_index f.func; arguments = map raw_val args; results = results t })

  abbrev typed_by : ℕ → Result Signature Refusal → Bool → Result Called Refusal
  typed_by n due own = do
    t ← due
    _ ← unless WrongStore own
    _ ← unless TypeMismatch (same t f.ty)
    called m f.func args (Some n)

  abbrev kept_by : Result Signature Refusal → Result ⊤ Refusal
  kept_by due = do
    own ← due
    unless TypeMismatch (same own f.ty)

  called_where : (wanted : Option ℕ) (due : Result Signature Refusal) (own : Bool) → func_ty m f.func ≡ due → owned ≡ own →
      called m f.func args wanted ≡ called_by wanted due own
  called_where wanted due own e e' = λ i. called_by wanted (e i) (e' i)

  typed_where : (n : ℕ) (due : Result Signature Refusal) (own : Bool) → func_ty m f.func ≡ due → owned ≡ own →
      typed_called m f args n ≡ typed_by n due own
  typed_where n due own e e' = λ i. typed_by n (e i) (e' i)

  unmatched : (n : ℕ) (own : Signature) (b : Bool) → same own f.ty ≡ b → func_ty m f.func ≡ Ok own → owned ≡ true →
      typed_called m f args n ≡ (unless TypeMismatch b >>= λ _. called m f.func args (Some n))
  unmatched n own b e found of =
      typed_where n (Ok own) true found of
      ∙ ap (λ (s : Bool). unless TypeMismatch s >>= λ _. called m f.func args (Some n)) e

  -- of the type that it had it is the call of the function
  called_as : (n : ℕ) (due : Result Signature Refusal) (own : Bool) → func_ty m f.func ≡ due → owned ≡ own →
      kept_by due ≡ Ok tt → typed_called m f args n ≡ called m f.func args (Some n)
  called_as n (Ok ty) true e of kept = unmatched n ty true (holds TypeMismatch (same ty f.ty) kept) e of
  called_as n (Ok ty) false e of kept =
      typed_where n (Ok ty) false e of ∙ sym (called_where (Some n) (Ok ty) false e of)
  called_as n (Err why) own e of kept = absurd cc

  pub called_is : (n : ℕ) → is_kept m f ≡ Ok tt → typed_called m f args n ≡ called m f.func args (Some n)
  called_is n kept = called_as n (func_ty m f.func) owned refl refl kept

  -- a function that is not of the store
  pub missing : (why : Refusal) → func_ty m f.func ≡ Err why → (n : ℕ) → typed_called m f args n ≡ Err why
  missing why e n = typed_where n (Err why) owned e refl

  -- of another type: what is told first of a call of it says whether the arguments are of the store
  not_later : (b c d : Bool) (done : Called) → conditions (unless ArgumentCount b >>= λ _. unless ResultCount c >>= λ _.
      unless TypeMismatch d >>= λ _. Ok done) ≡ Err WrongStore → ⊥
  not_later true true true done e = cc
  not_later true true false done e = cc
  not_later true false d done e = cc
  not_later false c d done e = cc

  strange_by : (n : ℕ) (own : Signature) (b : Bool) → func_ty m f.func ≡ Ok own → owned ≡ b →
      conditions (called m f.func args None) ≡ Err WrongStore → typed_called m f args n ≡ Err WrongStore
  strange_by n own false found of told = typed_where n (Ok own) false found of
  strange_by n own true found of told =
      absurd (not_later (nat_eq (length args) (length (params own))) true (all_fit m args (params own)) _
      (sym (ap (λ (due : Result Called Refusal). conditions due) (called_where None (Ok own) true found of)) ∙ told))

  pub strange : (own : Signature) → func_ty m f.func ≡ Ok own → conditions (called m f.func args None) ≡ Err WrongStore →
      (n : ℕ) → typed_called m f args n ≡ Err WrongStore
  strange own found told n = strange_by n own owned found refl told

  other_by : (n : ℕ) (own : Signature) (b : Bool) → func_ty m f.func ≡ Ok own → owned ≡ b →
      ¬ (conditions (called m f.func args None) ≡ Err WrongStore) → same own f.ty ≡ false →
      typed_called m f args n ≡ Err TypeMismatch
  other_by n own false found of told e =
      absurd (told (ap (λ (due : Result Called Refusal). conditions due) (called_where None (Ok own) false found of)))
  other_by n own true found of told e = unmatched n own false e found of

  pub other : (own : Signature) → func_ty m f.func ≡ Ok own → ¬ (conditions (called m f.func args None) ≡ Err WrongStore) →
      same own f.ty ≡ false → (n : ℕ) → typed_called m f args n ≡ Err TypeMismatch
  other own found told e n = other_by n own owned found refl told e

found : (b : Bool) (o : Option Signature) (ty : Signature) →
    ((if b then ok_or o WrongStore else Err WrongStore) >>= λ own. unless TypeMismatch (same own ty)) ≡ Ok tt →
    o ≡ Some ty
found true (Some own) ty e = ap Some (same_is own ty (holds TypeMismatch (same own ty) e))
found true None ty e = absurd cc
found false o ty e = absurd cc

pub kept_type : (m : Machine) (f : TypedFunction) → is_kept m f ≡ Ok tt →
    function_type m (func_index f.func) ≡ Some f.ty
kept_type m f e = found (is_id (func_store f.func) m.id) (function_type m (func_index f.func)) f.ty e

-- results that fit its type can be read back
pub comes_back : {R : Type 0} (of_vals : List Val → Option R) (taken given : List ValType) →
    EachAccepted of_vals given → (m after : Machine) (f : TypedFunction) (vals : List Val) → is_kept m f ≡ Ok tt →
    fits_types taken given f.ty ≡ Ok tt → ResultsFit m f.func after vals → is_some (of_vals vals) ≡ true
comes_back of_vals taken given accepted m after f vals kept fits fit =
    accepted after vals (results f.ty) (fit f.ty (kept_type m f kept))
    (bound (all_checked taken (params f.ty) at.Param) (all_checked given (results f.ty) at.Result) fits)

-- what is not not so
pub so : (b r : Bool) → r ≡ not b → r ≡ false → b ≡ true
so b r = search rules

-- a function that is there, of the type that it had
pub kept : (m : Machine) (f : TypedFunction) (own : Signature) → func_ty m f.func ≡ Ok own → same own f.ty ≡ true →
    is_kept m f ≡ Ok tt
kept m f own = search rules

-- ---- what ends before its run

module _ {T H E : Type 0} (r : Relations T H E) (old : StoreParts T) (host : H) (epochs : E) (f : TypedFunction)
    (args : List Val) (n : ℕ) where
  abbrev around : Surrounded T H E
  around = surrounded old host epochs

  pub unstarted_in : (new : StoreParts T) → new ≡ record old { turns = 0 } → (why : Refusal) →
      typed_called old.machine f args n ≡ Err why →
      Failed (typed r) (typed_row old.machine f args n) around why (surrounded new host epochs)
  unstarted_in new e why due =
      subst (λ (s : StoreParts T). Failed (typed r) (typed_row old.machine f args n) around why (surrounded s host epochs))
      (sym e) (unstarted (typed r) around f args n why due)

-- ---- the call of the function, of the type that it had

module _ (m : Machine) (f own : TypedFunction) (args vals : List Val) (k n : ℕ) (same_function : own ≡ f)
    (same_args : args ≡ vals) (same_count : k ≡ n) (kept : is_kept m f ≡ Ok tt) where
  pub due_is : called m own.func args (Some k) ≡ typed_called m f vals n
  due_is = (λ i. called m (same_function i).func (same_args i) (Some (same_count i))) ∙ sym (called_is m f vals n kept)

  pub row_is : call_row m own.func args (Some k) ≡ typed_row m f vals n
  row_is = ap (λ (due : Result Called Refusal). invokes due) due_is

  pub from_is : handled m.id own.func args ≡ handled m.id f.func vals
  from_is = λ i. handled m.id (same_function i).func (same_args i)

pub failed_on : {T H E A : Type 0} (moves : Moving T H E) (row other : Row) (old new : Surrounded T H E) (x : Refusal)
    (result : Result A Refusal) → row ≡ other → Failed moves row old x new → result ≡ Err x →
    IfErr result (λ why. Failed moves other old why new)
failed_on moves row other old new x result e h is =
    subst (λ (r : Result _ Refusal). IfErr r (λ why. Failed moves other old why new)) (sym is)
    (subst (λ (r : Row). Failed moves r old x new) e h)

pub told_as : {A : Type 0} (result : Result A Refusal) (x : Refusal) → IsErrAnd result (λ told. told ≡ x) → result ≡ Err x
told_as (Ok a) x e = absurd e
told_as (Err why) x e = ap (λ (w : Refusal). Err w) e

pub told_err : {A : Type 0} (due other : Result Called Refusal) (x : Refusal) (result : Result A Refusal) → due ≡ other →
    IfErr due (λ why. ◌≡◌ {A = Result ⊤ Refusal} (Err x) (Err why)) → result ≡ Err x →
    IfErr other (λ why. result ≡ Err why)
told_err due other x result e h is = subst (λ (d : Result Called Refusal). IfErr d (λ why. result ≡ Err why)) e (by due h)
  where
    by : (d : Result Called Refusal) → IfErr d (λ why. ◌≡◌ {A = Result ⊤ Refusal} (Err x) (Err why)) →
        IfErr d (λ why. result ≡ Err why)
    by (Ok c) h = tt
    by (Err why) h = let same_cause : x ≡ why = cc in is ∙ ap (λ (w : Refusal). Err w) same_cause

pub never_due : {A : Type 0} (due other : Result Called Refusal) (a : A) → due ≡ other →
    IfErr due (λ why. ◌≡◌ {A = Result ⊤ Refusal} (Ok tt) (Err why)) →
    IfErr other (λ why. ◌≡◌ {A = Result A Refusal} (Ok a) (Err why))
never_due {A} due other a e h =
    subst (λ (d : Result Called Refusal). IfErr d (λ why. ◌≡◌ {A = Result A Refusal} (Ok a) (Err why))) e (by due h)
  where
    by : (d : Result Called Refusal) → IfErr d (λ why. ◌≡◌ {A = Result ⊤ Refusal} (Ok tt) (Err why)) →
        IfErr d (λ why. ◌≡◌ {A = Result A Refusal} (Ok a) (Err why))
    by (Ok c) h = tt
    by (Err why) h = absurd cc

abbrev called_of : TypedFunction → List Val → Signature → Called
called_of f args t = record { function = func_index f.func; arguments = map raw_val args; results = results t }

-- why a typed call is refused before its run
module _ (P : Refusal → Type 0) (other_store : P WrongStore) (unlike_it : P TypeMismatch) (args_count : P ArgumentCount)
    (results_count : P ResultCount) (why : Refusal) where
  by_rest : (s x y z : Bool) (done : Called) → (unless TypeMismatch s >>= λ _. unless ArgumentCount x >>= λ _.
      unless ResultCount y >>= λ _. unless TypeMismatch z >>= λ _. Ok done) ≡ Err why → P why
  by_rest true true true true done e = absurd cc
  by_rest true true true false done e = let same_cause : TypeMismatch ≡ why = cc in subst P same_cause unlike_it
  by_rest true true false z done e = let same_cause : ResultCount ≡ why = cc in subst P same_cause results_count
  by_rest true false y z done e = let same_cause : ArgumentCount ≡ why = cc in subst P same_cause args_count
  by_rest false x y z done e = let same_cause : TypeMismatch ≡ why = cc in subst P same_cause unlike_it

  pub unmet_cause :
      (store : Machine) (f : TypedFunction) (args : List Val) (n : ℕ) → typed_called store f args n ≡ Err why → P why
  unmet_cause store f args n e =
      by (is_id (func_store f.func) store.id) (function_type store (func_index f.func)) (list_all (owns_val store) args) e
    where
      by : (b : Bool) (o : Option Signature) (own : Bool) →
          ((if b then ok_or o WrongStore else Err WrongStore) >>= λ t. unless WrongStore own >>= λ _.
          unless TypeMismatch (same t f.ty) >>= λ _. (if b then ok_or o WrongStore else Err WrongStore) >>= λ t.
          unless WrongStore own >>= λ _. unless ArgumentCount (nat_eq (length args) (length (params t))) >>= λ _.
          unless ResultCount (nat_eq n (length (results t))) >>= λ _. unless TypeMismatch (all_fit store args (params t))
          >>= λ _. Ok (called_of f args t)) ≡ Err why → P why
      by true (Some t) true e =
          by_rest (same t f.ty) (nat_eq (length args) (length (params t))) (nat_eq n (length (results t)))
          (all_fit store args (params t)) (called_of f args t) e
      by true (Some t) false e = let same_cause : WrongStore ≡ why = cc in subst P same_cause other_store
      by true None own e = let same_cause : WrongStore ≡ why = cc in subst P same_cause other_store
      by false o own e = let same_cause : WrongStore ≡ why = cc in subst P same_cause other_store

-- ---- room for the results

abbrev pub room : List Val
room = v.I32 (pos 0) ∷ v.I32 (pos 0) ∷ v.I32 (pos 0) ∷ v.I32 (pos 0) ∷ v.I32 (pos 0) ∷ v.I32 (pos 0) ∷ []

pub few_of : (n k : ℕ) → n ≡ k → k ≤ 6 → n ≤ length room
few_of n k e l = subst (λ (j : ℕ). j ≤ 6) (sym e) l

pub taken_length : (n : ℕ) (xs : List Val) → n ≤ length xs → length (take n xs) ≡ n
taken_length zero xs l = refl
taken_length (suc n) [] l = absurd (omega (arith, l))
taken_length (suc n) (x ∷ xs) l = ap suc (taken_length n xs (omega (arith, l)))

long : (xs ys : List Val) → length xs ≤ length (xs ++ ys)
long [] ys = omega arith
long (x ∷ xs) ys = let k = long xs ys in omega (arith, k)

pub fits_in : (n : ℕ) (xs ys : List Val) → length xs ≡ n → n ≤ length (xs ++ ys)
fits_in n xs ys e = subst (λ (k : ℕ). k ≤ length (xs ++ ys)) e (long xs ys)

-- ---- results that fit are read back

pub whole : (n : ℕ) (xs ys : List Val) → length xs ≡ n → take n (xs ++ ys) ≡ xs
whole n xs ys e = ap (λ (k : ℕ). take k (xs ++ ys)) (sym e) ∙ take-append_seam xs ys

pub as_long : (n : ℕ) (xs ys : List Val) → length xs ≡ n → n ≡ length (take n (xs ++ ys))
as_long n xs ys e = sym e ∙ ap length (sym (whole n xs ys e))

pub not_none : {R : Type 0} (o : Option R) → is_some o ≡ true → None ≡ o → ⊥
not_none (Some r) there none = cc
not_none None there none = cc
