-- The start function of a module takes nothing and gives nothing, and runs by the law of calls.
use Rattle.std.proofs.Common.{◌≡◌, ℕ, true, List, [], ◌∷◌, map, slice_get, Option, Some, None, refl, sym, ap, ◌∙◌, subst}
use Rattle.std.specs.Prelude.{option_to_list}
use Rattle.std.specs.Option.{option_flatten}
use Rattle.wasm_types.proofs.ChainLemmas.{fits_along_chains}
use Rattle.wasm_types.proofs.MatchingLemmas.{no}
use Rattle.wasm_types.specs.Each.{Each}
use Rattle.wasm_types.specs.EqualityLaws.{both}
use Rattle.wasm_types.specs.FunctionParts.{params, results}
use Rattle.wasm_types.specs.Matching.{all_match}
use Rattle.wasm_types.specs.Signatures.{Signature}
use Rattle.wasm_types.specs.declared.value_types.ValType.{ValType}
use Rattle.wasm_syntax.specs.Contexts.{functions, imported, as_function, function_type}
use Rattle.wasm_syntax.specs.Modules.{IsModule}
use Rattle.wasm_syntax.specs.Rules.{is_there, has_types, is_plain}
use Rattle.wasm_syntax.specs.Shapes.{is_empty}
use Rattle.wasm_syntax.specs.declared.declarations.FuncDecl.{FuncDecl}
use Rattle.wasm_syntax.specs.declared.declarations.ModuleDecl.{ModuleDecl}
use Rattle.wasm_syntax.specs.declared.module_fault.Rule.TheVariants as rule
use Rattle.spec_machine.specs.WellFormed.{HasFunction, Has}
use Rattle.spec_execution.specs.Entering.{Exec, entry}
use Rattle.spec_execution.specs.Instantiation.{start}
use Rattle.spec_execution.specs.Outcomes.{World, Outcome, Over, Stuck, Values, Branch, Return}
use Rattle.law_store.proofs.Lists.{each_append}
use Rattle.law_code.specs.Good.{IsGoodWorld, IsReturned, IsLaterWorld, IsInstanceOf, IsInstantiated}
use Rattle.law_code.specs.Runs.{IsSoundExec}
use Rattle.law_code.specs.Typed.{HaveTypes}
use Rattle.law_code.proofs.Combinators.{at_found}
use Rattle.law_code.proofs.ConstantLemmas.{IsNamed}
use Rattle.law_code.proofs.EntryLemmas.{entry_good}
use Rattle.law_code.proofs.Functions.{not_false, within, function_sound}
use Rattle.law_code.proofs.IndexLemmas.{member, Mapped, map-at}
use Rattle.law_code.proofs.SegmentLemmas.{made_later}
use Rattle.law_code.proofs.Worlds.{later_own}
use Rattle.law_code.proofs.Ends.{good_earlier, end_earlier}

none_left : (tys : List ValType) → all_match [] tys ≡ true → tys ≡ []
none_left [] p = refl
none_left (ty ∷ tys) p = no p

none_right : (tys : List ValType) → all_match tys [] ≡ true → tys ≡ []
none_right [] p = refl
none_right (ty ∷ tys) p = no p

empty_is : (tys : List ValType) → is_empty tys ≡ true → tys ≡ []
empty_is [] p = refl
empty_is (ty ∷ tys) p = no p

-- what is declared of a function has a type
functions_signed : (d : ModuleDecl) → IsModule d → Each (functions d) (λ o. (ty : Signature) × (o ≡ Some ty))
functions_signed d is =
    each_append (λ o. (ty : Signature) × (o ≡ Some ty)) (map Some (imported as_function d))
    (map (λ (f : FuncDecl). slice_get d.types f.ty) d.functions)
    (λ n o p.
    let q : Mapped Some (imported as_function d) n o = map-at Some (imported as_function d) n o p in
    (q.item, sym q.is))
    (λ n o p.
    let q : Mapped (λ (f : FuncDecl). slice_get d.types f.ty) d.functions n o =
    map-at (λ (f : FuncDecl). slice_get d.types f.ty) d.functions n o p in
    let there : has_types d q.item ≡ true =
    not_false (has_types d q.item) ((is.valid rule.Index).in_functions n q.item q.found) in
    let ty : (x : Signature) × (slice_get d.types q.item.ty ≡ Some x) = within d.types q.item.ty (both _ _ there).0 in
    (ty.0, sym q.is ∙ ty.1))

-- the start function of a module, by its index: it has a number and a type without parameters and results
record IsStart (d : ModuleDecl) (k : ℕ) : Type 0 where
  ty : Signature
  declared : slice_get (functions d) k ≡ Some (Some ty)
  no_params : params ty ≡ []
  no_results : results ty ≡ []

start_is : (d : ModuleDecl) (k : ℕ) → IsModule d → d.start ≡ Some k → IsStart d k
start_is d k is e =
    let first : slice_get (option_to_list d.start) 0 ≡ Some k = ap (λ o. slice_get (option_to_list o) 0) e in
    let o : (o : Option Signature) × (slice_get (functions d) k ≡ Some o) =
    within (functions d) k (not_false (is_there (functions d) k) ((is.valid rule.Index).in_start 0 k first)) in
    let ty : (ty : Signature) × (o.0 ≡ Some ty) = functions_signed d is k o.0 o.1 in
    let at : slice_get (functions d) k ≡ Some (Some ty.0) = o.1 ∙ ap Some ty.1 in
    let plain : is_plain (Some ty.0) ≡ true =
    sym (ap (λ x. is_plain (option_flatten x)) at)
    ∙ not_false (is_plain (function_type (functions d) k)) ((is.valid rule.Start).in_start 0 k first) in
    record {
      ty = ty.0;
      declared = at;
      no_params = empty_is (params ty.0) (both _ _ plain).0;
      no_results = empty_is (results ty.0) (both _ _ plain).1;
    }

-- behind a call from a world in which the instance is there
made_behind : (base w : World) (n : ℕ) (d : ModuleDecl) (o : Outcome) → IsLaterWorld base w →
    IsInstanceOf w.machine n d → IsReturned w [] o → IsInstantiated base n d o
made_behind base w n d (Values s) x made h =
    (good_earlier base w x [] [] s h, made_later w.machine s.world.machine n d h.world.later.store made)
made_behind base w n d (Over e v) x made h = end_earlier base w x e v h
made_behind base w n d (Branch l s) x made h = absurd h
made_behind base w n d (Return s) x made h = absurd h

module _ (f : Exec) (sound : IsSoundExec f) (base : World) (depth : ℕ) (d : ModuleDecl) (is : IsModule d)
    (number : ℕ) where
  start_runs : (instance : ℕ) (fs : List ℕ) (w : World) (k : ℕ) → IsGoodWorld base w →
      IsInstanceOf w.machine number d → Has (functions d) fs (IsNamed w.machine) → IsStart d k →
      IsInstantiated base number d (start f depth instance fs w (Some k))
  start_runs instance fs w k g made have s =
      let n : (n : ℕ) × (slice_get fs k ≡ Some n) = member (functions d) fs k (Some s.ty) have.as_many s.declared in
      let h : HasFunction w.machine s.ty n.0 = have.each k (Some s.ty) n.0 s.declared n.1 s.ty refl in
      let along : (all_match (params s.ty) (params h.ty) ≡ true) × (all_match (results h.ty) (results s.ty) ≡ true) =
      fits_along_chains h.ty s.ty (function_sound w.machine g.well n.0 h.ty h.found) h.fits in
      let takes : params h.ty ≡ [] =
      none_left (params h.ty) (subst (λ tys. all_match tys (params h.ty) ≡ true) s.no_params along.0) in
      let gives : results h.ty ≡ [] =
      none_right (results h.ty) (subst (λ tys. all_match (results h.ty) tys ≡ true) s.no_results along.1) in
      let own : IsGoodWorld w w = record { well = g.well; later = later_own w; turns = g.turns; typed = g.typed } in
      at_found (IsInstantiated base number d) (Over Stuck w) (slice_get fs k) n.0
      (λ j. entry f depth j [] (Some instance) w) n.1
      (made_behind base w number d (entry f depth n.0 [] (Some instance) w) g.later made
      (subst (λ tys. IsReturned w tys (entry f depth n.0 [] (Some instance) w)) gives
      (entry_good w f sound w depth n.0 [] (Some instance) h.ty h.found own
      (subst (λ tys. HaveTypes w.machine tys []) (sym takes) tt))))

  pub start_good : (instance : ℕ) (fs : List ℕ) (w : World) (o : Option ℕ) → d.start ≡ o → IsGoodWorld base w →
      IsInstanceOf w.machine number d → Has (functions d) fs (IsNamed w.machine) →
      IsInstantiated base number d (start f depth instance fs w o)
  start_good instance fs w None e g made have = (record { world = g; locals_are = tt; operands_are = tt }, made)
  start_good instance fs w (Some k) e g made have = start_runs instance fs w k g made have (start_is d k is e)
