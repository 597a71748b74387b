-- What a body of the host returns, by whether its values are results of its function.
use Rattle.std.proofs.Common.{◌≡◌, ℕ, List, [], ◌∷◌, ◌++◌, length, refl, ap, sym, ◌∙◌, arith, Bool, true, false}
use Rattle.std.specs.List.{list_all}
use Rattle.std.specs.Prelude.{◌&&◌, reverse, map, if◌then◌else◌}
use Rattle.wasm_types.specs.declared.value_types.ValType.{ValType}
use Rattle.wasm_objects.specs.declared.raw.RawVal.{RawVal}
use Rattle.wasm_values.specs.declared.refusals.Refusal.TheVariants.{HostResultType}
use Rattle.wasm_values.specs.declared.values.Val.{Val}
use Rattle.spec_machine.specs.Machine.{Machine}
use Rattle.spec_machine.specs.Values.{owns_val, val_fits, all_fit, raw_val}
use Rattle.spec_execution.specs.Askings.{Answer, Asking}
use Rattle.spec_execution.specs.Hosts.{returned}
use Rattle.spec_execution.specs.Outcomes.{world, state, Values, Over, Refused}
use Rattle.store_state.specs.Parts.{HeldParts}
use Rattle.code_leaps.specs.Leading.{Doing, Setting, at, Leads}
use Rattle.code_leaps.proofs.PartLemmas.{leads_none, leads_from}
use Rattle.code_hosts.specs.Contexts.{KeepsStores, opened_in}
use Rattle.code_hosts.specs.declared.context.RunContext.{RunContext}

-- a value more fits, and a type more
pub fit_more : (m : Machine) (val : Val) (ty : ValType) (tail rest : List Val) (further wanted : List ValType) →
    rest ≡ val ∷ tail → wanted ≡ ty ∷ further → (owns_val m val ≡ true) × (val_fits m val ty ≡ true) →
    list_all (owns_val m) tail ≡ true → all_fit m tail further ≡ true →
    (list_all (owns_val m) rest ≡ true) × (all_fit m rest wanted ≡ true)
fit_more m val ty tail rest further wanted er ew one owns fits = (
  ap (list_all (owns_val m)) er ∙ ap (λ (b : Bool). b && list_all (owns_val m) tail) one.0 ∙ owns,
  ap (λ (vals : List Val). all_fit m vals wanted) er ∙ ap (λ (types : List ValType). all_fit m (val ∷ tail) types) ew
      ∙ ap (λ (b : Bool). b && all_fit m tail further) one.1 ∙ fits,
)

-- no value and no type
pub fit_none : (m : Machine) (rest : List Val) (wanted : List ValType) → length rest ≡ 0 → length wanted ≡ 0 →
    (list_all (owns_val m) rest ≡ true) × (all_fit m rest wanted ≡ true)
fit_none m [] [] er ew = (refl, refl)
fit_none m [] (ty ∷ wanted) er ew = absurd (omega (arith, ew))
fit_none m (val ∷ rest) wanted er ew = absurd (omega (arith, er))

module _ (c : RunContext) (types : List ValType) (vals : List Val) (h h' : HeldParts)
    (stays : KeepsStores (opened_in c) h h') (are : Bool)
    (are_is : (base : Machine) → (opened_in c).is_base base →
    (list_all (owns_val ((opened_in c).put base h)) vals && all_fit ((opened_in c).put base h) vals types) ≡ are) where
  abbrev g : Setting HeldParts
  g = opened_in c

  abbrev due : Doing
  due w = returned w types vals

  leads_to : (b : Doing) → ((base : Machine) → g.is_base base → (turns : ℕ) (before : List Asking)
      (answers : List Answer) → due (at g base h turns before answers) ≡ b (at g base h turns before answers)) →
      Leads g due h 0 [] b h'
  leads_to b same =
      let l : Leads g due h 0 [] b h = leads_from g due b h same 0 [] b h (leads_none g b h) in
      record {
        by = λ base x extra before rest.
            l.by base x extra before rest
            ∙ ap (λ (m : Machine). b (world m extra (before ++ []) rest)) (sym (stays base x));
      }

  pub refuses : are ≡ false → Leads g due h 0 [] (Over (Refused HostResultType)) h'
  refuses e =
      leads_to (Over (Refused HostResultType)) (λ base x turns before answers.
      let w = at g base h turns before answers in
      ap (λ (b : Bool). if b then Values (state w [] (reverse (map raw_val vals))) else Over (Refused HostResultType) w)
      (are_is base x ∙ e))

  pub returns_them : are ≡ true → (raws : List RawVal) → raws ≡ map raw_val vals →
      Leads g due h 0 [] (λ w. Values (state w [] (reverse raws))) h'
  returns_them e raws same =
      leads_to (λ w. Values (state w [] (reverse raws))) (λ base x turns before answers.
      let w = at g base h turns before answers in
      ap (λ (b : Bool). if b then Values (state w [] (reverse (map raw_val vals))) else Over (Refused HostResultType) w)
      (are_is base x ∙ e)
      ∙ ap (λ (rs : List RawVal). Values (state w [] (reverse rs))) (sym same))
