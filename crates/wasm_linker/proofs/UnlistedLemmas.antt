-- What an instantiation by names comes to where there is no memory for a list of the objects.
use Rattle.std.proofs.Common.{◌≡◌, ℕ, List, [], ◌++◌, Option, Some, refl, sym, ap, ◌∙◌, subst, inl, inr, zero-add, append-nil, Result, Ok, Err}
use Rattle.std.specs.Prelude.{⊤, IfErr}
use Rattle.wasm_syntax.specs.declared.declarations.ModuleDecl.{ModuleDecl}
use Rattle.wasm_values.specs.declared.externals.Extern.{Extern}
use Rattle.wasm_values.specs.declared.handles.Instance.{Instance}
use Rattle.wasm_values.specs.declared.refusals.Refusal.{Refusal}
use Rattle.wasm_values.specs.declared.refusals.Refusal.TheVariants as refusal
use Rattle.spec_machine.specs.Commands.{Instantiate}
use Rattle.spec_machine.specs.Machine.{Machine}
use Rattle.spec_machine.specs.declared.reply.Reply.TheVariants as reply
use Rattle.spec_execution.specs.Askings.{Asking}
use Rattle.spec_execution.specs.Bodies.{exec}
use Rattle.spec_execution.specs.Commands.{Early, by_run, instance_reply, replied}
use Rattle.spec_execution.specs.Instantiation.{imports_fit, by_checks}
use Rattle.spec_execution.specs.Outcomes.{world}
use Rattle.linker_map.specs.Imports.{resolved}
use Rattle.linker_map.specs.Linkers.{LinkerParts}
use Rattle.linker_map.specs.declared.faults.LinkFault.{LinkFault}
use Rattle.linker_map.specs.declared.faults.LinkFault.TheVariants.{UnknownImport, Refused, OutOfMemory}
use Rattle.wasm_call.specs.Outcomes.{AnsweredRow, answer_of}
use Rattle.wasm_call.specs.Outside.{Moving, Surrounded, surrounded}
use Rattle.wasm_instance.specs.Instances.{IsUntouched, InstantiationFailed, Instantiated}
use Rattle.wasm_linker.specs.InPlace.{fit_in_place, told_unlisted}
use Rattle.wasm_linker.specs.Linking.{Links, OfRefusal, RefusesItems}
use Rattle.wasm_linker.proofs.FitLemmas.{fit_same, checks_say, placed_say, told_plain, OfChecks}
use Rattle.wasm_linker.proofs.LinkLemmas.{Names, both_name, short_names_none}

-- ---- the checks refuse it

module _ {T H E : Type 0} (moves : Moving T H E) (d : ModuleDecl) (items : List Extern) (old : Surrounded T H E) where
  abbrev begun : Surrounded T H E
  begun = surrounded (record old.store { turns = 0 }) old.host old.epochs

  abbrev fits : Result ⊤ Refusal
  fits = imports_fit old.store.machine d items

  unfit_row : (why : Refusal) → fits ≡ Err why →
      AnsweredRow moves (Instantiate d items) old (reply.Refused why) begun
  unfit_row why due =
      let m : Machine = old.store.machine in
      let all : ℕ = m.engine.turns in
      record {
        heard = [];
        left = all;
        within = zero-add all;
        chained = refl;
        ends = λ before rest.
            ap (λ (r : Result ⊤ Refusal).
            answer_of (by_run Early (instance_reply m) replied (by_checks exec 0 (world m all before rest) d items r)))
            due
            ∙ ap (λ (heard : List Asking). Some (reply.Refused why, world m all heard rest)) (sym (append-nil before));
      }

  unfit_ends : (new : Surrounded T H E) → IsUntouched old new → (why : Refusal) → fits ≡ Err why →
      Instantiated moves d items old (Err why) new
  unfit_ends new untouched why due =
      subst (λ (s : Surrounded T H E). Instantiated moves d items old (Err why) s) (sym untouched)
      (checks_say (λ w. AnsweredRow moves (Instantiate d items) old (reply.Refused w) begun →
      InstantiationFailed moves d items old w begun)
      (record { store = λ h. h; engine = λ h. h; count = λ h. h; type = λ n h. h })
      old.store.machine d items why due (unfit_row why due))

  -- all but the turns is as it was, and what is due is told
  pub unlisted_links : (l : LinkerParts) (new : Surrounded T H E) (fault : LinkFault) → IsUntouched old new →
      fault ≡ told_unlisted (fit_in_place old.store.machine d l) → resolved l d.imports ≡ Some items →
      Links moves d items old (Err fault) new
  unlisted_links l new fault untouched told e =
      by fits refl (told ∙ ap told_unlisted (fit_same old.store.machine d l items e))
    where
      by : (due : Result ⊤ Refusal) → fits ≡ due → fault ≡ told_unlisted due → Links moves d items old (Err fault) new
      by (Ok u) due is = inl (untouched, ap Err is)
      by (Err why) due is = inr (record {
        answer = Err why;
        told_so = ap Err (is ∙ told_plain old.store.machine d items why due);
        instantiated = unfit_ends new untouched why due;
      })

-- ---- what is told

module _ (m : Machine) (d : ModuleDecl) (l : LinkerParts) (fault : LinkFault)
    (told : fault ≡ told_unlisted (fit_in_place m d l)) where
  module _ (items : List Extern) (e : resolved l d.imports ≡ Some items) where
    told_of_list : fault ≡ told_unlisted (imports_fit m d items)
    told_of_list = told ∙ ap told_unlisted (fit_same m d l items e)

    pub unlisted_due : (A : Type 0) →
        IfErr (imports_fit m d items) (λ why. ◌≡◌ {A = Result A LinkFault} (Err fault) (Err (Refused why)))
    unlisted_due A = by (imports_fit m d items) told_of_list
      where
        by : (due : Result ⊤ Refusal) → fault ≡ told_unlisted due →
            IfErr due (λ why. ◌≡◌ {A = Result A LinkFault} (Err fault) (Err (Refused why)))
        by (Ok u) is = tt
        by (Err why) is = ap Err is

    pub unlisted_refuses : RefusesItems (imports_fit m d items) fault
    unlisted_refuses = by (imports_fit m d items) refl told_of_list
      where
        by : (due : Result ⊤ Refusal) → imports_fit m d items ≡ due → fault ≡ told_unlisted due → RefusesItems due fault
        by (Ok u) due is = record { cause = refusal.OutOfMemory; told_so = is; refuses = inl refl }
        by (Err why) due is = record { cause = why; told_so = is ∙ told_plain m d items why due; refuses = inr refl }

  pub unlisted_causes : (Says : Refusal → Type 0) → OfChecks Says → OfRefusal Says fault
  unlisted_causes Says each = subst (OfRefusal Says) (sym told) (by (fit_in_place m d l) refl)
    where
      by : (due : Result ⊤ Refusal) → fit_in_place m d l ≡ due → OfRefusal Says (told_unlisted due)
      by (Ok u) e = tt
      by (Err why) e = placed_say Says each m d l why e

never_unknown : {B : Type 0} (due : Result ⊤ Refusal) (fault : LinkFault) (i : ℕ) → fault ≡ told_unlisted due →
    ◌≡◌ {A = Result B LinkFault} (Err fault) (Err (UnknownImport i)) → ⊥
never_unknown (Ok u) fault i is e = cc
never_unknown (Err why) fault i is e = cc

-- no import is unknown, and none is named
pub unlisted_names : {A B : Type 0} (short fault : LinkFault) (due : Result ⊤ Refusal) (o : Option ℕ) →
    short ≡ OutOfMemory → fault ≡ told_unlisted due → Names {A = A} (Err short) o → Names {A = B} (Err fault) o
unlisted_names short fault due o none told names =
    both_name (Err short) (Err fault) o (λ i e. absurd (short_names_none short i none e))
    (λ i e. absurd (never_unknown due fault i told e)) names
