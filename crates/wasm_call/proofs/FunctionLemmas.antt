-- The refusal of a new function of the host that is due, by what its names stand for and by its type.
use Rattle.std.proofs.Common.{◌≡◌, ℕ, List, [], ◌∷◌, Option, Some, None, refl, ap, sym, ◌∙◌, Bool, true, false}
use Rattle.std.proofs.lemmas.Option.{same_Some, none-some}
use Rattle.std.specs.List.{list_all}
use Rattle.std.specs.Prelude.{◌&&◌, is_some, Ok}
use Rattle.wasm_types.specs.Signatures.{Signature, is_of}
use Rattle.wasm_values.specs.declared.externals.Extern.{Extern}
use Rattle.wasm_values.specs.declared.externals.Extern.TheVariants as x
use Rattle.wasm_values.specs.declared.handles.Func.{Func}
use Rattle.wasm_values.specs.declared.refusals.Refusal.{Refusal}
use Rattle.wasm_values.specs.declared.refusals.Refusal.TheVariants.{NoReply, WrongStore, WrongEngine}
use Rattle.spec_machine.specs.Commands.{named, makes, row}
use Rattle.spec_machine.specs.Machine.{Machine}
use Rattle.spec_machine.specs.Names.{Scope, named_object, named_objects, with_first}
use Rattle.spec_machine.specs.Steps.{◌>>=◌, unless}
use Rattle.spec_machine.specs.ValueCalls.{func_new}
use Rattle.spec_machine.specs.Values.{owns_extern}
use Rattle.spec_machine.specs.declared.command.Command.TheVariants as command
use Rattle.spec_machine.specs.declared.name.Name.{Name}
use Rattle.spec_machine.specs.declared.reply.Reply.{Reply}
use Rattle.spec_machine.specs.declared.reply.Reply.TheVariants.{Object}
use Rattle.wasm_call.specs.Functions.{owns_object}
use Rattle.wasm_call.specs.Room.{refusal_of}

-- by whether the objects are of the store, and the type of its engine
abbrev pub checked : Bool → Bool → Option Refusal
checked true true = None
checked true false = Some WrongEngine
checked false same = Some WrongStore

checked_is : (say : Func → Reply) (own same : Bool) (made : Machine × Func) →
    refusal_of (makes say (unless WrongStore own >>= (λ _. unless WrongEngine same >>= (λ _. Ok made)))) ≡ checked own same
checked_is say true true made = refl
checked_is say true false made = refl
checked_is say false same made = refl

module _ (m : Machine) (s : Scope) where
  abbrev are_own : List Name → Bool
  are_own names = list_all (λ (name : Name). owns_object m (named_object s name)) names

  -- of the objects that names stand for
  found_own : (names : List Name) (found : List Extern) → named_objects s names ≡ Some found →
      list_all (owns_extern m) found ≡ are_own names
  found_own [] found e = ap (list_all (owns_extern m)) (sym (same_Some _ _ e))
  found_own (name ∷ names) found e =
      by_first (named_object s name) (named_objects s names) refl (λ objects more. found_own names objects more) e
    where
      by_first : (o : Option Extern) (os : Option (List Extern)) → named_object s name ≡ o →
          ((objects : List Extern) → os ≡ Some objects → list_all (owns_extern m) objects ≡ are_own names) →
          with_first o os ≡ Some found →
          list_all (owns_extern m) found ≡ (owns_object m (named_object s name) && are_own names)
      by_first (Some object) (Some objects) one more e =
          ap (list_all (owns_extern m)) (sym (same_Some _ _ e))
          ∙ ap (λ (b : Bool). owns_extern m object && b) (more objects refl)
          ∙ ap (λ (o : Option Extern). owns_object m o && are_own names) (sym one)
      by_first (Some object) None one more e = absurd (none-some _ e)
      by_first None (Some objects) one more e = absurd (none-some _ e)
      by_first None None one more e = absurd (none-some _ e)

  module _ (ty : Signature) (body : ℕ) (stored : List Name) where
    abbrev due_by : Option (List Extern) → Option Refusal
    due_by o = refusal_of (named o (λ found. makes (λ h. Object (x.Func h)) (func_new m ty body found)))

    abbrev due : Option Refusal
    due = refusal_of (row [] m s (command.FuncNew ty body stored))

    pub unnamed_due : is_some (named_objects s stored) ≡ false → due ≡ Some NoReply
    unnamed_due e = by_objects (named_objects s stored) e where
      by_objects : (o : Option (List Extern)) → is_some o ≡ false → due_by o ≡ Some NoReply
      by_objects None e = refl
      by_objects (Some found) e = absurd cc

    pub checked_due : is_some (named_objects s stored) ≡ true → due ≡ checked (are_own stored) (is_of m.engine.number ty)
    checked_due e = by_objects (named_objects s stored) refl e where
      by_objects : (o : Option (List Extern)) → named_objects s stored ≡ o → is_some o ≡ true →
          due_by o ≡ checked (are_own stored) (is_of m.engine.number ty)
      by_objects None is e = absurd cc
      by_objects (Some found) is e =
          checked_is (λ h. Object (x.Func h)) (list_all (owns_extern m) found) (is_of m.engine.number ty) _
          ∙ ap (λ (b : Bool). checked b (is_of m.engine.number ty)) (found_own stored found is)
