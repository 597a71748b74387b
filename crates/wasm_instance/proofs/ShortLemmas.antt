-- What an instantiation leaves that ran short of memory.
use Rattle.std.proofs.Common.{◌≡◌, ℕ, List, Result, Ok, Err, refl, sym, ap, ◌∙◌, subst, inl, inr}
use Rattle.std.specs.Prelude.{Option, Some, None, IsSome, slice_get, OnErr}
use Rattle.wasm_types.specs.declared.faults.OutOfMemory.{OutOfMemory as NoMemory}
use Rattle.wasm_syntax.specs.declared.declarations.ModuleDecl.{ModuleDecl}
use Rattle.wasm_values.specs.declared.externals.Extern.{Extern}
use Rattle.wasm_values.specs.declared.handles.Instance.{Instance}
use Rattle.wasm_values.specs.declared.refusals.Refusal.{Refusal}
use Rattle.wasm_values.specs.declared.refusals.Refusal.TheVariants.{OutOfMemory, ResourceLimit, Trap, TurnLimit}
use Rattle.wasm_values.specs.declared.refusals.Trap.{Trap as Cause}
use Rattle.spec_machine.specs.Machine.{Machine}
use Rattle.spec_machine.specs.Names.{outermost, named_objects}
use Rattle.spec_machine.specs.declared.name.Name.{Name}
use Rattle.spec_machine.specs.declared.reply.Reply.{Reply}
use Rattle.spec_execution.specs.Allocation.{function_numbers}
use Rattle.spec_execution.specs.Instantiation.{Counted}
use Rattle.spec_execution.specs.Segments.{make}
use Rattle.instance_parts.specs.Preparing.{CountsAs, EndsAs, IsMade}
use Rattle.instance_parts.specs.declared.making.Ending.{Ending}
use Rattle.instance_parts.specs.declared.making.Ending.TheVariants as ending
use Rattle.instance_parts.specs.declared.making.Made.{Made}
use Rattle.wasm_call.specs.Outside.{Moving, Surrounded, surrounded}
use Rattle.wasm_instance.specs.Instances.{Starts, IsUntouched, MakingShort, NamedRanShort}
use Rattle.wasm_instance.proofs.DueLemmas.{making_from}

-- ---- what is no want of memory

module _ (i : Result Instance Refusal) where
  pub whole_is_told : (instance : Instance) → i ≡ Ok instance → ¬ (i ≡ Err OutOfMemory)
  whole_is_told instance told short = cc (told, short)

  pub trap_is_told : (t : Cause) → i ≡ Err (Trap t) → ¬ (i ≡ Err OutOfMemory)
  trap_is_told t told short = cc (told, short)

  pub limit_is_told : i ≡ Err TurnLimit → ¬ (i ≡ Err OutOfMemory)
  limit_is_told told short = cc (told, short)

  pub past_is_told : (due : Counted) (m : Machine) (why : Refusal) → CountsAs due (Err why) m → i ≡ Err why →
      ¬ (i ≡ Err OutOfMemory)
  past_is_told due m why h told short =
      let is : why ≡ ResourceLimit h.0 = h.1.0 in
      cc (is, told, short)

-- ---- what is left where there was none

module _ (d : ModuleDecl) (imports : List Extern) where
  -- the turn that made the instance is behind the start function
  pub starts : (m new : Machine) (made : Made) → IsMade d imports m made new → (n : ℕ) →
      made.ending ≡ ending.Starts n → Starts d imports m
  starts m new made h n same =
      let e : EndsAs (function_numbers m d imports) d.start (make m d imports) (ending.Starts n) new =
      subst (λ (x : Ending). EndsAs (function_numbers m d imports) d.start (make m d imports) x new) same h.1 in
      record { start = e.1.0; made = new; declared = e.1.1.0; whole = e.0 }

-- ---- of a command, by its names

some_is : {A : Type 0} (o : Option A) → IsSome o → (a : A) × (Some a ≡ o)
some_is None e = absurd cc
some_is (Some a) e = (a, refl)

module _ {T H E : Type 0} (moves : Moving T H E) (modules : List ModuleDecl) (replies : List Reply) (number : ℕ)
    (imports : List Name) (old new : Surrounded T H E) where
  -- memory ran out for the list of the objects
  pub unlisted_short : IsUntouched old new → IsSome (named_objects (outermost replies) imports) →
      (r : Result Reply NoMemory) → OnErr r (IsSome (slice_get modules number)) →
      OnErr r (NamedRanShort moves modules replies number imports old new)
  unlisted_short same some (Ok answer) h = tt
  unlisted_short same some (Err none) h =
      let named = some_is (named_objects (outermost replies) imports) some in
      let found = some_is (slice_get modules number) h in
      record {
        «module» = found.0;
        objects = named.0;
        module_is = sym found.1;
        objects_are = sym named.1;
        short = inl same;
      }

  -- a module was to be instantiated over objects
  module _ (d : ModuleDecl) (given : List Extern) (module_is : Some d ≡ slice_get modules number)
      (objects_are : Some given ≡ named_objects (outermost replies) imports) where
    pub named_short : (begun : Surrounded T H E) →
        begun ≡ surrounded (record old.store { turns = 0 }) old.host old.epochs → (why : Refusal)
        (i : Result Instance Refusal) → i ≡ Err why → (i ≡ Err OutOfMemory → MakingShort moves d given begun new) →
        (r : Result Reply NoMemory) → OnErr r (why ≡ OutOfMemory) →
        OnErr r (NamedRanShort moves modules replies number imports old new)
    named_short begun is why i told h (Ok answer) k = tt
    named_short begun is why i told h (Err none) k = record {
      «module» = d;
      objects = given;
      module_is = sym module_is;
      objects_are = sym objects_are;
      short = inr (making_from moves d given old new
          (subst (λ (s : Surrounded T H E). MakingShort moves d given s new) is (h (told ∙ ap Err k))));
    }
