-- An instantiation by names keeps to what leads from the objects that it names.
use Rattle.std.proofs.Common.{◌≡◌, List, subst, inl, inr, Result, Ok, Err}
use Rattle.std.specs.Prelude.{flat_map}
use Rattle.wasm_types.specs.declared.faults.OutOfMemory.{OutOfMemory as NoMemory}
use Rattle.wasm_syntax.specs.declared.declarations.ModuleDecl.{ModuleDecl}
use Rattle.wasm_values.specs.declared.externals.Extern.{Extern}
use Rattle.wasm_values.specs.declared.handles.Instance.{Instance}
use Rattle.wasm_values.specs.declared.refusals.Refusal.{Refusal}
use Rattle.wasm_values.specs.declared.refusals.Refusal.TheVariants.{OutOfMemory}
use Rattle.spec_machine.specs.Commands.{Instantiate}
use Rattle.spec_machine.specs.declared.reply.Reply.{Reply}
use Rattle.spec_machine.specs.declared.reply.Reply.TheVariants as reply
use Rattle.spec_reach.specs.Reach.{in_object}
use Rattle.linker_map.specs.declared.faults.LinkFault.{LinkFault}
use Rattle.wasm_call.specs.Confined as calls
use Rattle.wasm_call.specs.Confined.{InstantiationConfined}
use Rattle.wasm_call.specs.Outcomes.{Called}
use Rattle.wasm_call.specs.Outside.{Moving, Surrounded}
use Rattle.wasm_call.proofs.ConfinedLemmas.{same_confined}
use Rattle.wasm_instance.specs.Instances.{InstantiationFailed, Instantiated}
use Rattle.wasm_linker.specs.Linking.{told, Links, TellsConfined, LinksConfined}

module _ {T H E : Type 0} (moves : Moving T H E) (d : ModuleDecl) (items : List Extern) (old new : Surrounded T H E)
    (result : Result Instance LinkFault) where
  -- over objects that were listed
  pub listed_confined : (listed : List Extern) (answer : Result Instance Refusal) → result ≡ told answer →
      listed ≡ items → InstantiationConfined moves d listed old answer new → LinksConfined moves d items old result new
  listed_confined listed answer is same h =
      inr (subst (λ (xs : List Extern). TellsConfined moves d xs old result new) same
      (record { answer = answer; told_so = is; confined = h }))

  -- what nothing changed
  abbrev told_by : Result Instance Refusal → Result Reply NoMemory
  told_by answer = calls.told (λ made. reply.Instance made) answer

  ran_failed : (why : Refusal) → InstantiationFailed moves d items old why new →
      Called moves (Instantiate d items) old (told_by (Err why)) new
  ran_failed OutOfMemory k = k
  ran_failed why l = l

  ran_by : (answer : Result Instance Refusal) → Instantiated moves d items old answer new →
      Called moves (Instantiate d items) old (told_by answer) new
  ran_by (Ok made) l = l
  ran_by (Err why) l = ran_failed why l

  pub unchanged_confined : new.store.machine ≡ old.store.machine → Links moves d items old result new →
      LinksConfined moves d items old result new
  unchanged_confined e (inl k) = inl k
  unchanged_confined e (inr t) =
      inr (record {
        answer = t.answer;
        told_so = t.told_so;
        confined =
            same_confined moves (Instantiate d items) (flat_map (in_object old.store.machine.id) items) old new e
            (told_by t.answer) (ran_by t.answer t.instantiated);
      })
