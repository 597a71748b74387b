-- The machine of what is held in a call: one in all stores of the call, with the program that the call reads.
use Rattle.std.proofs.Common.{◌≡◌, Bool, List, [], ◌∷◌, map, refl, ap, sym, ◌∙◌}
use Rattle.wasm_values.specs.declared.store_id.StoreId.{StoreId}
use Rattle.spec_machine.specs.Machine.{Machine, EngineParts, Function, InstanceParts, new_machine}
use Rattle.store_state.specs.Machine.{run_machine, instances_of}
use Rattle.store_state.specs.Parts.{Names, SegmentParts, ProgramParts, HeldParts, program_parts}
use Rattle.code_leaps.specs.Calling.{names_of}
use Rattle.code_hosts.specs.declared.bounds.Bounds.{Bounds}
use Rattle.code_hosts.specs.Hosting.{AreRulesOf, IsOpen}
use Rattle.store_objects.specs.Machines.{base_of, emptied}
use Rattle.wasm_call.specs.Operating.{Fits, KeepsRead}
use Rattle.wasm_call.specs.Results.{flags_of}

-- ---- a machine by its fields

abbrev made : StoreId → EngineParts → Bool → Bool → Bool → List Function → List InstanceParts → HeldParts → Machine
made id engine limited hooked behaving functions instances held = record {
  id = id;
  engine = engine;
  memories = held.memories;
  tables = held.tables;
  globals = held.globals;
  tags = held.tags;
  functions = functions;
  instances = instances;
  fuel = held.fuel;
  deadline = held.deadline;
  counts = held.counts;
  limits = held.limits;
  is_limited = limited;
  is_hooked = hooked;
  is_behaving = behaving;
}

made_alike : {i j : StoreId} {a b : EngineParts} {l k : Bool} {h q : Bool} {d c : Bool} {fs gs : List Function}
    {is js : List InstanceParts} (held : HeldParts) → i ≡ j → a ≡ b → l ≡ k → h ≡ q → d ≡ c → fs ≡ gs → is ≡ js →
    made i a l h d fs is held ≡ made j b k q c gs js held
made_alike {i} {j} {a} {b} {l} {k} {h} {q} {d} {c} {fs} {gs} {is} {js} held e1 e2 e3 e4 e5 e6 e7 =
    ap (λ x. made x a l h d fs is held) e1 ∙ ap (λ x. made j x l h d fs is held) e2
    ∙ ap (λ x. made j b x h d fs is held) e3 ∙ ap (λ x. made j b k x d fs is held) e4
    ∙ ap (λ x. made j b k q x fs is held) e5 ∙ ap (λ x. made j b k q c x is held) e6
    ∙ ap (λ x. made j b k q c gs x held) e7

-- ---- the stores of a call are one machine

pub open_alike : (bounds : Bounds) (id : StoreId) (engine : EngineParts) (a b : Machine) → IsOpen bounds id engine a →
    IsOpen bounds id engine b → (program : ProgramParts) (held : HeldParts) →
    run_machine a program held ≡ run_machine b program held
open_alike bounds id engine a b p q program held =
    made_alike held (p.id_is ∙ sym q.id_is) (p.engine_is ∙ sym q.engine_is)
    (p.bounded.ruled.limited_is ∙ sym q.bounded.ruled.limited_is) (p.bounded.hooked_is ∙ sym q.bounded.hooked_is)
    (p.behaving_is ∙ sym q.behaving_is) refl refl

-- a store that fits is one of them
pub fits_open : (m : Machine) (bounds : Bounds) (id : StoreId) (engine : EngineParts) → Fits m bounds id engine →
    IsOpen bounds id engine m
fits_open m bounds id engine f = record {
  bounded = record {
    ruled = record {
      frames_are = ap (λ (x : EngineParts). x.frames) f.engine_is ∙ sym f.frames_are;
      fuel_is = ap (λ (x : EngineParts). x.consumes_fuel) f.engine_is ∙ sym f.fuel_is;
      epochs_are = ap (λ (x : EngineParts). x.reads_epochs) f.engine_is ∙ sym f.epochs_are;
      limited_is = f.limited_is;
      behaving_is = λ reads. f.behaving_is;
    };
    hooked_is = f.hooked_is;
  };
  id_is = f.id_is;
  engine_is = f.engine_is;
  behaving_is = f.behaving_is;
}

-- and so is one of no objects, with the engine's rules
pub base_open : (bounds : Bounds) (id : StoreId) (engine : EngineParts) → AreRulesOf engine bounds.rules →
    IsOpen bounds id engine (base_of id engine (flags_of bounds))
base_open bounds id engine r = record {
  bounded = record {
    ruled = record {
      frames_are = r.0;
      fuel_is = r.1;
      epochs_are = r.2;
      limited_is = refl;
      behaving_is = λ reads. refl;
    };
    hooked_is = refl;
  };
  id_is = refl;
  engine_is = refl;
  behaving_is = refl;
}

-- ---- what is held of a machine that kept its program

names_map : (ns : List Names) (ss : List SegmentParts) → map names_of (instances_of ns ss) ≡ ns
names_map [] ss = refl
names_map (n ∷ ns) [] = ap (λ xs. n ∷ xs) (names_map ns [])
names_map (n ∷ ns) (s ∷ ss) = ap (λ xs. n ∷ xs) (names_map ns ss)

module _ (m base after : Machine) (program other : ProgramParts) (held kept : HeldParts)
    (k : KeepsRead (run_machine m program held) after) (e : run_machine base other kept ≡ after) where
  same_names : program.instances ≡ other.instances
  same_names =
      sym (names_map program.instances held.segments)
      ∙ ap (map names_of) (sym (ap (λ (x : Machine). x.instances) e ∙ k.instances_are))
      ∙ names_map other.instances kept.segments

  pub put_back : run_machine m program kept ≡ after
  put_back =
      made_alike kept (sym (ap (λ (x : Machine). x.id) e ∙ k.id_is))
      (sym (ap (λ (x : Machine). x.engine) e ∙ k.engine_is))
      (sym (ap (λ (x : Machine). x.is_limited) e ∙ k.limited_is))
      (sym (ap (λ (x : Machine). x.is_hooked) e ∙ k.hooked_is))
      (sym (ap (λ (x : Machine). x.is_behaving) e ∙ k.behaving_is))
      (sym (ap (λ (x : Machine). x.functions) e ∙ k.functions_are))
      (ap (λ (ns : List Names). instances_of ns kept.segments) same_names) ∙ e

  -- and its program is the same
  pub same_program : other ≡ program
  same_program =
      ap (λ (fs : List Function). program_parts fs other.instances)
      (ap (λ (x : Machine). x.functions) e ∙ k.functions_are)
      ∙ ap (program_parts program.functions) (sym same_names)

-- ---- with no objects

abbrev bare : StoreId → EngineParts → Bool → Bool → Bool → Machine
bare id engine limited hooked behaving = record (new_machine id engine) {
  is_limited = limited;
  is_hooked = hooked;
  is_behaving = behaving;
}

pub emptied_alike : (m after : Machine) → KeepsRead m after → emptied after ≡ emptied m
emptied_alike m after k =
    ap (λ x. bare x after.engine after.is_limited after.is_hooked after.is_behaving) k.id_is
    ∙ ap (λ x. bare m.id x after.is_limited after.is_hooked after.is_behaving) k.engine_is
    ∙ ap (λ x. bare m.id m.engine x after.is_hooked after.is_behaving) k.limited_is
    ∙ ap (λ x. bare m.id m.engine m.is_limited x after.is_behaving) k.hooked_is
    ∙ ap (λ x. bare m.id m.engine m.is_limited m.is_hooked x) k.behaving_is
