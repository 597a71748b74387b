-- What the calls on globals, tags and functions keep.
use Rattle.std.proofs.Common.{◌≡◌, ℕ, true, List, [], ◌∷◌, length, slice_get, Some, Ok, refl, subst}
use Rattle.std.specs.Bool.{⊤}
use Rattle.std.specs.List.{list_all}
use Rattle.wasm_types.specs.SoundTypes.{IsValSound}
use Rattle.wasm_types.specs.FunctionParts.{val_is_of}
use Rattle.wasm_types.specs.FunctionRules.{IsSound}
use Rattle.wasm_types.specs.GlobalTypes.{GlobalParts}
use Rattle.wasm_types.specs.Signatures.{Signature, is_of}
use Rattle.wasm_types.specs.declared.plain.Mutability.{Mutability}
use Rattle.wasm_types.specs.declared.plain.Mutability.TheVariants.{Const, Var}
use Rattle.wasm_values.specs.Handles.{func_of, global_of, global_store, global_index, tag_of}
use Rattle.wasm_values.specs.declared.externals.Extern.{Extern}
use Rattle.wasm_values.specs.declared.handles.Func.{Func}
use Rattle.wasm_values.specs.declared.handles.Global.{Global as Handle}
use Rattle.wasm_values.specs.declared.handles.Tag.{Tag}
use Rattle.wasm_values.specs.declared.refusals.Refusal.TheVariants.{WrongStore, WrongEngine, ImmutableGlobal, TypeMismatch}
use Rattle.wasm_values.specs.declared.values.Val.{Val}
use Rattle.wasm_objects.specs.Globals.{Global, global}
use Rattle.spec_machine.specs.Changes.{append_globals, append_tags, append_functions}
use Rattle.spec_machine.specs.GlobalCalls.{with_value, is_variable, global_new, global_set, tag_new}
use Rattle.spec_machine.specs.Machine.{Machine, host}
use Rattle.spec_machine.specs.ValueCalls.{func_new}
use Rattle.spec_machine.specs.Values.{raw_val, is_id, owns_extern, owns_val, val_fits}
use Rattle.spec_machine.specs.WellFormed.{IsGlobal, IsType, IsHost, IsFunction, IsWellFormed}
use Rattle.law_store.specs.Later.{IsLaterGlobal, Extends}
use Rattle.law_store.proofs.Changes.{extends_set_global, extends_append_globals, extends_append_tags, extends_append_functions, keeps_set_global, keeps_append_globals, keeps_append_tags, keeps_append_functions}
use Rattle.law_store.proofs.Lists.{each_one}
use Rattle.law_store.proofs.Places.{raw_val_there, raw_val_set_fits}
use Rattle.law_store.proofs.RefusalLemmas.{Passed, passed}

-- what a setting of a global has tested and done
abbrev pub GlobalSet : Machine → Handle → Val → Machine → Type 0
GlobalSet m h val after =
    Passed (is_id (global_store h) m.id) (slice_get m.globals (global_index h)) (λ x. owns_val m val)
    (λ x. is_variable x.ty.mutability) (λ x. val_fits m val x.ty.content) (λ x. with_value m h x val) after

pub global_set_passed : (m after : Machine) (h : Handle) (val : Val) → global_set m h val ≡ Ok after →
    GlobalSet m h val after
global_set_passed m after h val e =
    passed after WrongStore WrongStore ImmutableGlobal TypeMismatch (is_id (global_store h) m.id)
    (slice_get m.globals (global_index h))
    (λ x. owns_val m val) (λ x. is_variable x.ty.mutability) (λ x. val_fits m val x.ty.content)
    (λ x. with_value m h x val) e

-- a constant global is not set
variable_not_constant : (k : Mutability) → is_variable k ≡ true → k ≡ Const → ⊥
variable_not_constant Const p e = absurd cc
variable_not_constant Var p e = absurd cc

later_value : (x : Global) (val : Val) → is_variable x.ty.mutability ≡ true →
    IsLaterGlobal x (global x.ty (raw_val val))
later_value x val variable =
    record { ty = refl; constant = λ c. absurd (variable_not_constant x.ty.mutability variable c) }

pub extends_global_set : (m after : Machine) (h : Handle) (val : Val) → global_set m h val ≡ Ok after → Extends m after
extends_global_set m after h val e =
    let p : GlobalSet m h val after = global_set_passed m after h val e in
    subst (Extends m) p.is
    (extends_set_global m (global_index h) p.object _ p.found (later_value p.object val p.two))

pub keeps_global_set : (m after : Machine) (h : Handle) (val : Val) → IsWellFormed m → global_set m h val ≡ Ok after →
    IsWellFormed after
keeps_global_set m after h val w e =
    let p : GlobalSet m h val after = global_set_passed m after h val e in
    let was : IsGlobal m p.object = w.globals_are (global_index h) p.object p.found in
    let now : IsGlobal m (global p.object.ty (raw_val val)) = record {
      of_engine = was.of_engine;
      sound = was.sound;
      there = raw_val_there m val p.one;
      fits = raw_val_set_fits m val p.object.ty.content p.one p.three;
    } in
    subst IsWellFormed p.is
    (keeps_set_global m w (global_index h) p.object _ p.found (later_value p.object val p.two) now)

-- what a making of a global, of a tag and of a function has tested and done
abbrev pub GlobalNew : Machine → GlobalParts → Val → Machine × Handle → Type 0
GlobalNew m ty val made =
    Passed true (Some tt) (λ (x : ⊤). owns_val m val) (λ x. val_is_of m.engine.number ty.content)
    (λ x. val_fits m val ty.content)
    (λ x. (append_globals m (global ty (raw_val val) ∷ []), global_of m.id (length m.globals))) made

pub global_new_passed : (m : Machine) (ty : GlobalParts) (val : Val) (made : Machine × Handle) →
    global_new m ty val ≡ Ok made → GlobalNew m ty val made
global_new_passed m ty val made e =
    passed made WrongStore WrongStore WrongEngine TypeMismatch true (Some tt)
    (λ x. owns_val m val) (λ x. val_is_of m.engine.number ty.content) (λ x. val_fits m val ty.content)
    (λ x. (append_globals m (global ty (raw_val val) ∷ []), global_of m.id (length m.globals))) e

pub extends_global_new : (m : Machine) (ty : GlobalParts) (val : Val) (made : Machine × Handle) →
    global_new m ty val ≡ Ok made → Extends m made.0
extends_global_new m ty val made e =
    let p : GlobalNew m ty val made = global_new_passed m ty val made e in
    subst (λ (d : Machine × Handle). Extends m d.0) p.is
    (extends_append_globals m (global ty (raw_val val) ∷ []))

pub keeps_global_new : (m : Machine) (ty : GlobalParts) (val : Val) (made : Machine × Handle) → IsWellFormed m →
    IsValSound ty.content → global_new m ty val ≡ Ok made → IsWellFormed made.0
keeps_global_new m ty val made w sound e =
    let p : GlobalNew m ty val made = global_new_passed m ty val made e in
    let now : IsGlobal m (global ty (raw_val val)) =
    record {
      of_engine = p.two;
      sound = sound;
      there = raw_val_there m val p.one;
      fits = raw_val_set_fits m val ty.content p.one p.three;
    } in
    subst (λ (d : Machine × Handle). IsWellFormed d.0) p.is
    (keeps_append_globals m w (global ty (raw_val val) ∷ []) (each_one (IsGlobal m) (global ty (raw_val val)) now))

abbrev pub TagNew : Machine → Signature → Machine × Tag → Type 0
TagNew m ty made =
    Passed true (Some tt) (λ (x : ⊤). is_of m.engine.number ty) (λ x. true) (λ x. true)
    (λ x. (append_tags m (ty ∷ []), tag_of m.id (length m.tags))) made

pub tag_new_passed : (m : Machine) (ty : Signature) (made : Machine × Tag) → tag_new m ty ≡ Ok made → TagNew m ty made
tag_new_passed m ty made e =
    passed made WrongStore WrongEngine WrongStore WrongStore true (Some tt) (λ x. is_of m.engine.number ty)
    (λ x. true) (λ x. true)
    (λ x. (append_tags m (ty ∷ []), tag_of m.id (length m.tags))) e

pub extends_tag_new : (m : Machine) (ty : Signature) (made : Machine × Tag) → tag_new m ty ≡ Ok made → Extends m made.0
extends_tag_new m ty made e =
    let p : TagNew m ty made = tag_new_passed m ty made e in
    subst (λ (d : Machine × Tag). Extends m d.0) p.is
    (extends_append_tags m (ty ∷ []))

pub keeps_tag_new : (m : Machine) (ty : Signature) (made : Machine × Tag) → IsWellFormed m → IsSound ty →
    tag_new m ty ≡ Ok made → IsWellFormed made.0
keeps_tag_new m ty made w sound e =
    let p : TagNew m ty made = tag_new_passed m ty made e in
    subst (λ (d : Machine × Tag). IsWellFormed d.0) p.is
    (keeps_append_tags m w (ty ∷ []) (each_one (IsType m) ty (record { of_engine = p.one; sound = sound })))

abbrev pub FuncNew : Machine → Signature → ℕ → List Extern → Machine × Func → Type 0
FuncNew m ty body stored made =
    Passed true (Some tt) (λ (x : ⊤). list_all (owns_extern m) stored) (λ x. is_of m.engine.number ty) (λ x. true)
    (λ x. (append_functions m (host ty body stored ∷ []), func_of m.id (length m.functions))) made

pub func_new_passed : (m : Machine) (ty : Signature) (body : ℕ) (stored : List Extern) (made : Machine × Func) →
    func_new m ty body stored ≡ Ok made → FuncNew m ty body stored made
func_new_passed m ty body stored made e =
    passed made WrongStore WrongStore WrongEngine WrongStore true (Some tt)
    (λ x. list_all (owns_extern m) stored) (λ x. is_of m.engine.number ty) (λ x. true)
    (λ x. (append_functions m (host ty body stored ∷ []), func_of m.id (length m.functions))) e

pub extends_func_new : (m : Machine) (ty : Signature) (body : ℕ) (stored : List Extern) (made : Machine × Func) →
    func_new m ty body stored ≡ Ok made → Extends m made.0
extends_func_new m ty body stored made e =
    let p : FuncNew m ty body stored made = func_new_passed m ty body stored made e in
    subst (λ (d : Machine × Func). Extends m d.0) p.is
    (extends_append_functions m (host ty body stored ∷ []))

pub keeps_func_new : (m : Machine) (ty : Signature) (body : ℕ) (stored : List Extern) (made : Machine × Func) →
    IsWellFormed m → IsSound ty → func_new m ty body stored ≡ Ok made → IsWellFormed made.0
keeps_func_new m ty body stored made w sound e =
    let p : FuncNew m ty body stored made = func_new_passed m ty body stored made e in
    let now : IsHost m ty stored = record { type_is = record { of_engine = p.two; sound = sound }; there = p.one } in
    subst (λ (d : Machine × Func). IsWellFormed d.0) p.is
    (keeps_append_functions m w (host ty body stored ∷ []) (each_one (IsFunction m) (host ty body stored) now))
