-- The nodes that the handles of a call name are those of its definition, where its conditions hold.
use Rattle.std.proofs.Common.{◌≡◌, ℕ, Bool, true, false, List, [], ◌∷◌, ◌++◌, Option, Some, None, ok_or, if◌then◌else◌, refl, sym, ap, ◌∙◌, append-nil}
use Rattle.std.specs.List.{list_all}
use Rattle.std.specs.Prelude.{map, flat_map, Result, Ok, Err}
use Rattle.std.proofs.lemmas.Bool.{and_parts}
use Rattle.wasm_types.specs.Signatures.{Signature}
use Rattle.wasm_values.specs.Handles.{func_store, func_index}
use Rattle.wasm_values.specs.declared.externals.Extern.TheVariants as x
use Rattle.wasm_values.specs.declared.handles.Func.{Func}
use Rattle.wasm_values.specs.declared.refusals.Refusal.{Refusal}
use Rattle.wasm_values.specs.declared.refusals.Refusal.TheVariants.{WrongStore}
use Rattle.wasm_values.specs.declared.values.Val.{Val}
use Rattle.wasm_values.specs.declared.values.Val.TheVariants as v
use Rattle.spec_machine.specs.FunctionCalls.{Called, called}
use Rattle.spec_machine.specs.Machine.{Machine}
use Rattle.spec_machine.specs.Steps.{◌>>=◌}
use Rattle.spec_machine.specs.Values.{function_type, is_id, owns_val, raw_val}
use Rattle.spec_reach.specs.Nodes.{Node, func}
use Rattle.spec_reach.specs.Reach.{in_object, in_value}
use Rattle.spec_reach.specs.Roots.{in_val, call_roots}
use Rattle.law_code.proofs.Conditions.{Tested, tested}
use Rattle.wasm_call.specs.Confined.{handled}

module _ (m : Machine) where
  own_node : (f : Func) → is_id (func_store f) m.id ≡ true → in_object m.id (x.Func f) ≡ func (func_index f) ∷ []
  own_node f e = ap (λ (b : Bool). if b then func (func_index f) ∷ [] else []) e

  val_nodes : (val : Val) → owns_val m val ≡ true → in_val m.id val ≡ in_value (raw_val val)
  val_nodes (v.FuncRef (Some f)) e = own_node f (and_parts (is_id (func_store f) m.id) _ e).0
  val_nodes (v.FuncRef None) e = refl
  val_nodes (v.ExternRef (Some h)) e = refl
  val_nodes (v.ExternRef None) e = refl
  val_nodes (v.AnyRef (Some a)) e = refl
  val_nodes (v.AnyRef None) e = refl
  val_nodes val e = refl

  vals_nodes : (vals : List Val) → list_all (owns_val m) vals ≡ true →
      flat_map (in_val m.id) vals ≡ flat_map in_value (map raw_val vals)
  vals_nodes [] e = refl
  vals_nodes (val ∷ vals) e =
      let p = and_parts (owns_val m val) (list_all (owns_val m) vals) e in
      λ i. val_nodes val p.0 i ++ vals_nodes vals p.1 i

  module _ (f : Func) (args : List Val) (wanted : Option ℕ) (c : Called) where
    by_own : (b : Bool) (o : Option Signature) (rest : Signature → Result Called Refusal) →
        ((if b then ok_or o WrongStore else Err WrongStore) >>= rest) ≡ Ok c → b ≡ true
    by_own true o rest e = refl
    by_own false o rest e = absurd cc

    pub handled_are : called m f args wanted ≡ Ok c → handled m.id f args ≡ call_roots c.function c.arguments None
    handled_are e =
        let t : Tested m f args c = tested m f args c wanted e in
        let own : is_id (func_store f) m.id ≡ true =
        by_own (is_id (func_store f) m.id) (function_type m (func_index f)) _ e in
        let both : handled m.id f args ≡ func (func_index f) ∷ flat_map in_value (map raw_val args) =
        λ i. own_node f own i ++ vals_nodes args t.owned i in
        both ∙ ap (λ (ns : List Node). func (func_index f) ∷ ns) (sym (append-nil (flat_map in_value (map raw_val args))))
        ∙ ap (λ (d : Called). call_roots d.function d.arguments None) t.is
