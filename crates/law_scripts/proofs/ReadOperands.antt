-- What a reader of data gives, and that an operand that it gives is no literal function.
use Rattle.std.proofs.Common.{◌≡◌, ℕ, List, [], ◌∷◌, Option, Some, None, refl, subst}
use Rattle.std.specs.Prelude.{Bool, true, false, if◌then◌else◌, option_map, codes}
use Rattle.std.proofs.lemmas.Option.{same_Some, none-some}
use Rattle.std.specs.Str.{bytes_eq}
use Rattle.serde_json.specs.Data.{Data, Items, no_items, item}
use Rattle.serde_json.specs.Find.{as_array}
use Rattle.wasm_types.specs.Each.{Each}
use Rattle.wasm_values.specs.declared.values.Val.TheVariants as v
use Rattle.law_store.proofs.Lists.{each_none, each_more}
use Rattle.spec_machine.specs.declared.name.Operand.TheVariants as operand
use Rattle.script_json.specs.Fields.{◌>>=◌, field, field_or, required, list_of, list_or_empty, all_of, null_or, one_member, whole}
use Rattle.script_commands.specs.Operands.{operand_kind_of, extern_val_of, extern_of, given, operand_by, operand_of}
use Rattle.law_scripts.specs.Literals.{IsNoFunction}

-- what a reader gives, where it gives something
pub record Gives {A : Type 0} (P : A → Type 0) (o : Option A) : Type 0 where
  pub is : (x : A) → o ≡ Some x → P x

module _ {A : Type 0} (P : A → Type 0) where
  pub some : (x : A) → P x → Gives P (Some x)
  some x p = record { is = λ y e. subst P (same_Some x y e) p }

  pub none : Gives P None
  none = record { is = λ y e. absurd (none-some y e) }

  pub bind : {B : Type 0} (o : Option B) (f : B → Option A) → ((b : B) → o ≡ Some b → Gives P (f b)) → Gives P (o >>= f)
  bind None f j = none
  bind (Some b) f j = j b refl

  -- whatever was read first
  pub step : {B : Type 0} (o : Option B) (f : B → Option A) → ((b : B) → Gives P (f b)) → Gives P (o >>= f)
  step None f j = none
  step (Some b) f j = j b

-- what is given behind what was read first
pub record Behind {A B : Type 0} (P : A → Type 0) (f : B → Option A) (o : Option B) : Type 0 where
  pub gives : Gives P (o >>= f)

-- by the first test that holds
pub first_of_two :
    {A B : Type 0} (P : A → Type 0) (f : B → Option A) (b : Bool) (x y : Option B) → Behind P f x → Behind P f y
    → Behind P f (if b then x else y)
first_of_two P f true x y h k = h
first_of_two P f false x y h k = k

-- by a key that is this word, or another
pub by_key :
    {A B : Type 0} (P : A → Type 0) (f : B → Option A) (key word : List ℕ) (x y : Option B) → Behind P f x
    → Behind P f y → Behind P f (if bytes_eq key word then x else y)
by_key P f key word x y h k = first_of_two P f (bytes_eq key word) x y h k

module _ {A : Type 0} (P : A → Type 0) (f : Data → Option A) (h : (d : Data) → Gives P (f d)) where
  pub required_gives : (key : List ℕ) (d : Data) → Gives P (required f key d)
  required_gives key d = bind P (field key d) f (λ y e. h y)

  pub all_gives : (ds : Items) → Gives (λ xs. Each xs P) (all_of f ds)
  all_gives no_items = some (λ xs. Each xs P) [] (each_none P)
  all_gives (item d ds) =
      bind (λ xs. Each xs P) (f d) _ (λ x e. bind (λ xs. Each xs P) (all_of f ds) _ (λ xs e'.
      some (λ ys. Each ys P) (x ∷ xs) (each_more P x xs ((h d).is x e) ((all_gives ds).is xs e'))))

  pub list_gives : (d : Data) → Gives (λ xs. Each xs P) (list_of f d)
  list_gives d = bind (λ xs. Each xs P) (as_array d) (all_of f) (λ ds e. all_gives ds)

  or_empty : (o : Option Data) → Gives (λ xs. Each xs P) (field_or [] (list_of f) o)
  or_empty None = some (λ xs. Each xs P) [] (each_none P)
  or_empty (Some d) = list_gives d

  pub list_or_empty_gives : (key : List ℕ) (d : Data) → Gives (λ xs. Each xs P) (list_or_empty f key d)
  list_or_empty_gives key d = or_empty (field key d)

-- ---- operands

extern_gives : (d : Data) → Gives (λ val. IsNoFunction (operand.Val val)) (extern_val_of d)
extern_gives d =
    bind (λ val. IsNoFunction (operand.Val val)) (null_or whole d) _
    (λ n e. some (λ val. IsNoFunction (operand.Val val)) (v.ExternRef (option_map extern_of n)) tt)

module _ (d : Data) where
  by_kind : (key : List ℕ) → Behind IsNoFunction (operand_by d) (operand_kind_of key)
  by_kind key =
      by_key IsNoFunction (operand_by d) key (codes "i32") _ _
      (record { gives = bind IsNoFunction _ _ (λ n e. some IsNoFunction (operand.Val (v.I32 n)) tt) })
      (by_key IsNoFunction (operand_by d) key (codes "i64") _ _
      (record { gives = bind IsNoFunction _ _ (λ n e. some IsNoFunction (operand.Val (v.I64 n)) tt) })
      (by_key IsNoFunction (operand_by d) key (codes "f32") _ _
      (record { gives = bind IsNoFunction _ _ (λ n e. some IsNoFunction (operand.Val (v.F32 n)) tt) })
      (by_key IsNoFunction (operand_by d) key (codes "f64") _ _
      (record { gives = bind IsNoFunction _ _ (λ n e. some IsNoFunction (operand.Val (v.F64 n)) tt) })
      (by_key IsNoFunction (operand_by d) key (codes "v128") _ _
      (record { gives = bind IsNoFunction _ _ (λ n e. some IsNoFunction (operand.Val (v.V128 n)) tt) })
      (by_key IsNoFunction (operand_by d) key (codes "func") _ _
      (record { gives = bind IsNoFunction _ _ (λ n e. some IsNoFunction (operand.Val (v.FuncRef None)) tt) })
      (by_key IsNoFunction (operand_by d) key (codes "extern") _ _
      (record {
        gives = bind IsNoFunction (extern_val_of d) given
            (λ val e. some IsNoFunction (operand.Val val) ((extern_gives d).is val e));
      })
      (by_key IsNoFunction (operand_by d) key (codes "any") _ _
      (record { gives = bind IsNoFunction _ _ (λ n e. some IsNoFunction (operand.Val (v.AnyRef n)) tt) })
      (by_key IsNoFunction (operand_by d) key (codes "name") _ _
      (record { gives = bind IsNoFunction _ _ (λ n e. some IsNoFunction (operand.Named n) tt) })
      (record { gives = none IsNoFunction })))))))))

pub operand_gives : (d : Data) → Gives IsNoFunction (operand_of d)
operand_gives d =
    bind IsNoFunction (one_member d) _ (λ m e. (by_kind m.1 m.0).gives)
