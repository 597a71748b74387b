-- Lists, as they are written and read.
use Rattle.std.proofs.Common.{◌≡◌, ℕ, List, [], ◌∷◌, ◌++◌, ◌+◌, ◌<◌, ◌≤◌, suc, length, get_or, drop, add-one, Option, Some, None, refl, sym, ap, ◌∙◌, subst}
use Rattle.std.specs.List.{AllByRecursion}
use Rattle.std.proofs.Common.{drop_of_length-le}
use Rattle.std.proofs.Math.Seq.{drop-cons}
use Rattle.serde_json.specs.Data as json
use Rattle.serde_json.specs.Data.{Data, Items, no_items, item}
use Rattle.serde_json.specs.View.{view, items_view}
use Rattle.serde_json.specs.declared.value.Value.{Value}
use Rattle.script_json.specs.Fields.{◌>>=◌, all_of, list_of}
use Rattle.tape_values.specs.Writing.{all_written, list_data}
use Rattle.tape_values.proofs.Options.{bind_some, some_is}

-- values, and then more items
abbrev pub joined : List Value → Items → Items
joined [] rest = rest
joined (v ∷ vs) rest = item (view v) (joined vs rest)

pub joined-all : (vs : List Value) → joined vs no_items ≡ items_view vs
joined-all [] = refl
joined-all (v ∷ vs) = ap (item (view v)) (joined-all vs)

pub joined-append : (vs : List Value) (v : Value) (rest : Items) → joined (vs ++ v ∷ []) rest ≡ joined vs (item (view v) rest)
joined-append [] v rest = refl
joined-append (x ∷ vs) v rest = ap (item (view x)) (joined-append vs v rest)

abbrev pub then_joined : List Value → Option Items → Option Items
then_joined vs o = o >>= (λ rest. Some (joined vs rest))

pub then_joined-none : (o : Option Items) → o ≡ then_joined [] o
then_joined-none None = refl
then_joined-none (Some ds) = refl

-- one item more is written
pub then_joined-more : (vs : List Value) (v : Value) (d : Data) (o : Option Items) → d ≡ view v
    → then_joined vs (o >>= (λ ds. Some (item d ds))) ≡ then_joined (vs ++ v ∷ []) o
then_joined-more vs v d None e = refl
then_joined-more vs v d (Some ds) e = ap (λ x. Some (joined vs (item x ds))) e ∙ ap (λ x. Some x) (sym (joined-append vs v ds))

-- what the list gives, where the first of its items that are left gives this
pub written-step : {A : Type 0} (f : A → Option Data) (x : A) (xs : List A) (vs : List Value) (v : Value) → f x ≡ Some (view v)
    → then_joined vs (all_written f (x ∷ xs)) ≡ then_joined (vs ++ v ∷ []) (all_written f xs)
written-step f x xs vs v e =
    ap (λ (o : Option Data). then_joined vs (o >>= (λ d. all_written f xs >>= (λ ds. Some (item d ds))))) e
    ∙ then_joined-more vs v (view v) (all_written f xs) refl

pub written-refused : {A : Type 0} (f : A → Option Data) (x : A) (xs : List A) (vs : List Value) → f x ≡ None
    → then_joined vs (all_written f (x ∷ xs)) ≡ None
written-refused f x xs vs e =
    ap (λ (o : Option Data). then_joined vs (o >>= (λ d. all_written f xs >>= (λ ds. Some (item d ds))))) e

-- the items from one on are that one and those behind it
pub drop-first : {A : Type 0} (xs : List A) (i : ℕ) (x : A) → i < length xs → x ≡ get_or xs i x → drop i xs ≡ x ∷ drop (i + 1) xs
drop-first xs i x l e = rw (add-one) (drop-cons xs i x l ∙ ap (λ y. y ∷ drop (suc i) xs) (sym e))

-- behind the last item the whole list is written
pub written-all : {A : Type 0} (f : A → Option Data) (xs : List A) (i : ℕ) (vs : List Value) → length xs ≤ i
    → all_written f xs ≡ then_joined vs (all_written f (drop i xs)) → list_data f xs ≡ Some (json.array (items_view vs))
written-all f xs i vs l e =
    let none : all_written f (drop i xs) ≡ Some no_items = ap (all_written f) (drop_of_length-le xs l) in
    ap (λ (o : Option Items). o >>= (λ ds. Some (json.array ds))) (e ∙ ap (then_joined vs) none)
    ∙ ap (λ ds. Some (json.array ds)) (joined-all vs)

-- a list whose items are read as they were is read as it was
pub items_back :
    {A : Type 0} (f : A → Option Data) (g : Data → Option A) (P : A → Type 0)
    → ((x : A) (d : Data) → P x → f x ≡ Some d → g d ≡ Some x)
    → (xs : List A) (ds : Items) → AllByRecursion P xs → all_written f xs ≡ Some ds → all_of g ds ≡ Some xs
items_back f g P h [] ds p e = subst (λ (y : Items). all_of g y ≡ Some []) (some_is no_items ds e) refl
items_back f g P h (x ∷ xs) ds p e =
    let first = bind_some (f x) (λ (d : Data). all_written f xs >>= (λ zs. Some (item d zs))) ds e in
    let rest = bind_some (all_written f xs) (λ (zs : Items). Some (item first.0 zs)) ds first.2 in
    let step : all_of g (item first.0 rest.0) ≡ Some (x ∷ xs) =
    ap (λ (o : Option _). o >>= (λ y. all_of g rest.0 >>= (λ ys. Some (y ∷ ys)))) (h x first.0 p.0 first.1)
    ∙ ap (λ (o : Option (List _)). o >>= (λ ys. Some (x ∷ ys))) (items_back f g P h xs rest.0 p.1 rest.1) in
    subst (λ (y : Items). all_of g y ≡ Some (x ∷ xs)) (some_is (item first.0 rest.0) ds rest.2) step

pub list_back :
    {A : Type 0} (f : A → Option Data) (g : Data → Option A) (P : A → Type 0)
    → ((x : A) (d : Data) → P x → f x ≡ Some d → g d ≡ Some x)
    → (xs : List A) (d : Data) → AllByRecursion P xs → list_data f xs ≡ Some d → list_of g d ≡ Some xs
list_back f g P h xs d p e =
    let items = bind_some (all_written f xs) (λ (zs : Items). Some (json.array zs)) d e in
    subst (λ (y : Data). list_of g y ≡ Some xs) (some_is (json.array items.0) d items.2) (items_back f g P h xs items.0 p items.1)
