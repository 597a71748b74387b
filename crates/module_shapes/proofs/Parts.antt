-- The shape of a function, by its parts.
use Rattle.std.proofs.Common.{◌≡◌, ℕ, ◌^◌, Bool, true, false, not, ◌&&◌, List, length, sum_by, Ok, Err, refl, ◌∙◌, subst}
use Rattle.std.specs.Prelude.{Result, IfOk, drop, flat_map, count_by, nat_eq, nat_lt}
use Rattle.std.specs.List.{list_all}
use Rattle.wasm_types.specs.declared.faults.OutOfMemory.{OutOfMemory}
use Rattle.wasm_syntax.specs.Shapes.{all_from, are_later, names, is_empty, begins_with_type, is_within, has_shape, has_body, names_later_blocks, is_nested_within, names_each_once, has_few_instructions, has_default_labels, has_few_labels}
use Rattle.wasm_syntax.specs.Typing.{most_nested}
use Rattle.wasm_syntax.specs.declared.declarations.Block.{Block}
use Rattle.wasm_syntax.specs.declared.declarations.FuncDecl.{FuncDecl}

both : (b g : Bool) → (b && g) ≡ ((((((true && b) && true) && true) && true) && true) && g)
both true g = refl
both false g = refl

of_parts : (a b c d e f g : Bool) → true ≡ a → true ≡ c → true ≡ d → true ≡ e → true ≡ f → (b && g) ≡ ((((((a && b) && c) && d) && e) && f) && g)
of_parts a b c d e f g p q r s t = rw (← p, ← q, ← r, ← s, ← t) (both b g)

-- at the function's own lists
at_own :
    (f : FuncDecl) (b : Bool) → true ≡ has_body f → true ≡ has_few_instructions f → true ≡ has_default_labels f → true ≡ has_few_labels f →
    true ≡ names_each_once f → b ≡ (names_later_blocks f && is_nested_within f) → b ≡ has_shape f
at_own f b body few labels few_labels once fits =
    fits ∙ of_parts (has_body f) (names_later_blocks f) (names_each_once f) (has_few_instructions f) (has_default_labels f) (has_few_labels f) (is_nested_within f) body once few labels few_labels

pub has_shape-parts :
    (r : Result Bool OutOfMemory) (f : FuncDecl) (n : ℕ) (bs : List Block) (ts : List (List ℕ)) →
    n ≡ most_nested → bs ≡ f.blocks → ts ≡ f.targets → true ≡ begins_with_type f.ty bs →
    true ≡ not (nat_lt (2 ^ 20) (sum_by (λ (b : Block). length b.instrs) bs)) →
    true ≡ list_all (λ labels. not (is_empty labels)) ts → true ≡ not (nat_lt (2 ^ 20) (sum_by length ts)) →
    true ≡ all_from (λ own b. nat_eq (count_by (nat_eq own) (flat_map names bs)) 1) 1 (drop 1 bs) →
    IfOk r (λ fits. fits ≡ (all_from (λ own b. are_later (length bs) own (names b)) 0 bs && is_within n bs 0)) →
    IfOk r (λ shaped. shaped ≡ has_shape f)
has_shape-parts (Err e) f n bs ts m p q body few labels few_labels once fits = tt
has_shape-parts (Ok b) f n bs ts m p q body few labels few_labels once fits =
    at_own f b
    (subst (λ (xs : List Block). true ≡ begins_with_type f.ty xs) p body)
    (subst (λ (xs : List Block). true ≡ not (nat_lt (2 ^ 20) (sum_by (λ (b : Block). length b.instrs) xs))) p few)
    (subst (λ (xs : List (List ℕ)). true ≡ list_all (λ labels. not (is_empty labels)) xs) q labels)
    (subst (λ (xs : List (List ℕ)). true ≡ not (nat_lt (2 ^ 20) (sum_by length xs))) q few_labels)
    (subst (λ (xs : List Block). true ≡ all_from (λ own b. nat_eq (count_by (nat_eq own) (flat_map names xs)) 1) 1 (drop 1 xs)) p once)
    (subst (λ (xs : List Block). b ≡ (all_from (λ own b. are_later (length xs) own (names b)) 0 xs && is_within most_nested xs 0)) p
    (subst (λ (k : ℕ). b ≡ (all_from (λ own b. are_later (length bs) own (names b)) 0 bs && is_within k bs 0)) m fits))
