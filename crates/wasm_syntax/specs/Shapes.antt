-- The shape of a function's blocks: a tree below block 0, since each block names the blocks in it by number; and its
-- limits. This project's own: the core specification writes inner code in place.
use Rattle.std.specs.Prelude.{ℕ, zero, suc, ◌^◌, Bool, true, false, not, ◌&&◌, List, [], ◌∷◌, drop, length, sum_by, count_by, flat_map, Option, Some, None, nat_eq, nat_lt, slice_get}
use Rattle.std.specs.List.{list_all}
use Rattle.wasm_syntax.specs.Instructions.{blocks_named}
use Rattle.wasm_syntax.specs.Typing.{most_nested}
use Rattle.wasm_syntax.specs.declared.declarations.Block.{Block}
use Rattle.wasm_syntax.specs.declared.declarations.FuncDecl.{FuncDecl}

-- whether each item, numbered from n on, passes a test with its number
abbrev pub all_from : {A : Type 0} → (ℕ → A → Bool) → ℕ → List A → Bool
all_from test n [] = true
all_from test n (x ∷ xs) = test n x && all_from test (suc n) xs

abbrev pub is_empty : {A : Type 0} → List A → Bool
is_empty [] = true
is_empty (x ∷ xs) = false

-- the blocks that a block names, that all blocks name
abbrev pub names : Block → List ℕ
names b = flat_map blocks_named b.instrs

abbrev pub all_names : FuncDecl → List ℕ
all_names f = flat_map names f.blocks

-- block 0 is there, and its type is the function's
abbrev pub begins_with_type : ℕ → List Block → Bool
begins_with_type n [] = false
begins_with_type n (b ∷ bs) = nat_eq b.ty n

abbrev pub has_body : FuncDecl → Bool
has_body f = begins_with_type f.ty f.blocks

-- each block that a block names has a greater number and is there
abbrev pub are_later : ℕ → ℕ → List ℕ → Bool
are_later blocks own ns = list_all (λ n. nat_lt own n && nat_lt n blocks) ns

abbrev pub names_later_blocks : FuncDecl → Bool
names_later_blocks f = all_from (λ own b. are_later (length f.blocks) own (names b)) 0 f.blocks

-- each block but block 0 is named exactly once
abbrev pub names_each_once : FuncDecl → Bool
names_each_once f = all_from (λ own b. nat_eq (count_by (nat_eq own) (all_names f)) 1) 1 (drop 1 f.blocks)

-- the blocks hold at most 2^20 instructions
abbrev pub has_few_instructions : FuncDecl → Bool
has_few_instructions f = not (nat_lt (2 ^ 20) (sum_by (λ (b : Block). length b.instrs) f.blocks))

-- each target list has a label, and they hold at most 2^20
abbrev pub has_default_labels : FuncDecl → Bool
has_default_labels f = list_all (λ labels. not (is_empty labels)) f.targets

abbrev pub has_few_labels : FuncDecl → Bool
has_few_labels f = not (nat_lt (2 ^ 20) (sum_by length f.targets))

-- each block that a block names passes a test
abbrev pub are_within : (ℕ → Bool) → Option Block → Bool
are_within test None = false
are_within test (Some b) = list_all test (names b)

-- block b is there, and the blocks in it are at most n deep, itself counted
abbrev pub is_within : ℕ → List Block → ℕ → Bool
is_within zero bs b = false
is_within (suc n) bs b = are_within (is_within n bs) (slice_get bs b)

abbrev pub is_nested_within : FuncDecl → Bool
is_nested_within f = is_within most_nested f.blocks 0

abbrev pub has_shape : FuncDecl → Bool
has_shape f =
    has_body f && names_later_blocks f && names_each_once f && has_few_instructions f && has_default_labels f
    && has_few_labels f && is_nested_within f
