-- Code is read alike to every depth that is at least that of the data.
use Rattle.std.proofs.Common.{◌≡◌, ℕ, zero, suc, ◌<◌, ◌≤◌, List, Option, Some, None, ◌∷◌, refl, sym, ap, ◌∙◌, arith, if◌then◌else◌}
use Rattle.std.specs.Prelude.{is_some}
use Rattle.serde_json.specs.Data.{Data, null, boolean, number, string, array, object, Items, no_items, item, depth, items_depth}
use Rattle.serde_json.specs.Find.{at, get_item, as_array}
use Rattle.script_json.specs.Fields.{◌>>=◌}
use Rattle.script_types.specs.Types.{whole_32}
use Rattle.wasm_syntax.specs.declared.instr.Instr.{Instr}
use Rattle.wasm_syntax.specs.declared.instr.Instr.TheVariants as i
use Rattle.script_modules.specs.Code.{Coder, block_of, choice_of, code_to, instr_by, instr_of, instrs_of, list_by, one_block_of, structured_by}
use Rattle.script_modules.specs.CodeParts.{begun, ended}
use Rattle.script_modules.specs.Immediates.{head, two_immediates, three_immediates}
use Rattle.script_modules.specs.InstrNames.{name_of}
use Rattle.script_modules.specs.declared.code_parts.CodeParts.{CodeParts}
use Rattle.script_modules.specs.declared.instr_names.InstrName.{InstrName}
use Rattle.script_modules.specs.declared.instr_names.InstrName.TheVariants.{Straight, Structured}
use Rattle.script_modules.specs.declared.instr_names.StructuredName.{StructuredName}
use Rattle.script_modules.specs.declared.instr_names.StructuredName.TheVariants as structured

-- a second step that is the same at what the first gives
then_same : {A B : Type 0} (o : Option A) (f g : A → Option B) → ((x : A) → o ≡ Some x → f x ≡ g x) → (o >>= f) ≡ (o >>= g)
then_same None f g h = refl
then_same (Some x) f g h = h x refl

-- what is within data is less deep

item_within : (k : ℕ) (ds : Items) (e : Data) → get_item k ds ≡ Some e → depth e ≤ items_depth ds
item_within k no_items e h = absurd (cc)
item_within zero (item d ds) e h = let p : d ≡ e = cc in let q : depth d ≡ depth e = ap depth p in omega arith
item_within (suc k) (item d ds) e h = let l : depth e ≤ items_depth ds = item_within k ds e h in omega arith

at_within : (k : ℕ) (d e : Data) → at k d ≡ Some e → depth e < depth d
at_within k (array ds) e h = let l : depth e ≤ items_depth ds = item_within k ds e h in omega arith
at_within k null e h = absurd (cc)
at_within k (boolean b) e h = absurd (cc)
at_within k (number n) e h = absurd (cc)
at_within k (string s) e h = absurd (cc)
at_within k (object ms) e h = absurd (cc)

items_within : (d : Data) (ds : Items) → as_array d ≡ Some ds → items_depth ds < depth d
items_within (array es) ds h = let p : es ≡ ds = cc in let q : items_depth es ≡ items_depth ds = ap items_depth p in omega arith
items_within null ds h = absurd (cc)
items_within (boolean b) ds h = absurd (cc)
items_within (number n) ds h = absurd (cc)
items_within (string s) ds h = absurd (cc)
items_within (object ms) ds h = absurd (cc)

-- the parts of what is behind a head

last_of_two : (first second more : Option Data) (both : Data × Data) → (first >>= (λ a. second >>= (λ b. if is_some more then None else Some (a, b)))) ≡ Some both → second ≡ Some both.1
last_of_two None second more both h = absurd (cc)
last_of_two (Some a) None more both h = absurd (cc)
last_of_two (Some a) (Some b) None both h = let p : (a, b) ≡ both = cc in ap (λ (x : Data × Data). Some x.1) p
last_of_two (Some a) (Some b) (Some c) both h = absurd (cc)

second_within : (d : Data) (both : Data × Data) → two_immediates d ≡ Some both → depth both.1 < depth d
second_within d both h = at_within 2 d both.1 (last_of_two (at 1 d) (at 2 d) (at 3 d) both h)

last_of_three : (first second third more : Option Data) (all : Data × Data × Data) → (first >>= (λ a. second >>= (λ b. third >>= (λ c. if is_some more then None else Some (a, b, c))))) ≡ Some all → (second ≡ Some all.1) × (third ≡ Some all.2)
last_of_three None second third more all h = absurd (cc)
last_of_three (Some a) None third more all h = absurd (cc)
last_of_three (Some a) (Some b) None more all h = absurd (cc)
last_of_three (Some a) (Some b) (Some c) None all h = let p : (a, b, c) ≡ all = cc in (ap (λ (x : Data × Data × Data). Some x.1) p, ap (λ (x : Data × Data × Data). Some x.2) p)
last_of_three (Some a) (Some b) (Some c) (Some e) all h = absurd (cc)

thirds_within : (d : Data) (all : Data × Data × Data) → three_immediates d ≡ Some all → (depth all.1 < depth d) × (depth all.2 < depth d)
thirds_within d all h =
    let parts = last_of_three (at 1 d) (at 2 d) (at 3 d) (at 4 d) all h in
    (at_within 2 d all.1 parts.0, at_within 3 d all.2 parts.1)

-- two coders that give the same of all data less deep than n
abbrev Agree : ℕ → Coder → Coder → Type 0
Agree n f g = (d : Data) (parts : CodeParts) → depth d < n → f d parts ≡ g d parts

block_same : (n : ℕ) (f g : Coder) → Agree n f g → (ty : ℕ) (d : Data) (parts : CodeParts) → depth d < n → block_of f ty d parts ≡ block_of g ty d parts
block_same n f g h ty d parts l =
    ap (λ (o : Option (List Instr × CodeParts)). o >>= (λ inner. Some ((begun ty parts).0, ended (begun ty parts).0 ty inner.0 inner.1))) (h d (begun ty parts).1 l)

one_block_same : (n : ℕ) (f g : Coder) → Agree n f g → (d : Data) (parts : CodeParts) → depth d ≤ n → one_block_of f d parts ≡ one_block_of g d parts
one_block_same n f g h d parts l =
    then_same (two_immediates d) _ _ (λ both e. then_same (whole_32 both.0) _ _ (λ ty k.
    let w : depth both.1 < depth d = second_within d both e in block_same n f g h ty both.1 parts (omega arith)))

-- the two blocks of an if
abbrev both_blocks : Coder → ℕ → Data → Data → CodeParts → Option (Instr × CodeParts)
both_blocks f ty d e parts = do
  first ← block_of f ty d parts
  second ← block_of f ty e first.1
  Some (i.If first.0 second.0, second.1)

abbrev chosen : ℕ → ℕ × CodeParts → Option (Instr × CodeParts)
chosen first second = Some (i.If first second.0, second.1)

both_same : (n : ℕ) (f g : Coder) → Agree n f g → (ty : ℕ) (d e : Data) (parts : CodeParts) → depth d < n → depth e < n → both_blocks f ty d e parts ≡ both_blocks g ty d e parts
both_same n f g h ty d e parts l k =
    ap (λ (o : Option (ℕ × CodeParts)). o >>= (λ first. block_of f ty e first.1 >>= chosen first.0)) (block_same n f g h ty d parts l)
    ∙ then_same (block_of g ty d parts) (λ first. block_of f ty e first.1 >>= chosen first.0) (λ first. block_of g ty e first.1 >>= chosen first.0) (λ first q. ap (λ (o : Option (ℕ × CodeParts)). o >>= chosen first.0) (block_same n f g h ty e first.1 k))

choice_same : (n : ℕ) (f g : Coder) → Agree n f g → (d : Data) (parts : CodeParts) → depth d ≤ n → choice_of f d parts ≡ choice_of g d parts
choice_same n f g h d parts l =
    then_same (three_immediates d) _ _ (λ all e. then_same (whole_32 all.0) _ _ (λ ty k.
    let w = thirds_within d all e in both_same n f g h ty all.1 all.2 parts (omega arith) (omega arith)))

structured_same : (n : ℕ) (f g : Coder) → Agree n f g → (d : Data) (name : StructuredName) (parts : CodeParts) → depth d ≤ n → structured_by f d name parts ≡ structured_by g d name parts
structured_same n f g h d structured.Block parts l =
    ap (λ (o : Option (ℕ × CodeParts)). o >>= (λ b. Some (i.Block b.0, b.1))) (one_block_same n f g h d parts l)
structured_same n f g h d structured.Loop parts l =
    ap (λ (o : Option (ℕ × CodeParts)). o >>= (λ b. Some (i.Loop b.0, b.1))) (one_block_same n f g h d parts l)
structured_same n f g h d structured.If parts l = choice_same n f g h d parts l
structured_same n f g h d structured.BrTable parts l = refl

by_same : (n : ℕ) (f g : Coder) → Agree n f g → (d : Data) (name : InstrName) (parts : CodeParts) → depth d ≤ n → instr_by f d name parts ≡ instr_by g d name parts
by_same n f g h d (Straight name) parts l = refl
by_same n f g h d (Structured name) parts l = structured_same n f g h d name parts l

instr_same : (n : ℕ) (f g : Coder) → Agree n f g → (d : Data) (parts : CodeParts) → depth d ≤ n → instr_of f d parts ≡ instr_of g d parts
instr_same n f g h d parts l =
    then_same (head d) _ _ (λ word e. then_same (name_of word) _ _ (λ name k. by_same n f g h d name parts l))

-- the instructions behind the first
abbrev put_first : Instr → List Instr × CodeParts → Option (List Instr × CodeParts)
put_first first rest = Some (first ∷ rest.0, rest.1)

abbrev behind : Coder → Items → Instr × CodeParts → Option (List Instr × CodeParts)
behind f ds first = instrs_of f ds first.1 >>= put_first first.0

instrs_same : (n : ℕ) (f g : Coder) → Agree n f g → (ds : Items) (parts : CodeParts) → items_depth ds ≤ n → instrs_of f ds parts ≡ instrs_of g ds parts
instrs_same n f g h no_items parts l = refl
instrs_same n f g h (item d ds) parts l =
    let k : depth d ≤ n = omega arith in
    let m : items_depth ds ≤ n = omega arith in
    ap (λ (o : Option (Instr × CodeParts)). o >>= behind f ds) (instr_same n f g h d parts k)
    ∙ then_same (instr_of g d parts) (behind f ds) (behind g ds) (λ first q. ap (λ (o : Option (List Instr × CodeParts)). o >>= put_first first.0) (instrs_same n f g h ds first.1 m))

list_same : (n : ℕ) (f g : Coder) → Agree n f g → (d : Data) (parts : CodeParts) → depth d ≤ n → list_by f d parts ≡ list_by g d parts
list_same n f g h d parts l =
    then_same (as_array d) _ _ (λ ds e. let w : items_depth ds < depth d = items_within d ds e in instrs_same n f g h ds parts (omega arith))

-- data that is no array is no code
no_code : (f : Coder) (d : Data) (parts : CodeParts) → depth d ≡ 0 → None ≡ list_by f d parts
no_code f (array ds) parts h = absurd (omega arith)
no_code f null parts h = refl
no_code f (boolean b) parts h = refl
no_code f (number n) parts h = refl
no_code f (string s) parts h = refl
no_code f (object ms) parts h = refl

pub code_same : (n m : ℕ) (d : Data) (parts : CodeParts) → depth d ≤ n → depth d ≤ m → code_to n d parts ≡ code_to m d parts
unfolding code_to
code_same zero zero d parts k l = refl
code_same zero (suc m) d parts k l = no_code (code_to m) d parts (omega arith)
code_same (suc n) zero d parts k l = sym (no_code (code_to n) d parts (omega arith))
code_same (suc n) (suc m) d parts k l =
    list_same (depth d) (code_to n) (code_to m) (λ e q w. code_same n m e q (omega arith) (omega arith)) d parts (omega arith)
