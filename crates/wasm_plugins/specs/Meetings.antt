-- Which of some nodes stands first, and where guests are met, as the code tells it. This project's own.
use Rattle.std.specs.Prelude.{◌≡◌, ℕ, Bool, true, false, ◌&&◌, ◌||◌, List, nat_eq, nat_lt, if◌then◌else◌, Option, Some, None}
use Rattle.wasm_values.specs.Handles.{func_index, global_index, table_index, memory_index}
use Rattle.wasm_values.specs.declared.externals.Extern.{Extern}
use Rattle.wasm_values.specs.declared.externals.Extern.TheVariants as x
use Rattle.spec_reach.specs.Nodes.{Node as Reached, func, instance, memory, table, global, has}
use Rattle.store_objects.specs.declared.node.Node.{Node}
use Rattle.store_objects.specs.declared.node.Node.TheVariants as node
use Rattle.wasm_plugins.specs.Guests.{of_reached}

-- an object as a node, of whatever store it is; a tag is none
abbrev pub node_of : Extern → Option Node
node_of (x.Func h) = Some (node.Func (func_index h))
node_of (x.Global h) = Some (node.Global (global_index h))
node_of (x.Table h) = Some (node.Table (table_index h))
node_of (x.Memory h) = Some (node.Memory (memory_index h))
node_of (x.Tag h) = None

-- the place of a guest, and a node that it reaches
abbrev pub as_found : ℕ × Reached → ℕ × Node
as_found p = (p.0, of_reached p.1)

-- ---- the order of nodes: functions, instances, memories, tables, globals, each by number

abbrev pub kind_of : Reached → ℕ
kind_of (func n) = 0
kind_of (instance n) = 1
kind_of (memory n) = 2
kind_of (table n) = 3
kind_of (global n) = 4

abbrev pub number_of : Reached → ℕ
number_of (func n) = n
number_of (instance n) = n
number_of (memory n) = n
number_of (table n) = n
number_of (global n) = n

abbrev pub is_before : Reached → Reached → Bool
is_before x y =
    nat_lt (kind_of x) (kind_of y) || (nat_eq (kind_of x) (kind_of y) && nat_lt (number_of x) (number_of y))

-- the one of two that stands first, where there are two
abbrev pub first_of : Option Reached → Reached → Reached
first_of None x = x
first_of (Some y) x = if is_before y x then y else x

-- and where the other counts
abbrev pub or_first : Bool → Option Reached → Reached → Option Reached
or_first true first x = Some (first_of first x)
or_first false first x = first

-- of a set, what passes a test and stands behind nothing else of it that does; nothing, where nothing does
pub record IsFirst (test : Reached → Bool) (set : List Reached) (x : Reached) : Type 0 where
  pub passes : test x ≡ true
  pub of : has set x ≡ true
  pub first : (y : Reached) → has set y ≡ true → test y ≡ true → is_before y x ≡ false

abbrev pub IsFirstOf : (Reached → Bool) → List Reached → Option Reached → Type 0
IsFirstOf test set None = (x : Reached) → has set x ≡ true → test x ≡ false
IsFirstOf test set (Some x) = IsFirst test set x
