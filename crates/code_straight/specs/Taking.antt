-- Operands that are taken from the top, by what they lead to. This project's own.
use Rattle.std.specs.Prelude.{◌≡◌, ℕ, Bool, true, false, List, Option, Some, None}
use Rattle.wasm_objects.specs.declared.raw.RawRef.{RawRef}
use Rattle.wasm_objects.specs.declared.raw.RawVal.{RawVal}
use Rattle.spec_execution.specs.Operands as on
use Rattle.spec_execution.specs.Straight.{Effect, Sticks}

-- what was taken, and the operands that are left: whatever follows has these, or nothing fits
abbrev pub Takes : {A : Type 0} → ((A → List RawVal → Effect) → Effect) → Option A → List RawVal → Type 0
Takes {A} on None rest = (go : A → List RawVal → Effect) → on go ≡ Sticks
Takes {A} on (Some a) rest = (go : A → List RawVal → Effect) → on go ≡ go a rest

-- the same of two, of three
abbrev pub Takes2 : {A B : Type 0} → ((A → B → List RawVal → Effect) → Effect) → Option (A × B) → List RawVal → Type 0
Takes2 {A} {B} on None rest = (go : A → B → List RawVal → Effect) → on go ≡ Sticks
Takes2 {A} {B} on (Some p) rest = (go : A → B → List RawVal → Effect) → on go ≡ go p.0 p.1 rest

abbrev pub Takes3 : {A B C : Type 0} → ((A → B → C → List RawVal → Effect) → Effect) → Option (A × B × C) →
    List RawVal → Type 0
Takes3 {A} {B} {C} on None rest = (go : A → B → C → List RawVal → Effect) → on go ≡ Sticks
Takes3 {A} {B} {C} on (Some p) rest = (go : A → B → C → List RawVal → Effect) → on go ≡ go p.0 p.1 p.2 rest

-- a width in bits
abbrev pub width : Bool → ℕ
width true = 64
width false = 32

-- two integers of so many bits
abbrev pub taking_two : ℕ → List RawVal → (ℕ → ℕ → List RawVal → Effect) → Effect
taking_two n ops go = on.on_integer Sticks n ops (λ y rest1. on.on_integer Sticks n rest1 (λ x rest. go x y rest))

abbrev pub taking_three : List RawVal → (ℕ → ℕ → ℕ → List RawVal → Effect) → Effect
taking_three ops go =
    on.on_i32 Sticks ops (λ c rest2. on.on_i32 Sticks rest2 (λ b rest1. on.on_i32 Sticks rest1 (λ a rest. go a b c rest)))

-- an address, and an integer of so many bits above it
abbrev pub taking_stored : ℕ → List RawVal → (ℕ → ℕ → List RawVal → Effect) → Effect
taking_stored n ops go = on.on_integer Sticks n ops (λ v rest1. on.on_i32 Sticks rest1 (λ a rest. go a v rest))

-- a place, and a reference above it
abbrev pub taking_element : List RawVal → (ℕ → RawRef → List RawVal → Effect) → Effect
taking_element ops go = on.on_reference Sticks ops (λ y rest1. on.on_i32 Sticks rest1 (λ at rest. go at y rest))

-- a place, a reference and a number of elements above it
abbrev pub taking_filling : List RawVal → (ℕ → RawRef → ℕ → List RawVal → Effect) → Effect
taking_filling ops go =
    on.on_i32 Sticks ops (λ len rest2. on.on_reference Sticks rest2 (λ y rest1. on.on_i32 Sticks rest1 (λ at rest.
    go at y len rest)))

-- two values, and a condition above them
abbrev pub taking_choice : List RawVal → (RawVal → RawVal → ℕ → List RawVal → Effect) → Effect
taking_choice ops go =
    on.on_i32 Sticks ops (λ c rest2. on.on_value Sticks rest2 (λ y rest1. on.on_value Sticks rest1 (λ x rest.
    go x y c rest)))
