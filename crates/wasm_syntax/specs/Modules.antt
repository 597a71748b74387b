-- Modules: declarations that break no rule, and in which every type is a type.
-- WebAssembly core specification, "Validation, Modules" and "Validation, types". A declaration is data, and a rule of it
-- speaks of what its items name and are: that a minimum is within its maximum, or that a supertype fits, no rule says.
-- It is what each type's own constructors assure, and what a store needs to stay well formed once the module is
-- instantiated. The ranges of numbers (an index is below 2^32, a byte below 256) are those of the Rust types and stand
-- in no field: a store needs none of them, since a size past the range of indices is refused before it is made.
use Rattle.std.specs.Prelude.{◌≡◌, true}
use Rattle.wasm_types.specs.Each.{Each}
use Rattle.wasm_types.specs.FunctionRules.{IsSound}
use Rattle.wasm_types.specs.MemoryTypes.{MemoryParts, are_memory_limits}
use Rattle.wasm_types.specs.SoundTypes.{IsRefSound, IsValSound, IsTableSound, IsGlobalSound, IsExternSound}
use Rattle.wasm_syntax.specs.Rules.{IsValid}
use Rattle.wasm_syntax.specs.declared.declarations.FuncDecl.{FuncDecl}
use Rattle.wasm_syntax.specs.declared.declarations.GlobalDecl.{GlobalDecl}
use Rattle.wasm_syntax.specs.declared.declarations.ImportDecl.{ImportDecl}
use Rattle.wasm_syntax.specs.declared.declarations.ModuleDecl.{ModuleDecl}
use Rattle.wasm_syntax.specs.declared.declarations.TableDecl.{TableDecl}
use Rattle.wasm_syntax.specs.declared.segments.ElemDecl.{ElemDecl}

-- a tag is the number of a type, and so is the type of a function and of a block
pub record IsModule (d : ModuleDecl) : Type 0 where
  pub valid : IsValid d
  pub types_are : Each d.types IsSound
  pub imports_are : Each d.imports (λ (i : ImportDecl). IsExternSound i.ty)
  pub locals_are : Each d.functions (λ (f : FuncDecl). Each f.locals IsValSound)
  pub tables_are : Each d.tables (λ (t : TableDecl). IsTableSound t.ty)
  pub memories_are : Each d.memories (λ (t : MemoryParts). are_memory_limits t ≡ true)
  pub globals_are : Each d.globals (λ (g : GlobalDecl). IsGlobalSound g.ty)
  pub elements_are : Each d.elements (λ (s : ElemDecl). IsRefSound s.ty)
