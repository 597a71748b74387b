use Rattle.std.proofs.Common.{ℕ, List, ◌++◌, length, ap, ◌∙◌}
use Rattle.std.specs.List.{filter_map}
use Rattle.wasm_syntax.specs.declared.declarations.ModuleDecl.{ModuleDecl}
use Rattle.wasm_values.specs.declared.externals.Extern.{Extern}
use Rattle.spec_execution.specs.Allocation.{from}
use Rattle.store_state.specs.Parts.{ProgramParts, HeldParts}
use Rattle.instance_parts.specs.Spaces.{number_as}
use Rattle.instance_parts.specs.declared.spaces.Space.TheVariants as space
use Rattle.instance_parts.proofs.making.number_objects.Goals as goal

pub returns-clause-functions : goal.returns-clause-functions
returns-clause-functions c = λ base.
    let p : ProgramParts = c.args.program.now in
    let imports : List Extern = c.args.imports.now in
    c.in_ok-functions.ensures
    ∙ ap (λ (n : ℕ). filter_map (number_as space.Functions) imports ++ from n c.len.result) c.function_count.ensures
    ∙ ap (λ (n : ℕ). filter_map (number_as space.Functions) imports ++ from (length p.functions) n)
    (c.len.ensures ∙ ap (λ (y : ModuleDecl). length y.functions) c.decl-decl.ensures.value)

pub returns-clause-globals : goal.returns-clause-globals
returns-clause-globals c = λ base.
    let h : HeldParts = c.args.held.now in
    let imports : List Extern = c.args.imports.now in
    c.in_ok-add_numbers.ensures
    ∙ ap (λ (l : List ℕ). l ++ from c.global_count.result c.len-2.result) c.in_ok-globals.ensures
    ∙ ap (λ (n : ℕ). filter_map (number_as space.Globals) imports ++ from n c.len-2.result) c.global_count.ensures
    ∙ ap (λ (n : ℕ). filter_map (number_as space.Globals) imports ++ from (length h.globals) n)
    (c.len-2.ensures ∙ ap (λ (y : ModuleDecl). length y.globals) c.decl-decl.ensures.value)
