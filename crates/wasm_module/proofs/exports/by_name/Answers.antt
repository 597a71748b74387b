use Rattle.std.proofs.Common.{◌≡◌, ◌≤◌, sym, subst, List, length, Some, None, IfErr, OnOk}
use Rattle.module_rules.proofs.SizeLemmas.{few_exports}
use Rattle.wasm_syntax.specs.FirstBroken.{first_from}
use Rattle.wasm_syntax.specs.declared.declarations.ExportDecl.{ExportDecl}
use Rattle.wasm_module.specs.Exports.{named_before}
use Rattle.wasm_module.proofs.ExportNames.{names_kept, names_broken}
use Rattle.wasm_module.proofs.exports.by_name.Goals as goal

pub exports_by_name-requires : goal.exports_by_name-requires
exports_by_name-requires c = subst (λ (xs : List ExportDecl). length xs ≤ 1000000) (sym c.as_slice.ensures) (few_exports c.args.decl.now c.requires)

pub returns-in-Ok-clause-place : goal.returns-in-Ok-clause-place
returns-in-Ok-clause-place c =
    let told : OnOk c.in_ok-exports.field-0 (first_from (named_before c.as_slice.result.now) 0 c.as_slice.result.now ≡ None) = c.in_ok-exports.ensures.distinct in
    sym (names_kept c.args.decl.now
    (subst (λ (xs : List ExportDecl). first_from (named_before xs) 0 xs ≡ None) c.as_slice.ensures (rw c.in-Ok.is at told)))

pub returns-in-Err-clause-place : goal.returns-in-Err-clause-place
returns-in-Err-clause-place c =
    let told : IfErr c.in_ok-exports.field-0 (λ number. first_from (named_before c.as_slice.result.now) 0 c.as_slice.result.now ≡ Some number) = c.in_ok-exports.ensures.twice in
    sym (names_broken c.args.decl.now c.in-Err.item
    (subst (λ (xs : List ExportDecl). first_from (named_before xs) 0 xs ≡ Some c.in-Err.item) c.as_slice.ensures (rw c.in-Err.is at told)))
