use Rattle.std.proofs.Common.{◌∙◌, refl, ap, sym, true≢false, Ok, Err}
use Rattle.linker_map.specs.Imports.{first_unknown, resolved}
use Rattle.wasm_linker.specs.InPlace.{fit_in_place}
use Rattle.wasm_linker.proofs.LinkLemmas.{known, same_items, ok_names, ok_names_none, told_names_none, fault_names, listed_due}
use Rattle.wasm_linker.proofs.UnlistedLemmas.{unlisted_due, unlisted_refuses, unlisted_names}
use Rattle.wasm_linker.proofs.linker.Linker.instantiate_pre.Goals as goal

pub returns-in-Ok-new-clause-unknown : goal.returns-in-Ok-new-clause-unknown
returns-in-Ok-new-clause-unknown g c =
    ok_names c.in-Ok.items (Ok c.in-Ok-new.pre) (first_unknown c.args.self.now c.args.module.now.imports)
    (λ i. ok_names_none c.in-Ok-new.pre i) c.in-Ok.ensures.unknown

pub returns-in-Ok-new-clause-due : goal.returns-in-Ok-new-clause-due
returns-in-Ok-new-clause-due g c =
    λ items e. listed_due c.args.store.now.machine c.args.module.now c.as_slice.result.now items (Ok c.in-Ok-new.pre)
    (Ok c.in-Ok-new.pre) refl
    (c.as_slice.ensures
    ∙ same_items (resolved c.args.self.now c.args.module.now.imports) c.in-Ok.items items c.in-Ok.ensures.found e)
    c.in-Ok-new.ensures.due

pub returns-in-Ok-clause-unknown : goal.returns-in-Ok-clause-unknown
returns-in-Ok-clause-unknown g c =
    ok_names c.in-Ok.items (Err c.told_fault.result) (first_unknown c.args.self.now c.args.module.now.imports)
    (λ i. told_names_none c.in-Err-new.why c.told_fault.result i c.told_fault.ensures) c.in-Ok.ensures.unknown

pub returns-in-Ok-clause-due : goal.returns-in-Ok-clause-due
returns-in-Ok-clause-due g c =
    λ items e. listed_due c.args.store.now.machine c.args.module.now c.as_slice.result.now items (Err c.in-Err-new.why)
    (Err c.told_fault.result) (ap Err c.told_fault.ensures)
    (c.as_slice.ensures
    ∙ same_items (resolved c.args.self.now c.args.module.now.imports) c.in-Ok.items items c.in-Ok.ensures.found e)
    c.in-Err-new.ensures.due

pub returns-then-is_short-clause-unknown : goal.returns-then-is_short-clause-unknown
returns-then-is_short-clause-unknown g c =
    unlisted_names c.in-Err.fault c.unlisted.result
    (fit_in_place c.args.store.now.machine c.args.module.now c.args.self.now)
    (first_unknown c.args.self.now c.args.module.now.imports) (c.is_short.ensures.0 c.if-is_short.true)
    c.unlisted.ensures c.in-Err.ensures.unknown

pub returns-then-is_short-clause-refused : goal.returns-then-is_short-clause-refused
returns-then-is_short-clause-refused g c =
    λ items e. unlisted_refuses c.args.store.now.machine c.args.module.now c.args.self.now c.unlisted.result
    c.unlisted.ensures items e

pub returns-then-is_short-clause-due : goal.returns-then-is_short-clause-due
returns-then-is_short-clause-due g c =
    λ items e. unlisted_due c.args.store.now.machine c.args.module.now c.args.self.now c.unlisted.result
    c.unlisted.ensures items e _

pub returns-clause-unknown : goal.returns-clause-unknown
returns-clause-unknown g c =
    fault_names c.in-Err.fault (first_unknown c.args.self.now c.args.module.now.imports) c.in-Err.ensures.unknown

pub returns-clause-refused : goal.returns-clause-refused
returns-clause-refused g c =
    λ items e. absurd (true≢false
    (sym (c.is_short.ensures.1 (c.in-Err.ensures.short (known c.args.self.now c.args.module.now.imports items e)))
    ∙ c.if-is_short.false))

pub returns-clause-due : goal.returns-clause-due
returns-clause-due g c =
    λ items e. absurd (true≢false
    (sym (c.is_short.ensures.1 (c.in-Err.ensures.short (known c.args.self.now c.args.module.now.imports items e)))
    ∙ c.if-is_short.false))
