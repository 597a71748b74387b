use Rattle.std.proofs.Common.{◌∙◌, ap, sym, List, ℕ, is_none, Some}
use Rattle.std.specs.Map.{update}
use Rattle.std.specs.Prelude.{string_bytes}
use Rattle.std.specs.Str.{bytes_eq}
use Rattle.std.proofs.lemmas.Map.Text.{btree_map_updates_text}
use Rattle.wasm_module.specs.Exports.{Entry, entity_named}
use Rattle.wasm_module.proofs.ExportNames.{Names, names_of, none_is}
use Rattle.wasm_module.proofs.exports.Exports.insert.Goals as goal

pub returns-clause-new : goal.returns-clause-new
returns-clause-new c =
    let key = string_bytes c.in_ok-name.name in
    none_is c.in_ok-before.before c.is_none.result c.is_none.ensures
    ∙ ap is_none (c.in_ok-before.ensures.old
    ∙ ap (λ (names : Names). names key) (sym (names_of c.self.inside.by_name))
    ∙ ap (λ (es : List Entry). entity_named es key) c.self.view_is)
    ∙ ap (λ (name : List ℕ). is_none (entity_named c.args.self.now name)) c.in_ok-name.ensures.ok

pub returns-clause-added : goal.returns-clause-added
returns-clause-added c =
    let key = string_bytes c.in_ok-name.name in
    names_of c.insert.new.self
    ∙ (λ i q. btree_map_updates_text key c.self.inside.by_name c.insert.new.self (Some c.args.entity) c.in_ok-before.ensures.updates q i)
    ∙ ap (λ (names : Names). update bytes_eq names key (Some c.args.entity))
    (sym (names_of c.self.inside.by_name) ∙ ap entity_named c.self.view_is)
    ∙ ap (λ (name : List ℕ). update bytes_eq (entity_named c.args.self.now) name (Some c.args.entity)) c.in_ok-name.ensures.ok
