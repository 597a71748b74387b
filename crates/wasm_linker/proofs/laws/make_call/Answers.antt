use Rattle.linker_map.specs.Linkers.{alias}
use Rattle.wasm_linker.specs.Defining.{define, define_instance}
use Rattle.wasm_linker.proofs.CallLemmas.{on_ok, keeps, call_is}
use Rattle.wasm_linker.proofs.laws.make_call.Goals as goal

pub returns-in-Define : goal.returns-in-Define
returns-in-Define g c =
    rw c.in-Define.is
    (on_ok c.unless_short.result
    (call_is (define c.args.store.now.machine c.in-Define.pair.0.now c.in-Define.pair.1.now c.in-Define.item c.args.linker.now)
    c.args.linker.now c.define.new.self c.define.result c.define.ensures.defined c.define.ensures.refused
    (keeps _ _ _ c.define.ensures.unchanged))
    c.unless_short.ensures)

pub returns-in-Alias : goal.returns-in-Alias
returns-in-Alias g c =
    rw c.in-Alias.is
    (on_ok c.unless_short-in-Alias.result
    (call_is
    (alias c.in-Alias.pair.0.now c.in-Alias.pair.1.now c.in-Alias.as_pair.0.now c.in-Alias.as_pair.1.now
    c.args.linker.now)
    c.args.linker.now c.alias.new.self c.alias.result c.alias.ensures.defined c.alias.ensures.refused
    (keeps _ _ _ c.alias.ensures.unchanged))
    c.unless_short-in-Alias.ensures)

pub returns-in-Exports : goal.returns-in-Exports
returns-in-Exports g c =
    rw c.in-Exports.is
    (on_ok c.unless_short-in-Exports.result
    (call_is (define_instance c.args.store.now.machine c.in-Exports.module.now c.in-Exports.instance c.args.linker.now)
    c.args.linker.now c.instance.new.self c.instance.result c.instance.ensures.defined c.instance.ensures.refused
    c.instance.ensures.unchanged)
    c.unless_short-in-Exports.ensures)
