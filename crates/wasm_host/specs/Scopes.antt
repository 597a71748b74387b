-- Where names are looked up, as the code has it.
use Rattle.spec_machine.specs.Names.{Scope}
use Rattle.wasm_host.specs.declared.names.Scope.{Scope as Lent}

abbrev pub scope_of : Lent → Scope
scope_of s = record { replies = s.replies.now; arguments = s.arguments.now; stored = s.stored.now; caller = s.caller }
