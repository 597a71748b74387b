-- The code of a function, as the context in which it is typed.
use Rattle.wasm_syntax.specs.Contexts.{Context, context}
use Rattle.module_typing.specs.declared.code.Code.{Code}

-- the context of a function's code; this project's own
abbrev pub in_code : Code → Context
in_code c = context c.spaces.now.decl.now c.function.now
