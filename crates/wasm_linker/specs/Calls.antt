-- What a list of calls makes of a linker, one after another. This project's own.
use Rattle.std.specs.Prelude.{List, [], ◌∷◌, Result, Ok, Err}
use Rattle.spec_machine.specs.Machine.{Machine}
use Rattle.linker_map.specs.Linkers.{LinkerParts, alias}
use Rattle.linker_map.specs.declared.faults.LinkFault.{LinkFault}
use Rattle.wasm_linker.specs.Defining.{define, define_instance}
use Rattle.wasm_linker.specs.declared.laws.LinkCall.{LinkCall}
use Rattle.wasm_linker.specs.declared.laws.LinkCall.TheVariants.{AllowShadowing, Define, Alias, Exports}

-- a call that is refused changes nothing
abbrev pub or_same : LinkerParts → Result LinkerParts LinkFault → LinkerParts
or_same l (Ok new) = new
or_same l (Err why) = l

-- one call, over a store that stays as it is
abbrev pub after_call : Machine → LinkCall → LinkerParts → LinkerParts
after_call m (AllowShadowing allow) l = record l { shadowing = allow }
after_call m (Define pair item) l = or_same l (define m pair.0.now pair.1.now item l)
after_call m (Alias pair as_pair) l = or_same l (alias pair.0.now pair.1.now as_pair.0.now as_pair.1.now l)
after_call m (Exports space instance) l = or_same l (define_instance m space.now instance l)

abbrev pub after_calls : Machine → List LinkCall → LinkerParts → LinkerParts
after_calls m [] l = l
after_calls m (call ∷ more) l = after_calls m more (after_call m call l)
