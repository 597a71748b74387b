-- What a run reads, with one owner or with several. This project's own.
use Rattle.store_state.specs.Parts.{ProgramParts}
use Rattle.store_objects.specs.declared.sharing.Shared.{Shared}
use Rattle.store_objects.specs.declared.sharing.Shared.TheVariants as shared

abbrev pub shared_program : Shared → ProgramParts
shared_program (shared.Own program) = program
shared_program (shared.Counted program) = program.value
