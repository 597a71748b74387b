use Rattle.wasm_syntax.proofs.ValidityLemmas.{first_valid}
use Rattle.wasm_module.proofs.sound.is_module.Goals as goal

pub returns : goal.returns
returns c = record {
  valid = first_valid c.args.decl.now c.requires;
  types_are = c.types_are.ensures.types;
  imports_are = c.types_are.ensures.imports;
  locals_are = c.types_are.ensures.locals;
  tables_are = c.types_are.ensures.tables;
  memories_are = c.types_are.ensures.memories;
  globals_are = c.types_are.ensures.globals;
  elements_are = c.types_are.ensures.elements;
}
