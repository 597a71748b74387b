-- The code by which proofs tell declarations apart; a record that holds one cites it.
use Rattle.std.specs.Coded.{Coded}
use Rattle.wasm_syntax.specs.declared.declarations.ModuleDecl.{ModuleDecl}
use Rattle.wasm_syntax.specs.contracts.declarations.ModuleDecl as module_decl

abbrev pub module_decl_code : Coded ModuleDecl
module_decl_code = module_decl.the_row.coded
