use Rattle.wasm_values.specs.Externals.{extern_func, extern_table, extern_memory, extern_global, extern_tag}
use Rattle.law_instances.proofs.ExportLemmas.{look_ups_agree, look_ups_of_kind_agree}
use Rattle.law_instances.proofs.laws.law_exports_stay.Goals as goal

pub returns-clause-externals : goal.returns-clause-externals
returns-clause-externals c = look_ups_agree

pub returns-clause-functions : goal.returns-clause-functions
returns-clause-functions c = look_ups_of_kind_agree extern_func

pub returns-clause-tables : goal.returns-clause-tables
returns-clause-tables c = look_ups_of_kind_agree extern_table

pub returns-clause-memories : goal.returns-clause-memories
returns-clause-memories c = look_ups_of_kind_agree extern_memory

pub returns-clause-globals : goal.returns-clause-globals
returns-clause-globals c = look_ups_of_kind_agree extern_global

pub returns-clause-tags : goal.returns-clause-tags
returns-clause-tags c = look_ups_of_kind_agree extern_tag
