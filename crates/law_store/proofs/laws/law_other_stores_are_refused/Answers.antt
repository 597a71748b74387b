use Rattle.law_store.proofs.OtherStoreLemmas.{memories_of_others, tables_of_others, globals_of_others, tags_of_others, functions_of_others, instances_of_others, objects_of_others}
use Rattle.law_store.proofs.laws.law_other_stores_are_refused.Goals as goal

pub returns-clause-memories : goal.returns-clause-memories
returns-clause-memories c = memories_of_others

pub returns-clause-tables : goal.returns-clause-tables
returns-clause-tables c = tables_of_others

pub returns-clause-globals : goal.returns-clause-globals
returns-clause-globals c = globals_of_others

pub returns-clause-tags : goal.returns-clause-tags
returns-clause-tags c = tags_of_others

pub returns-clause-functions : goal.returns-clause-functions
returns-clause-functions c = functions_of_others

pub returns-clause-instances : goal.returns-clause-instances
returns-clause-instances c = instances_of_others

pub returns-clause-objects : goal.returns-clause-objects
returns-clause-objects c = objects_of_others
