use Rattle.law_binary.proofs.FunctionTypeAgreement.{agree_type_section}
use Rattle.law_binary.proofs.TypeAgreement.{agree_type_index, agree_heap_type, agree_reference_type, agree_value_type, agree_limits, agree_table_type, agree_memory_type, agree_global_type}
use Rattle.law_binary.proofs.laws.law_types.Goals as goal

pub returns : goal.returns
returns c = record {
  indices = agree_type_index;
  heap_types = agree_heap_type;
  references = agree_reference_type;
  values = agree_value_type;
  limits = agree_limits;
  tables = agree_table_type;
  memories = agree_memory_type;
  globals = agree_global_type;
  section = agree_type_section;
}
