use Rattle.law_binary.proofs.ModuleAgreement.{agree_all_sections}
use Rattle.law_binary.proofs.SectionAgreement as section
use Rattle.law_binary.proofs.laws.law_sections.Goals as goal

pub returns : goal.returns
returns c = record {
  types = section.agree_types;
  imports = section.agree_imports;
  functions = section.agree_functions;
  tables = section.agree_tables;
  memories = section.agree_memories;
  tags = section.agree_tags;
  globals = section.agree_globals;
  exports = section.agree_exports;
  start = section.agree_start;
  elements = section.agree_elements;
  data_count = section.agree_data_count;
  code = section.agree_bodies;
  datas = section.agree_data_section;
  all = agree_all_sections;
}
