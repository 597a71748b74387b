use Rattle.law_binary.proofs.DeclarationAgreement.{agree_constant, agree_import, agree_export, agree_table, agree_tag, agree_global}
use Rattle.law_binary.proofs.SegmentAgreement.{agree_element_segment, agree_data_segment}
use Rattle.law_binary.proofs.laws.law_declarations.Goals as goal

pub returns : goal.returns
returns c = record {
  constants = agree_constant;
  imports = agree_import;
  exports = agree_export;
  tables = agree_table;
  tags = agree_tag;
  globals = agree_global;
  elements = agree_element_segment;
  datas = agree_data_segment;
}
