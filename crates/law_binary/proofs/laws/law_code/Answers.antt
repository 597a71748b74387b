use Rattle.law_binary.proofs.CodeAgreement.{agree_code, agree_body, agree_code_section}
use Rattle.law_binary.proofs.laws.law_code.Goals as goal

pub returns : goal.returns
returns c = record {
  expressions = agree_code;
  bodies = agree_body;
  section = agree_code_section;
}
