use Rattle.law_binary.proofs.ModuleAgreement.{module_found, module_only, module_fault, module_first, one_module, one_fault, not_both, malformed}
use Rattle.law_binary.proofs.laws.law_modules.Goals as goal

pub returns : goal.returns
returns c = record {
  found = module_found;
  only = module_only;
  fault = module_fault;
  first = module_first;
  one = one_module;
  one_fault = one_fault;
  not_both = not_both;
  malformed = malformed;
}
