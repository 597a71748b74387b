use Rattle.law_binary.proofs.BlockTypeAgreement.{agree_block_type}
use Rattle.law_binary.proofs.InstructionAgreement.{agree_load, agree_store, agree_const_32, agree_const_64, agree_null, agree_call_indirect, agree_long}
use Rattle.law_binary.proofs.TokenAgreement.{agree_labels}
use Rattle.law_binary.proofs.laws.law_instructions.Goals as goal

pub returns : goal.returns
returns c = record {
  block_types = agree_block_type;
  labels = agree_labels;
  loads = agree_load;
  stores = agree_store;
  constants_32 = agree_const_32;
  constants_64 = agree_const_64;
  nulls = agree_null;
  calls = agree_call_indirect;
  longs = agree_long;
}
