use Rattle.law_binary.proofs.Items.{agree_u32, agree_i32, agree_i64, agree_not_below_zero, agree_name, agree_byte_list}
use Rattle.law_binary.proofs.laws.law_values.Goals as goal

pub returns : goal.returns
returns c = record {
  numbers = agree_u32;
  signed_32 = agree_i32;
  signed_64 = agree_i64;
  from_zero = agree_not_below_zero;
  names = agree_name;
  bytes = agree_byte_list;
}
