-- Worked examples of the operators' definitions, each by computation, with the numbers that a WebAssembly engine gives.
use Rattle.std.specs.Prelude.{◌≡◌}
use Rattle.std.specs.Int.Count.{count_leading_zeros, count_trailing_zeros, ones as count_ones}
use Rattle.std.proofs.Common.{refl}
use Rattle.wasm_syntax.specs.Operators.{arith, unary_arith, Number, IntegerDivisionByZero, IntegerOverflow}
use Rattle.wasm_syntax.specs.declared.operators.UnOp.TheVariants.{I32Clz, I64Clz, I32Ctz, I64Ctz, I32Popcnt, I64Popcnt, I32Eqz, I64Eqz, I32Extend8S, I64Extend8S, I32Extend16S, I64Extend16S, I64Extend32S, I32WrapI64, I64ExtendI32S, I64ExtendI32U}
use Rattle.wasm_syntax.specs.declared.operators.BinOp.TheVariants.{I32Add, I64Add, I32Sub, I64Sub, I32Mul, I64Mul, I32DivS, I64DivS, I32DivU, I64DivU, I32RemS, I64RemS, I32RemU, I64RemU, I32And, I64And, I32Or, I64Or, I32Xor, I64Xor, I32Shl, I64Shl, I32ShrS, I64ShrS, I32ShrU, I64ShrU, I32Rotl, I64Rotl, I32Rotr, I64Rotr, I32Eq, I64Eq, I32Ne, I64Ne, I32LtS, I64LtS, I32LtU, I64LtU, I32GtS, I64GtS, I32GtU, I64GtU, I32LeS, I64LeS, I32LeU, I64LeU, I32GeS, I64GeS, I32GeU, I64GeU}

i32_add_wraps : arith I32Add 4294967295 2 ≡ Number 1
i32_add_wraps = refl

i64_add_wraps : arith I64Add 18446744073709551615 2 ≡ Number 1
i64_add_wraps = refl

i32_sub_wraps : arith I32Sub 1 2 ≡ Number 4294967295
i32_sub_wraps = refl

i64_sub_wraps : arith I64Sub 1 2 ≡ Number 18446744073709551615
i64_sub_wraps = refl

i32_mul_wraps : arith I32Mul 4294967295 4294967295 ≡ Number 1
i32_mul_wraps = refl

i64_mul_wraps : arith I64Mul 18446744073709551615 18446744073709551615 ≡ Number 1
i64_mul_wraps = refl

i32_div_s_overflows : arith I32DivS 2147483648 4294967295 ≡ IntegerOverflow
i32_div_s_overflows = refl

i32_div_s_rounds_toward_zero : arith I32DivS 4294967289 2 ≡ Number 4294967293
i32_div_s_rounds_toward_zero = refl

i32_div_s_by_zero : arith I32DivS 2147483648 0 ≡ IntegerDivisionByZero
i32_div_s_by_zero = refl

i64_div_s_overflows : arith I64DivS 9223372036854775808 18446744073709551615 ≡ IntegerOverflow
i64_div_s_overflows = refl

i64_div_s_rounds_toward_zero : arith I64DivS 18446744073709551609 2 ≡ Number 18446744073709551613
i64_div_s_rounds_toward_zero = refl

i64_div_s_by_zero : arith I64DivS 9223372036854775808 0 ≡ IntegerDivisionByZero
i64_div_s_by_zero = refl

i32_div_u_is_unsigned : arith I32DivU 4294967289 2 ≡ Number 2147483644
i32_div_u_is_unsigned = refl

i32_div_u_by_zero : arith I32DivU 7 0 ≡ IntegerDivisionByZero
i32_div_u_by_zero = refl

i64_div_u_is_unsigned : arith I64DivU 18446744073709551609 2 ≡ Number 9223372036854775804
i64_div_u_is_unsigned = refl

i64_div_u_by_zero : arith I64DivU 7 0 ≡ IntegerDivisionByZero
i64_div_u_by_zero = refl

i32_rem_s_of_least_by_minus_one : arith I32RemS 2147483648 4294967295 ≡ Number 0
i32_rem_s_of_least_by_minus_one = refl

i32_rem_s_takes_the_sign : arith I32RemS 4294967289 2 ≡ Number 4294967295
i32_rem_s_takes_the_sign = refl

i32_rem_s_by_zero : arith I32RemS 7 0 ≡ IntegerDivisionByZero
i32_rem_s_by_zero = refl

i64_rem_s_of_least_by_minus_one : arith I64RemS 9223372036854775808 18446744073709551615 ≡ Number 0
i64_rem_s_of_least_by_minus_one = refl

i64_rem_s_takes_the_sign : arith I64RemS 18446744073709551609 2 ≡ Number 18446744073709551615
i64_rem_s_takes_the_sign = refl

i64_rem_s_by_zero : arith I64RemS 7 0 ≡ IntegerDivisionByZero
i64_rem_s_by_zero = refl

i32_rem_u_is_unsigned : arith I32RemU 4294967289 4 ≡ Number 1
i32_rem_u_is_unsigned = refl

i32_rem_u_by_zero : arith I32RemU 7 0 ≡ IntegerDivisionByZero
i32_rem_u_by_zero = refl

i64_rem_u_is_unsigned : arith I64RemU 18446744073709551609 4 ≡ Number 1
i64_rem_u_is_unsigned = refl

i64_rem_u_by_zero : arith I64RemU 7 0 ≡ IntegerDivisionByZero
i64_rem_u_by_zero = refl

i32_and_bits : arith I32And 12 10 ≡ Number 8
i32_and_bits = refl

i64_and_bits : arith I64And 12 10 ≡ Number 8
i64_and_bits = refl

i32_or_bits : arith I32Or 12 10 ≡ Number 14
i32_or_bits = refl

i64_or_bits : arith I64Or 12 10 ≡ Number 14
i64_or_bits = refl

i32_xor_bits : arith I32Xor 12 10 ≡ Number 6
i32_xor_bits = refl

i64_xor_bits : arith I64Xor 12 10 ≡ Number 6
i64_xor_bits = refl

i32_shl_by_the_width : arith I32Shl 5 32 ≡ Number 5
i32_shl_by_the_width = refl

i32_shl_past_the_width : arith I32Shl 2147483649 33 ≡ Number 2
i32_shl_past_the_width = refl

i32_shl_by_width_less_one : arith I32Shl 3 31 ≡ Number 2147483648
i32_shl_by_width_less_one = refl

i64_shl_by_the_width : arith I64Shl 5 64 ≡ Number 5
i64_shl_by_the_width = refl

i64_shl_past_the_width : arith I64Shl 9223372036854775809 65 ≡ Number 2
i64_shl_past_the_width = refl

i64_shl_by_width_less_one : arith I64Shl 3 63 ≡ Number 9223372036854775808
i64_shl_by_width_less_one = refl

i32_shr_s_by_the_width : arith I32ShrS 2147483648 32 ≡ Number 2147483648
i32_shr_s_by_the_width = refl

i32_shr_s_past_the_width : arith I32ShrS 2147483648 33 ≡ Number 3221225472
i32_shr_s_past_the_width = refl

i32_shr_s_of_minus_one : arith I32ShrS 4294967295 31 ≡ Number 4294967295
i32_shr_s_of_minus_one = refl

i64_shr_s_by_the_width : arith I64ShrS 9223372036854775808 64 ≡ Number 9223372036854775808
i64_shr_s_by_the_width = refl

i64_shr_s_past_the_width : arith I64ShrS 9223372036854775808 65 ≡ Number 13835058055282163712
i64_shr_s_past_the_width = refl

i64_shr_s_of_minus_one : arith I64ShrS 18446744073709551615 63 ≡ Number 18446744073709551615
i64_shr_s_of_minus_one = refl

i32_shr_u_by_the_width : arith I32ShrU 2147483648 32 ≡ Number 2147483648
i32_shr_u_by_the_width = refl

i32_shr_u_past_the_width : arith I32ShrU 2147483648 33 ≡ Number 1073741824
i32_shr_u_past_the_width = refl

i64_shr_u_by_the_width : arith I64ShrU 9223372036854775808 64 ≡ Number 9223372036854775808
i64_shr_u_by_the_width = refl

i64_shr_u_past_the_width : arith I64ShrU 9223372036854775808 65 ≡ Number 4611686018427387904
i64_shr_u_past_the_width = refl

i32_rotl_by_one : arith I32Rotl 2147483649 1 ≡ Number 3
i32_rotl_by_one = refl

i32_rotl_by_none : arith I32Rotl 2147483649 0 ≡ Number 2147483649
i32_rotl_by_none = refl

i32_rotl_past_the_width : arith I32Rotl 2147483649 33 ≡ Number 3
i32_rotl_past_the_width = refl

i64_rotl_by_one : arith I64Rotl 9223372036854775809 1 ≡ Number 3
i64_rotl_by_one = refl

i64_rotl_by_none : arith I64Rotl 9223372036854775809 0 ≡ Number 9223372036854775809
i64_rotl_by_none = refl

i64_rotl_past_the_width : arith I64Rotl 9223372036854775809 65 ≡ Number 3
i64_rotl_past_the_width = refl

i32_rotr_by_one : arith I32Rotr 3 1 ≡ Number 2147483649
i32_rotr_by_one = refl

i32_rotr_by_none : arith I32Rotr 3 0 ≡ Number 3
i32_rotr_by_none = refl

i32_rotr_past_the_width : arith I32Rotr 3 33 ≡ Number 2147483649
i32_rotr_past_the_width = refl

i64_rotr_by_one : arith I64Rotr 3 1 ≡ Number 9223372036854775809
i64_rotr_by_one = refl

i64_rotr_by_none : arith I64Rotr 3 0 ≡ Number 3
i64_rotr_by_none = refl

i64_rotr_past_the_width : arith I64Rotr 3 65 ≡ Number 9223372036854775809
i64_rotr_past_the_width = refl

i32_eq_same : arith I32Eq 2147483648 2147483648 ≡ Number 1
i32_eq_same = refl

i32_eq_other : arith I32Eq 7 8 ≡ Number 0
i32_eq_other = refl

i64_eq_same : arith I64Eq 9223372036854775808 9223372036854775808 ≡ Number 1
i64_eq_same = refl

i64_eq_other : arith I64Eq 7 8 ≡ Number 0
i64_eq_other = refl

i32_ne_same : arith I32Ne 2147483648 2147483648 ≡ Number 0
i32_ne_same = refl

i32_ne_other : arith I32Ne 7 8 ≡ Number 1
i32_ne_other = refl

i64_ne_same : arith I64Ne 9223372036854775808 9223372036854775808 ≡ Number 0
i64_ne_same = refl

i64_ne_other : arith I64Ne 7 8 ≡ Number 1
i64_ne_other = refl

i32_lt_s_minus_one_and_zero : arith I32LtS 4294967295 0 ≡ Number 1
i32_lt_s_minus_one_and_zero = refl

i64_lt_s_minus_one_and_zero : arith I64LtS 18446744073709551615 0 ≡ Number 1
i64_lt_s_minus_one_and_zero = refl

i32_lt_u_greatest_and_zero : arith I32LtU 4294967295 0 ≡ Number 0
i32_lt_u_greatest_and_zero = refl

i64_lt_u_greatest_and_zero : arith I64LtU 18446744073709551615 0 ≡ Number 0
i64_lt_u_greatest_and_zero = refl

i32_gt_s_zero_and_minus_one : arith I32GtS 0 4294967295 ≡ Number 1
i32_gt_s_zero_and_minus_one = refl

i64_gt_s_zero_and_minus_one : arith I64GtS 0 18446744073709551615 ≡ Number 1
i64_gt_s_zero_and_minus_one = refl

i32_gt_u_zero_and_greatest : arith I32GtU 0 4294967295 ≡ Number 0
i32_gt_u_zero_and_greatest = refl

i64_gt_u_zero_and_greatest : arith I64GtU 0 18446744073709551615 ≡ Number 0
i64_gt_u_zero_and_greatest = refl

i32_le_s_least_and_greatest : arith I32LeS 2147483648 2147483647 ≡ Number 1
i32_le_s_least_and_greatest = refl

i64_le_s_least_and_greatest : arith I64LeS 9223372036854775808 9223372036854775807 ≡ Number 1
i64_le_s_least_and_greatest = refl

i32_le_u_middle : arith I32LeU 2147483648 2147483647 ≡ Number 0
i32_le_u_middle = refl

i64_le_u_middle : arith I64LeU 9223372036854775808 9223372036854775807 ≡ Number 0
i64_le_u_middle = refl

i32_ge_s_greatest_and_least : arith I32GeS 2147483647 2147483648 ≡ Number 1
i32_ge_s_greatest_and_least = refl

i64_ge_s_greatest_and_least : arith I64GeS 9223372036854775807 9223372036854775808 ≡ Number 1
i64_ge_s_greatest_and_least = refl

i32_ge_u_middle : arith I32GeU 2147483647 2147483648 ≡ Number 0
i32_ge_u_middle = refl

i64_ge_u_middle : arith I64GeU 9223372036854775807 9223372036854775808 ≡ Number 0
i64_ge_u_middle = refl

i32_clz_of_zero : unary_arith I32Clz 0 ≡ 32
unfolding count_leading_zeros
i32_clz_of_zero = refl

i32_clz_of_one : unary_arith I32Clz 1 ≡ 31
unfolding count_leading_zeros
i32_clz_of_one = refl

i32_clz_of_least : unary_arith I32Clz 2147483648 ≡ 0
unfolding count_leading_zeros
i32_clz_of_least = refl

i64_clz_of_zero : unary_arith I64Clz 0 ≡ 64
unfolding count_leading_zeros
i64_clz_of_zero = refl

i64_clz_of_one : unary_arith I64Clz 1 ≡ 63
unfolding count_leading_zeros
i64_clz_of_one = refl

i64_clz_of_least : unary_arith I64Clz 9223372036854775808 ≡ 0
unfolding count_leading_zeros
i64_clz_of_least = refl

i32_ctz_of_zero : unary_arith I32Ctz 0 ≡ 32
unfolding count_trailing_zeros
i32_ctz_of_zero = refl

i32_ctz_of_least : unary_arith I32Ctz 2147483648 ≡ 31
unfolding count_trailing_zeros
i32_ctz_of_least = refl

i64_ctz_of_zero : unary_arith I64Ctz 0 ≡ 64
unfolding count_trailing_zeros
i64_ctz_of_zero = refl

i64_ctz_of_least : unary_arith I64Ctz 9223372036854775808 ≡ 63
unfolding count_trailing_zeros
i64_ctz_of_least = refl

i32_popcnt_of_zero : unary_arith I32Popcnt 0 ≡ 0
unfolding count_ones
i32_popcnt_of_zero = refl

i32_popcnt_of_eleven : unary_arith I32Popcnt 11 ≡ 3
unfolding count_ones
i32_popcnt_of_eleven = refl

i64_popcnt_of_zero : unary_arith I64Popcnt 0 ≡ 0
unfolding count_ones
i64_popcnt_of_zero = refl

i64_popcnt_of_eleven : unary_arith I64Popcnt 11 ≡ 3
unfolding count_ones
i64_popcnt_of_eleven = refl

i32_eqz_of_zero : unary_arith I32Eqz 0 ≡ 1
i32_eqz_of_zero = refl

i32_eqz_of_least : unary_arith I32Eqz 2147483648 ≡ 0
i32_eqz_of_least = refl

i64_eqz_of_zero : unary_arith I64Eqz 0 ≡ 1
i64_eqz_of_zero = refl

i64_eqz_of_least : unary_arith I64Eqz 9223372036854775808 ≡ 0
i64_eqz_of_least = refl

i32_extend8_s_negative : unary_arith I32Extend8S 384 ≡ 4294967168
i32_extend8_s_negative = refl

i32_extend8_s_positive : unary_arith I32Extend8S 383 ≡ 127
i32_extend8_s_positive = refl

i64_extend8_s_negative : unary_arith I64Extend8S 384 ≡ 18446744073709551488
i64_extend8_s_negative = refl

i64_extend8_s_positive : unary_arith I64Extend8S 383 ≡ 127
i64_extend8_s_positive = refl

i32_extend16_s_negative : unary_arith I32Extend16S 98304 ≡ 4294934528
i32_extend16_s_negative = refl

i32_extend16_s_positive : unary_arith I32Extend16S 98303 ≡ 32767
i32_extend16_s_positive = refl

i64_extend16_s_negative : unary_arith I64Extend16S 98304 ≡ 18446744073709518848
i64_extend16_s_negative = refl

i64_extend16_s_positive : unary_arith I64Extend16S 98303 ≡ 32767
i64_extend16_s_positive = refl

i64_extend32_s_negative : unary_arith I64Extend32S 6442450944 ≡ 18446744071562067968
i64_extend32_s_negative = refl

i64_extend32_s_positive : unary_arith I64Extend32S 6442450943 ≡ 2147483647
i64_extend32_s_positive = refl

i32_wrap_i64_drops_the_high_half : unary_arith I32WrapI64 8589934599 ≡ 7
i32_wrap_i64_drops_the_high_half = refl

i64_extend_i32_s_negative : unary_arith I64ExtendI32S 2147483648 ≡ 18446744071562067968
i64_extend_i32_s_negative = refl

i64_extend_i32_s_positive : unary_arith I64ExtendI32S 2147483647 ≡ 2147483647
i64_extend_i32_s_positive = refl

i64_extend_i32_u_keeps : unary_arith I64ExtendI32U 2147483648 ≡ 2147483648
i64_extend_i32_u_keeps = refl
