-- Names and operands, as they are written and read.
use Rattle.std.proofs.Common.{◌≡◌, ℕ, ◌^◌, ◌<◌, ◌≤◌, ◌-◌, ℤ, pos, negsuc, List, Option, Some, None, refl, ap, ◌∙◌, arith}
use Rattle.std.specs.Prelude.{FitsSigned}
use Rattle.std.specs.Int.{w32, w64}
use Rattle.std.proofs.lemmas.Bool.{le-leb}
use Rattle.std.proofs.lemmas.Int.{to_z_pos}
use Rattle.hex.specs.declared.FromHexError.{FromHexError}
use Rattle.std.specs.Prelude.{Result}
use Rattle.wasm_values.specs.References.{i31}
use Rattle.wasm_values.specs.Handles.{func_of, func_store, func_index}
use Rattle.wasm_values.specs.Values.{vector}
use Rattle.wasm_values.specs.declared.handles.Func.{Func}
use Rattle.wasm_values.specs.declared.references.AnyRef.{AnyRef}
use Rattle.wasm_values.specs.declared.store_id.StoreId.{StoreId}
use Rattle.wasm_values.specs.declared.values.V128.{V128}
use Rattle.wasm_values.specs.declared.values.Val.{Val}
use Rattle.wasm_values.specs.declared.values.Val.TheVariants as v
use Rattle.script_json.specs.Fields.{◌>>=◌, signed_32, signed_64, decoded, hex_vector}
use Rattle.script_commands.specs.Operands.{given, vector_of}
use Rattle.script_commands.specs.Names.{name_of}
use Rattle.script_commands.proofs.References.{any_given}
use Rattle.spec_machine.specs.Values.{any_of}
use Rattle.spec_machine.specs.declared.name.Name.{Name}
use Rattle.spec_machine.specs.declared.name.Name.TheVariants as name
use Rattle.spec_machine.specs.declared.name.Operand.{Operand}
use Rattle.spec_machine.specs.declared.name.Operand.TheVariants as operand
use Rattle.std.specs.Int.{w128, from_be_bytes}
use Rattle.tape_values.specs.Operands.{name_data, vector_data, handle_data, operand_data, val_data, ValInRange, OperandInRange}
use Rattle.tape_values.specs.OperandsRead.{handle_in, operand_in, as_value, val_in}
use Rattle.tape_values.specs.Writing.{integer_data}
use Rattle.tape_values.proofs.StoreLemmas.{id_back}
use Rattle.tape_values.proofs.TypeLemmas.{whole_32_back}
use Rattle.tape_values.proofs.VectorLemmas.{from_be_bytes-to_be_bytes_16, digits_back}

pub name_back : (n : Name) → name_of (name_data n) ≡ Some n
name_back (name.Reply place) = refl
name_back (name.Value place index) = refl
name_back (name.Arg place) = refl
name_back (name.Stored place) = refl
name_back name.Caller = refl

pub signed_32_back : (z : ℤ) → FitsSigned w32 z → signed_32 (integer_data z) ≡ Some z
signed_32_back (pos n) f =
    let small : n < 2 ^ 31 = f.sfits in
    let fits : n ≤ 2 ^ 32 - 1 = omega arith in
    rw (le-leb n (2 ^ 32 - 1) fits) (ap (λ x. Some x) (to_z_pos w32 n small))
signed_32_back (negsuc n) f =
    let small : n < 2 ^ 31 = f.sfits in
    let fits : n ≤ 2 ^ 31 - 1 = omega arith in
    rw (le-leb n (2 ^ 31 - 1) fits)

pub signed_64_back : (z : ℤ) → FitsSigned w64 z → signed_64 (integer_data z) ≡ Some z
signed_64_back (pos n) f = ap (λ x. Some x) (to_z_pos w64 n f.sfits)
signed_64_back (negsuc n) f = refl

-- ---- references and vectors

any_back : (a : AnyRef) → any_of (i31 a) ≡ Some a
any_back a = any_given (i31 a) a a.small refl

handle_back : (f : Func) → handle_in (handle_data f) ≡ Some f
handle_back f = ap (λ (o : Option StoreId). o >>= (λ store. Some (func_of store (func_index f)))) (id_back (func_store f))

hex_back : (bits : V128) → bits.0 < 2 ^ 128 → hex_vector (vector_data bits) ≡ Some bits.0
hex_back bits l =
    ap (λ (r : Result (List ℕ) FromHexError). decoded r >>= (λ bytes. Some (from_be_bytes w128 bytes))) (digits_back bits.0)
    ∙ ap (λ x. Some x) (from_be_bytes-to_be_bytes_16 bits.0 l)

vector_back : (bits : V128) → bits.0 < 2 ^ 128 → vector_of (vector_data bits) ≡ Some bits
vector_back bits l = ap (λ (o : Option ℕ). o >>= (λ n. Some (vector n))) (hex_back bits l)

-- ---- operands

val_operand : (val : Val) → ValInRange val → operand_in (val_data val) ≡ Some (operand.Val val)
val_operand (v.I32 n) f = ap (λ (o : Option ℤ). o >>= (λ z. given (v.I32 z))) (signed_32_back n f)
val_operand (v.I64 n) f = ap (λ (o : Option ℤ). o >>= (λ z. given (v.I64 z))) (signed_64_back n f)
val_operand (v.F32 bits) l = ap (λ (o : Option ℕ). o >>= (λ n. given (v.F32 n))) (whole_32_back bits l)
val_operand (v.F64 bits) f = refl
val_operand (v.V128 bits) l = ap (λ (o : Option V128). o >>= (λ b. given (v.V128 b))) (vector_back bits l)
val_operand (v.FuncRef None) f = refl
val_operand (v.FuncRef (Some handle)) f =
    ap (λ (o : Option Func). o >>= (λ h. Some (Some h)) >>= (λ h. given (v.FuncRef h))) (handle_back handle)
val_operand (v.ExternRef None) f = refl
val_operand (v.ExternRef (Some e)) f = refl
val_operand (v.AnyRef None) f = refl
val_operand (v.AnyRef (Some a)) f =
    ap (λ (o : Option AnyRef). o >>= (λ r. Some (Some r)) >>= (λ r. given (v.AnyRef r))) (any_back a)

pub operand_back : (o : Operand) → OperandInRange o → operand_in (operand_data o) ≡ Some o
operand_back (operand.Val val) f = val_operand val f
operand_back (operand.Named named) f = ap (λ (o : Option Name). o >>= (λ n. Some (operand.Named n))) (name_back named)

pub val_back : (val : Val) → ValInRange val → val_in (val_data val) ≡ Some val
val_back val f = ap (λ (o : Option Operand). o >>= as_value) (val_operand val f)
