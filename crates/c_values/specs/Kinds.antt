-- The kinds of values, and their numbers. This project's own.
use Rattle.std.specs.Prelude.{ℕ, nat_eq, if◌then◌else◌, Option, Some, None}
use Rattle.c_values.specs.declared.c_value.Kind.{Kind}
use Rattle.c_values.specs.declared.c_value.Kind.TheVariants.{I32, I64, F32, F64, V128, Func, Extern, Any}

abbrev pub number : Kind → ℕ
number I32 = 0
number I64 = 1
number F32 = 2
number F64 = 3
number V128 = 4
number Func = 5
number Extern = 6
number Any = 7

-- the kind of a number
abbrev pub kind_of : ℕ → Option Kind
kind_of n =
    if nat_eq n 0 then Some I32 else
    (if nat_eq n 1 then Some I64 else
    (if nat_eq n 2 then Some F32 else
    (if nat_eq n 3 then Some F64 else
    (if nat_eq n 4 then Some V128 else
    (if nat_eq n 5 then Some Func else
    (if nat_eq n 6 then Some Extern else
    (if nat_eq n 7 then Some Any else None)))))))
