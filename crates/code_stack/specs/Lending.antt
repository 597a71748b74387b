-- Values that are lent to be changed. This project's own.
use Rattle.std.specs.Prelude.{List, ◌++◌, length, take, drop}
use Rattle.std.specs.Borrow.{Lends, MutBor, Fml, Array}
use Rattle.wasm_objects.specs.contracts.raw.RawVal as raw_val
use Rattle.wasm_objects.specs.declared.raw.RawVal.{RawVal}
use Rattle.code_stack.specs.Cuts.{RowParts, row_parts}
use Rattle.code_stack.specs.Values.{ValuesParts, two_rows}
use Rattle.code_stack.specs.contracts.row.Row as row
use Rattle.code_stack.specs.contracts.row.Rows as rows
use Rattle.code_stack.specs.declared.row.Rows.{Rows}
use Rattle.code_stack.specs.contracts.values.Values as values

-- the list with what was left over it: as many items as it has, as a borrower always leaves
abbrev pub left_over : List RawVal → List RawVal → List RawVal
left_over items left = take (length items) (left ++ drop (length left) items)

-- a row of which the last segment was lent, once the loan ends
abbrev pub with_last : RowParts → List RawVal → RowParts
with_last lender left = row_parts (left_over lender.last left) lender.before lender.room

abbrev pub LendsLast : MutBor RowParts → MutBor (List RawVal) → Fml
LendsLast lender lent = Lends row.the_row (Array raw_val.the_row 0) lender lent (with_last lender.now)

-- values of which the two rows were lent: once the loan ends, what was left in them
abbrev pub LendsRows : MutBor ValuesParts → MutBor Rows → Fml
LendsRows lender lent =
    Lends values.the_row rows.the_row lender lent (λ (left : Rows). two_rows left.operands left.locals)
