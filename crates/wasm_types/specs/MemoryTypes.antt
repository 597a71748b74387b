-- Memory types.
-- WebAssembly core specification, "Types, memory types" and "Validation, limits"; the page size of one byte is that of
-- the custom page sizes proposal, as the wasmtime crate has it.
use Rattle.std.specs.Prelude.{ℕ, ◌^◌, Bool, true, ◌&&◌, ◌||◌, nat_le, nat_eq, Option, Some, None}

-- the parts of a memory type: the least and the greatest number of pages, and the size of a page as an exponent of 2
pub record MemoryParts : Type 0 where
  pub minimum : ℕ
  pub maximum : Option ℕ
  pub page_size_log2 : ℕ

abbrev pub memory_parts : ℕ → Option ℕ → ℕ → MemoryParts
memory_parts minimum maximum page_size_log2 =
    record { minimum = minimum; maximum = maximum; page_size_log2 = page_size_log2 }

-- a number of pages against a maximum, where there is one
abbrev pub within_maximum : ℕ → Option ℕ → Bool
within_maximum pages None = true
within_maximum pages (Some most) = nat_le pages most

-- 64 KiB pages reach 2^32 bytes at 65,536 pages
abbrev pub within_range : ℕ → Option ℕ → Bool
within_range minimum None = nat_le minimum 65536
within_range minimum (Some maximum) = nat_le minimum 65536 && nat_le maximum 65536

-- a page is one byte or 64 KiB, the minimum is within the maximum, and 64 KiB pages are within the range
abbrev pub are_memory_limits : MemoryParts → Bool
are_memory_limits l =
    within_maximum l.minimum l.maximum
    && (nat_eq l.page_size_log2 0 || (nat_eq l.page_size_log2 16 && within_range l.minimum l.maximum))

-- the bytes of a page
abbrev pub page_size : MemoryParts → ℕ
page_size l = 2 ^ l.page_size_log2
