-- The sections of the grammar are those that are read, each at its place in the order.
use Rattle.std.proofs.Common.{◌≡◌, ℕ, suc, List, [], ◌∷◌, Bool, true, false, Option, Some, None, arith, refl, sym, ◌∙◌, ap, subst, nat_eq, nat_lt, cond}
use Rattle.std.proofs.lemmas.Bool.{eqb-true, ne_eqb, ltb-false, le-ltb}
use Rattle.std.specs.Prelude.{⊤, option_map}
use Rattle.wasm_leb.specs.Places.{Place}
use Rattle.wasm_types.specs.declared.plain.EngineId.{EngineId}
use Rattle.wasm_syntax.specs.declared.segments.DataDecl.{DataDecl}
use Rattle.binary_types.specs.Entries as entries
use Rattle.binary_types.specs.FunctionTypes as types
use Rattle.binary_types.specs.Imports as imports
use Rattle.binary_types.specs.Reading.{Read, then, done, unless, some_or, ◌>>=◌, listed, times}
use Rattle.binary_types.specs.Reading as reading
use Rattle.binary_types.specs.Segments as segments
use Rattle.binary_types.specs.Types.{type_index, memory_type}
use Rattle.binary_types.specs.declared.faults.BinaryFault.TheVariants.{Malformed}
use Rattle.binary_code.specs.Bodies as code
use Rattle.wasm_binary.specs.Sections.{code_context, declared_types, is_count, kind_of, rank_of, with_last}
use Rattle.law_binary.specs.Agreement.{Agree}
use Rattle.law_binary.specs.Declarations as declarations
use Rattle.law_binary.specs.Formats as formats
use Rattle.law_binary.specs.Modules as grammar
use Rattle.law_binary.specs.Modules.{Held, Section}
use Rattle.law_binary.specs.Segments as segment_grammar
use Rattle.law_binary.specs.Types as type_grammar
use Rattle.law_binary.proofs.Combining.{agree_holds, agree_then}
use Rattle.law_binary.proofs.Items.{agree_u32, agree_listed, agree_times}
use Rattle.law_binary.proofs.TypeAgreement.{agree_type_index, agree_memory_type, then_then}
use Rattle.law_binary.proofs.FunctionTypeAgreement.{agree_type_section}
use Rattle.law_binary.proofs.DeclarationAgreement.{agree_import, agree_export, agree_table, agree_tag, agree_global}
use Rattle.law_binary.proofs.SegmentAgreement.{agree_element_segment, agree_data_segment}
use Rattle.law_binary.proofs.CodeAgreement.{agree_code_section}
use Rattle.law_binary.proofs.InstructionAgreement.{none_if}
use Rattle.law_binary.proofs.Rows.{also}
use Rattle.law_binary.proofs.SectionSteps.{IsSection}

-- ---- data segments, as many as were counted

abbrev counted : Held → ℕ → Read ⊤
counted g n = unless Malformed (is_count g.counted n)

abbrev segments_of : Held → ℕ → Read (List DataDecl)
segments_of g n = times n (segments.data_segment (declared_types g))

abbrev pub datas : Held → Read (List DataDecl)
datas g = reading.u32 >>= (λ n. counted g n >>= (λ _. segments_of g n))

pub agree_datas : (g : Held) → Agree (datas g) (grammar.datas g)
agree_datas g =
    agree_then reading.u32 _ formats.u32 _ agree_u32 (λ n.
    agree_then (counted g n) _ (formats.holds (is_count g.counted n)) _ (agree_holds (is_count g.counted n)) (λ _.
    agree_times (segments.data_segment (declared_types g)) (segment_grammar.data_segment (declared_types g)) (agree_data_segment (declared_types g)) n))

pub datas_put : (g : Held) (put : List DataDecl → Read Held) (p : Place) → (reading.u32 >>= (λ n. counted g n >>= (λ _. segments_of g n >>= put))) p ≡ (datas g >>= put) p
datas_put g put p =
    (λ i. then (reading.u32 p) (λ n q. then_then (counted g n q) (λ _. segments_of g n) put i))
    ∙ then_then (reading.u32 p) (λ n. counted g n >>= (λ _. segments_of g n)) put

-- ---- each section

module _ (engine : EngineId) where
  types_are : IsSection engine (grammar.type_section engine) 1
  types_are = record {
    read = λ g. types.type_section engine.0;
    agree = λ g. agree_type_section engine.0;
    not_custom = refl;
    rank_is = refl;
    is_read = λ l g p. refl;
  }

  imports_are : IsSection engine grammar.import_section 2
  imports_are = record {
    read = λ g. listed (imports.import (declared_types g));
    agree = λ g. agree_listed (imports.import (declared_types g)) (declarations.import (declared_types g)) (agree_import (declared_types g));
    not_custom = refl;
    rank_is = refl;
    is_read = λ l g p. refl;
  }

  functions_are : IsSection engine grammar.function_section 3
  functions_are = record {
    read = λ g. listed (type_index (declared_types g));
    agree = λ g. agree_listed (type_index (declared_types g)) (type_grammar.type_index (declared_types g)) (agree_type_index (declared_types g));
    not_custom = refl;
    rank_is = refl;
    is_read = λ l g p. refl;
  }

  tables_are : IsSection engine grammar.table_section 4
  tables_are = record {
    read = λ g. listed (entries.table (declared_types g));
    agree = λ g. agree_listed (entries.table (declared_types g)) (declarations.table (declared_types g)) (agree_table (declared_types g));
    not_custom = refl;
    rank_is = refl;
    is_read = λ l g p. refl;
  }

  memories_are : IsSection engine grammar.memory_section 5
  memories_are = record {
    read = λ g. listed memory_type;
    agree = λ g. agree_listed memory_type type_grammar.memory_type agree_memory_type;
    not_custom = refl;
    rank_is = refl;
    is_read = λ l g p. refl;
  }

  tags_are : IsSection engine grammar.tag_section 6
  tags_are = record {
    read = λ g. listed (entries.tag (declared_types g));
    agree = λ g. agree_listed (entries.tag (declared_types g)) (declarations.tag (declared_types g)) (agree_tag (declared_types g));
    not_custom = refl;
    rank_is = refl;
    is_read = λ l g p. refl;
  }

  globals_are : IsSection engine grammar.global_section 7
  globals_are = record {
    read = λ g. listed (entries.global (declared_types g));
    agree = λ g. agree_listed (entries.global (declared_types g)) (declarations.global (declared_types g)) (agree_global (declared_types g));
    not_custom = refl;
    rank_is = refl;
    is_read = λ l g p. refl;
  }

  exports_are : IsSection engine grammar.export_section 8
  exports_are = record {
    read = λ g. listed imports.export;
    agree = λ g. agree_listed imports.export declarations.export agree_export;
    not_custom = refl;
    rank_is = refl;
    is_read = λ l g p. refl;
  }

  start_is : IsSection engine grammar.start_section 9
  start_is = record {
    read = λ g. reading.u32;
    agree = λ g. agree_u32;
    not_custom = refl;
    rank_is = refl;
    is_read = λ l g p. refl;
  }

  elements_are : IsSection engine grammar.element_section 10
  elements_are = record {
    read = λ g. listed (segments.element_segment (declared_types g));
    agree = λ g. agree_listed (segments.element_segment (declared_types g)) (segment_grammar.element_segment (declared_types g)) (agree_element_segment (declared_types g));
    not_custom = refl;
    rank_is = refl;
    is_read = λ l g p. refl;
  }

  count_is : IsSection engine grammar.data_count_section 11
  count_is = record {
    read = λ g. reading.u32;
    agree = λ g. agree_u32;
    not_custom = refl;
    rank_is = refl;
    is_read = λ l g p. refl;
  }

  code_is : IsSection engine (grammar.code_section engine) 12
  code_is = record {
    read = λ g. code.code_section (code_context engine g) g.functions g.types;
    agree = λ g. agree_code_section (code_context engine g) g.functions g.types;
    not_custom = refl;
    rank_is = refl;
    is_read = λ l g p. refl;
  }

  abbrev put_datas : ℕ → Held → List DataDecl → Read Held
  put_datas l g xs = done (with_last l (record g { datas = xs }))

  datas_are : IsSection engine grammar.data_section 13
  datas_are = record {
    read = datas;
    agree = agree_datas;
    not_custom = refl;
    rank_is = refl;
    is_read = λ l g p i. then (unless Malformed (nat_lt l 13) p) (λ _. reading.sized (λ q. datas_put g (put_datas l g) q i) >>= (λ t. done (with_last 13 t)));
  }

-- ---- all of them

-- whether there is a section of this id behind a place in the order
abbrev pub is_later : ℕ → Option ℕ → Bool
is_later l None = false
is_later l (Some rank) = nat_lt l rank

abbrev pub is_known : ℕ → ℕ → Bool
is_known l b = is_later l (option_map rank_of (kind_of b))

abbrev pub has_id : List Section → ℕ → Bool
has_id [] b = false
has_id (k ∷ ks) b = cond (nat_eq k.id b) true (has_id ks b)

abbrev pub AreSections : EngineId → List Section → ℕ → Type 0
AreSections engine [] r = Unit {0}
AreSections engine (k ∷ ks) r = IsSection engine k (suc r) × AreSections engine ks (suc r)

-- the sections behind a place in the order, and no others are behind it
pub record Suffix (engine : EngineId) (ks : List Section) (r : ℕ) : Type 0 where
  pub all : AreSections engine ks r
  pub others : (b : ℕ) → has_id ks b ≡ false → is_known r b ≡ false

still_known : (r : ℕ) (o : Option ℕ) → is_later r o ≡ false → is_later (suc r) o ≡ false
still_known r None e = refl
still_known r (Some rank) e = let no_more = ltb-false r rank e in le-ltb (suc r) rank (omega arith)

pub suffix : (engine : EngineId) (k : Section) (ks : List Section) (r : ℕ) → Suffix engine (k ∷ ks) r → Suffix engine ks (suc r)
suffix engine k ks r s = record {
  all = s.all.1;
  others = λ b e. by b e (nat_eq k.id b) refl;
}
  where
    by : (b : ℕ) → has_id ks b ≡ false → (c : Bool) → nat_eq k.id b ≡ c → is_known (suc r) b ≡ false
    by b e true h =
        let same : k.id ≡ b = eqb-true k.id b h in
        subst (λ (z : ℕ). is_known (suc r) z ≡ false) same
        (ap (is_later (suc r)) s.all.0.rank_is ∙ le-ltb (suc r) (suc r) (omega arith))
    by b e false h = still_known r (option_map rank_of (kind_of b)) (s.others b (ap (λ (c : Bool). cond c true (has_id ks b)) h ∙ e))

-- what stands in none of them is known nowhere
out : (ks : List Section) (b k : ℕ) → has_id ks b ≡ false → has_id ks k ≡ true → nat_eq b k ≡ false
out ks b k h s = ne_eqb b k (λ same. differ (sym h ∙ ap (has_id ks) same ∙ s))
  where
    differ : false ≡ true → ⊥
    differ e = cc e

no_kind : (engine : EngineId) (b : ℕ) → has_id (grammar.order engine) b ≡ false → kind_of b ≡ None
no_kind engine b h =
    none_if _ _ _ (not_in 1 refl) (none_if _ _ _ (not_in 2 refl) (none_if _ _ _ (not_in 3 refl) (none_if _ _ _ (not_in 4 refl)
    (none_if _ _ _ (not_in 5 refl) (none_if _ _ _ (not_in 6 refl) (none_if _ _ _ (not_in 7 refl) (none_if _ _ _ (not_in 8 refl)
    (none_if _ _ _ (not_in 9 refl) (none_if _ _ _ (not_in 10 refl) (none_if _ _ _ (not_in 11 refl) (none_if _ _ _ (not_in 12 refl)
    (none_if _ _ _ (not_in 13 refl) refl))))))))))))
  where
    not_in : (k : ℕ) → has_id (grammar.order engine) k ≡ true → nat_eq b k ≡ false
    not_in k s = out (grammar.order engine) b k h s

pub whole_order : (engine : EngineId) → Suffix engine (grammar.order engine) 0
whole_order engine = record {
  all =
      also (types_are engine) (also (imports_are engine) (also (functions_are engine) (also (tables_are engine) (also (memories_are engine)
      (also (tags_are engine) (also (globals_are engine) (also (exports_are engine) (also (start_is engine)
      (also (elements_are engine) (also (count_is engine) (also (code_is engine) (also (datas_are engine) tt))))))))))));
  others = λ b e. ap (λ (o : Option _). is_later 0 (option_map rank_of o)) (no_kind engine b e);
}
