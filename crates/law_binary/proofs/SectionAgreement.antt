-- What each section holds is read as the grammar has it.
use Rattle.std.proofs.Common.{List}
use Rattle.wasm_types.specs.declared.plain.EngineId.{EngineId}
use Rattle.wasm_syntax.specs.declared.segments.DataDecl.{DataDecl}
use Rattle.binary_types.specs.Entries as entries
use Rattle.binary_types.specs.FunctionTypes as types
use Rattle.binary_types.specs.Imports as imports
use Rattle.binary_types.specs.Reading.{done, ◌>>=◌, listed}
use Rattle.binary_types.specs.Reading as reading
use Rattle.binary_types.specs.Segments as segments
use Rattle.binary_types.specs.Types.{type_index, memory_type}
use Rattle.binary_code.specs.Bodies as code
use Rattle.wasm_binary.specs.Sections.{code_context, declared_types}
use Rattle.wasm_binary.specs.Sections as read
use Rattle.law_binary.specs.Agreement.{Agree}
use Rattle.law_binary.specs.Declarations as declarations
use Rattle.law_binary.specs.FunctionTypes as type_sections
use Rattle.law_binary.specs.Bodies as bodies
use Rattle.law_binary.specs.Formats.{u32, vector}
use Rattle.law_binary.specs.Modules as grammar
use Rattle.law_binary.specs.Modules.{Held, filled}
use Rattle.law_binary.specs.Segments as segment_grammar
use Rattle.law_binary.specs.Types as type_grammar
use Rattle.law_binary.proofs.Items.{agree_u32, agree_listed}
use Rattle.law_binary.proofs.TypeAgreement.{agree_alike, agree_type_index, agree_memory_type}
use Rattle.law_binary.proofs.FunctionTypeAgreement.{agree_type_section}
use Rattle.law_binary.proofs.DeclarationAgreement.{agree_as, agree_import, agree_export, agree_table, agree_tag, agree_global}
use Rattle.law_binary.proofs.SegmentAgreement.{agree_element_segment}
use Rattle.law_binary.proofs.CodeAgreement.{agree_code_section}
use Rattle.law_binary.proofs.SectionOrder.{agree_datas, datas, datas_put}

pub agree_types : (engine : EngineId) (s : Held) → Agree (read.type_section engine s) (filled (grammar.type_section engine) s)
agree_types engine s = agree_as (types.type_section engine.0) (type_sections.type_section engine.0) _ (agree_type_section engine.0)

pub agree_imports : (s : Held) → Agree (read.import_section s) (filled grammar.import_section s)
agree_imports s =
    agree_as (listed (imports.import (declared_types s))) (vector (declarations.import (declared_types s))) _
    (agree_listed (imports.import (declared_types s)) (declarations.import (declared_types s)) (agree_import (declared_types s)))

pub agree_functions : (s : Held) → Agree (read.function_section s) (filled grammar.function_section s)
agree_functions s =
    agree_as (listed (type_index (declared_types s))) (vector (type_grammar.type_index (declared_types s))) _
    (agree_listed (type_index (declared_types s)) (type_grammar.type_index (declared_types s)) (agree_type_index (declared_types s)))

pub agree_tables : (s : Held) → Agree (read.table_section s) (filled grammar.table_section s)
agree_tables s =
    agree_as (listed (entries.table (declared_types s))) (vector (declarations.table (declared_types s))) _
    (agree_listed (entries.table (declared_types s)) (declarations.table (declared_types s)) (agree_table (declared_types s)))

pub agree_memories : (s : Held) → Agree (read.memory_section s) (filled grammar.memory_section s)
agree_memories s =
    agree_as (listed memory_type) (vector type_grammar.memory_type) _ (agree_listed memory_type type_grammar.memory_type agree_memory_type)

pub agree_tags : (s : Held) → Agree (read.tag_section s) (filled grammar.tag_section s)
agree_tags s =
    agree_as (listed (entries.tag (declared_types s))) (vector (declarations.tag (declared_types s))) _
    (agree_listed (entries.tag (declared_types s)) (declarations.tag (declared_types s)) (agree_tag (declared_types s)))

pub agree_globals : (s : Held) → Agree (read.global_section s) (filled grammar.global_section s)
agree_globals s =
    agree_as (listed (entries.global (declared_types s))) (vector (declarations.global (declared_types s))) _
    (agree_listed (entries.global (declared_types s)) (declarations.global (declared_types s)) (agree_global (declared_types s)))

pub agree_exports : (s : Held) → Agree (read.export_section s) (filled grammar.export_section s)
agree_exports s = agree_as (listed imports.export) (vector declarations.export) _ (agree_listed imports.export declarations.export agree_export)

pub agree_start : (s : Held) → Agree (read.start_section s) (filled grammar.start_section s)
agree_start s = agree_as reading.u32 u32 _ agree_u32

pub agree_elements : (s : Held) → Agree (read.element_section s) (filled grammar.element_section s)
agree_elements s =
    agree_as (listed (segments.element_segment (declared_types s))) (vector (segment_grammar.element_segment (declared_types s))) _
    (agree_listed (segments.element_segment (declared_types s)) (segment_grammar.element_segment (declared_types s)) (agree_element_segment (declared_types s)))

pub agree_data_count : (s : Held) → Agree (read.data_count_section s) (filled grammar.data_count_section s)
agree_data_count s = agree_as reading.u32 u32 _ agree_u32

pub agree_bodies : (engine : EngineId) (s : Held) → Agree (read.code_section engine s) (filled (grammar.code_section engine) s)
agree_bodies engine s =
    agree_as (code.code_section (code_context engine s) s.functions s.types) (bodies.code_section (code_context engine s) s.functions s.types) _
    (agree_code_section (code_context engine s) s.functions s.types)

abbrev with_datas : Held → List DataDecl → Held
with_datas s xs = record s { datas = xs }

pub agree_data_section : (s : Held) → Agree (read.data_section s) (filled grammar.data_section s)
agree_data_section s =
    agree_alike (read.data_section s) (datas s >>= (λ xs. done (with_datas s xs))) (filled grammar.data_section s) (λ p. datas_put s (λ xs. done (with_datas s xs)) p)
    (agree_as (datas s) (grammar.datas s) (with_datas s) (agree_datas s))
