-- The text of each status and the exit status of the program: this project's own.
use Rattle.std.specs.Prelude.{ℕ, List, ◌++◌, codes}
use Rattle.std.specs.Fmt.{decimal}
use Rattle.wasm_syntax.specs.declared.module_fault.Part.{Part}
use Rattle.wasm_syntax.specs.declared.module_fault.Part.TheVariants as part
use Rattle.wasm_syntax.specs.declared.module_fault.Rule.{Rule}
use Rattle.wasm_syntax.specs.declared.module_fault.Rule.TheVariants as rule
use Rattle.wasm_run.specs.declared.status.Status.{Status}
use Rattle.wasm_run.specs.declared.status.Status.TheVariants.{Done, BadWords, ReadFault, TooLong, BadJson, BadScript, InvalidModule, OutOfMemory, WriteFault}

abbrev pub rule_name : Rule → List ℕ
rule_name rule.Size = codes "Size"
rule_name rule.Engine = codes "Engine"
rule_name rule.Index = codes "Index"
rule_name rule.Local = codes "Local"
rule_name rule.Shape = codes "Shape"
rule_name rule.Const = codes "Const"
rule_name rule.Element = codes "Element"
rule_name rule.ExportName = codes "ExportName"
rule_name rule.Start = codes "Start"
rule_name rule.Body = codes "Body"

-- a part by its key in a script
abbrev pub part_name : Part → List ℕ
part_name part.Types = codes "types"
part_name part.Imports = codes "imports"
part_name part.Functions = codes "functions"
part_name part.Tables = codes "tables"
part_name part.Memories = codes "memories"
part_name part.Globals = codes "globals"
part_name part.Tags = codes "tags"
part_name part.Exports = codes "exports"
part_name part.Elements = codes "elements"
part_name part.Datas = codes "datas"
part_name part.Start = codes "start"

-- its name; and of a module that is not valid its number, the rule, and the part and the item
abbrev pub status_text : Status → List ℕ
status_text Done = codes "Done"
status_text BadWords = codes "BadWords"
status_text ReadFault = codes "ReadFault"
status_text TooLong = codes "TooLong"
status_text BadJson = codes "BadJson"
status_text BadScript = codes "BadScript"
status_text (InvalidModule n rule place) =
    codes "InvalidModule " ++ decimal n ++ codes " " ++ rule_name rule ++ codes " " ++ part_name place.part
    ++ codes " " ++ decimal place.item
status_text OutOfMemory = codes "OutOfMemory"
status_text WriteFault = codes "WriteFault"

-- 1 is left to faults of the system
abbrev pub exit_code : Status → ℕ
exit_code Done = 0
exit_code BadWords = 2
exit_code ReadFault = 3
exit_code TooLong = 4
exit_code BadJson = 5
exit_code BadScript = 6
exit_code (InvalidModule n rule place) = 7
exit_code OutOfMemory = 8
exit_code WriteFault = 9
