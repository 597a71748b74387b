-- What a call, an instantiation and a command heard lies in brackets, from the world in which it began.
use Rattle.std.proofs.Common.{◌≡◌, ℕ, List, [], Option, Some, refl, sym, subst}
use Rattle.std.proofs.lemmas.List.{append-nil}
use Rattle.wasm_syntax.specs.declared.declarations.ModuleDecl.{ModuleDecl}
use Rattle.wasm_values.specs.declared.externals.Extern.{Extern}
use Rattle.wasm_objects.specs.declared.raw.RawVal.{RawVal}
use Rattle.wasm_meter.specs.declared.call_hook.CallHook.{CallHook}
use Rattle.spec_machine.specs.Commands.{row}
use Rattle.spec_execution.specs.Bodies.{exec}
use Rattle.spec_execution.specs.Commands.{Finish, Replied, Early, replied}
use Rattle.spec_execution.specs.Entering.{entry}
use Rattle.spec_execution.specs.Instantiation.{instantiate}
use Rattle.spec_execution.specs.Outcomes.{World, Outcome, Values, Branch, Return, Over, End, Trapped, Refused, Stopped, Exhausted}
use Rattle.law_store.proofs.Rows.{row_leaves_flags}
use Rattle.spec_execution.specs.Askings.{Asking}
use Rattle.law_store.proofs.Lists.{each_none}
use Rattle.law_hooks.specs.Brackets.{open_calls, IsBracketed, IsBracketedSoFar}
use Rattle.law_hooks.specs.Askers.{flags_of, MayHear, AreHeard, AtFinish, KeepsFlags, OnlyWhatIsSetIsAsked}
use Rattle.law_hooks.specs.HookLaws.{HeardSince, AtEnd, AtStop, AtReply, WithoutReply, OfCommands, CallsAreBracketed, InstantiationsAreBracketed, CommandsAreBracketed, StopsAreBracketedSoFar, HasBracketedEvents, EventsAreBracketed}
use Rattle.law_hooks.proofs.BorderLemmas.{borders_in-no_fault}
use Rattle.law_hooks.proofs.Worlds.{Base, Stands, StandsSomewhere, StandsShort, short_of, EndStands, Ends}
use Rattle.law_hooks.proofs.Outcomes.{Finishes}
use Rattle.law_hooks.proofs.Functions.{entry_finishes}
use Rattle.law_hooks.proofs.Instantiation.{instantiate_finishes}
use Rattle.law_hooks.proofs.Operations.{perform_stands}
use Rattle.law_hooks.proofs.CodeLemmas.{exec_good}

-- where a run begins no call is open
abbrev base : World → Base
base w = record { heard = w.heard; flags = flags_of w.machine }

begun : (w : World) → Stands (base w) [] w
begun w = record {
  more = [];
  course = sym (append-nil w.heard);
  passed = refl;
  flags = refl;
  heard = each_none (λ (asking : Asking). MayHear (flags_of w.machine) asking.0 asking.1);
}

-- ---- what was heard, by where the run stands

since : (w v : World) → Stands (base w) [] v → HeardSince w v IsBracketed
since w v h = record { more = h.more; course = h.course; says = h.passed }

since_so_far : (w v : World) → StandsShort (base w) v → HeardSince w v IsBracketedSoFar
since_so_far w v h = record { more = h.more; course = h.course; says = (h.calls, h.passed) }

short : (B : Base) (w : World) → StandsSomewhere B w → StandsShort B w
short B w h = short_of B h.calls w h.stands

-- who was asked
since_asked : (w v : World) (calls : List CallHook) → Stands (base w) calls v → HeardSince w v (AreHeard (flags_of w.machine))
since_asked w v calls h = record { more = h.more; course = h.course; says = h.heard }

at_end : (w : World) (o : Outcome) → Finishes (base w) [] o → AtEnd IsBracketed w o
at_end w (Values s) h = since w s.world h.by
at_end w (Branch l s) h = h.by
at_end w (Return s) h = h.by
at_end w (Over (Trapped t) v) h = since w v h.by
at_end w (Over (Refused why) v) h = since w v h.by
at_end w (Over e v) h = tt

at_stop : (w : World) (o : Outcome) → Finishes (base w) [] o → AtStop IsBracketedSoFar w o
at_stop w (Values s) h = tt
at_stop w (Branch l s) h = tt
at_stop w (Return s) h = tt
at_stop w (Over (Trapped t) v) h = tt
at_stop w (Over (Refused why) v) h = tt
at_stop w (Over Exhausted v) h = since_so_far w v h.by
at_stop w (Over e v) h = since_so_far w v (short (base w) v h.by)

asked_at_end : (w : World) (o : Outcome) → Finishes (base w) [] o → AtEnd (AreHeard (flags_of w.machine)) w o
asked_at_end w (Values s) h = since_asked w s.world [] h.by
asked_at_end w (Branch l s) h = h.by
asked_at_end w (Return s) h = h.by
asked_at_end w (Over (Trapped t) v) h = since_asked w v [] h.by
asked_at_end w (Over (Refused why) v) h = since_asked w v [] h.by
asked_at_end w (Over e v) h = tt

-- ---- calls and instantiations

entry_is :
    (depth n : ℕ) (args : List RawVal) (caller : Option ℕ) (w : World)
    → Finishes (base w) [] (entry exec depth n args caller w)
entry_is depth n args caller w =
    entry_finishes (base w) [] exec (exec_good (base w)) depth n args caller w (begun w)

instantiate_is :
    (depth : ℕ) (w : World) (d : ModuleDecl) (imports : List Extern)
    → Finishes (base w) [] (instantiate exec depth w d imports)
instantiate_is depth w d imports =
    instantiate_finishes (base w) [] exec (exec_good (base w)) depth d imports w (begun w)

pub calls_are_bracketed : CallsAreBracketed
calls_are_bracketed depth n args caller w = at_end w _ (entry_is depth n args caller w)

pub instantiations_are_bracketed : InstantiationsAreBracketed
instantiations_are_bracketed depth w d imports = at_end w _ (instantiate_is depth w d imports)

-- ---- commands

abbrev FinishStands : World → Finish → Type 0
FinishStands w (Replied answer v) = Stands (base w) [] v
FinishStands w (Early Stopped v) = StandsSomewhere (base w) v
FinishStands w (Early e v) = StandsShort (base w) v

record CommandFinishes (w : World) (o : Finish) : Type 0 where
  by : FinishStands w o

early_stands : (w : World) (calls : List CallHook) (e : End) (v : World) → EndStands (base w) calls e v → FinishStands w (Early e v)
early_stands w calls (Trapped t) v h = short_of (base w) calls v h
early_stands w calls (Refused why) v h = short_of (base w) calls v h
early_stands w calls Stopped v h = h
early_stands w calls Exhausted v h = h
early_stands w calls e v h = short (base w) v h

command_ends : (w : World) → Ends (base w) Early [] (CommandFinishes w)
command_ends w = record { by = λ e v h. record { by = early_stands w [] e v h } }

command_is : OfCommands CommandFinishes
command_is modules s c w =
    perform_stands (base w) (command_ends w) replied (λ v answer h. record { by = h }) exec (exec_good (base w)) 0 w
    (row modules w.machine s c) (row_leaves_flags modules w.machine s c) (begun w)

at_reply : (w : World) (o : Finish) → CommandFinishes w o → AtReply IsBracketed w o
at_reply w (Replied answer v) h = since w v h.by
at_reply w (Early e v) h = tt

without_reply : (w : World) (o : Finish) → CommandFinishes w o → WithoutReply IsBracketedSoFar w o
without_reply w (Replied answer v) h = tt
without_reply w (Early Stopped v) h = since_so_far w v (short (base w) v h.by)
without_reply w (Early e v) h = since_so_far w v h.by

asked_at_finish : (w : World) (o : Finish) → CommandFinishes w o → AtFinish (AreHeard (flags_of w.machine)) w o
asked_at_finish w (Replied answer v) h = since_asked w v [] h.by
asked_at_finish w (Early Stopped v) h = since_asked w v h.by.calls h.by.stands
asked_at_finish w (Early e v) h = tt

pub commands_are_bracketed : CommandsAreBracketed
commands_are_bracketed modules s c w = at_reply w _ (command_is modules s c w)

-- ---- stops

pub stops_are_bracketed : StopsAreBracketedSoFar
stops_are_bracketed = record {
  calls = λ depth n args caller w. at_stop w _ (entry_is depth n args caller w);
  instantiations = λ depth w d imports. at_stop w _ (instantiate_is depth w d imports);
  commands = λ modules s c w. without_reply w _ (command_is modules s c w);
}

keeps_flags : (w : World) (o : Finish) → CommandFinishes w o → KeepsFlags w o
keeps_flags w (Replied answer v) h = h.by.flags
keeps_flags w (Early Stopped v) h = h.by.stands.flags
keeps_flags w (Early e v) h = tt

-- ---- who is asked

pub only_what_is_set_is_asked : OnlyWhatIsSetIsAsked
only_what_is_set_is_asked = record {
  calls = λ depth n args caller w. asked_at_end w _ (entry_is depth n args caller w);
  instantiations = λ depth w d imports. asked_at_end w _ (instantiate_is depth w d imports);
  commands = λ modules s c w. asked_at_finish w _ (command_is modules s c w);
  flags = λ modules s c w. keeps_flags w _ (command_is modules s c w);
}

-- ---- where no hook failed

events_since : (w v : World) → HeardSince w v IsBracketed → HeardSince w v HasBracketedEvents
events_since w v h = record {
  more = h.more;
  course = h.course;
  says = λ no_fault.
      subst (λ (events : List CallHook). open_calls events [] ≡ Some []) (borders_in-no_fault h.more no_fault) h.says;
}

events_at_end : (w : World) (o : Outcome) → AtEnd IsBracketed w o → AtEnd HasBracketedEvents w o
events_at_end w (Values s) h = events_since w s.world h
events_at_end w (Branch l s) h = h
events_at_end w (Return s) h = h
events_at_end w (Over (Trapped t) v) h = events_since w v h
events_at_end w (Over (Refused why) v) h = events_since w v h
events_at_end w (Over e v) h = tt

events_at_reply : (w : World) (o : Finish) → AtReply IsBracketed w o → AtReply HasBracketedEvents w o
events_at_reply w (Replied answer v) h = events_since w v h
events_at_reply w (Early e v) h = tt

pub events_are_bracketed : EventsAreBracketed
events_are_bracketed = record {
  calls = λ depth n args caller w. events_at_end w _ (calls_are_bracketed depth n args caller w);
  instantiations = λ depth w d imports. events_at_end w _ (instantiations_are_bracketed depth w d imports);
  commands = λ modules s c w. events_at_reply w _ (commands_are_bracketed modules s c w);
}
