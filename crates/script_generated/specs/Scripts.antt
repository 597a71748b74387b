-- Generated sessions. This project's own.
use Rattle.std.specs.Prelude.{ℕ, [], ◌∷◌}
use Rattle.script_commands.specs.Engines.{default_engine}
use Rattle.script_commands.specs.HostAnswers.{no_answers}
use Rattle.script_commands.specs.declared.script.Script.{Script}
use Rattle.script_generated.specs.Commands.{generated_commands}
use Rattle.script_generated.specs.Modules.{generated_module}

-- the session of so many calls: one module, and a script that says nothing of its engine and its host
abbrev pub generated : ℕ → Script
generated n = record {
  engine = default_engine;
  modules = generated_module ∷ [];
  answers = no_answers;
  bodies = [];
  commands = generated_commands n;
}
