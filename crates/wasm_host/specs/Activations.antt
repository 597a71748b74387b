-- A function of the host at work, as the code has it.
use Rattle.spec_execution.specs.Activations as execution
use Rattle.wasm_host.specs.declared.activation.Activation.{Activation}

abbrev pub activation_of : Activation → execution.Activation
activation_of a = record {
  body = a.body;
  state = a.state;
  results = a.results.now;
  arguments = a.arguments.items;
  stored = a.stored.now;
  replies = a.replies.items;
  caller = a.caller;
  depth = a.depth;
}
