use Rattle.wasm_call.proofs.laws.law_failures_are_counted.Goals as goal

pub returns : goal.returns
returns g c = record {
  growths_keep = g.met.T.HostData.growths_keep_all;
  growths_deny = g.met.T.ResourceLimiter.growths_deny;
  growths_fail = g.met.T.ResourceLimiter.growths_fail;
  hooks_keep = g.met.K.CallHooks.hooks_keep_all;
  hooks_fail = g.met.K.CallHooks.hooks_fail;
  behaves_keep = g.met.B.DeadlineBehaviour.behaves_keep_all;
  behaves_fail = g.met.B.DeadlineBehaviour.behaves_fail;
  readings_keep = g.met.E.EpochSource.readings_keep;
  readings_fail = g.met.E.EpochSource.readings_fail;
  steps_keep = g.met.H.HostBody.steps_keep;
  steps_fail = g.met.H.HostBody.steps_fail;
}
