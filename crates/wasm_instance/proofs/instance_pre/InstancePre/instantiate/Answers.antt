use Rattle.wasm_instance.proofs.instance_pre.InstancePre.instantiate.Goals as goal

pub returns-clause-refused : goal.returns-clause-refused
returns-clause-refused g c = rw c.as_slice.ensures.value at c.instantiate.ensures.refused

pub returns-clause-short : goal.returns-clause-short
returns-clause-short g c p = rw c.as_slice.ensures.value at (c.instantiate.ensures.short p)

pub returns-clause-confined : goal.returns-clause-confined
returns-clause-confined g c = rw c.as_slice.ensures.value at c.instantiate.ensures.confined
