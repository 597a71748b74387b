use Rattle.binary_index.proofs.PlainLemmas.{reference_said}
use Rattle.binary_index.proofs.type_key.TypeKey.push_plain.Goals as goal

pub returns-in_ok-push_nullability-in-Ref : goal.returns-in_ok-push_nullability-in-Ref
returns-in_ok-push_nullability-in-Ref c = λ ts plain.
    reference_said ts c.args.ty.now c.in-Ref.ty c.heap_type.result.now c.is_nullable.result c.args.self.now c.push_nullability.new.self c.push_abstract.new.self c.push_abstract.result
    c.in-Ref.is c.heap_type.ensures c.is_nullable.ensures c.in_ok-push_nullability-in-Ref.ensures plain (c.push_abstract.ensures ts)
