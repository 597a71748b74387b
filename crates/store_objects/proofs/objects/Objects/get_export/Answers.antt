use Rattle.std.proofs.Common.{◌∙◌}
use Rattle.store_objects.proofs.InstanceLemmas.{export_of}
use Rattle.store_objects.proofs.objects.Objects.get_export.Goals as goal

pub returns : goal.returns
returns c =
    let found = c.in_ok-stored.ensures in
    c.ok_or.ensures.value
    ∙ export_of c.args.self.now c.args.instance c.args.name.now found.0 found.1 c.exported.result
    (c.exported.ensures found.0 found.2)
