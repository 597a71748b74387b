use Rattle.module_typing.proofs.Walks.{own_fits}
use Rattle.module_typing.proofs.code.Code.fits_local.Goals as goal

pub returns-in-Local : goal.returns-in-Local
returns-in-Local c =
    own_fits c.args.self.now c.args.operand.now c.in-Local.own c.args.index c.args.ty.now c.in-Local.is c.if-own-index.true
    c.requires
