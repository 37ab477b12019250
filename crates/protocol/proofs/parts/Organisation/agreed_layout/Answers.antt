use Rattle.std.proofs.Common.{ap}
use Rattle.protocol.specs.declared.parts.Layout.{Layout}
use Rattle.protocol.specs.Parts.{cells_of, field_of}
use Rattle.protocol.proofs.Table.{agreed}
use Rattle.protocol.proofs.parts.Organisation.agreed_layout.Goals as goal

pub returns : goal.returns
unfolding cells_of field_of
returns c =
    let a = agreed c.args.self.part c.args.self.width in
    let e = ap (λ (l : Layout). l.cells) c.layout.ensures in
    let f = ap (λ (l : Layout). l.field) c.layout.ensures in
    record { cells = e; some = rw e a.some; within = rw e a.within; field = f; least = rw f a.least; most = rw f a.most }
