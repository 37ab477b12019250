use Rattle.std.proofs.Common.{refl, arith}
use Rattle.protocol.proofs.Adding.{put_over}
use Rattle.protocol.proofs.list.List.store_all.Goals as goal

pub returns : goal.returns
returns g c =
    let p = put_over c.args.self.now.slice.now c.args.more.now c.copy_from_slice.new.self c.args.self.now.count _ (omega arith) c.copy_from_slice.ensures.after c.requires in
    record { adds = p.0; past = p.1; counts = refl; same_room = p.2; same_slice = refl }
