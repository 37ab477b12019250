use Rattle.std.proofs.Common.{◌+◌, sym, refl, ◌∙◌, arith}
use Rattle.std.proofs.lemmas.List.{take_more_set, drop-set-lt, drop-drop, length-set}
use Rattle.protocol.proofs.list.List.store.Goals as goal

pub returns : goal.returns
returns g c =
    let s = c.args.self.now.slice.now in
    let n = c.args.self.now.count in
    let x = c.args.item in
    record {
      adds = take_more_set s n x c.requires;
      past = drop-set-lt (n + 1) s n x (omega arith) ∙ sym (drop-drop 1 n s);
      counts = refl;
      same_room = length-set s n x;
      same_slice = refl;
    }
