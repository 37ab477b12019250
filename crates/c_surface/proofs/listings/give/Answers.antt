use Rattle.std.proofs.Common.{rules}
use Rattle.c_surface.proofs.Filled.{fits_in, fills}
use Rattle.c_surface.proofs.listings.give.Goals as goal

pub returns-in-Ok : goal.returns-in-Ok
returns-in-Ok c =
    let l = c.new-list.result in
    let m = c.extend.new.self in
    let a = c.in-Ok.ensures in
    let f = fits_in l m c.args.buffer.now c.args.bytes.now c.new-list.ensures.count c.new-list.ensures.places a in
    let g = fills l m c.args.buffer.now c.args.bytes.now c.new-list.ensures.count c.new-list.ensures.places a in
    record { answer = rw f (search rules); buffer = (let s = a.same_slice in search rules) }
