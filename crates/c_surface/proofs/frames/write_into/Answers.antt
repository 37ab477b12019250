use Rattle.std.proofs.Common.{◌≡◌, ℕ, Err, ◌∙◌, ap, rules}
use Rattle.protocol.specs.declared.list.List.{List as Held}
use Rattle.frame_writer.specs.Written.{written}
use Rattle.c_surface.proofs.Filled.{written_well, written_not}
use Rattle.c_surface.proofs.frames.write_into.Goals as goal

pub returns : goal.returns
returns c =
    let k = written_well c.new-list.result c.write_frame.new.samples c.args.samples.now c.new-list.ensures.count c.new-list.ensures.places
    (written c.args.part c.args.straps.org c.args.straps.pe c.args.instruction) c.in_ok-write_frame.ensures in
    record { length = (let n = c.len.ensures in rw n k.0); buffer = (let b = k.1 in search rules) }

pub returns-in_err-write_frame : goal.returns-in_err-write_frame
returns-in_err-write_frame c =
    let frame = written c.args.part c.args.straps.org c.args.straps.pe c.args.instruction in
    let m = c.write_frame.new.samples in
    let e = c.in_err-write_frame.field-0.0 in
    let k = written_not c.new-list.result m c.args.samples.now c.new-list.ensures.count c.new-list.ensures.places frame e c.in_err-write_frame.ensures in
    let name = ap (λ (x : Held ℕ). x.slice.ghost_name) k.0 in
    let r : c.from_residual.result ≡ Err e = search rules in
    record { length = r ∙ k.1; buffer = (let b = k.2 in search rules) }
