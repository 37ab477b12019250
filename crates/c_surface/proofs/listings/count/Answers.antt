use Rattle.std.proofs.Common.{◌≡◌, length, sym, ◌∙◌, rules}
use Rattle.protocol.specs.Lists.{items, room}
use Rattle.protocol.proofs.Adding.{length-items}
use Rattle.traces.specs.Reading.{readable}
use Rattle.listing.proofs.Files.{read_comes}
use Rattle.c_surface.proofs.listings.count.Goals as goal

pub returns : goal.returns
returns c =
    let l = c.new-entries.result in
    let m = c.read_trace-result.new.entries in
    let n : room l ≡ c.args.room = search rules in
    let k = rw n at (read_comes (readable c.args.settings c.args.samples.now) c.args.samples.now l m c.read_trace-result.result c.new-entries.ensures.count c.read_trace-result.ensures) in
    let counted : c.len.result ≡ length (items m) = c.len.ensures ∙ sym (length-items m) in
    c.new.ensures ∙ rw (counted, k.entries, k.answer)
