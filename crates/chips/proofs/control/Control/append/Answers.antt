use Rattle.std.proofs.Common.{rules, ◌+◌, ◌*◌, sym, ◌∙◌}
use Rattle.std.proofs.lemmas.Bool.{both_ways, ltb-true, lt-ltb}
use Rattle.protocol.specs.Samples.{bit_of}
use Rattle.chips.proofs.Lengths.{one_more, two_more, below_short}
use Rattle.chips.proofs.Midways.{midway, short_taken, full_spoiled}
use Rattle.chips.proofs.control.Control.append.Goals as goal

pub invariant_of-self-clause-short : goal.invariant_of-self-clause-short
invariant_of-self-clause-short c =
    let i = c.args.incoming in
    let setup = c.args.self.now.setup in
    let h = rw c.requires.setup at (c.is_midway.ensures c.if-is_midway.true) in
    let a = c.append.ensures in
    rw (c.into-self.ensures, a.width, a.count, a.bits)
    (below_short setup i.width (i.count + 1) (2 * i.bits + bit_of c.args.s.di) (two_more setup.part i.width i.count i.bits c.args.s.di h))

pub take-requires-clause-most : goal.take-requires-clause-most
take-requires-clause-most c =
    let i = c.args.incoming in
    let h = rw c.requires.setup at (ltb-true _ _ (sym c.is_short.ensures.is ∙ c.if-is_short.true)) in
    let a = c.append-then-is_short.ensures in
    rw (a.width, a.count, a.bits) (one_more c.args.self.now.setup.part i.width i.count i.bits c.args.s.di h)

pub returns-then-is_midway : goal.returns-then-is_midway
returns-then-is_midway c =
    let i = c.args.incoming in
    let h = rw c.requires.setup at (c.is_midway.ensures c.if-is_midway.true) in
    rw (midway c.args.self.now.setup c.args.s i.width i.count i.bits c.args.self.now.state h) (search rules)

pub returns-then-is_short : goal.returns-then-is_short
returns-then-is_short c =
    let i = c.args.incoming in
    let h = rw c.requires.setup at (ltb-true _ _ (sym c.is_short.ensures.is ∙ c.if-is_short.true)) in
    let a = c.append-then-is_short.ensures in
    rw (short_taken c.args.self.now.setup c.args.s i.width i.count i.bits c.args.self.now.state h)
    (rw (a.width, a.count, a.bits) at c.take.ensures)

pub returns-else-is_short : goal.returns-else-is_short
returns-else-is_short c =
    let i = c.args.incoming in
    let h = rw c.requires.setup at (sym c.is_short.ensures.is ∙ c.if-is_short.false) in
    rw (full_spoiled c.args.self.now.setup c.args.s i.width i.count i.bits c.args.self.now.state c.requires.short (λ l. both_ways _ h (lt-ltb _ _ l)))
    (search rules)
