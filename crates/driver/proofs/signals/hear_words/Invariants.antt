use Rattle.std.proofs.Common.{◌≡◌, ◌*◌, [], take}
use Rattle.protocol.specs.Parts.{bits_of}
use Rattle.chips.specs.Seen.{seen}
use Rattle.wire.specs.Frames.{clocks}
use Rattle.wire.specs.Hearing.{words_heard}
use Rattle.wire.specs.Sent.{told}
use Rattle.driver.proofs.signals.hear_words.Given as goal

abbrev pub invariant-loop-word : goal.invariant-loop-word
invariant-loop-word g l =
    let x = seen g.C.Chip.view g.C.Chip.meaning in
    let bits = bits_of l.width in
    (take l.word-index l.words ≡ words_heard bits l.word-index (x l.initial.chip).pins)
    × (x l.chip ≡ told g.C.Chip.next (x l.initial.chip) (clocks (l.word-index * bits) 0 []))
