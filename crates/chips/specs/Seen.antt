-- What is seen of a chip: its own view, and what it means.
use Rattle.chips.specs.Pins.{Pins, Put, put_on}

pub record Seen (V : Type 0) : Type 0 where
  pub view : V
  pub pins : Pins

abbrev pub seen : {C V : Type 0} → (C → V) → (C → Pins) → C → Seen V
seen view meaning c = record { view = view c; pins = meaning c }

-- after one sample
abbrev pub stepped : {V : Type 0} → (V → Pins → Put → V) → Seen V → Put → Seen V
stepped next x s = record { view = next x.view x.pins s; pins = put_on x.pins s }
