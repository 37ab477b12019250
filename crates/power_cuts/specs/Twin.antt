-- What is seen of a chip with a twin, to which the first of its samples go too.
use Rattle.std.specs.Prelude.{◌==◌, ℕ, ◌-◌, Bool, true, if◌then◌else◌}
use Rattle.chips.specs.Pins.{Pins, Put}
use Rattle.chips.specs.Seen.{Seen, stepped}

-- what the chip itself keeps, the twin, how many samples it is still to get, and whether one did not reach it
pub record Twinned (V W : Type 0) : Type 0 where
  pub view : V
  pub twin : Seen W
  pub left : ℕ
  pub cut : Bool

module _ {V W : Type 0} (next : V → Pins → Put → V) (twin_next : W → Pins → Put → W) where
  abbrev pub twin_after : Twinned V W → Pins → Put → Twinned V W
  twin_after t p x =
      if t.left == 0
      then record t { view = next t.view p x; cut = true }
      else record t { view = next t.view p x; twin = stepped twin_next t.twin x; left = t.left - 1 }
