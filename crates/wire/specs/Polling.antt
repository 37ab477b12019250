-- Polling: samples with CS alone high until DO is not low, at most 4,096 of them, then rest.
use Rattle.std.specs.Prelude.{ℕ, zero, suc, Bool, true, false, cond, List, [], ◌∷◌, ◌++◌, ◌==◌}
use Rattle.chips.specs.Levels.{low}
use Rattle.chips.specs.Pins.{Pins, Put, put_on, do_of}
use Rattle.wire.specs.Frames.{selected, rest}

-- does the chip show busy at one more sample?
abbrev pub shows_busy : Pins → Bool
shows_busy p = do_of (put_on p selected) == low

-- the samples of at most n tries
unfoldable pub tries : ℕ → Pins → List Put
tries zero p = []
tries (suc n) p = selected ∷ cond (shows_busy p) (tries n (put_on p selected)) []

-- is the chip seen ready in at most n tries?
unfoldable pub ready_in : ℕ → Pins → Bool
ready_in zero p = false
ready_in (suc n) p = cond (shows_busy p) (ready_in n (put_on p selected)) true

abbrev pub most_tries : ℕ
most_tries = 4096

abbrev pub polls : Pins → List Put
polls p = tries most_tries p ++ rest

abbrev pub is_ready : Pins → Bool
is_ready p = ready_in most_tries p
