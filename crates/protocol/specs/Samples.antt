-- Samples as bytes.
use Rattle.std.specs.Prelude.{ℕ, ◌+◌, ◌*◌, ◌/◌, ◌%◌, Bool, cond, List, length, Ok, Err, Result, ◌==◌, nat_lt}
use Rattle.std.specs.List.{position_or_len}
use Rattle.protocol.specs.declared.refusal.Cause.TheVariants.{HighSample}
use Rattle.protocol.specs.declared.refusal.Refusal.{Refusal}
use Rattle.protocol.specs.declared.sample.Sample.{Sample}
use Rattle.protocol.specs.declared.sample.Straps.{Straps}
use Rattle.protocol.specs.Refusals.{refusal}

-- bit 0 is CS, then SK, DI, ORG and PE
abbrev pub levels : ℕ → Sample
levels b = record { cs = (b % 2 == 1); sk = (b / 2 % 2 == 1); di = (b / 4 % 2 == 1); org = (b / 8 % 2 == 1); pe = (b / 16 % 2 == 1) }

-- at the levels to which a board ties ORG and PE
abbrev pub strapped : Straps → Bool → Bool → Bool → Sample
strapped straps cs sk di = record { cs = cs; sk = sk; di = di; org = straps.org; pe = straps.pe }

abbrev pub bit_of : Bool → ℕ
bit_of b = cond b 1 0

abbrev pub byte_of : Sample → ℕ
byte_of s = bit_of s.cs + 2 * bit_of s.sk + 4 * bit_of s.di + 8 * bit_of s.org + 16 * bit_of s.pe

-- no sample has such a byte
abbrev pub is_high : ℕ → Bool
is_high b = nat_lt 31 b

-- the place of the first byte above 31, or the length
abbrev pub high_at : List ℕ → ℕ
high_at samples = position_or_len is_high samples

-- no sample may be above 31
abbrev pub samples_checked : List ℕ → Result (Unit {0}) Refusal
samples_checked samples = cond (nat_lt (high_at samples) (length samples)) (Err (refusal HighSample (high_at samples))) (Ok tt)
