-- The listing of a trace file, with room for 1,024 entries.
use Rattle.std.specs.Prelude.{◌≡◌, ℕ, List}
use Rattle.protocol.specs.Inputs.{Checked}
use Rattle.listing.specs.Outcome.{Outcome, outcome_of}
use Rattle.listing.specs.Text.{listing_text}

abbrev pub listed : List ℕ → Outcome
listed file = outcome_of 1024 file

abbrev pub file_text : List ℕ → List ℕ
file_text file = listing_text (listed file).entries (listed file).answer

-- the text and the answer of a file's listing
pub record Lists (file bytes : List ℕ) (r : Checked) : Type 0 where
  pub text : bytes ≡ file_text file
  pub answer : r ≡ (listed file).answer
