-- Text written into a lent buffer, as far as the buffer goes. Definitions only.
use Rattle.std.specs.Prelude.{ℕ, ◌+◌, ◌-◌, min, ◌≡◌, List, length, take}
use Rattle.lent.specs.Bytes.{splice}

-- the text stands from byte `at` on, cut at the buffer's end; r is where the next one goes
pub record Put (out : List ℕ) (at : ℕ) (text : List ℕ) (out' : List ℕ) (r : ℕ) : Type 0 where
  pub place : r ≡ min (at + length text) (length out)
  pub bytes : out' ≡ splice out at (take (length out - at) text)
