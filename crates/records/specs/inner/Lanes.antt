-- What the program check tests of a record's bytes, eight at a time. Written as the code is, and needed by its proof only. Definitions only.
use Rattle.std.specs.Prelude.{ℕ, ◌-◌, ◌/◌, ◌%◌, cond, List, [], ◌∷◌, ◌==◌, nat_le}
use Rattle.lent.specs.inner.Words.{le_value}

-- a byte of at most l, where l is below 128: the bit that is set neither in it nor in the sum; what is added
abbrev pub lane_mask : ℕ → ℕ
lane_mask l = cond (nat_le l 127) 128 0

abbrev pub lane_add : ℕ → ℕ
lane_add l = cond (nat_le l 127) (127 - l) 0

-- of the limits m of an operation: kind, label, operands
abbrev pub masks : ℕ → List ℕ
masks m = 0 ∷ lane_mask (m / 4294967296 % 256) ∷ lane_mask 3 ∷ 0 ∷ lane_mask (m % 256) ∷ lane_mask (m / 256 % 256) ∷ lane_mask (m / 65536 % 256) ∷ 0 ∷ []

abbrev pub adds : ℕ → List ℕ
adds m = 0 ∷ lane_add (m / 4294967296 % 256) ∷ lane_add 3 ∷ 0 ∷ lane_add (m % 256) ∷ lane_add (m / 256 % 256) ∷ lane_add (m / 65536 % 256) ∷ (m / 16777216 % 256) ∷ []

-- a number of eight bytes, the highest first
abbrev pub high_mask : ℕ → ℕ → List ℕ
high_mask x y = 255 ∷ 255 ∷ 255 ∷ 255 ∷ 255 ∷ 255 ∷ x ∷ y ∷ []

abbrev pub any_mask : List ℕ
any_mask = 0 ∷ 0 ∷ 0 ∷ 0 ∷ 0 ∷ 0 ∷ 0 ∷ 0 ∷ []

-- the largest number of an operation is any, 1,023 or 255: no other occurs in the limits
abbrev pub word_mask : ℕ → List ℕ
word_mask most = cond (most == 16777215) any_mask (cond (most == 1023) (high_mask 252 0) (high_mask 255 0))

abbrev pub single_mask : ℕ → List ℕ
single_mask k = cond (k == 2) (high_mask 255 192) (cond (k == 3) (high_mask 255 254) any_mask)

abbrev pub limit_words : ℕ → List ℕ
limit_words m = le_value (masks m) ∷ le_value (adds m) ∷ le_value (word_mask (m / 1099511627776)) ∷ []
