-- The fields of a record and of an entry of the pool, at their places in the buffer.
use Rattle.std.proofs.Common.{◌≡◌, ℕ, ◌+◌, ◌<◌, ◌≤◌, List, get_or, sym, ap, ◌∙◌, add-zero, arith}
use Rattle.lent.specs.Bytes.{be_value, part}
use Rattle.lent.specs.laws.Parts.{get_d_part, part_part}

module _ (b : List ℕ) (at : ℕ) where
  pub first_byte : get_or b at 0 ≡ get_or (part b at 16) 0 0
  first_byte = sym (get_d_part b at 16 0 0 (omega arith) ∙ ap (λ (i : ℕ). get_or b i 0) (add-zero at))

  pub byte_of : (i : ℕ) → i < 16 → get_or b (at + i) 0 ≡ get_or (part b at 16) i 0
  byte_of i h = sym (get_d_part b at 16 i 0 h)

  pub word_of : (i n : ℕ) → i + n ≤ 16 → be_value (part b (at + i) n) ≡ be_value (part (part b at 16) i n)
  word_of i n h = ap be_value (sym (part_part b at 16 i n h))
