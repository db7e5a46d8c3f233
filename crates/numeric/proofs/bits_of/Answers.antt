-- `numeric::bits_of` meets its contract.
use Rattle.std.proofs.Common.{◌≡◌, ℕ, T, sym, refl, ap, ◌∙◌, subst}
use lib.Ieee.{binary64, of_bits}
use lib.Ieee.Compare.{differs_from_itself}
use Rattle.numeric.specs.laws.PatternLaws.{bits_nan, pattern_back}
use Rattle.numeric.proofs.Nans.{no_nan}
use Rattle.numeric.specs.inner.Patterns.{bits_of}
use Rattle.numeric.proofs.bits_of.Goals as goal
use Rattle.numeric.proofs.bits_of.Goals.{Start}

-- what is the pattern is read back
both : (c : Start) (r : ℕ) → r ≡ bits_of c.args.x → (r ≡ bits_of c.args.x) × (of_bits binary64 r ≡ c.args.x)
both c r e = (e, ap (of_bits binary64) e ∙ pattern_back c.args.x (subst T (sym c.well_formed.0.1) tt))

pub returns-then-x : goal.returns-then-x
returns-then-x c =
    let start = (goal.at.returns-then-x c).Start in
    both start 0x7ff8_0000_0000_0000 (sym (ap bits_of (differs_from_itself start.args.x (subst T (sym c.if-x.true) tt)) ∙ bits_nan))

pub float_to_bits-result : goal.float_to_bits-result
float_to_bits-result c = no_nan c.args.x c.if-x.false

pub returns : goal.returns
returns c = both (goal.at.returns c).Start (bits_of c.args.x) refl
