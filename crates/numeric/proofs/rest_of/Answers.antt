-- `numeric::rest_of` meets its contract.
use Rattle.std.proofs.Common.{◌≡◌, ◌-◌, ◌*◌, ◌%◌, ◌^◌, ◌<◌, ◌∙◌, mod-lt, arith}
use Rattle.numeric.specs.inner.Fields.{significand, exponent}
use Rattle.numeric.proofs.Units.{exponent_le, exponent_mono, significand_pos, significand_lt, rest}
use Rattle.numeric.proofs.rest_of.Goals as goal
use Rattle.numeric.proofs.rest_of.Goals.{Start}

pub overflow_sub-s : goal.overflow_sub-s
overflow_sub-s c =
    let start = (goal.at.overflow_sub-s c).Start in
    omega (arith, c.exponent_of-k.ensures, c.exponent_of.ensures, exponent_mono start.args.q start.args.p start.requires.1)

pub remainder_of-r-requires : goal.remainder_of-r-requires
remainder_of-r-requires c =
    let q = c.args.q in
    let p = c.args.p in
    let l = exponent_le p c.requires.2 in
    omega (arith, c.significand_of.ensures, significand_lt p, c.significand_of-2.ensures, significand_pos q c.requires.0, significand_lt q, c.exponent_of.ensures)

pub pattern_of-requires : goal.pattern_of-requires
pattern_of-requires c =
    let q = c.args.q in
    let n = c.significand_of-2.result in
    let l = significand_lt q in
    let e = c.significand_of-2.ensures in
    let p : 0 < n = omega (arith, significand_pos q c.requires.0) in (
      omega (arith, c.remainder_of-r.ensures, mod-lt (c.significand_of.result * 2 ^ (c.exponent_of.result - c.exponent_of-k.result)) p),
      omega (arith, c.exponent_of-k.ensures, exponent_le q (omega arith)),
    )

pub returns : goal.returns
returns c =
    let p = c.args.p in
    let q = c.args.q in
    let same : c.remainder_of-r.result * 2 ^ c.exponent_of-k.result ≡ significand p * 2 ^ (exponent p - exponent q) % significand q * 2 ^ exponent q = cc in
    (c.pattern_of.ensures.0 ∙ same ∙ rest p q c.requires.0 c.requires.1, c.pattern_of.ensures.1)
