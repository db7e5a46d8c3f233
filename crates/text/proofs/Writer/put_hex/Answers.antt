use Rattle.std.proofs.Common.{arith}
use Rattle.text.specs.laws.Digits.{hex_none, hex_then, four_bits}
use Rattle.text.proofs.Writer.put_hex.Goals as goal

pub loop-k-init : goal.loop-k-init
loop-k-init c = λ w p. p

pub loop-k-preserved : goal.loop-k-preserved
loop-k-preserved c = λ w p. c.loop-k.invariant w (hex_then c.loop-k.k c.args.n _ c.loop-k-test.true (four_bits _) c.hex_digit.ensures c.put.ensures p)

pub returns : goal.returns
returns c = c.loop-k.invariant c.loop-k.self (hex_none c.loop-k.self c.loop-k.k c.args.n (omega arith))
