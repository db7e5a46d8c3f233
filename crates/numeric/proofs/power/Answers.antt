use Rattle.std.proofs.Common.{◌≡◌, ℕ, ◌*◌, ◌%◌, ◌^◌, sym, ap, ◌∙◌, one-mul, mul-one, arith, shl_exact}
use lib.Pow.{pow-lt}
use Rattle.numeric.proofs.Products.{squared}
use Rattle.numeric.proofs.power.Goals as goal
use Rattle.numeric.proofs.power.Goals.{Start}

pub loop-init : goal.loop-init
loop-init c =
    let e = c.args.c in
    let one : 1 * 2 ^ e % 2 ^ 64 ≡ 2 ^ e = shl_exact 1 e 64 (omega arith) (omega arith) ∙ one-mul (2 ^ e) in
    (ap (λ (z : ℕ). z % c.args.n) (one ∙ ap (λ (z : ℕ). 2 ^ z) (sym (mul-one e))), omega (arith, pow-lt c.requires.0))

pub product-x-requires : goal.product-x-requires
product-x-requires c = (c.loop.invariant.1, c.loop.invariant.1, c.requires.1)

pub loop-preserved : goal.loop-preserved
loop-preserved c =
    let l = c.loop in
    (squared l.x c.product-x.result c.args.n c.args.c l.counter l.invariant.0 c.product-x.ensures.0, c.product-x.ensures.1)

pub returns : goal.returns
returns c =
    let l = c.loop in
    let start = (goal.at.returns c).Start in
    let done : l.counter ≡ start.args.k = omega arith in
    (l.invariant.0 ∙ ap (λ (z : ℕ). 2 ^ (start.args.c * 2 ^ z) % start.args.n) done, l.invariant.1)
