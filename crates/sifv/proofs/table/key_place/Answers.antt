use mathlib.Core.Path.{◌≡◌, ◌∙◌}
use native.Mathlib.Omega.{arith}
use Rattle.sifv.specs.laws.Tables.{place_found, place_turn, place_none}
use Rattle.sifv.proofs.table.key_place.Goals as goal

pub returns-then-key-wide : goal.returns-then-key-wide
returns-then-key-wide c =
    let a = c.args in
    place_found a.s.now a.at a.n c.loop-i.i a.key c.requires.1 c.loop-i.invariant (omega arith) c.wide.ensures.0 c.if-key-wide.true

pub loop-i-preserved : goal.loop-i-preserved
loop-i-preserved c =
    let a = c.args in
    place_turn a.s.now a.at a.n c.loop-i.i a.key c.requires.1 c.loop-i.invariant (omega arith) c.wide.ensures.0 c.if-key-wide.false

pub returns : goal.returns
returns c =
    let a = c.args in
    let e : a.n ≡ c.loop-i.i = omega arith in
    e ∙ place_none a.s.now a.at a.n c.loop-i.i a.key c.requires.1 c.loop-i.invariant (omega arith)
