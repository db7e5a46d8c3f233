-- Demand 3's bound is far below 2^64: at most 1,024 instructions, at most 8 loops around each, and array literals of at most 24 items. So a run that is given
-- the bound is never refused for the count. Document 01, "Numbers given for the input": 4, 7.
use Rattle.std.specs.Prelude.{◌≡◌, Bool, true, false, not, ◌&&◌, List, ℕ, ◌+◌, ◌*◌, ◌-◌, ◌^◌, max, ◌≤◌, T, leb}
use Rattle.std.proofs.Common.{le_trans, mul-le-mul, arith, leb→le}
use Rattle.std.proofs.Math.Nat.{pow-le-pow_left, pow-le-pow_right}
use Rattle.std.proofs.Math.Facts.{and_yes}
use Rattle.tables.specs.Tables.{Program}
use Rattle.ast.specs.Tree.{Expr, Stmts, Rest}
use Rattle.ast.specs.Structure.{expr_ok, source_ok, stmt_ok, stmts_ok, rest_ok}
use Rattle.compiler.specs.Lower.{Place, Event, top, lower_tree, refusal, program_of, lowered, lower}
use Rattle.compiler.proofs.laws.Events.{pushes_in, Mono, end, took, asked, then, Nests, block_emits, stmts_emits}
use Rattle.compiler.proofs.laws.Accepted.{not_refused, decided}
use Rattle.walk.specs.Bound.{longest, total, bound}
use Rattle.walk.proofs.laws.ShortArrays.{ok_longest}

-- at most k loops around an instruction
abbrev Around : ℕ → Place → Type 0
Around k w = w.loops ≤ k

-- the sum over instructions with at most k loops around each
total_le : (l k : ℕ) → 1 ≤ l → {a b : ℕ} {es : List Event} → Mono (Around k) a es b → total l es ≤ pushes_in es * l ^ k
total_le l k h (end g) = omega arith
total_le l k h (took m) = total_le l k h m
total_le l k h (asked m) = total_le l k h m
total_le l k h (then g q m) = omega (arith, total_le l k h m, pow-le-pow_right h g)

-- a test of statements at the place w, where l loops may still be nested
record Within (k : ℕ) (test : ℕ → Bool → Bool) (w : Place) : Type 0 where
  left : ℕ
  inside : Bool
  near : w.loops + left ≤ k
  ok : T (test left inside)

both : {k : ℕ} {w : Place} (s t : ℕ → Bool → Bool) → Within k (λ l f. s l f && t l f) w → Within k s w × Within k t w
both s t h =
    let i = and_yes (s h.left h.inside) (t h.left h.inside) h.ok in
    (record { left = h.left; inside = h.inside; near = h.near; ok = i.0 }, record { left = h.left; inside = h.inside; near = h.near; ok = i.1 })

branches : {k : ℕ} {w : Place} (c : Expr) (b : Stmts) (j : Rest) → Within k (λ l f. expr_ok c && (stmts_ok b l f && rest_ok j l f)) w → Within k (stmts_ok b) w × Within k (rest_ok j) w
branches c b j h = both (stmts_ok b) (rest_ok j) (both (λ l f. expr_ok c) (λ l f. stmts_ok b l f && rest_ok j l f) h).1

around : (k : ℕ) → Nests (Around k) (λ w s. Within k (stmt_ok s) w) (λ w b. Within k (stmts_ok b) w) (λ w j. Within k (rest_ok j) w)
around k = record {
  block = λ w b h. h;
  branches = λ w c b j h. branches c b j h;
  loop = λ w i v s b h.
      let u = and_yes (leb 1 h.left) (source_ok s && stmts_ok b (h.left - 1) h.inside) h.ok in
      let j = leb→le 1 h.left u.0 in
      (omega (arith, h.near), record { left = h.left - 1; inside = h.inside; near = omega (arith, h.near); ok = (and_yes (source_ok s) (stmts_ok b (h.left - 1) h.inside) u.1).1 });
  function = λ w x ps b h.
      (omega (arith, h.near), record { left = h.left; inside = true; near = h.near; ok = (and_yes (not h.inside) (stmts_ok b h.left true) h.ok).1 });
  first = λ w s b h. both (stmt_ok s) (stmts_ok b) h;
  otherwise = λ w b h. h;
  elif = λ w c b j h. branches c b j h;
}

-- ---- the law

pub bound_small : (t : Stmts) (p : Program) → stmts_ok t 8 false ≡ true → lower t ≡ lowered p → bound t ≤ 1024 * 24 ^ 8
bound_small t p o e =
    let es = lower_tree t in
    let s : T (stmts_ok t 8 false) = rw o tt in
    let l = max 1 (longest t) in
    let h : l ≤ 24 = omega (arith, ok_longest t 8 false s) in
    let a = block_emits {Z = ⊥} top (omega arith) 0 absurd t (stmts_emits (around 8) t absurd top (omega arith) (record { left = 8; inside = false; near = omega arith; ok = s }) 0 0 absurd) in
    let c : pushes_in es ≤ 1024 = omega (arith, (not_refused es 0 0 (omega arith) (omega arith) (decided (refusal es 0 0) (program_of es) p e).0).1) in
    le_trans (total_le l 8 (omega arith) a.mono) (mul-le-mul c (pow-le-pow_left h 8))
