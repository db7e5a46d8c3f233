-- What is read from a program buffer is within the limits: document 01, "Numbers given for the input", 8, leaves no other program.
use Rattle.std.specs.Prelude.{◌≡◌, refl, true, ◌&&◌, List, ◌∷◌, ℕ, zero, suc, ◌+◌, ◌≤◌, leb, length, take, drop}
use Rattle.std.proofs.Common.{subst, arith, leb-true, le-leb}
use Rattle.std.proofs.Math.Option.{some}
use Rattle.lent.specs.Bytes.{be_value, part, Each, none, more, AreBytes}
use Rattle.lent.specs.laws.Each.{each_take, each_drop, each_part, byte_at}
use Rattle.sifv.specs.laws.Layout.{and_left, and_right, and_both}
use Rattle.opc.specs.Op.{Instr, op, Code}
use Rattle.opc.specs.Record.{items_of, decode_instr}
use Rattle.opc.specs.laws.RecordRange.{AllSome, when_all, guard_all, with_all, InstrRange, instr_range}
use Rattle.tables.specs.Tables.{Program}
use Rattle.tables.specs.ProgramBytes.{decode_code, tables_ok, decode_program}
use Rattle.lent.specs.Lists.{when, with}
use Rattle.opc.specs.Limits.{OpFits}
use Rattle.tables.specs.Limits.{item_total, code_ok, program_ok}

-- n instructions in range, whose items begin at entry p
abbrev pub CodeRange : ℕ → ℕ → Code → Type 0
CodeRange n p c = (length c ≡ n) × (code_ok c ≡ true) × Each (λ (i : Instr). OpFits (op i)) c × (p + item_total c ≤ 1024)

pub code_range : (n : ℕ) (rs : List ℕ) (p : ℕ) (pool : List ℕ) → AreBytes rs → p ≤ 1024 → AllSome (CodeRange n p) (decode_code n rs p pool)
code_range zero rs p pool b h = (refl, refl, none, omega arith)
code_range (suc n) rs p pool b h =
    with_all (CodeRange (suc n) p) (InstrRange p) (decode_instr (take 16 rs) p pool)
    (λ i. with (decode_code n (drop 16 rs) (p + length (items_of (op i))) pool) (λ c. some (i ∷ c)))
    (instr_range (take 16 rs) p pool h (byte_at (each_take 16 b) 7))
    (λ i q. with_all (CodeRange (suc n) p) (CodeRange n (p + length (items_of (op i)))) (decode_code n (drop 16 rs) (p + length (items_of (op i))) pool) (λ c. some (i ∷ c))
    (code_range n (drop 16 rs) (p + length (items_of (op i))) pool (each_drop 16 b) q.2)
    (λ c k. (omega (arith, k.0), and_both q.0 k.1, more q.1 k.2, omega (arith, k.3))))

abbrev Within : Program → Type 0
Within p = (program_ok p ≡ true) × Each (λ (i : Instr). OpFits (op i)) p.code

program_range : (b : List ℕ) → AreBytes b → AllSome Within (decode_program b)
unfolding decode_program
program_range b h =
    let n = be_value (part b 34944 2) in
    let s = be_value (part b 34946 2) in
    guard_all Within (leb n 1024 && leb s n)
    (with (decode_code n (part b 0 16384) 0 (part b 16384 16384)) (λ c. when (tables_ok b c) (record { code = c; code_start = s })))
    (λ e. with_all Within (CodeRange n 0) (decode_code n (part b 0 16384) 0 (part b 16384 16384)) (λ c. when (tables_ok b c) (record { code = c; code_start = s }))
    (code_range n (part b 0 16384) 0 (part b 16384 16384) (each_part 0 16384 h) (omega arith))
    (λ c k. when_all Within (tables_ok b c) (record { code = c; code_start = s })
    (λ t. (
      and_both (le-leb (length c) 1024 (omega (arith, k.0, leb-true n 1024 (and_left (leb n 1024) (leb s n) e))))
          (and_both (le-leb s (length c) (omega (arith, k.0, leb-true s n (and_right (leb n 1024) (leb s n) e))))
          (and_both (le-leb (item_total c) 1024 (omega (arith, k.3))) k.1)),
      k.2,
    ))))

-- a program that is accepted is within the limits, and its numbers fit
pub program_within : (b : List ℕ) (p : Program) → AreBytes b → decode_program b ≡ some p → (program_ok p ≡ true) × Each (λ (i : Instr). OpFits (op i)) p.code
program_within b p h e = subst (AllSome Within) e (program_range b h)
