-- What is read from a file of bytes is a program that the program check accepts; and the length that a file's contents tell is its length.
use Rattle.std.specs.Prelude.{◌≡◌, refl, Bool, true, false, cond, ◌&&◌, List, [], ◌∷◌, ◌++◌, map, ℕ, ◌+◌, ◌-◌, ◌^◌, ◌/◌, ◌%◌, ◌<◌, leb, eqb, length, get_or, take}
use Rattle.std.proofs.Common.{sym, ap, ap₂, ◌∙◌, subst, append_assoc, arith, length-append, take_at, le-leb}
use Rattle.std.proofs.Math.Option.{some}
use Rattle.lent.specs.Bytes.{be_value, be_bytes, part, same_bytes, concat, Each, none, more, AreBytes}
use Rattle.lent.specs.Lists.{zeros, when, sum}
use Rattle.lent.specs.laws.Cuts.{concat_length, cut_bytes}
use Rattle.lent.specs.laws.Each.{each_append, each_take, each_drop, each_replicate, byte_at}
use Rattle.lent.specs.laws.Numbers.{be_value_be_bytes, be_bytes_bytes}
use Rattle.opc.specs.Op.{Instr, op}
use Rattle.opc.specs.Limits.{OpFits}
use Rattle.opc.specs.laws.RecordRange.{AllSome, when_all, with_all}
use Rattle.tables.specs.Tables.{Program}
use Rattle.tables.specs.ProgramBytes.{decode_code, encode_program, decode_program}
use Rattle.tables.specs.Limits.{program_ok}
use Rattle.tables.specs.laws.ProgramLaws.{limits, program_behind}
use Rattle.tables.specs.laws.ProgramRange.{CodeRange, code_range}
use Rattle.program_file.specs.ProgramFile.{marks, spread, record_mask, record_from, records_from, records_in, pool_in, instr_count, record_count, contents_length, bodies_in, record_bodies, pool_items, program_file, file_length, read_program}
use Rattle.program_file.specs.laws.ReadLaws.{assembled_file, read_assembled, file_is, items_counted, bodies_length}

-- ---- bytes

spread_bytes : (ms : List Bool) {b : List ℕ} → AreBytes b → AreBytes (spread ms b)
spread_bytes [] h = none
spread_bytes (true ∷ ms) {b} h = more {a = get_or b 0 0} (omega (arith, byte_at h 0)) (spread_bytes ms (each_drop 1 h))
spread_bytes (false ∷ ms) h = more {a = 0} (omega arith) (spread_bytes ms h)

record_bytes_lem : (p : ℕ) {b : List ℕ} → AreBytes b → AreBytes (record_from p b)
record_bytes_lem p {b} h =
    let m = record_mask (get_or b 0 0) (get_or b 1 0) in
    let k = spread_bytes (marks 16 m) h in
    each_append (each_take 8 k) (either (eqb (m / 2 ^ 8 % 2) 1) (each_drop 8 k))
  where
    either : (t : Bool) {r : List ℕ} → AreBytes r → AreBytes (cond t (be_bytes 8 p) r)
    either true k = be_bytes_bytes 8 p
    either false k = k

records_bytes : (p : ℕ) {bs : List (List ℕ)} → Each AreBytes bs → AreBytes (records_from p bs)
records_bytes p none = none
records_bytes p (more {a = b} {l = bs} h k) = each_append (record_bytes_lem p h) (records_bytes (p + get_or (record_from p b) 7 0) k)

zeros_bytes : (n : ℕ) → AreBytes (zeros n)
zeros_bytes n = each_replicate n 0 (omega arith)

-- ---- a program that is read

abbrev Fitting : Program → Type 0
Fitting p = Each (λ (i : Instr). OpFits (op i)) p.code

assembled_fits : (f : List ℕ) (n : ℕ) (bs : List (List ℕ)) (s : ℕ) → Each AreBytes bs → AllSome Fitting (assembled_file f n bs s)
assembled_fits f n bs s h =
    let r = records_from 0 (take n bs) in
    with_all Fitting (CodeRange n 0) (decode_code n (records_in n bs) 0 (pool_in n bs))
    (λ c. let p : Program = record { code = c; code_start = s } in when (program_ok p && same_bytes (program_file p) f) p)
    (code_range n (records_in n bs) 0 (pool_in n bs) (each_append (records_bytes 0 (each_take n h)) (zeros_bytes (16384 - length r))) (omega arith))
    (λ c k. let p : Program = record { code = c; code_start = s } in when_all Fitting (program_ok p && same_bytes (program_file p) f) p (λ t. k.2))

-- an accepted program: within the limits, its numbers fit, and its buffer is read as it, whatever lies behind
pub record AcceptedFile (f : List ℕ) (p : Program) : Type 0 where
  pub within : program_ok p ≡ true
  pub numbers : Each (λ (i : Instr). OpFits (op i)) p.code
  pub written : program_file p ≡ f
  pub back : (rest : List ℕ) → decode_program (encode_program p ++ rest) ≡ some p

pub accepted_file : (f : List ℕ) (p : Program) → AreBytes f → read_program f ≡ some p → AcceptedFile f p
accepted_file f p h e =
    let w = file_is f p e in
    let k : Fitting p = subst (AllSome Fitting) (sym (read_assembled f) ∙ e) (assembled_fits f (instr_count f) (bodies_in f) (be_value (part f 4 2)) (cut_bytes (part f 6 (record_count f)) (each_drop (contents_length f) h))) in
    record { within = w.0; numbers = k; written = w.1; back = λ rest. program_behind p rest w.0 k }

-- ---- the length that the contents tell

-- contents with such counts and lengths, and bodies as long
told : (a b s : ℕ) (ls bs rest : List ℕ) → a < 65536 → b < 65536 → a + b ≡ length ls → length bs ≡ sum ls
    → file_length ((be_bytes 2 a ++ (be_bytes 2 b ++ (be_bytes 2 s ++ (ls ++ bs)))) ++ rest) ≡ 6 + (length ls + length bs)
unfolding file_length
told a b s ls bs rest ha hb e g =
    let f = (be_bytes 2 a ++ (be_bytes 2 b ++ (be_bytes 2 s ++ (ls ++ bs)))) ++ rest in
    let k : record_count f ≡ length ls = ap₂ (λ (x y : ℕ). x + y) (be_value_be_bytes 2 a ha) (be_value_be_bytes 2 b hb) ∙ e in
    let n : length f ≡ 6 + (length ls + length bs + length rest) = omega (arith, length-append (ls ++ bs) rest, length-append ls bs) in
    let l : part f 6 (length ls) ≡ ls = ap (take (length ls)) (append_assoc ls bs rest) ∙ take_at ls (bs ++ rest) (length ls) refl in
    ap (λ (x : ℕ). cond (leb 6 (length f) && leb (6 + x) (length f)) (6 + x + sum (part f 6 x)) 0) k
    ∙ ap₂ (λ (x y : Bool). cond (x && y) (6 + length ls + sum (part f 6 (length ls))) 0) (le-leb 6 (length f) (omega arith)) (le-leb (6 + length ls) (length f) (omega arith))
    ∙ ap (λ (x : List ℕ). 6 + length ls + sum x) l
    ∙ omega arith

pub told_length : (p : Program) (rest : List ℕ) → program_ok p ≡ true → file_length (program_file p ++ rest) ≡ length (program_file p)
unfolding program_file
told_length p rest e =
    let c = p.code in
    let k = limits p e in
    let ls = map length (record_bodies c) in
    let bs = concat (record_bodies c) in
    told (length c) (length (pool_items c)) p.code_start ls bs rest (omega (arith, k.count)) (omega (arith, k.pooled, items_counted c)) (sym (bodies_length c)) (concat_length (record_bodies c))
    ∙ omega (arith, length-append ls bs)
