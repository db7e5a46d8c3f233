-- A lowered program as a file: document 02, M-101. "Contents first (instruction count, item count, code start, a length per record), then the bodies. Fields are
-- those of document 01's program." A record is an instruction or an item. Its body has those bytes of the program buffer's record that carry something, in
-- their order; the first pool entry of an array or a function is not among them, since it follows from the lengths before. Layout: docs/FORMATS.md, "Program
-- file". Definitions only.
use Rattle.std.specs.Prelude.{ℕ, zero, suc, ◌+◌, ◌/◌, ◌%◌, ◌^◌, Bool, true, false, cond, ◌&&◌, ◌||◌, List, [], ◌∷◌, ◌++◌, map, eqb, leb, length, get_or, take, drop}
use Rattle.std.proofs.Math.Option.{Option}
use Rattle.lent.specs.Bytes.{be_value, be_bytes, part, same_bytes, cut, concat}
use Rattle.lent.specs.Lists.{pad, sum, when, with}
use Rattle.sifv.specs.Value.{Single}
use Rattle.opc.specs.Op.{op, Code}
use Rattle.opc.specs.Record.{items_of, item_bytes, encode_instr}
use Rattle.tables.specs.Tables.{Program}
use Rattle.tables.specs.ProgramBytes.{decode_code}
use Rattle.tables.specs.Limits.{program_ok}

-- ---- which bytes of a record carry something: a bit each, the first byte's the highest

-- a literal by its kind: 1 Num has 8 bytes, 2 Str and 3 Bl have 1, 4 Null has none; 5 Arr has its length; 6 Tab has nothing
abbrev pub literal_mask : List ℕ
literal_mask = 0xf8ff ∷ 0xf801 ∷ 0xf801 ∷ 0xf800 ∷ 0xf900 ∷ 0xf800 ∷ []

-- the operations 1 to 24; 3 Ldc and 9 Stc have a literal
abbrev pub operation_mask : List ℕ
operation_mask =
    0xfe00 ∷ 0xfc00 ∷ 0 ∷ 0xbc00 ∷ 0xbc00 ∷ 0xbc00 ∷ 0xbe00 ∷ 0xbe00 ∷ 0 ∷ 0xbc00 ∷ 0xbc00 ∷ 0xf803
    ∷ 0xb003 ∷ 0xb800 ∷ 0xb800 ∷ 0xb900 ∷ 0xb801 ∷ 0xb000 ∷ 0xb800 ∷ 0xb800 ∷ 0xbe00 ∷ 0xbe00 ∷ 0xb000 ∷ 0xb000 ∷ []

-- entry n of a table, counted from 1; 0 where it has none
abbrev pub mask_at : List ℕ → ℕ → ℕ
mask_at t zero = 0
mask_at t (suc n) = get_or t n 0

-- of a record with this operation and this kind
abbrev pub record_mask : ℕ → ℕ → ℕ
record_mask o k = cond (eqb o 3 || eqb o 9) (mask_at literal_mask k) (mask_at operation_mask o)

-- of an entry of the pool with this kind
abbrev pub item_mask : ℕ → ℕ
item_mask k = mask_at (0x80ff ∷ 0x8001 ∷ 0x8001 ∷ 0x8000 ∷ []) k

-- the low n bits of w, the highest first
abbrev pub marks : ℕ → ℕ → List Bool
marks zero w = []
marks (suc n) w = eqb (w / 2 ^ n % 2) 1 ∷ marks n w

-- the marked bytes
abbrev pub keep : List Bool → List ℕ → List ℕ
keep [] r = []
keep (true ∷ ms) r = get_or r 0 0 ∷ keep ms (drop 1 r)
keep (false ∷ ms) r = keep ms (drop 1 r)

-- bytes at the marked places, zeros at the others
abbrev pub spread : List Bool → List ℕ → List ℕ
spread [] b = []
spread (true ∷ ms) b = get_or b 0 0 ∷ spread ms (drop 1 b)
spread (false ∷ ms) b = 0 ∷ spread ms b

-- ---- the file of a program

-- a record's body, and an entry's
abbrev pub record_body : List ℕ → List ℕ
record_body r = keep (marks 16 (record_mask (get_or r 0 0) (get_or r 1 0))) r

abbrev pub item_body : List ℕ → List ℕ
item_body e = keep (marks 16 (item_mask (get_or e 0 0))) e

-- the array items and parameters of all instructions, in order
abbrev pub pool_items : Code → List Single
pool_items [] = []
pool_items (i ∷ c) = items_of (op i) ++ pool_items c

-- the instructions' bodies, then the items'
abbrev pub record_bodies : Code → List (List ℕ)
record_bodies c = map (λ i. record_body (encode_instr i 0)) c ++ map (λ s. item_body (item_bytes s)) (pool_items c)

unfoldable pub program_file : Program → List ℕ
program_file p =
    be_bytes 2 (length p.code) ++ (be_bytes 2 (length (pool_items p.code)) ++ (be_bytes 2 p.code_start ++
    (map length (record_bodies p.code) ++ concat (record_bodies p.code))))

-- "the longest file there can be": 1,024 instructions, 43 of them arrays with 1,024 numbers together, the others constants that are numbers. No accepted
-- program has a longer one, and one has it: laws/LengthLaws
abbrev pub longest_file : ℕ
longest_file = 24281

-- ---- what a file's contents tell: how many records, where the bodies begin, and the bodies by their lengths

abbrev pub instr_count : List ℕ → ℕ
instr_count f = be_value (part f 0 2)

abbrev pub record_count : List ℕ → ℕ
record_count f = instr_count f + be_value (part f 2 2)

abbrev pub contents_length : List ℕ → ℕ
contents_length f = 6 + record_count f

abbrev pub body_lengths : List ℕ → List ℕ
body_lengths f = part f 6 (record_count f)

abbrev pub bodies_in : List ℕ → List (List ℕ)
bodies_in f = cut (body_lengths f) (drop (contents_length f) f)

-- the length of the file with these contents, whatever lies behind; 0 where the contents are cut off
unfoldable pub file_length : List ℕ → ℕ
file_length f = cond (leb 6 (length f) && leb (contents_length f) (length f)) (contents_length f + sum (body_lengths f)) 0

-- ---- the program of a file

-- a body's record; where a record has a length (bit 8), its items begin at entry p of the pool
abbrev pub record_from : ℕ → List ℕ → List ℕ
record_from p b =
    let m = record_mask (get_or b 0 0) (get_or b 1 0) in
    let r = spread (marks 16 m) b in
    take 8 r ++ cond (eqb (m / 2 ^ 8 % 2) 1) (be_bytes 8 p) (drop 8 r)

-- one after the other: a record has as many entries as its byte 7 says
abbrev pub records_from : ℕ → List (List ℕ) → List ℕ
records_from p [] = []
records_from p (b ∷ bs) = let r = record_from p b in r ++ records_from (p + get_or r 7 0) bs

abbrev pub item_from : List ℕ → List ℕ
item_from b = spread (marks 16 (item_mask (get_or b 0 0))) b

-- the records and the pool that the bodies of n instructions and their items fill in a program buffer
abbrev pub records_in : ℕ → List (List ℕ) → List ℕ
records_in n bs = pad 16384 (records_from 0 (take n bs))

abbrev pub pool_in : ℕ → List (List ℕ) → List ℕ
pool_in n bs = pad 16384 (concat (map item_from (drop n bs)))

-- The accepted program whose file this is, or none: 37. Whatever the bodies are read as, the file has to be the very one of that program.
unfoldable pub read_program : List ℕ → Option Program
read_program f =
    let n = instr_count f in
    let bs = bodies_in f in
    with (decode_code n (records_in n bs) 0 (pool_in n bs))
    (λ c. let p : Program = record { code = c; code_start = be_value (part f 4 2) } in when (program_ok p && same_bytes (program_file p) f) p)
