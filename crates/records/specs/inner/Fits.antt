-- What the program check tests, record by record and entry by entry. Needed by the proof of the check only (Lanes has the form that the code has): the contract of the check
-- cites `decode_program`. Definitions only.
use Rattle.std.specs.Prelude.{ℕ, zero, suc, ◌+◌, ◌*◌, ◌/◌, ◌%◌, Bool, true, cond, not, ◌&&◌, ◌||◌, List, [], ◌∷◌, ◌==◌, nat_le, slice_index}
use Rattle.lent.specs.Bytes.{be_value, part}
use Rattle.opc.specs.Record.{Fields, lbl_ok}
use Rattle.opc.specs.inner.Fetch.{pick_or, record_at}

-- whether t holds of i, i + 1, .., m of them
abbrev pub all_from : ℕ → ℕ → (ℕ → Bool) → Bool
all_from zero i t = true
all_from (suc m) i t = t i && all_from m (suc i) t

-- ---- a record by itself

-- What an operation allows, in one number: a byte each, from the lowest, for the largest operand a, b, c, the least and the largest kind; then 3 bytes for
-- the largest number (ffffff: any).
abbrev pub limit_table : List ℕ
limit_table =
    0xffffff0e015f5f5f ∷ 0xffffff0201ff5f5f ∷ 0xffffff0601ffff5f ∷ 0xffffffff00ff3f5f ∷ 0xffffffff00ff5f5f ∷ 0xffffffff00ff5f3f
    ∷ 0xffffffff005f5f3f ∷ 0xffffffff005f5f3f ∷ 0xffffff0601ffff3f ∷ 0xffffffff00ff3f3f ∷ 0xffffffff00ff3f5f ∷ 0x0003ff0201ffff5f
    ∷ 0x0003ffff00ffffff ∷ 0xffffffff00ffff5f ∷ 0xffffffff00ffff5f ∷ 0xffffffff00ffff3f ∷ 0x0000ffff00ffff3f ∷ 0xffffffff00ffffff
    ∷ 0xffffffff00ffff5f ∷ 0xffffffff00ffff5f ∷ 0xffffffff005f3f3f ∷ 0xffffffff005f3f3f ∷ 0xffffffff00ffffff ∷ 0xffffffff00ffffff
    ∷ []

-- another operation allows no kind
abbrev pub no_kind : ℕ
no_kind = 0xffffff0001ffffff

abbrev pub limits_of : ℕ → ℕ
limits_of o = pick_or no_kind limit_table o

abbrev pub operands_fit : ℕ → ℕ → ℕ → ℕ → Bool
operands_fit a b c m = nat_le a (m % 256) && (nat_le b (m / 256 % 256) && nat_le c (m / 65536 % 256))

abbrev pub kind_fits : ℕ → ℕ → Bool
kind_fits k m = nat_le (m / 16777216 % 256) k && nat_le k (m / 4294967296 % 256)

abbrev pub word_fits : ℕ → ℕ → Bool
word_fits w most = most == 16777215 || nat_le w most

-- the largest number of a single value's kind
abbrev pub single_most : ℕ → ℕ
single_most k = cond (k == 2) 63 (cond (k == 3) 1 18446744073709551615)

abbrev pub is_literal : ℕ → Bool
is_literal o = o == 3 || o == 9

-- a literal's text or yes/no; an empty table's length
abbrev pub literal_fits : ℕ → ℕ → ℕ → ℕ → Bool
literal_fits o k n w = not (is_literal o) || (nat_le w (single_most k) && (not (k == 6) || n == 0))

-- as a record of operation o
abbrev pub fits_as : ℕ → Fields → Bool
fits_as o f =
    (operands_fit f.a f.b f.c (limits_of o) && kind_fits f.kind (limits_of o))
    && (word_fits f.word (limits_of o / 1099511627776) && literal_fits o f.kind f.len f.word)

abbrev pub record_fits : Fields → Bool
record_fits f = lbl_ok f.lbl && fits_as f.code f

abbrev pub record_ok : List ℕ → ℕ → Bool
record_ok b i = record_fits (record_at b i)

-- ---- the pool

-- the entry k of the pool has a kind from lo to hi, and a number of that kind
abbrev pub entry_fits : ℕ → ℕ → List ℕ → Bool
entry_fits lo hi e = nat_le lo (slice_index e 0) && (nat_le (slice_index e 0) hi && nat_le (be_value (part e 8 8)) (single_most (slice_index e 0)))

abbrev pub entry_ok : ℕ → ℕ → List ℕ → ℕ → Bool
entry_ok lo hi b k = entry_fits lo hi (part b (16384 + 16 * k) 16)

-- at most `most` entries, which begin at p and end within the pool
abbrev pub span_fits : ℕ → ℕ → ℕ → ℕ → Bool
span_fits most n w p = nat_le n most && (w == p && nat_le (p + n) 1024)

abbrev pub entries_fit : ℕ → ℕ → ℕ → Fields → ℕ → List ℕ → Bool
entries_fit most lo hi f p b = span_fits most f.len f.word p && all_from f.len p (entry_ok lo hi b)

abbrev pub is_array : ℕ → ℕ → Bool
is_array o k = is_literal o && k == 5

-- the entries of an array's items, and of a function's parameters
abbrev pub pooled_as : ℕ → Fields → ℕ → List ℕ → Bool
pooled_as o f p b = cond (is_array o f.kind) (entries_fit 24 1 4 f p b) (cond (o == 16) (entries_fit 255 2 2 f p b) true)

abbrev pub taken_as : ℕ → Fields → ℕ
taken_as o f = cond (is_array o f.kind) f.len (cond (o == 16) f.len 0)

abbrev pub pooled : Fields → ℕ → List ℕ → Bool
pooled f p b = pooled_as f.code f p b

abbrev pub taken : Fields → ℕ
taken f = taken_as f.code f

-- the entries of m records from i on, where those before them end at p
abbrev pub pool_fits : ℕ → ℕ → ℕ → List ℕ → Bool
pool_fits zero i p b = true
pool_fits (suc m) i p b = pooled (record_at b i) p b && pool_fits m (suc i) (p + taken (record_at b i)) b
