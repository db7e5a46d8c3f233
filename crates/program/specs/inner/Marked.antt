-- What the program check tests of the tables, as the code fills them. Written as the code is, and needed by its proof only: the contract of the check cites
-- `decode_program`. Definitions only.
use Rattle.std.specs.Prelude.{ℕ, zero, suc, ◌+◌, ◌*◌, ◌-◌, Bool, cond, not, ◌&&◌, List, ltb, eqb}
use Rattle.lent.specs.Bytes.{be_value, part}
use Rattle.records.specs.inner.Fits.{all_from}
use Rattle.opc.specs.inner.Fetch.{record_at}

-- the table's entry l after m records from i on, where record j with w j is entered at k j; an index is kept with 2 added, 1 is none
abbrev pub marked : (ℕ → Bool) → (ℕ → ℕ) → ℕ → ℕ → ℕ → ℕ → ℕ
marked w k l zero i x = x
marked w k l (suc m) i x = marked w k l m (suc i) (cond (w i && eqb (k i) l) (i + 2) x)

abbrev pub lbl_of : List ℕ → ℕ → ℕ
lbl_of b i = (record_at b i).lbl

-- the label of record i is in a short table
abbrev pub few_label : List ℕ → ℕ → Bool
few_label b i = ltb (lbl_of b i) 128

-- record i has another label than the one before it
abbrev pub enters : List ℕ → ℕ → Bool
enters b i = not (eqb (lbl_of b i) (lbl_of b (i - 1)))

abbrev pub label_entry : List ℕ → ℕ → ℕ → ℕ
label_entry b n l = marked (enters b) (lbl_of b) l n 0 (cond (ltb 0 n && eqb 0 l) 2 1)

abbrev pub name_of : List ℕ → ℕ → ℕ
name_of b i = (record_at b i).a

-- record i declares a function
abbrev pub is_fn : List ℕ → ℕ → Bool
is_fn b i = eqb (record_at b i).code 16

abbrev pub function_entry : List ℕ → ℕ → ℕ → ℕ
function_entry b n x = marked (is_fn b) (name_of b) x n 0 1

-- the n entries of two bytes from at on are g 0, g 1, .., each less 1
unfoldable pub same_table : List ℕ → ℕ → ℕ → (ℕ → ℕ) → Bool
same_table b at n g = all_from n 0 (λ l. eqb (be_value (part b (at + 2 * l) 2) + 1) (g l))
