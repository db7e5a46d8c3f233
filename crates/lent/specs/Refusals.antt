-- The refusals: document 01, "Numbers given for the input" and "Numbers given for the state"; 37 and 39 are document 02's. Definitions only.
use Rattle.std.specs.Prelude.{ℕ}

-- "under 3 bytes, contents cut off, or bodies not ending exactly at the file's end"
abbrev pub file_cut : ℕ
file_cut = 1

-- "node count outside 1 to 1,024 or text count outside 1 to 64"
abbrev pub file_counts : ℕ
file_counts = 2

-- "a text over 40 bytes, with a byte outside 32 to 126, out of order, text 0 not `fortmp`, or a later text equal to it"
abbrev pub file_texts : ℕ
file_texts = 3

-- "unknown kind, a node where it may not stand, wrong child count, child counts that do not use up the nodes exactly, depth over 32 (Program is 1), more than
-- 8 loops nested, over 24 array or 16 table items, a key twice in one table, a function inside a function"
abbrev pub file_structure : ℕ
file_structure = 4

-- "a text number not below the text count, or an unknown operator"
abbrev pub file_numbers : ℕ
file_numbers = 5

-- "`binarg` or `arraymutexpr` would take the register before register 0"
abbrev pub no_register : ℕ
no_register = 6

-- "more than 96 registers or 1,024 instructions"
abbrev pub script_too_large : ℕ
script_too_large = 7

-- a program that is not accepted, or, where a name is read, a text number over 63
abbrev pub program_refused : ℕ
program_refused = 8

-- "a lent buffer too short"
abbrev pub buffer_too_short : ℕ
buffer_too_short = 9

-- "state bytes with a field outside its range …, or a count that with the given steps would pass 2^64 − 1"
abbrev pub state_refused : ℕ
state_refused = 10

-- document 02, M-101: "any file that the writer writes for no accepted program, also where a record in it would be 8"
abbrev pub program_file_refused : ℕ
program_file_refused = 37

-- document 02, M-104: "A Num body that is NaN or infinite"
abbrev pub number_not_finite : ℕ
number_not_finite = 39
