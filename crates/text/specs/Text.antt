-- Words, numbers and values as bytes of text: document 01, "The listing program". Definitions only.
use Rattle.std.specs.Prelude.{ℕ, zero, suc, ◌+◌, ◌/◌, ◌%◌, ◌^◌, cond, List, [], ◌∷◌, ◌++◌, map, ltb}
use Prim.Native.String.{String, len, char_at}
use Prim.Native.Char.{code}
use Rattle.std.specs.Float.{binary64}
use Rattle.std.specs.Float.Ieee.{to_bits}
use Rattle.sifv.specs.Value.{Single, Num, Str, Bl, Null, Entry, entry, Value, One, Arr, Tab}

-- the bytes of an ASCII text from place i on, n of them
abbrev pub ascii_from : String → ℕ → ℕ → List ℕ
ascii_from s i zero = []
ascii_from s i (suc n) = code (char_at s i) ∷ ascii_from s (suc i) n

abbrev pub ascii : String → List ℕ
ascii s = ascii_from s 0 (len s)

-- a number in decimal, of at most k digits
abbrev pub digits : ℕ → ℕ → List ℕ
digits zero n = []
digits (suc k) n = cond (ltb n 10) ((48 + n) ∷ []) (digits k (n / 10) ++ ((48 + n % 10) ∷ []))

-- the listing's numbers are below 10^20
abbrev pub decimal : ℕ → List ℕ
decimal n = digits 20 n

abbrev pub hex_digit : ℕ → ℕ
hex_digit d = cond (ltb d 10) (48 + d) (87 + d)

-- k hex digits
abbrev pub hex : ℕ → ℕ → List ℕ
hex zero n = []
hex (suc k) n = hex_digit (n / 16 ^ k % 16) ∷ hex k n

-- `Num:` and 16 hex digits, every NaN as 7ff8000000000000; `Str:` and text number; `Bl:0` or `Bl:1`; `Null`
abbrev pub single_text : Single → List ℕ
single_text (Num x) = ascii "Num:" ++ hex 16 (to_bits binary64 x)
single_text (Str t) = ascii "Str:" ++ decimal t
single_text (Bl b) = ascii "Bl:" ++ decimal (cond b 1 0)
single_text Null = ascii "Null"

-- "in a table the key's number and `=` first"
abbrev pub entry_text : Entry → List ℕ
entry_text (entry k s) = decimal k ++ (ascii "=" ++ single_text s)

-- texts with a separator between
abbrev pub joined : List ℕ → List (List ℕ) → List ℕ
joined s [] = []
joined s (a ∷ []) = a
joined s (a ∷ (b ∷ l)) = a ++ (s ++ joined s (b ∷ l))

-- what stands before text number i of them: the separator, but before the first nothing
abbrev pub separator : List ℕ → ℕ → List ℕ
separator s zero = []
separator s (suc i) = s

-- "`Arr:` or `Tab:` and the items in brackets, commas between"
abbrev pub value_text : Value → List ℕ
value_text (One s) = single_text s
value_text (Arr l) = ascii "Arr:[" ++ (joined (ascii ",") (map single_text l) ++ ascii "]")
value_text (Tab t) = ascii "Tab:[" ++ (joined (ascii ",") (map entry_text t) ++ ascii "]")

-- a word and numbers
abbrev pub words : String → List ℕ → List (List ℕ)
words s ns = ascii s ∷ map decimal ns

-- numbers as a line's further fields
abbrev pub number_fields : List ℕ → List ℕ
number_fields [] = []
number_fields (n ∷ ns) = ascii " " ++ (decimal n ++ number_fields ns)

-- a line: fields with one blank between, and the line's end
abbrev pub line_of : List (List ℕ) → List ℕ
line_of fs = joined (ascii " ") fs ++ ascii "\n"
