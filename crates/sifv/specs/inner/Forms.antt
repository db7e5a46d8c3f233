-- What the functions on tables in slots ask and ensure. Definitions only.
use Rattle.std.specs.Prelude.{List, [], ◌∷◌, ◌++◌, ℕ, suc, ◌+◌, ◌*◌, ◌-◌, ◌≡◌, cond, Bool, false, leb, eqb}
use Rattle.sifv.specs.Slot.{encode_slot, decode_slot}
use Rattle.sifv.specs.declared.SifVal.{SifVal}
use Rattle.sifv.specs.declared.SifVal.TheVariants.{Empty, Num, Str, Bl, Null, Arr, Tab}
use Rattle.sifv.specs.Value.{Entry, entry}
use Rattle.lent.specs.Bytes.{part, splice}

abbrev pub joined_parts : List (List ℕ) → List ℕ → List ℕ
joined_parts [] z = z
joined_parts (a ∷ l) z = a ++ joined_parts l z

-- the bytes of a slot are the one form of what they show
abbrev pub Formed : List ℕ → Type 0
Formed b = encode_slot (decode_slot b) ≡ b

-- the length that a value shows
abbrev pub len_in : SifVal → ℕ
len_in Empty = 0
len_in (Num x) = 0
len_in (Str t) = 0
len_in (Bl b) = 0
len_in Null = 0
len_in (Arr n) = n
len_in (Tab n) = n

-- the first place whose key is k or more
abbrev pub place : List Entry → ℕ → ℕ
place [] k = 0
place (entry j w ∷ t) k = cond (leb k j) 0 (suc (place t k))

-- whether the key there is k
abbrev pub key_there : List Entry → ℕ → Bool
key_there [] k = false
key_there (entry j w ∷ t) k = cond (leb k j) (eqb k j) (key_there t k)

abbrev pub opening : List ℕ → ℕ → ℕ → ℕ → List ℕ
opening a o w m = splice a (o + w) (part a o m)

-- a slot whose entries from j on, of n, are moved up by one
abbrev pub opened : List ℕ → ℕ → ℕ → List ℕ
opened b j n =
    joined_parts (part b 0 16 ∷ opening (part b 16 24) j 1 (n - j) ∷ opening (part b 40 192) (j * 8) 8 ((n - j) * 8) ∷ opening (part b 232 16) j 1 (n - j) ∷ []) (part b 248 8)
