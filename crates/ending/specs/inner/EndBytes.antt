-- The lines of Ending.antt (crate listing_text) by the bytes of a report and a state: docs/FORMATS.md, "Report of a run" and "State". Definitions only.
use Rattle.std.specs.Prelude.{ℕ, ◌-◌, ◌^◌, cond, List, [], ◌∷◌, ◌++◌, map, ltb, eqb, ℤ, pos, negsuc, get_or, take}
use Rattle.std.specs.Int.Count.{ones_in}
use Rattle.lent.specs.Bytes.{be_value, part}
use Rattle.stored.specs.StateBytes.{slots_at}
use Rattle.text.specs.Text.{ascii, decimal, words, line_of}
use Rattle.listing_text.specs.Ending.{signed, name_lines}

-- a signed number from its two's complement
abbrev pub signed_of : ℕ → ℤ
signed_of w = cond (ltb w (2 ^ 63)) (pos w) (negsuc (2 ^ 64 - 1 - w))

-- how many details a stop has, by its number: text or register; text, index, length
abbrev pub detail_count : ℕ → ℕ
detail_count n = cond (eqb n 31) 3 (cond (eqb n 20) 1 (cond (eqb n 26) 1 (cond (eqb n 28) 1 (cond (eqb n 29) 1 0))))

abbrev pub details_in : List ℕ → List ℕ
details_in b = take (detail_count (get_or b 1 0)) (be_value (part b 16 8) ∷ (be_value (part b 24 8) ∷ (be_value (part b 32 8) ∷ [])))

abbrev pub stop_in : List ℕ → ℕ → List ℕ
stop_in b k = line_of (ascii "end" ∷ (ascii "stopped" ∷ (decimal k ∷ (decimal (get_or b 1 0) ∷ (signed (signed_of (be_value (part b 8 8))) ∷ map decimal (details_in b))))))

-- the end line of a report, k steps after start
abbrev pub end_in : List ℕ → ℕ → List ℕ
end_in b k =
    cond (eqb (get_or b 0 0) 0) (line_of (ascii "end" ∷ words "done" (k ∷ [])))
    (cond (eqb (get_or b 0 0) 1) (stop_in b k)
    (line_of (ascii "end" ∷ words "spent" (k ∷ []))))

-- the count of names by the mark of a state
abbrev pub held_in : List ℕ → List ℕ
held_in b = line_of (words "held" (ones_in 64 (be_value (part b 47328 8)) ∷ []))

abbrev pub names_in : List ℕ → List ℕ
names_in b = name_lines 0 64 (slots_at b 24576 64)

-- all that is told of a run by its state and its report
unfoldable pub ran_in : List ℕ → List ℕ → List ℕ
ran_in state report = end_in report (be_value (part state 47336 8)) ++ (held_in state ++ names_in state)
