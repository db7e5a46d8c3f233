-- What is read of the state's bytes: position, depths and count, the mark by the names' kind bytes, the tests of the check.
-- Definitions only.
use Rattle.std.specs.Prelude.{ℕ, zero, suc, ◌+◌, ◌*◌, ◌^◌, Bool, true, false, cond, not, ◌&&◌, List, leb, ltb, eqb, get_or}
use Rattle.lent.specs.Bytes.{be_value, part, same_bytes}
use Rattle.sifv.specs.Slot.{slot_ok}
use Rattle.execute.specs.declared.Loc.{Loc}
use Rattle.execute.specs.declared.Progress.{Progress}
use Rattle.lent.specs.Lists.{zeros, upto}

abbrev pub loc_at : List ℕ → Loc
loc_at b = record { pos = be_value (part b 47344 2); depth = get_or b 47346 0; calls = get_or b 47347 0 }

abbrev pub progress_at : List ℕ → Progress
progress_at b = record { loc = loc_at b; count = be_value (part b 47336 8) }

-- 1 where a kind byte says that a value is held
abbrev pub kind_bit : ℕ → ℕ
kind_bit k = cond (eqb k 0) 0 1

-- the mark of n names from x on
abbrev pub mark_at : List ℕ → ℕ → ℕ → ℕ
mark_at b x zero = 0
mark_at b x (suc n) = kind_bit (get_or b (24576 + x * 256) 0) * 2 ^ x + mark_at b (suc x) n

unfoldable pub mark_of : List ℕ → ℕ
mark_of b = mark_at b 0 64

-- ---- the tests of the check, field by field

-- a slot of the value stack by its kind: something below the depth, nothing above it
abbrev pub place_ok : Bool → ℕ → Bool
place_ok true k = not (eqb k 0)
place_ok false k = eqb k 0

-- a frame's position: below n under the depth, 0 above it
abbrev pub frame_ok : Bool → ℕ → ℕ → Bool
frame_ok true p n = ltb p n
frame_ok false p n = eqb p 0

abbrev pub slot_test : List ℕ → ℕ → Bool
slot_test b i = slot_ok (part b (i * 256) 256)

abbrev pub stack_test : List ℕ → ℕ → ℕ → Bool
stack_test b d i = place_ok (ltb i d) (get_or b (40960 + i * 256) 0)

abbrev pub frame_test : List ℕ → ℕ → ℕ → ℕ → Bool
frame_test b c n i = frame_ok (ltb i c) (be_value (part b (47104 + i * 4) 2)) n && eqb (be_value (part b (47104 + i * 4 + 2) 2)) 0

abbrev pub fn_test : List ℕ → ℕ → ℕ → Bool
fn_test b n x = leb (be_value (part b (47200 + x * 2) 2)) n

unfoldable pub slots_ok : List ℕ → Bool
slots_ok b = upto 184 (slot_test b)

unfoldable pub stack_ok : List ℕ → ℕ → Bool
stack_ok b d = upto 24 (stack_test b d)

unfoldable pub frames_ok : List ℕ → ℕ → ℕ → Bool
frames_ok b c n = upto 24 (frame_test b c n)

unfoldable pub fns_ok : List ℕ → ℕ → Bool
fns_ok b n = upto 64 (fn_test b n)

abbrev pub small_ok : ℕ → List ℕ → Bool
small_ok n b = leb (get_or b 47346 0) 24 && (leb (get_or b 47347 0) 24 && (leb (be_value (part b 47344 2)) n && same_bytes (part b 47348 12) (zeros 12)))

abbrev pub state_fields_ok : ℕ → List ℕ → Bool
state_fields_ok n b = small_ok n b && ((stack_ok b (get_or b 47346 0) && frames_ok b (get_or b 47347 0) n) && ((fns_ok b n && eqb (mark_of b) (be_value (part b 47328 8))) && slots_ok b))
