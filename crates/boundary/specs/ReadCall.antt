-- The call read_name(state, text, out) on bytes: what it answers and what `out` holds afterwards, a refused call too. Document 01, "Reading a name checks 9, 8
-- (text over 63), 10; an unset name is answered as unset"; layouts: docs/FORMATS.md. The right side of the public contract. Definitions only.
use Rattle.std.specs.Prelude.{ℕ, List, [], ◌∷◌}
use Rattle.lent.specs.Answered.{over, Answered, answered, size_check, guarded}
use Rattle.sifv.specs.Slot.{encode_slot}
use Rattle.vm.specs.Machine.{State}
use Rattle.stored.specs.StateBytes.{state_size, decode_state}
use Rattle.boundary.specs.Checks.{text_check, alone_check}

abbrev pub read_checks : List ℕ → ℕ → List ℕ → List ℕ
read_checks state text out = size_check state_size state ∷ (size_check 256 out ∷ (text_check text ∷ (alone_check state ∷ [])))

-- an unset name is a slot of zeros
abbrev pub read_deed : State → ℕ → List ℕ → Answered
read_deed s text out = answered 0 (over (encode_slot (s.machine.names text)) out)

unfoldable pub read_call : List ℕ → ℕ → List ℕ → Answered
read_call state text out = guarded (read_checks state text out) (λ n. answered n out) (read_deed (decode_state state) text out)
