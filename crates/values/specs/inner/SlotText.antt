-- The text of what a slot holds: document 01, "The listing program". Definitions only.
use Rattle.std.specs.Prelude.{ℕ, List, []}
use Rattle.std.proofs.Math.Option.{Option, none, some}
use Rattle.sifv.specs.Value.{Value}
use Rattle.text.specs.Text.{value_text}

-- a value; an empty slot has no text
abbrev pub slot_text : Option Value → List ℕ
slot_text none = []
slot_text (some v) = value_text v
