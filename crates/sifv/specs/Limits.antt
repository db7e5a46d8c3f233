-- Values that fit their formats: a number is a binary64. What may be stored is so too (Slot: `value_ok`). Definitions only.
use Rattle.std.specs.Prelude.{true, T}
use Rattle.std.specs.Float.{binary64}
use Rattle.std.specs.Float.Ieee.{fits}
use Rattle.sifv.specs.Value.{Single, Num, Str, Bl, Null, Entry, Value, One, Arr, Tab}
use Rattle.std.proofs.Math.Option.{Option, none, some}
use Rattle.lent.specs.Bytes.{none, Each}
use Rattle.sifv.specs.Slot.{value}

abbrev pub SingleFits : Single → Type 0
SingleFits (Num x) = T (fits binary64 x)
SingleFits (Str t) = T true
SingleFits (Bl b) = T true
SingleFits Null = T true

abbrev pub ValueFits : Option Value → Type 0
ValueFits none = T true
ValueFits (some (One s)) = SingleFits s
ValueFits (some (Arr l)) = Each SingleFits l
ValueFits (some (Tab t)) = Each (λ (e : Entry). SingleFits (value e)) t
