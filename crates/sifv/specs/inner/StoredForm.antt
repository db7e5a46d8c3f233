-- A value without contents as its kind and its number. Definitions only.
use Rattle.sifv.specs.inner.Seen.{kind_in, word_in}
use Rattle.sifv.specs.declared.SifVal.{SifVal}
use Rattle.sifv.specs.declared.Stored.{Stored}

abbrev pub stored_of : SifVal → Stored
stored_of v = record { kind = kind_in v; word = word_in v }
