-- What a writer appends: a text in its buffer, as Put.antt says. Definitions only.
use Rattle.std.specs.Prelude.{ℕ, ◌≡◌, List}
use Rattle.text.specs.Put.{Put}
use Rattle.text.specs.declared.Writer.{Writer}

-- the text follows what was written before
pub record Appended (before : Writer) (text : List ℕ) (after : Writer) : Type 0 where
  pub same_buffer : after.out.ghost_name ≡ before.out.ghost_name
  pub put : Put before.out.now before.at text after.out.now after.at
