use mathlib.Core.Path.{ap}
use mathlib.Core.Bool.{not}
use mathlib.Core.Path.{◌≡◌, sym, ◌∙◌}
use mathlib.Core.Bool.{true}
use native.Mathlib.Omega.{arith}
use borrow.Author.Tests.{not-true, not-false}
use Rattle.lent.specs.laws.Each.{bytes_of}
use Rattle.ast.specs.File.{read_tree}
use Rattle.ast.specs.inner.Under.{plain_of}
use Rattle.bound.specs.laws.Whole.{not_plain_lem}
use Rattle.bound.proofs.Steps.{file_long, entries_end, entries_few, file_counted}
use Rattle.bound.proofs.bound.Goals as goal
use Rattle.bound.proofs.bound.Goals.{Else-not-plain}

-- the rest is done only for a plain file
is_plain : (k : Else-not-plain) → plain_of (read_tree k.args.file.now) ≡ true
is_plain k = sym k.plain.ensures ∙ not-false k.plain.result (ap not k.if-not-plain.false)

pub returns-then-not-plain : goal.returns-then-not-plain
returns-then-not-plain c = not_plain_lem (read_tree c.args.file.now) (sym c.plain.ensures ∙ not-true c.plain.result (ap not c.if-not-plain.true))

pub bounds-file-2 : goal.bounds-file-2
bounds-file-2 c = file_long _ (is_plain (goal.at.bounds-file-2 c).Else-not-plain)

pub overflow_cast-first : goal.overflow_cast-first
overflow_cast-first c = omega (arith, c.type_inv.file 2)

pub overflow_add-first : goal.overflow_add-first
overflow_add-first c = omega (arith, c.type_inv.file 2)

pub get_u16-requires : goal.get_u16-requires
get_u16-requires c = omega (arith, file_long _ (is_plain (goal.at.get_u16-requires c).Else-not-plain))

pub overflow_add-size : goal.overflow_add-size
overflow_add-size c = omega (arith, c.type_inv.file 2)

pub slice_bounds-of_entries-end : goal.slice_bounds-of_entries-end
slice_bounds-of_entries-end c = entries_end _ (is_plain (goal.at.slice_bounds-of_entries-end c).Else-not-plain) _ c.get_u16.ensures.0

pub of_entries-requires : goal.of_entries-requires
of_entries-requires c = entries_few _ (is_plain (goal.at.of_entries-requires c).Else-not-plain) _ c.get_u16.ensures.0

pub returns : goal.returns
returns c =
    let f = c.args.file.now in
    file_counted f (is_plain (goal.at.returns c).Else-not-plain) _ c.get_u16.ensures.0 (bytes_of f (λ i. omega (arith, c.type_inv.file i))) c.of_entries.ensures
