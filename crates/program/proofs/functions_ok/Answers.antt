use mathlib.Core.Path.{ap, ◌∙◌}
use lib.ListN.{get_or-replicate}
use Rattle.program.specs.inner.Marked.{is_fn, name_of, marked, function_entry}
use Prim.Native.Nat.{ℕ, ◌<◌}
use native.Mathlib.Omega.{arith}
use Rattle.program.proofs.Stored.{table_made, made_least}
use Rattle.program.proofs.functions_ok.Goals as goal

pub same_table-requires : goal.same_table-requires
same_table-requires c =
    let b = c.args.program.now in
    let f = c.fill_functions in (
      omega (arith, f.ensures.0),
      λ x h.
          let k : x < 64 = omega (arith, f.ensures.0) in
          made_least (is_fn b) (name_of b) x c.args.n (f.ensures.1 x k) (omega (arith, get_or-replicate {A = ℕ} 64 x 1 0 k)),
    )

pub returns : goal.returns
returns c =
    let a = c.args in
    let b = a.program.now in
    let f = c.fill_functions in
    table_made b 34816 64 f.new.t (function_entry b a.n) c.same_table.ensures f.ensures.0
    (λ x h. f.ensures.1 x h ∙ ap (marked (is_fn b) (name_of b) x a.n 0) (get_or-replicate 64 x 1 0 h))
