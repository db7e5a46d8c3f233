-- `ast::bodies::first_fault` meets its contract: the first fault of all nodes is that of the nodes that are left.
use Rattle.ast.specs.inner.Room.{Room}
use Rattle.ast.specs.inner.Answer.{fault_or}
use Rattle.ast.specs.File.{nodes_from}
use lib.ListN.{length, drop}
use Prim.Native.Nat.{◌≤◌}
use mathlib.Core.Path.{◌≡◌}
use Rattle.ast.proofs.bodies.first_fault.Given as goal

abbrev pub invariant-loop-i : goal.invariant-loop-i
invariant-loop-i l =
    (l.at ≤ length l.bodies) × Room (drop l.i l.entries) (drop l.at l.bodies)
    × (fault_or l.texts (nodes_from l.entries l.bodies) 0 ≡ fault_or l.texts (nodes_from (drop l.i l.entries) (drop l.at l.bodies)) 0)
