use Rattle.std.proofs.Common.{◌≡◌, length}
use Rattle.call_list.proofs.Carrying.{Going}
use Rattle.call_list.proofs.call_all.Given as goal

abbrev pub invariant-loop-i : goal.invariant-loop-i
invariant-loop-i l = (length l.state ≡ length l.initial.state) × Going l.program l.calls l.initial.state l.i-end l.i l.state l.last
