use Rattle.std.proofs.Common.{◌≡◌, ◌+◌, ◌-◌, ◌*◌, false}
use Rattle.ast.specs.inner.Pass as places
use Rattle.ast.specs.inner.Pass.{times, keyed_times, pass_over, Fits, nodes_of}
use Rattle.ast.proofs.structure.+subtree.Given as goal

abbrev pub decreases-items : goal.decreases-items
decreases-items l = l.depth * 4 + 2

abbrev pub invariant-items-loop : goal.invariant-items-loop
invariant-items-loop l =
    Fits l.rest
    × (keyed_times (λ ms. pass_over l.depth places.item_bits 0 false ms) 0 l.n (nodes_of l.initial.rest) ≡ keyed_times (λ ms. pass_over l.depth places.item_bits 0 false ms) l.keys (l.n - l.counter) (nodes_of l.rest))

abbrev pub decreases-kids : goal.decreases-kids
decreases-kids l = l.depth * 4 + 3

abbrev pub decreases-node : goal.decreases-node
decreases-node l = l.depth * 4

abbrev pub decreases-run : goal.decreases-run
decreases-run l = l.depth * 4 + 2

abbrev pub invariant-run-loop : goal.invariant-run-loop
invariant-run-loop l =
    Fits l.rest
    × (times (λ ms. pass_over l.depth l.place l.loops l.inside ms) l.n (nodes_of l.initial.rest) ≡ times (λ ms. pass_over l.depth l.place l.loops l.inside ms) (l.n - l.counter) (nodes_of l.rest))
