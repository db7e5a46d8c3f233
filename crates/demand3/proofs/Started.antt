-- The premise of demand 3 can be had: document 01's first example ("The listing program") is read, plain, lowered and started in buffers of zeros, so demand 3
-- speaks of every list of calls on it. Its sum and what its walk leaves are the figures of that listing.
use Prim.Native.Nat.{ℕ, ◌≤◌}
use native.Mathlib.Omega.{arith}
use mathlib.Core.Path.{◌≡◌, refl}
use mathlib.Core.List.{List, [], ◌∷◌}
use mathlib.Core.Option.{some}
use lib.Ieee.{of_bits, to_bits, binary64}
use lib.ListN.{length, length-replicate}
use Rattle.lent.specs.Bytes.{be_bytes}
use Rattle.lent.specs.laws.Numbers.{be_bytes_bytes}
use Rattle.sifv.specs.Value.{One, Num}
use Rattle.ast.specs.Tree.{Val, Literal, Expression, VarInit, Stmts, no_stmts, more_stmts}
use Rattle.ast.specs.File.{read_tree}
use Rattle.sifv.specs.Slot.{encode_slot, decode_slot}
use Rattle.tables.specs.ProgramBytes.{program_size, encode_program, decode_program}
use Rattle.vm.specs.Machine.{Done}
use Rattle.vm.specs.Report.{report_size}
use Rattle.stored.specs.StateBytes.{state_size, encode_state, decode_state, state_ok}
use Rattle.walk.specs.Walk.{walk, walk_count, walk_names, walk_end}
use Rattle.walk.specs.Bound.{bound}
use Rattle.boundary.specs.LowerCall.{lower_call}
use Rattle.boundary.specs.StartCall.{start_call}
use Rattle.boundary.specs.RunCall.{run_call}
use Rattle.boundary.specs.ReadCall.{read_call}
use Rattle.demand3.specs.CallList.{Call, Run, ReadName, call_all, fresh}
use Rattle.demand3.proofs.laws.Demand3Proof.{script_starts, demand3}
use Rattle.lent.specs.Lists.{zeros}
use Rattle.demand3.specs.Demand3.{Starts, Demand3}

-- its 27 bytes as one number
abbrev digits : ℕ
digits = 0x0003020601010108011300666f72746d7078014000000000000000

abbrev file : List ℕ
file = be_bytes 27 digits

-- x = 2
abbrev tree : Stmts
tree = more_stmts (VarInit 1 (Expression (Literal (Val 0x4000000000000000)))) no_stmts

long_enough : (n : ℕ) → n ≤ length (zeros n)
long_enough n = let z : ℕ = 0 in omega (arith, length-replicate n z)

example_starts : Starts tree file (zeros program_size) (zeros state_size)
unfolding read_tree of_bits
example_starts = script_starts file (zeros program_size) (zeros state_size) (be_bytes_bytes 27 digits) refl tt refl (long_enough program_size) (long_enough state_size)

-- the program as lower leaves it
abbrev lent : List ℕ
lent = (lower_call file (zeros program_size)).buffer

example_served : (cs : List Call) → Demand3 tree lent (call_all lent cs (fresh (start_call lent (zeros state_size)).buffer))
example_served cs = demand3 tree file (zeros program_size) (zeros state_size) example_starts cs

example_bound : bound tree ≡ 1
example_bound = refl

example_count : walk_count (walk tree) ≡ 1
example_count = refl

example_name : walk_names (walk tree) 1 ≡ some (One (Num (of_bits binary64 0x4000000000000000)))
example_name = refl

example_done : walk_end (walk tree) ≡ Done
example_done = refl

-- What calls that gave no steps leave as it was: a run of the bound's steps has given them, with reads and refused calls before and behind it. So the premise
-- of demand 3's second half can be had.
example_given : (call_all lent (ReadName 1 (zeros 256) ∷ (Run 1 (zeros report_size) ∷ (ReadName 1 (zeros 256) ∷ (Run 5 [] ∷ (ReadName 64 (zeros 256) ∷ [])))))
    (fresh (start_call lent (zeros state_size)).buffer)).given ≡ bound tree
unfolding lower_call start_call run_call read_call read_tree encode_program decode_program state_ok encode_state decode_state encode_slot decode_slot of_bits to_bits
example_given = refl
