-- The walk and the bound, computed on small scripts. The figures are the original's, with the places altered that document 02 names, printed by oracle/ for
-- the same scripts (crates/listing_text/proofs has the files of most). Each wrong turn of the walk or the bound gives another figure on one of them.
use Prim.Native.Nat.{ℕ}
use mathlib.Core.Path.{◌≡◌, refl}
use mathlib.Core.Bool.{true}
use mathlib.Core.List.{List, [], ◌∷◌}
use mathlib.Core.Option.{Option, none, some}
use lib.Ieee.{eq, of_int, of_bits, to_bits, binary64}
use Rattle.sifv.specs.Value.{Value, One, Arr, Tab, Num, Str, Bl, Null}
use Rattle.ast.specs.Tree.{Plus, EqEq, Lit, Val, Text, Truth, Literal, Name, BinaryExpr, VarAssign, ArrayMut, Expression, Array, ArrayAccess, VarInit, ExprStmt, IfStmt, ForStmt, OverName, Else, Stmt, Stmts, no_stmts, more_stmts}
use Rattle.compiler.specs.Lower.{lower_tree, program_of}
use Rattle.vm.specs.RuntimeErr.{InvalidName, IndexOutOfBounds, NoIndex}
use Rattle.vm.specs.Machine.{Done, Stopped}
use Rattle.walk.specs.Walk.{walk, walk_count, walk_names, walk_end}
use Rattle.walk.specs.Bound.{bound}
use Rattle.walk.specs.Runs.{runs}
use Rattle.numeric.specs.Index.{index_of}

abbrev one : Lit
one = Val 0x3ff0000000000000

abbrev two : Lit
two = Val 0x4000000000000000

abbrev script : List Stmt → Stmts
script [] = no_stmts
script (s ∷ l) = more_stmts s (script l)

-- a number's pattern, to be compared by computing
abbrev pattern : Option Value → ℕ
pattern none = 0
pattern (some (One (Num x))) = to_bits binary64 x
pattern (some (One (Str t))) = 0
pattern (some (One (Bl b))) = 0
pattern (some (One Null)) = 0
pattern (some (Arr l)) = 0
pattern (some (Tab t)) = 0

-- ---- "the index comes from the loop, not from the body's assignments": the body sets the index name to 7

abbrev setting : Lit → Stmts
setting l =
    script (VarInit 1 (Array 1 (one ∷ two ∷ Val 0x4008000000000000 ∷ []))
    ∷ ForStmt 2 3 (OverName 1) (script (ExprStmt (VarAssign 2 (Expression (Literal l))) ∷ [])) ∷ [])

abbrev seven : Lit
seven = Val 0x401c000000000000

index_from_loop : pattern (walk_names (walk (setting seven)) 2) ≡ 0x4008000000000000
unfolding index_of of_int of_bits to_bits
index_from_loop = refl

passes_counted : walk_count (walk (setting seven)) ≡ 27
unfolding index_of of_int of_bits
passes_counted = refl

bound_of_passes : bound (setting seven) ≡ 27
bound_of_passes = refl

-- to a fraction: the loop reads by its own index, which is whole
fraction_not_read : walk_end (walk (setting (Val 0x4004000000000000))) ≡ Done
unfolding index_of of_int of_bits
fraction_not_read = refl

-- ---- case 3: the If's end is a step on both ways

abbrev choosing : Lit → Stmts
choosing l =
    script (VarInit 1 (Expression (Literal l))
    ∷ IfStmt (BinaryExpr EqEq (Name 1) (Literal one)) (script (VarInit 2 (Expression (Literal one)) ∷ [])) (Else no_stmts) ∷ [])

holds_counted : walk_count (walk (choosing one)) ≡ 8
unfolding eq of_bits
holds_counted = refl

fails_counted : walk_count (walk (choosing two)) ≡ 6
unfolding eq of_bits
fails_counted = refl

-- ---- what is stored

abbrev accessing : Stmts
accessing = script (VarInit 1 (Array 1 (one ∷ Text 2 ∷ Truth true ∷ [])) ∷ VarInit 2 (ArrayAccess 1 (Literal one)) ∷ [])

access_stored : walk_names (walk accessing) 2 ≡ some (One (Str 2))
unfolding index_of of_bits
access_stored = refl

access_counted : walk_count (walk accessing) ≡ 4
unfolding index_of of_bits
access_counted = refl

bound_of_access : bound accessing ≡ 4
bound_of_access = refl

-- in a loop over 3 items the store is a step of each pass: 1 + 2 + 3 · (7 + 3)
abbrev accessing_each : Stmts
accessing_each =
    script (VarInit 1 (Array 1 (one ∷ two ∷ Val 0x4008000000000000 ∷ []))
    ∷ ForStmt 2 3 (OverName 1) (script (ExprStmt (VarAssign 4 (ArrayAccess 1 (Name 2))) ∷ [])) ∷ [])

each_counted : walk_count (walk accessing_each) ≡ 33
unfolding index_of of_int of_bits
each_counted = refl

bound_of_each : bound accessing_each ≡ 33
bound_of_each = refl

-- past the end: the name stays as it was
abbrev accessing_at : Lit → Stmts
accessing_at l =
    script (VarInit 1 (Array 1 (one ∷ two ∷ []))
    ∷ VarInit 2 (Expression (Literal (Val 0x4014000000000000))) ∷ ExprStmt (VarAssign 2 (ArrayAccess 1 (Literal l))) ∷ [])

abbrev nine : Lit
nine = Val 0x4022000000000000

past_told : walk_end (walk (accessing_at nine)) ≡ Stopped (IndexOutOfBounds 1 9 2)
unfolding index_of of_bits
past_told = refl

past_stays : pattern (walk_names (walk (accessing_at nine)) 2) ≡ 0x4014000000000000
unfolding index_of of_bits to_bits
past_stays = refl

-- so too where the index is 2.5 (document 02, M-103)
fraction_told : walk_end (walk (accessing_at (Val 0x4004000000000000))) ≡ Stopped NoIndex
unfolding index_of of_bits
fraction_told = refl

fraction_stays : pattern (walk_names (walk (accessing_at (Val 0x4004000000000000))) 2) ≡ 0x4014000000000000
unfolding index_of of_bits to_bits
fraction_stays = refl

-- an item set at -0 and at -1: minus zero is 0
abbrev writing_at : Lit → Stmts
writing_at l = script (VarInit 1 (Array 1 (Text 2 ∷ Text 3 ∷ [])) ∷ ExprStmt (ArrayMut 1 (Literal l) (Literal (Text 4))) ∷ [])

minus_zero_written : walk_names (walk (writing_at (Val 0x8000000000000000))) 1 ≡ some (Arr (Str 4 ∷ Str 3 ∷ []))
unfolding index_of of_bits
minus_zero_written = refl

minus_one_told : walk_end (walk (writing_at (Val 0xbff0000000000000))) ≡ Stopped NoIndex
unfolding index_of of_bits
minus_one_told = refl

minus_one_stays : walk_names (walk (writing_at (Val 0xbff0000000000000))) 1 ≡ some (Arr (Str 2 ∷ Str 3 ∷ []))
unfolding index_of of_bits
minus_one_stays = refl

-- the array's own name takes its item
own_name_takes : walk_names (walk (script (VarInit 1 (Array 1 (Text 1 ∷ Truth true ∷ [])) ∷ ExprStmt (VarAssign 1 (ArrayAccess 1 (Literal one))) ∷ []))) 1 ≡ some (One (Bl true))
unfolding index_of of_bits
own_name_takes = refl

true_stores_true : walk_names (walk (script (VarInit 2 (Expression (Literal (Truth true))) ∷ []))) 2 ≡ some (One (Bl true))
true_stores_true = refl

unset_stores_nothing : walk_names (walk (script (VarInit 1 (Expression (Name 2)) ∷ []))) 1 ≡ some (One Null)
unset_stores_nothing = refl

-- ---- a stop is not counted

abbrev stopping : Stmts
stopping = script (ExprStmt (BinaryExpr Plus (Name 2) (Literal one)) ∷ [])

stop_not_counted : walk_count (walk stopping) ≡ 0
stop_not_counted = refl

stop_told : walk_end (walk stopping) ≡ Stopped (InvalidName 2)
stop_told = refl

-- a run of 0 steps behind it leaves the last answer as it was
idle_run_ends_nothing : (runs (program_of (lower_tree stopping)) (5 ∷ 0 ∷ [])).last ≡ some (Stopped (InvalidName 2))
idle_run_ends_nothing = refl

-- ---- L: the longest literal of the whole tree, at least 1

abbrev inside : Stmts
inside =
    script (IfStmt (BinaryExpr EqEq (Literal one) (Literal one))
    (script (VarInit 1 (Array 1 (one ∷ two ∷ [])) ∷ ForStmt 2 3 (OverName 1) no_stmts ∷ [])) (Else no_stmts) ∷ [])

longest_in_block : bound inside ≡ 25
longest_in_block = refl

least_one : bound (script (VarInit 1 (Array 1 []) ∷ ForStmt 2 3 (OverName 1) no_stmts ∷ [])) ≡ 11
least_one = refl
