-- Which stop comes first, computed, and that Fn sets the function table. Document 02, M-103: "38, without details, right after every 27 of that step"; document
-- 01, "Numbers given for the state": "Upda: index 27, value 27, then 20, 28, 31, 34. Tbli: 20; … Call: 29, 35. Push: 32, 35. Other orders are `vm.rs`'s." A row has what the registers and the name hold, and the stop.
use Prim.Native.Nat.{ℕ, zero, suc}
use mathlib.Core.Path.{◌≡◌, refl}
use mathlib.Core.Bool.{true}
use mathlib.Core.List.{List, [], ◌∷◌}
use mathlib.Core.Option.{Option, none, some}
use lib.ListN.{replicate}
use lib.Ieee.{of_bits, binary64}
use Rattle.numeric.specs.Index.{index_of}
use Rattle.sifv.specs.Value.{Null, Num, Str, Bl, Entry, entry, Value, One, Arr, Tab}
use Rattle.opc.specs.Op.{Add, JmpOpKind, Jmpt, Jmpf, Op, Binary, Ldav, Upda, JmpCnd, Fn, Call, FnStackPush, Tbli}
use Rattle.vm.specs.RuntimeErr.{RuntimeErr, InvalidName, InvalidJump, RegNoContents, TyMismatch, NotAnArray, InvalidFnSym, IndexOutOfBounds, EmptyRegister, Nested, StackFull, TableFull, NoIndex}
use Rattle.vm.specs.Operation.{empty, put}
use Rattle.vm.specs.Machine.{Machine, Step, Goes, Stops, Ends, execute}

abbrev half : Option Value
half = some (One (Num (of_bits binary64 0x3fe0000000000000)))

abbrev two : Option Value
two = some (One (Num (of_bits binary64 0x4000000000000000)))

abbrev text : Option Value
text = some (One (Str 0))

abbrev three : Option Value
three = some (Arr (Null ∷ Null ∷ Null ∷ []))

-- an operation, where register 0 holds the index, register 1 the value, and name 1 what is given
abbrev executed : Op → Option Value → Option Value → Option Value → Step
executed o i w v =
    let m : Machine = record { regs = put (put empty 0 i) 1 w; names = put empty 1 v; stack = []; calls = []; fns = λ x. none; pos = 0 } in
    execute (record { code = []; code_start = 0 }) m o

data Row : Type 0 where
  ldav : (index name : Option Value) (stop : RuntimeErr) → executed (Ldav 1 0 2) index none name ≡ Stops stop → Row
  upda : (index value name : Option Value) (stop : RuntimeErr) → executed (Upda 1 0 1) index value name ≡ Stops stop → Row

orders : List Row
unfolding index_of of_bits
orders =
    -- 27: an empty register, no number
    ldav none none TyMismatch refl ∷
    ldav text none TyMismatch refl ∷
    -- 38 before 20, 28 and 31
    ldav half none NoIndex refl ∷
    ldav half text NoIndex refl ∷
    ldav half (some (Arr [])) NoIndex refl ∷
    ldav half three NoIndex refl ∷
    -- 20, 28, 31
    ldav two none (InvalidName 1) refl ∷
    ldav two text (NotAnArray 1) refl ∷
    ldav two (some (Arr [])) (IndexOutOfBounds 1 2 0) refl ∷
    -- 27 of the index and 27 of the value, both before 38
    upda none text none TyMismatch refl ∷
    upda text text none TyMismatch refl ∷
    upda text none three TyMismatch refl ∷
    upda two none three TyMismatch refl ∷
    upda half none three TyMismatch refl ∷
    upda half none none TyMismatch refl ∷
    -- 38 before 20, 28, 31 and 34
    upda half text none NoIndex refl ∷
    upda half text text NoIndex refl ∷
    upda half text (some (Arr [])) NoIndex refl ∷
    upda half three three NoIndex refl ∷
    upda half (some (Tab [])) three NoIndex refl ∷
    -- 20, 28, 31, 34
    upda two three none (InvalidName 1) refl ∷
    upda two three text (NotAnArray 1) refl ∷
    upda two three (some (Arr [])) (IndexOutOfBounds 1 2 0) refl ∷
    upda two three three Nested refl ∷
    upda two (some (Tab [])) three Nested refl ∷
    []

-- ---- operators and jumps: two registers; a condition with a label that is not there

data Registers : Type 0 where
  add : (first second : Option Value) (stop : RuntimeErr) → executed (Binary Add 0 1 2) first second none ≡ Stops stop → Registers
  jump : (k : JmpOpKind) (condition : Option Value) (stop : RuntimeErr) → executed (JmpCnd k 0 9) condition none none ≡ Stops stop → Registers

abbrev holding : Option Value
holding = some (One (Bl true))

registers : List Registers
registers =
    -- 26 names the first of two empty registers, and comes before 27
    add none none (RegNoContents 0) refl ∷
    add none text (RegNoContents 0) refl ∷
    add text none (RegNoContents 1) refl ∷
    add text text TyMismatch refl ∷
    -- 27 before 25
    jump Jmpt none TyMismatch refl ∷
    jump Jmpf none TyMismatch refl ∷
    jump Jmpt text TyMismatch refl ∷
    jump Jmpf text TyMismatch refl ∷
    jump Jmpt holding InvalidJump refl ∷
    []

-- ---- added sizes: both stacks hold 24, name 1 a table of 16 keys

abbrev keys : ℕ → List Entry
keys zero = []
keys (suc n) = entry n Null ∷ keys n

-- register 0 and function 1 are given
abbrev crowded : Op → Option Value → Option ℕ → Step
crowded o v f =
    let m : Machine = record { regs = put empty 0 v; names = put empty 1 (some (Tab (keys 16))); stack = replicate 24 (One Null); calls = replicate 24 0; fns = put empty 1 f; pos = 0 } in
    execute (record { code = []; code_start = 0 }) m o

data Sizes : Type 0 where
  call : (function : Option ℕ) (stop : RuntimeErr) → crowded (Call 1 0) none function ≡ Stops stop → Sizes
  push : (register : Option Value) (stop : RuntimeErr) → crowded (FnStackPush 0) register none ≡ Stops stop → Sizes
  tbli : (register : Option Value) (stop : RuntimeErr) → crowded (Tbli 1 16 0) register none ≡ Stops stop → Sizes

sizes : List Sizes
sizes =
    -- 29 before 35
    call none (InvalidFnSym 1) refl ∷
    call (some 0) StackFull refl ∷
    -- 32 before 35
    push none EmptyRegister refl ∷
    push text StackFull refl ∷
    -- 32, 34, 36
    tbli none EmptyRegister refl ∷
    tbli three Nested refl ∷
    tbli (some (Tab [])) Nested refl ∷
    tbli text TableFull refl ∷
    []

-- ---- Fn: the function table has its position from then on

abbrev function_in : Step → ℕ → Option ℕ
function_in (Goes m) x = m.fns x
function_in (Stops e) x = none
function_in Ends x = none

-- at position 3, where functions 1 and 2 are at 7
abbrev declared : ℕ → Option ℕ
declared x =
    let m : Machine = record { regs = empty; names = empty; stack = []; calls = []; fns = λ y. some 7; pos = 3 } in
    function_in (execute (record { code = []; code_start = 0 }) m (Fn 1 [])) x

fn_sets_its_own : declared 1 ≡ some 3
fn_sets_its_own = refl

fn_leaves_others : declared 2 ≡ some 7
fn_leaves_others = refl
