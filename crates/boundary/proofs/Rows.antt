-- The calls start, run and read_name on bytes, computed: every 9, with the buffer one byte short and the others as they may be; 8 and 10, their order, and that
-- nothing is written then; accepted calls in buffers exactly long enough and longer. The numbers are document 01's ("Numbers given for the input", "Numbers
-- given for the state", "Running"), the bytes docs/FORMATS.md's; oracle/ answers every row by the original. Each way in which a program is refused has its
-- row in crates opc and tables, each field of a state in crate stored, each report in crate vm, lower in Lowered.antt here.
use Prim.Native.Nat.{ℕ}
use mathlib.Core.Path.{◌≡◌, refl}
use mathlib.Core.Bool.{Bool, true, ◌&&◌}
use mathlib.Core.List.{List, [], ◌∷◌}
use lib.Dec.{eqb}
use lib.ListN.{replicate}
use lib.Ieee.{of_bits, to_bits}
use Rattle.lent.specs.Bytes.{be_bytes, same_bytes, concat}
use Rattle.sifv.specs.Slot.{encode_slot, decode_slot}
use Rattle.tables.specs.ProgramBytes.{decode_program}
use Rattle.stored.specs.StateBytes.{encode_state, decode_state, state_ok}
use Rattle.lent.specs.Answered.{Answered}
use Rattle.boundary.specs.StartCall.{start_call}
use Rattle.lent.specs.Answered.{RunAnswered}
use Rattle.boundary.specs.RunCall.{run_call}
use Rattle.boundary.specs.ReadCall.{read_call}
use Rattle.lent.specs.Lists.{zeros}

-- ---- rows: a call's buffers and numbers, the number that it answers, and what its buffers hold afterwards; a buffer is written as its runs of bytes

abbrev answers : Answered → ℕ → List ℕ → Bool
answers a n b = eqb a.result n && same_bytes a.buffer b

abbrev ran : RunAnswered → ℕ → List ℕ → List ℕ → Bool
ran a n s r = eqb a.result n && (same_bytes a.state s && same_bytes a.report r)

data Row : Type 0 where
  start : (program state : List ℕ) (n : ℕ) (after : List ℕ) → answers (start_call program state) n after ≡ true → Row
  run : (program state : List ℕ) (steps : ℕ) (report : List ℕ) (n : ℕ) (stateAfter reportAfter : List ℕ) → ran (run_call program state steps report) n stateAfter reportAfter ≡ true → Row
  read : (state : List ℕ) (text : ℕ) (out : List ℕ) (n : ℕ) (after : List ℕ) → answers (read_call state text out) n after ≡ true → Row

-- ---- programs and states

-- a program with no instructions
abbrev none : List ℕ
none = zeros 40960

-- a program whose count is 65,535: 8
abbrev refused : List ℕ
refused = replicate 40960 255

-- one Nop
abbrev nop : List ℕ
nop = concat (be_bytes 16 0x17000000000000000000000000000000 ∷ zeros 32752 ∷ be_bytes 2 1 ∷ zeros 2174 ∷ be_bytes 2 1 ∷ be_bytes 2 0 ∷ zeros 6012 ∷ [])

-- two Nops
abbrev nops : List ℕ
nops = concat (be_bytes 16 0x17000000000000000000000000000000 ∷ be_bytes 16 0x17000000000000000000000000000000 ∷ zeros 32736 ∷ be_bytes 2 1 ∷ zeros 2174 ∷ be_bytes 2 2 ∷ be_bytes 2 0 ∷ zeros 6012 ∷ [])

-- FnStackPop 95; FnRet; Nop
abbrev pops : List ℕ
pops = concat (be_bytes 16 0x140000005f0000000000000000000000 ∷ be_bytes 16 0x12000000000000000000000000000000 ∷ be_bytes 16 0x17000000000000000000000000000000 ∷ zeros 32720 ∷ be_bytes 2 1 ∷ zeros 2174 ∷ be_bytes 2 3 ∷ be_bytes 2 0 ∷ zeros 6012 ∷ [])

-- document 01's case 8, with bytes behind: Fn 6; Ldn 0 1; FnRet; Call 6 0; FnStackPop 1, the code starts at 3
abbrev called : List ℕ
called = concat (be_bytes 16 0x10000000060000000000000000000000 ∷ be_bytes 16 0x04000000000100000000000000000000 ∷ be_bytes 16 0x12000000000000000000000000000000 ∷ be_bytes 16 0x11000001060000000000000000000000 ∷ be_bytes 16 0x14000001010000000000000000000000 ∷ zeros 32688 ∷ be_bytes 2 1 ∷ be_bytes 2 4 ∷ zeros 2056 ∷ be_bytes 2 1 ∷ zeros 114 ∷ be_bytes 2 5 ∷ be_bytes 2 3 ∷ zeros 6012 ∷ be_bytes 3 0x070707 ∷ [])

-- names 1, 2 and 63: the number 2; an array of text 5 and yes; a table with key 3 to nothing and key 7 to the number 1; bytes behind the fields
abbrev values : List ℕ
values = concat (zeros 24832 ∷ be_bytes 1 1 ∷ zeros 7 ∷ be_bytes 8 0x4000000000000000 ∷ zeros 240 ∷ be_bytes 2 0x0502 ∷ zeros 14 ∷ be_bytes 2 0x0203 ∷ zeros 22 ∷ be_bytes 16 0x00000000000000050000000000000001 ∷ zeros 15560 ∷ be_bytes 2 0x0602 ∷ zeros 14 ∷ be_bytes 2 0x0401 ∷ zeros 30 ∷ be_bytes 8 0x3ff0000000000000 ∷ zeros 176 ∷ be_bytes 2 0x0307 ∷ zeros 6390 ∷ be_bytes 8 0x8000000000000006 ∷ zeros 24 ∷ replicate 4 7 ∷ zeros 18172 ∷ [])

-- ---- the rows

-- 9: each buffer one byte short, whatever the others hold; nothing is written
nines : List Row
unfolding start_call run_call read_call decode_program state_ok encode_state decode_state encode_slot decode_slot of_bits to_bits
nines =
    -- start
    start (zeros 40959) (replicate 65536 7) 9 (replicate 65536 7) refl ∷
    start none (replicate 65535 7) 9 (replicate 65535 7) refl ∷
    -- before 8
    start (replicate 40959 255) (replicate 65536 7) 9 (replicate 65536 7) refl ∷
    start refused (replicate 65535 7) 9 (replicate 65535 7) refl ∷
    -- run
    run (zeros 40959) (replicate 65536 7) 1 (replicate 48 7) 9 (replicate 65536 7) (replicate 48 7) refl ∷
    run none (replicate 65535 7) 1 (replicate 48 7) 9 (replicate 65535 7) (replicate 48 7) refl ∷
    run none (replicate 65536 7) 1 (replicate 47 7) 9 (replicate 65536 7) (replicate 47 7) refl ∷
    -- before 8 and 10
    run (replicate 40959 255) (replicate 65536 7) 1 (replicate 48 7) 9 (replicate 65536 7) (replicate 48 7) refl ∷
    run refused (replicate 65535 7) 1 (replicate 48 7) 9 (replicate 65535 7) (replicate 48 7) refl ∷
    run refused (replicate 65536 7) 1 (replicate 47 7) 9 (replicate 65536 7) (replicate 47 7) refl ∷
    -- read_name
    read (zeros 65535) 0 (replicate 256 7) 9 (replicate 256 7) refl ∷
    read (zeros 65536) 0 (replicate 255 7) 9 (replicate 255 7) refl ∷
    -- before 8 and 10
    read (replicate 65535 7) 64 (replicate 256 7) 9 (replicate 256 7) refl ∷
    read (replicate 65536 7) 64 (replicate 255 7) 9 (replicate 255 7) refl ∷
    []

-- 8: a program that is refused, a text over 63; before 10, and nothing is written
eights : List Row
unfolding start_call run_call read_call decode_program state_ok encode_state decode_state encode_slot decode_slot of_bits to_bits
eights =
    start refused (replicate 65536 7) 8 (replicate 65536 7) refl ∷
    start (concat (be_bytes 1 25 ∷ zeros 32767 ∷ be_bytes 2 1 ∷ zeros 2174 ∷ be_bytes 2 1 ∷ zeros 6014 ∷ [])) (replicate 65536 7) 8 (replicate 65536 7) refl ∷
    run refused (replicate 65536 7) 1 (replicate 48 7) 8 (replicate 65536 7) (replicate 48 7) refl ∷
    read (replicate 65536 7) 64 (replicate 256 7) 8 (replicate 256 7) refl ∷
    read values 64 (replicate 256 7) 8 (replicate 256 7) refl ∷
    []

-- 10: a position past the program's count, or past 1,024 where none is lent; a count that with the steps would be 2^64; nothing is written
tens : List Row
unfolding start_call run_call read_call decode_program state_ok encode_state decode_state encode_slot decode_slot of_bits to_bits
tens =
    run nop (concat (zeros 47344 ∷ be_bytes 2 2 ∷ zeros 18190 ∷ [])) 0 (replicate 48 7) 10 (concat (zeros 47344 ∷ be_bytes 2 2 ∷ zeros 18190 ∷ [])) (replicate 48 7) refl ∷
    read (concat (zeros 47344 ∷ be_bytes 2 1025 ∷ zeros 18190 ∷ [])) 0 (replicate 256 7) 10 (replicate 256 7) refl ∷
    run nop (concat (zeros 47336 ∷ be_bytes 8 0xffffffffffffffff ∷ zeros 18192 ∷ [])) 1 (replicate 48 7) 10 (concat (zeros 47336 ∷ be_bytes 8 0xffffffffffffffff ∷ zeros 18192 ∷ [])) (replicate 48 7) refl ∷
    []

-- start: a fresh state over what was there, in exactly so many bytes; in more, those behind the fields are untouched
starts : List Row
unfolding start_call run_call read_call decode_program state_ok encode_state decode_state encode_slot decode_slot of_bits to_bits
starts =
    start none (replicate 65536 7) 0 (concat (zeros 47360 ∷ replicate 18176 7 ∷ [])) refl ∷
    start called (replicate 65540 7) 0 (concat (zeros 47212 ∷ be_bytes 2 1 ∷ zeros 130 ∷ be_bytes 2 3 ∷ zeros 14 ∷ replicate 18180 7 ∷ [])) refl ∷
    []

-- run: done, with the highest count; spent, the report with the steps of this run and the state with all; stopped at line -1, all buffers longer; of two values
-- and of two frames the upper is taken, and its bytes are zero afterwards
runs : List Row
unfolding start_call run_call read_call decode_program state_ok encode_state decode_state encode_slot decode_slot of_bits to_bits
runs =
    run nop (concat (zeros 47336 ∷ be_bytes 8 0xfffffffffffffffe ∷ zeros 18192 ∷ [])) 1 (replicate 48 7) 0 (concat (zeros 47336 ∷ be_bytes 8 0xffffffffffffffff ∷ be_bytes 2 1 ∷ zeros 18190 ∷ [])) (concat (zeros 40 ∷ be_bytes 8 1 ∷ [])) refl ∷
    run nops (concat (zeros 47336 ∷ be_bytes 8 5 ∷ zeros 18192 ∷ [])) 1 (replicate 48 7) 0 (concat (zeros 47336 ∷ be_bytes 8 6 ∷ be_bytes 2 1 ∷ zeros 18190 ∷ [])) (concat (be_bytes 1 2 ∷ zeros 39 ∷ be_bytes 8 1 ∷ [])) refl ∷
    run called (concat (zeros 47212 ∷ be_bytes 2 1 ∷ zeros 130 ∷ be_bytes 2 3 ∷ zeros 14 ∷ replicate 18180 7 ∷ [])) 9 (replicate 50 7) 0 (concat (zeros 47104 ∷ be_bytes 2 3 ∷ zeros 106 ∷ be_bytes 2 1 ∷ zeros 122 ∷ be_bytes 8 1 ∷ be_bytes 2 1 ∷ zeros 1 ∷ be_bytes 1 1 ∷ zeros 12 ∷ replicate 18180 7 ∷ [])) (concat (be_bytes 2 0x0114 ∷ zeros 6 ∷ be_bytes 8 0xffffffffffffffff ∷ be_bytes 8 1 ∷ zeros 16 ∷ be_bytes 8 1 ∷ be_bytes 2 0x0707 ∷ [])) refl ∷
    run pops (concat (zeros 40960 ∷ be_bytes 1 4 ∷ zeros 255 ∷ be_bytes 1 3 ∷ zeros 14 ∷ be_bytes 1 1 ∷ zeros 5872 ∷ be_bytes 2 2 ∷ zeros 2 ∷ be_bytes 2 1 ∷ zeros 236 ∷ be_bytes 2 0x0202 ∷ zeros 18188 ∷ [])) 2 (replicate 48 7) 0 (concat (zeros 24320 ∷ be_bytes 1 3 ∷ zeros 14 ∷ be_bytes 1 1 ∷ zeros 16624 ∷ be_bytes 1 4 ∷ zeros 6143 ∷ be_bytes 2 2 ∷ zeros 230 ∷ be_bytes 8 2 ∷ be_bytes 2 2 ∷ be_bytes 2 0x0101 ∷ zeros 18188 ∷ [])) (concat (be_bytes 1 2 ∷ zeros 39 ∷ be_bytes 8 2 ∷ [])) refl ∷
    []

-- read_name: unset, a number, an array, a table; a longer buffer is untouched behind; the highest position, in a longer state
reads : List Row
unfolding start_call run_call read_call decode_program state_ok encode_state decode_state encode_slot decode_slot of_bits to_bits
reads =
    read values 0 (replicate 256 7) 0 (zeros 256) refl ∷
    read values 1 (replicate 256 7) 0 (concat (be_bytes 1 1 ∷ zeros 7 ∷ be_bytes 8 0x4000000000000000 ∷ zeros 240 ∷ [])) refl ∷
    read values 2 (replicate 260 7) 0 (concat (be_bytes 2 0x0502 ∷ zeros 14 ∷ be_bytes 2 0x0203 ∷ zeros 22 ∷ be_bytes 16 0x00000000000000050000000000000001 ∷ zeros 200 ∷ replicate 4 7 ∷ [])) refl ∷
    read values 63 (replicate 256 7) 0 (concat (be_bytes 2 0x0602 ∷ zeros 14 ∷ be_bytes 2 0x0401 ∷ zeros 30 ∷ be_bytes 8 0x3ff0000000000000 ∷ zeros 176 ∷ be_bytes 2 0x0307 ∷ zeros 22 ∷ [])) refl ∷
    read (concat (zeros 47344 ∷ be_bytes 2 1024 ∷ zeros 18194 ∷ [])) 0 (replicate 256 7) 0 (zeros 256) refl ∷
    []
