-- The cases of document 01 that are marked P, 1 to 8, as one table: the file's bytes in hex, its listing, and the registers, stacks, functions, position and
-- count that the run leaves. One computation checks all of them.
use mathlib.Core.List.{List, [], ◌∷◌}
use lib.Dec.{T}
use lib.Ieee.{add, sub, mul, div, rem, neg, lt, le, eq, ne, of_int, of_bits, to_bits}
use lib.Count.{ones_in}
use Rattle.ast.specs.File.{read_tree}
use Rattle.listing_text.specs.Listing.{listing}
use Rattle.listing_text.proofs.Shown.{Row, row, hold_all}
use Rattle.numeric.specs.Index.{index_of}

abbrev cases : List Row
cases =
    -- 1: the file of "The listing program"
    row "0003020601010108011300666f72746d7078014000000000000000"
    "start 0\nop 0 0 Stc Num:4000000000000000 1\nlabel 0 0\nbound 1\nend done 1\nheld 1\nname 1 Num:4000000000000000\n"
    "stack\ncalls\nposition 1\ncount 1\n" ∷
    -- 2: array a of 1, 2, 3; for i, v in a, s = v
    row "000b050601010101010208010c0313001300130005021500020108011500666f72746d706162636401013ff0000000000000400000000000000040080000000000000203010403"
    "start 0\nop 0 0 Stc Arr:[Num:3ff0000000000000,Num:4000000000000000,Num:4008000000000000] 1\nop 1 0 Stc Num:0000000000000000 2\nop 2 0 Ldas 1 1\nop 3 1 Ldn 0 2\nop 4 1 Ldav 1 0 2\nop 5 1 Str 2 3\nop 6 1 Stn 3 4\nop 7 1 Incrr 0\nop 8 1 Str 0 2\nop 9 1 Binary Lt 0 1 3\nop 10 1 JmpCnd Jmpt 3 1\nlabel 0 0\nlabel 1 3\nbound 27\nend done 27\nheld 4\nname 1 Arr:[Num:3ff0000000000000,Num:4000000000000000,Num:4008000000000000]\nname 2 Num:4008000000000000\nname 3 Num:4008000000000000\nname 4 Num:4008000000000000\n"
    "reg 0 Num:4008000000000000\nreg 1 Num:4008000000000000\nreg 2 Num:4008000000000000\nreg 3 Bl:0\nstack\ncalls\nposition 11\ncount 27\n" ∷
    -- 3: x = 1; if x == 1 then y = 1
    row "000a030601010102080113000302110215001300020108011300666f72746d706162013ff00000000000000006013ff0000000000000023ff0000000000000"
    "start 0\nop 0 0 Stc Num:3ff0000000000000 1\nop 1 0 Ldn 0 1\nop 2 0 Ldc 1 Num:3ff0000000000000\nop 3 0 Binary Eq 0 1 2\nop 4 0 JmpCnd Jmpf 2 2\nop 5 1 Stc Num:3ff0000000000000 2\nop 6 1 Jmpa 2\nop 7 2 Nop\nlabel 0 0\nlabel 1 5\nlabel 2 7\nbound 8\nend done 8\nheld 2\nname 1 Num:3ff0000000000000\nname 2 Num:3ff0000000000000\n"
    "reg 0 Num:3ff0000000000000\nreg 1 Num:3ff0000000000000\nreg 2 Bl:1\nstack\ncalls\nposition 8\ncount 8\n" ∷
    -- 3: with x = 2
    row "000a030601010102080113000302110215001300020108011300666f72746d7061620140000000000000000006013ff0000000000000023ff0000000000000"
    "start 0\nop 0 0 Stc Num:4000000000000000 1\nop 1 0 Ldn 0 1\nop 2 0 Ldc 1 Num:3ff0000000000000\nop 3 0 Binary Eq 0 1 2\nop 4 0 JmpCnd Jmpf 2 2\nop 5 1 Stc Num:3ff0000000000000 2\nop 6 1 Jmpa 2\nop 7 2 Nop\nlabel 0 0\nlabel 1 5\nlabel 2 7\nbound 8\nend done 6\nheld 1\nname 1 Num:4000000000000000\n"
    "reg 0 Num:4000000000000000\nreg 1 Num:3ff0000000000000\nreg 2 Bl:0\nstack\ncalls\nposition 8\ncount 6\n" ∷
    -- 4, as document 02, M-103, changes it: index 2.9 stops
    row "000a020601010208010c0313001300130007010e0213001300666f72746d706101013ff0000000000000400000000000000040080000000000000140073333333333334022000000000000"
    "start 0\nop 0 0 Stc Arr:[Num:3ff0000000000000,Num:4000000000000000,Num:4008000000000000] 1\nop 1 0 Ldc 0 Num:4022000000000000\nop 2 0 Ldc 1 Num:4007333333333333\nop 3 0 Upda 1 1 0\nlabel 0 0\nbound 4\nend stopped 3 38 4\nheld 1\nname 1 Arr:[Num:3ff0000000000000,Num:4000000000000000,Num:4008000000000000]\n"
    "reg 0 Num:4022000000000000\nreg 1 Num:4007333333333333\nstack\ncalls\nposition 3\ncount 3\n" ∷
    -- 4, as document 02, M-103, changes it: index -7.9 stops
    row "000b020601010208010c0313001300130007010e02120113001300666f72746d706101013ff0000000000000400000000000000040080000000000000102401f99999999999a4022000000000000"
    "start 0\nop 0 0 Stc Arr:[Num:3ff0000000000000,Num:4000000000000000,Num:4008000000000000] 1\nop 1 0 Ldc 0 Num:4022000000000000\nop 2 0 Ldc 1 Num:401f99999999999a\nop 3 0 Unary Nneg 1 2\nop 4 0 Upda 1 2 0\nlabel 0 0\nbound 5\nend stopped 4 38 5\nheld 1\nname 1 Arr:[Num:3ff0000000000000,Num:4000000000000000,Num:4008000000000000]\n"
    "reg 0 Num:4022000000000000\nreg 1 Num:401f99999999999a\nreg 2 Num:c01f99999999999a\nstack\ncalls\nposition 4\ncount 4\n" ∷
    -- 5, as document 02, M-100, changes it: b = True leaves true
    row "000303060101010108011600666f72746d70616202"
    "start 0\nop 0 0 Stc Bl:1 2\nlabel 0 0\nbound 1\nend done 1\nheld 1\nname 2 Bl:1\n"
    "stack\ncalls\nposition 1\ncount 1\n" ∷
    -- 6: the empty Program
    row "000101060100666f72746d70"
    "start 0\nop 0 0 Nop\nlabel 0 0\nbound 1\nend done 1\nheld 0\n"
    "stack\ncalls\nposition 1\ncount 1\n" ∷
    -- 7: f(1, 2) gives the first parameter 2
    row "000a070601010101010101020903150015000201060007010f0213001300666f72746d70616263646566060102063ff00000000000004000000000000000"
    "start 6\nop 0 0 Fn 6 1 2\nop 1 0 FnStackPop 0\nop 2 0 Str 0 1\nop 3 0 FnStackPop 1\nop 4 0 Str 1 2\nop 5 0 FnRet\nop 6 1 Ldc 2 Num:3ff0000000000000\nop 7 1 FnStackPush 2\nop 8 1 Ldc 3 Num:4000000000000000\nop 9 1 FnStackPush 3\nop 10 1 Call 6 2\nop 11 1 FnStackPop 4\nlabel 0 0\nlabel 1 6\nfn 6 0\nbound none\nend done 11\nheld 2\nname 1 Num:4000000000000000\nname 2 Num:3ff0000000000000\n"
    "reg 0 Num:4000000000000000\nreg 1 Num:3ff0000000000000\nreg 2 Num:3ff0000000000000\nreg 3 Num:4000000000000000\nstack\ncalls\nfn 6 0\nposition 12\ncount 11\n" ∷
    -- 8: a function whose body is the statement x and a bare return, called first
    row "0008070601010101010101020901020207011500060007010f00666f72746d70616263646566060106"
    "start 3\nop 0 0 Fn 6\nop 1 0 Ldn 0 1\nop 2 0 FnRet\nop 3 1 Call 6 0\nop 4 1 FnStackPop 1\nlabel 0 0\nlabel 1 3\nfn 6 0\nbound none\nend stopped 1 20 -1 1\nheld 0\n"
    "stack\ncalls 3\nfn 6 0\nposition 1\ncount 1\n" ∷
    []

pub all_cases : T (hold_all cases)
unfolding read_tree listing index_of add sub mul div rem neg lt le eq ne of_int of_bits to_bits ones_in
all_cases = tt
