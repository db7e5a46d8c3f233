-- Literals as values and operators as operation kinds: `expr`, `match_primary_assign`, `val_from_primary`. Definitions only.
use Rattle.std.specs.Prelude.{Bool, true}
use Rattle.std.specs.Float.Ieee.{of_bits}
use Rattle.std.specs.Float.{binary64}
use Rattle.std.specs.Float.Ieee.Scale.{finite}
use Rattle.sifv.specs.Value.{Single, Num, Str, Bl, Null}
use Rattle.opc.specs.Op.{BinOpKind, Add, Sub, Mul, Div, Modu, Eq, Land, Lnot, Lor, UnOpKind, Lneg, Nneg}
use Rattle.ast.specs.Tree.{BinTok, UnTok, Bang, Negate, Lit, Val, Text, Truth}

-- a literal's value: as an operand, in an Array, and assigned to a name (document 02, M-100: "Assigning True now stores true.")
abbrev pub literal : Lit → Single
literal (Val b) = Num (of_bits binary64 b)
literal (Text t) = Str t
literal (Truth b) = Bl b

-- document 02, M-104: a value that is no NaN and no infinity
abbrev pub finite_single : Single → Bool
finite_single (Num x) = finite x
finite_single (Str t) = true
finite_single (Bl b) = true
finite_single Null = true

-- "`!=` becomes Lnot"
abbrev pub bin_kind : BinTok → BinOpKind
bin_kind BinTok.Plus = Add
bin_kind BinTok.Minus = Sub
bin_kind BinTok.Star = Mul
bin_kind BinTok.Slash = Div
bin_kind BinTok.Percent = Modu
bin_kind BinTok.EqEq = Eq
bin_kind BinTok.LtEq = BinOpKind.LtEq
bin_kind BinTok.Lt = BinOpKind.Lt
bin_kind BinTok.GtEq = BinOpKind.GtEq
bin_kind BinTok.Gt = BinOpKind.Gt
bin_kind BinTok.AmpAmp = Land
bin_kind BinTok.PipePipe = Lor
bin_kind BinTok.BangEq = Lnot

abbrev pub un_kind : UnTok → UnOpKind
un_kind Bang = Lneg
un_kind Negate = Nneg
