use Rattle.std.proofs.Common.{sym, ◌∙◌, ◌≤◌, length, drop, arith}
use Rattle.lent.specs.laws.Each.{bytes_of}
use Rattle.lent.specs.laws.Answers.{ok_zero, told_err, refusal_number_ne0}
use Rattle.ast.specs.laws.PlainFile.{accepted_tree}
use Rattle.lower.specs.laws.LowerLaws.{short_gives, refused_file, cleared, refused_tree, lowered_tree}
use Rattle.lower.proofs.lower.Goals as goal

pub returns-then-program-lt-PROGRAM_SIZE : goal.returns-then-program-lt-PROGRAM_SIZE
returns-then-program-lt-PROGRAM_SIZE c =
    short_gives c.args.file.now c.args.program.now c.if-program-lt-PROGRAM_SIZE.true

pub returns-in_err-read : goal.returns-in_err-read
returns-in_err-read c =
    let a = told_err c.from_residual.result c.read.ensures c.in_err-read.was c.from_residual.ensures in
    refused_file c.args.file.now c.args.program.now (omega (arith, c.if-program-lt-PROGRAM_SIZE.false)) _ _ a.0 (λ z. a.1 (sym a.0 ∙ z)) c.clear.ensures

pub lower_read-requires-clause-by_index : goal.lower_read-requires-clause-by_index
lower_read-requires-clause-by_index c =
    let b = c.args.program.now in
    (drop 40960 b, cleared c.args.file.now b (omega (arith, c.if-program-lt-PROGRAM_SIZE.false)) _ c.clear.ensures)

pub returns-in-Err : goal.returns-in-Err
returns-in-Err c =
    let f = c.args.file.now in
    let b = c.args.program.now in
    let l : 40960 ≤ length b = omega (arith, c.if-program-lt-PROGRAM_SIZE.false) in
    let t = accepted_tree f (ok_zero c.read.ensures c.in_ok-read.was) in
    let made = c.lower_read.ensures t.0 (drop 40960 b) t.1 (cleared f b l _ c.clear.ensures) in
    refused_tree f b l t.0 t.1 _ _ _ (rw c.in-Err.is at made) (refusal_number_ne0 c.in-Err.refusal) c.clear-in-Err.ensures

pub returns : goal.returns
returns c =
    let f = c.args.file.now in
    let b = c.args.program.now in
    let l : 40960 ≤ length b = omega (arith, c.if-program-lt-PROGRAM_SIZE.false) in
    let t = accepted_tree f (ok_zero c.read.ensures c.in_ok-read.was) in
    let made = c.lower_read.ensures t.0 (drop 40960 b) t.1 (cleared f b l _ c.clear.ensures) in
    lowered_tree f b l t.0 t.1 _ (bytes_of f (λ i. omega (arith, c.type_inv.file i))) (rw c.in_default.is at made)
