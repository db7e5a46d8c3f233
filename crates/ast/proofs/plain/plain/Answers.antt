use mathlib.Core.Path.{◌≡◌, sym, ap, ◌∙◌}
use mathlib.Core.List.{List}
use Prim.Native.Nat.{ℕ, ◌+◌, ◌*◌, ◌-◌, ◌≤◌}
use native.Mathlib.Omega.{arith}
use lib.ListN.{length, take, drop}
use Rattle.lent.specs.laws.Each.{each_of}
use Rattle.lent.specs.Bytes.{AreBytes}
use Rattle.lent.specs.laws.Answers.{refused_ne0, passed_zero}
use Rattle.ast.specs.File.{node_count, text_count}
use Rattle.ast.specs.laws.PlainFile.{Accepted, accepted, plain_file, plain_refused, entries_slice}
use Rattle.ast.specs.inner.Under as Rule
use Rattle.ast.proofs.Order.{entries_size}
use Rattle.ast.proofs.plain.plain.Goals as goal

-- the entries as a slice of the file
module _ (f : List ℕ) {count nodes : ℕ} (ec : count ≡ text_count f) (en : nodes ≡ node_count f) where
  entries_end : Accepted f → 3 + count + 2 * nodes ≤ length f
  entries_end a = rw (ec, en) a.inside

  entries_few : Accepted f → length (take ((3 + count + 2 * nodes) - (3 + count)) (drop (3 + count) f)) ≤ 2048
  entries_few a = omega (arith, entries_size f ec en (entries_end a), en, a.few_nodes)

pub returns-then-is_err : goal.returns-then-is_err
returns-then-is_err c = plain_refused c.args.file.now (λ e. refused_ne0 c.read.result (sym c.is_err.ensures.value ∙ c.if-is_err.true) (c.read.ensures ∙ e))

pub text_count-requires : goal.text_count-requires
text_count-requires c =
    (accepted c.args.file.now (sym c.read.ensures ∙ passed_zero c.read.result (sym c.is_err.ensures.value ∙ c.if-is_err.false))).long

pub node_count-requires : goal.node_count-requires
node_count-requires c =
    (accepted c.args.file.now (sym c.read.ensures ∙ passed_zero c.read.result (sym c.is_err.ensures.value ∙ c.if-is_err.false))).long

pub slice_bounds-scan-end : goal.slice_bounds-scan-end
slice_bounds-scan-end c =
    entries_end c.args.file.now c.text_count.ensures.0 c.node_count.ensures.0 (accepted c.args.file.now (sym c.read.ensures ∙ passed_zero c.read.result (sym c.is_err.ensures.value ∙ c.if-is_err.false)))

pub scan-requires : goal.scan-requires
scan-requires c =
    entries_few c.args.file.now c.text_count.ensures.0 c.node_count.ensures.0 (accepted c.args.file.now (sym c.read.ensures ∙ passed_zero c.read.result (sym c.is_err.ensures.value ∙ c.if-is_err.false)))

pub returns : goal.returns
returns c =
    let f = c.args.file.now in
    let a : AreBytes f = each_of f 0 (λ i h. omega (arith, c.type_inv.file i)) in
    c.scan.ensures
    ∙ ap (Rule.scan 0 0) (entries_slice f c.text_count.ensures.0 c.node_count.ensures.0)
    ∙ plain_file f a (sym c.read.ensures ∙ passed_zero c.read.result (sym c.is_err.ensures.value ∙ c.if-is_err.false))
