-- The whole tree: its node, then its statements.
use Rattle.std.specs.Prelude.{ℕ, ◌≤◌, ◌≡◌, refl, Bool, true, false, not, List, [], T, length, drop, get_or}
use Rattle.std.proofs.Common.{sym, ap, ◌∙◌, append-nil, arith}
use Rattle.ast.specs.Tree.{Stmts}
use Rattle.ast.specs.Flat.{flat, entry_bytes, body_bytes}
use Rattle.ast.specs.Limits.{numbers_fit}
use Rattle.compiler.specs.Lower.{Main, top, or_nop, lower_stmts, lower_tree}
use Rattle.compiler.proofs.laws.Accepted.{tree_labels}
use Rattle.emit.specs.declared.Low.{Low}
use Rattle.emit.specs.declared.Done.{Done}
use Rattle.emit.specs.inner.Run.{kept, Ready, Did}
use Rattle.emit.specs.inner.Made.{Spells, At, ReadsAt, Goes}
use Rattle.emit.specs.laws.Laws.{did_as}
use Rattle.emit.specs.laws.Spell.{in_node}
use Rattle.stmt.specs.inner.Parts.{bodies}

main_kept : (d : Bool) → not d ≡ kept d Main
main_kept true = refl
main_kept false = refl

module _ (c b : List ℕ) (t : Stmts) (few : length (flat t) ≤ 1024) (ec : c ≡ entry_bytes (flat t)) (eb : b ≡ body_bytes (flat t)) (fit : T (numbers_fit t)) where
  tree_at : (n : ℕ) → n ≡ 0 → At (bodies n (get_or c 1 0)) t (drop 2 c) (drop 0 b)
  tree_at n q =
      let s : Spells (flat t) c b = record { rest = []; restb = []; nodes = ec ∙ sym (append-nil (entry_bytes (flat t))); bodies = eb ∙ sym (append-nil (body_bytes (flat t))) } in
      record { spells = in_node s; ok = (ap (λ (l : List ℕ). get_or l 1 0) ec, fit, omega (arith, q, tree_labels t few)) }

  -- there is a node
  pub tree_room : 2 ≤ length c
  tree_room = omega (arith, ap length ec)

  module _ {s : Low} {p : Done} {buf : List ℕ} (e : p ≡ record { cont = 2; body = 0; lbl = 0; low = s }) where
    pub tree_reads : Ready s buf → ReadsAt (bodies p.lbl (get_or c 1 0)) c b p buf
    tree_reads r = rw e (record { ready = r; cont = tree_room; body = omega arith; tree = t; spelt = tree_at 0 refl })

    pub tree_did : {k : Bool} {d : Done} {buf' : List ℕ} → k ≡ not s.decls → s.reg ≡ 0 → Goes (bodies p.lbl (get_or c 1 0)) c b k p buf d buf' → Did (lower_tree t) s buf d.low buf'
    tree_did ek z g =
        let m = (rw e at g).goes t (tree_at 0 refl) top (ek ∙ main_kept s.decls) in
        did_as (ap (λ (i : ℕ). or_nop t top 0 (lower_stmts t top 0 i)) z) m.did
