-- Statements one after the other, and the Nop for none.
use Rattle.std.specs.Prelude.{ℕ, suc, ◌+◌, ◌≤◌, ◌<◌, ◌≡◌, refl, Bool, List, [], ◌∷◌, length, drop, get_or}
use Rattle.std.proofs.Common.{sym, ap, arith}
use Rattle.std.proofs.Math.Facts.{and_yes}
use Rattle.opc.specs.Op.{Nop}
use Rattle.ast.specs.Tree.{Stmt, Block, Stmts, no_stmts, more_stmts}
use Rattle.ast.specs.Flat.{flat_stmt, flat_stmts, entry_bytes, body_bytes}
use Rattle.ast.specs.Limits.{every_stmt, every}
use Rattle.compiler.specs.Lower.{Place, push, stmt_regs, stmt_labels}
use Rattle.emit.specs.declared.Low.{Low}
use Rattle.emit.specs.declared.Done.{Done}
use Rattle.emit.specs.inner.Run.{kept}
use Rattle.emit.specs.inner.Made.{Made, At, Reads, Front, ReadsAt, Goes}
use Rattle.emit.specs.laws.Spell.{in_node, first, second_from}
use Rattle.emit.specs.laws.Places.{made_as, made_start, made_reads, made_goes}
use Rattle.stmt.specs.inner.Parts.{any_text, fits, Emitted, statements, lists, bodies}
use Rattle.stmt.specs.laws.Regs.{stmt_regs_lem}
use Rattle.stmt.specs.laws.Leaves.{here}
use Rattle.stmt.specs.laws.Kinds.{Is, is_block, Whole, read_as, made_as_kind, stmt_room, stmt_size, entries_both, bodies_both, count_here, reads_nodes, reads_bodies, goes_ready, goes_cont, goes_body, goes_lbl}

-- ---- a first statement and the others

module _ (c b : List ℕ) (u v l n : ℕ) (s : Stmt) (k : Stmts) (h : At (lists l n) (more_stmts s k) (drop u c) (drop v b)) where
  list_head : At (statements l) s (drop u c) (drop v b)
  list_head = record {
    spells = first (flat_stmt s) (flat_stmts k) h.spells;
    ok = ((and_yes (every_stmt any_text fits s) (every any_text fits k) h.ok.1).0, omega (arith, h.ok.2));
  }

  list_tail : (m j : ℕ) → m ≡ l + stmt_labels s → suc j ≡ n → At (lists m j) k (drop (u + length (entry_bytes (flat_stmt s))) c) (drop (v + length (body_bytes (flat_stmt s))) b)
  list_tail m j e q = record {
    spells = second_from (flat_stmt s) (flat_stmts k) u v c b h.spells;
    ok = (omega (arith, h.ok.0), (and_yes (every_stmt any_text fits s) (every any_text fits k) h.ok.1).1, omega (arith, h.ok.2));
  }

module _ (n : ℕ) {c b : List ℕ} {p : Done} {buf : List ℕ} (z : n ≡ 0 → ⊥) where
  pub list_first : ReadsAt (lists p.lbl n) c b p buf → ReadsAt (statements p.lbl) c b p buf
  list_first h = by_tree h.tree h.spelt
    where
      by_tree : (t : Stmts) → At (lists p.lbl n) t (drop p.cont c) (drop p.body b) → ReadsAt (statements p.lbl) c b p buf
      by_tree no_stmts d = absurd (z d.ok.0)
      by_tree (more_stmts s k) d = record { ready = h.ready; cont = h.cont; body = h.body; tree = s; spelt = list_head c b p.cont p.body p.lbl n s k d }

  module _ {k : Bool} {a : Done} {buf₁ : List ℕ} (g : Goes (statements p.lbl) c b k p buf a buf₁) where
    -- it is read on behind the first
    pub list_falls : ReadsAt (lists p.lbl n) c b p buf → (p.cont < a.cont) × (a.cont ≤ length c)
    list_falls h =
        let f = list_first h in
        (omega (arith, goes_cont (statements p.lbl) f g, stmt_size f.tree), omega (arith, goes_cont (statements p.lbl) f g, reads_nodes (statements p.lbl) f))

    module _ (j : ℕ) (q : suc j ≡ n) where
      pub list_next : ReadsAt (lists p.lbl n) c b p buf → ReadsAt (lists a.lbl j) c b a buf₁
      list_next h = by_tree h.tree h.spelt
        where
          by_tree : (t : Stmts) → At (lists p.lbl n) t (drop p.cont c) (drop p.body b) → ReadsAt (lists a.lbl j) c b a buf₁
          by_tree no_stmts d = absurd (z d.ok.0)
          by_tree (more_stmts s t) d =
              let P = statements p.lbl in
              let f : ReadsAt P c b p buf = record { ready = h.ready; cont = h.cont; body = h.body; tree = s; spelt = list_head c b p.cont p.body p.lbl n s t d } in
              let ec = goes_cont P f g in
              let eb = goes_body P f g in
              record {
                ready = goes_ready P f g;
                cont = omega (arith, ec, reads_nodes P f);
                body = omega (arith, eb, reads_bodies P f);
                tree = t;
                spelt = rw (ec, eb) (list_tail c b p.cont p.body p.lbl n s t d a.lbl j (goes_lbl P f g) q);
              }

      pub list_goes : {r : Done} {buf₂ : List ℕ} → Goes (lists a.lbl j) c b k a buf₁ r buf₂ → Goes (lists p.lbl n) c b k p buf r buf₂
      list_goes {r} {buf₂} g₂ = record { goes = λ t d w kw. by_tree t d w kw }
        where
          by_tree : (t : Stmts) → At (lists p.lbl n) t (drop p.cont c) (drop p.body b) → (w : Place) → k ≡ kept p.low.decls w.section
              → Made ((lists p.lbl n).emits t w p.lbl p.low.reg) (p.cont + length (entry_bytes (flat_stmts t))) (p.body + length (body_bytes (flat_stmts t))) ((lists p.lbl n).next t p.lbl) p.low buf r buf₂
          by_tree no_stmts d w kw = absurd (z d.ok.0)
          by_tree (more_stmts s t) d w kw =
              let m = g.goes s (list_head c b p.cont p.body p.lbl n s t d) w kw in
              let e = list_tail c b p.cont p.body p.lbl n s t d a.lbl j m.lbl q in
              let x = made_goes m (lists a.lbl j) t c b e g₂ w kw (p.low.reg + stmt_regs s) (ap (λ (i : ℕ). p.low.reg + i) (sym (stmt_regs_lem s w p.lbl p.low.reg))) in
              made_as refl (omega (arith, entries_both (flat_stmt s) (flat_stmts t))) (omega (arith, bodies_both (flat_stmt s) (flat_stmts t))) (omega arith) x

-- none
pub list_none : (n : ℕ) {c b : List ℕ} {k : Bool} {p : Done} {buf : List ℕ} → n ≡ 0 → Goes (lists p.lbl n) c b k p buf p buf
list_none n {c} {b} {k} {p} {buf} z = record { goes = λ t d w kw. by_tree t d w }
  where
    by_tree : (t : Stmts) → At (lists p.lbl n) t (drop p.cont c) (drop p.body b) → (w : Place)
        → Made ((lists p.lbl n).emits t w p.lbl p.low.reg) (p.cont + length (entry_bytes (flat_stmts t))) (p.body + length (body_bytes (flat_stmts t))) ((lists p.lbl n).next t p.lbl) p.low buf p buf
    by_tree no_stmts d w = made_as refl (omega arith) (omega arith) (omega arith) (here p buf)
    by_tree (more_stmts s t) d w = absurd (omega (arith, z, d.ok.0))

-- ---- a Block's statements

pub body_list : (n : ℕ) {c b : List ℕ} {p : Done} {buf : List ℕ} → ReadsAt (bodies p.lbl n) c b p buf → ReadsAt (lists p.lbl n) c b p buf
body_list n h = record { ready = h.ready; cont = h.cont; body = h.body; tree = h.tree; spelt = record { spells = h.spelt.spells; ok = h.spelt.ok } }

pub body_none : (n : ℕ) {c b : List ℕ} {k : Bool} {p r : Done} {buf buf' : List ℕ} → n ≡ 0 → Emitted (λ w. push w p.lbl Nop ∷ []) p.lbl k p buf r buf' → Goes (bodies p.lbl n) c b k p buf r buf'
body_none n {c} {b} {k} {p} {r} {buf} {buf'} z g = record { goes = λ t d w kw. by_tree t d w kw }
  where
    by_tree : (t : Stmts) → At (bodies p.lbl n) t (drop p.cont c) (drop p.body b) → (w : Place) → k ≡ kept p.low.decls w.section
        → Made ((bodies p.lbl n).emits t w p.lbl p.low.reg) (p.cont + length (entry_bytes (flat_stmts t))) (p.body + length (body_bytes (flat_stmts t))) ((bodies p.lbl n).next t p.lbl) p.low buf r buf'
    by_tree no_stmts d w kw = made_as refl (omega arith) (omega arith) (omega arith) (g.made w kw)
    by_tree (more_stmts s t) d w kw = absurd (omega (arith, z, d.ok.0))

pub body_some : (n : ℕ) {c b : List ℕ} {k : Bool} {p r : Done} {buf buf' : List ℕ} → (n ≡ 0 → ⊥) → Goes (lists p.lbl n) c b k p buf r buf' → Goes (bodies p.lbl n) c b k p buf r buf'
body_some n {c} {b} {k} {p} {r} {buf} {buf'} z g = record { goes = λ t d w kw. by_tree t d w kw }
  where
    by_tree : (t : Stmts) → At (bodies p.lbl n) t (drop p.cont c) (drop p.body b) → (w : Place) → k ≡ kept p.low.decls w.section
        → Made ((bodies p.lbl n).emits t w p.lbl p.low.reg) (p.cont + length (entry_bytes (flat_stmts t))) (p.body + length (body_bytes (flat_stmts t))) ((bodies p.lbl n).next t p.lbl) p.low buf r buf'
    by_tree no_stmts d w kw = absurd (z d.ok.0)
    by_tree (more_stmts s t) d w kw = g.goes (more_stmts s t) (record { spells = d.spells; ok = d.ok }) w kw

-- ---- the Block itself: its node, then its statements

block_body : {c b : List ℕ} {n : ℕ} {s : Low} {a : Done} → a ≡ record { cont = 2; body = 0; lbl = n; low = s } → {t : Stmts} → At (statements n) (Block t) c b → At (bodies a.lbl (get_or c 1 0)) t (drop 2 c) b
block_body e d = record { spells = in_node d.spells; ok = (count_here d.spells, d.ok.0, rw e d.ok.1) }

module _ (n : ℕ) {c b : List ℕ} {s : Low} {a : Done} {buf : List ℕ} (z : get_or c 0 0 ≡ 2) (e : a ≡ record { cont = 2; body = 0; lbl = n; low = s }) where
  pub block_reads : Reads (statements n) c b s buf → ReadsAt (bodies a.lbl (get_or c 1 0)) c b a buf
  block_reads h = read_as n z (λ t i. by_kind i) h
    where
      by_kind : {y : Stmt} → Is 2 y → At (statements n) y c b → ReadsAt (bodies a.lbl (get_or c 1 0)) c b a buf
      by_kind (is_block {b = t}) d = made_reads (made_start e) (bodies a.lbl (get_or c 1 0)) t c b (block_body e d) h.ready (stmt_room n h) (omega arith)

  pub block_front : {k : Bool} {r : Done} {buf' : List ℕ} → Goes (bodies a.lbl (get_or c 1 0)) c b k a buf r buf' → Front (statements n) c b k n s buf r buf'
  block_front {k} {r} {buf'} g = made_as_kind n z (λ t i. by_kind i)
    where
      by_kind : {y : Stmt} → Is 2 y → At (statements n) y c b → Whole k n s buf r buf' y
      by_kind (is_block {b = t}) d w kw = made_as refl (omega arith) (omega arith) refl (made_goes (made_start e) (bodies a.lbl (get_or c 1 0)) t c b (block_body e d) g w kw s.reg (omega arith))
