-- Statements with no statement inside: Return, ExprStmt, VarDecl.
use Rattle.std.specs.Prelude.{ℕ, ◌+◌, ◌≤◌, ◌≡◌, refl, Bool, List, [], ◌∷◌, length, drop, get_or}
use Rattle.std.proofs.Common.{sym, ap, ◌∙◌, append_assoc, arith}
use Rattle.sifv.specs.Value.{One, Null}
use Rattle.opc.specs.Op.{Stc, FnRet, FnStackPush, Instr, instr}
use Rattle.opc.specs.Record.{Fields, fields, field_bytes}
use Rattle.ast.specs.Tree.{Expr, Rhs, Stmt, VarInit}
use Rattle.ast.specs.Flat.{flat_expr, entry_bytes, body_bytes}
use Rattle.compiler.specs.Lower.{Place, push, prev, expr_regs, lower_expr}
use Rattle.emit.specs.declared.Low.{Low}
use Rattle.emit.specs.declared.Done.{Done}
use Rattle.emit.specs.inner.Run.{kept}
use Rattle.emit.specs.inner.Made.{Made, At, Reads, Front, ReadsAt, Goes}
use Rattle.emit.specs.laws.Laws.{did_then, did_as}
use Rattle.emit.specs.laws.Spell.{in_node, first_body, fits_bodies}
use Rattle.emit.specs.laws.Regs.{expr_regs_lem}
use Rattle.emit.specs.laws.Places.{made_as, made_start, made_reads, made_goes, made_push, made_reg, made_kept}
use Rattle.expr.specs.inner.Parts.{exprs, rights}
use Rattle.stmt.specs.inner.Parts.{Emitted, statements}
use Rattle.stmt.specs.laws.Leaves.{Pushed}
use Rattle.stmt.specs.laws.Kinds.{Is, is_return, is_result, is_expr, is_var, is_init, Whole, read_as, made_as_kind, stmt_room, count_here}

module _ (n : ℕ) {c b : List ℕ} where
  -- a VarDecl has a name
  pub var_room : {s : Low} {buf : List ℕ} → get_or c 0 0 ≡ 8 → Reads (statements n) c b s buf → 1 ≤ length b
  var_room z h = read_as n z (λ t i. by_kind i) h
    where
      by_kind : {t : Stmt} → Is 8 t → At (statements n) t c b → 1 ≤ length b
      by_kind is_var d = omega (arith, fits_bodies d.spells)
      by_kind is_init d = omega (arith, fits_bodies d.spells)

  init_right : {x : ℕ} {r : Rhs} → At (statements n) (VarInit x r) c b → At (rights (get_or b 0 0)) r (drop 2 c) (drop 1 b)
  init_right d = record { spells = in_node d.spells; ok = d.ok.0 }

module _ (n : ℕ) {c b : List ℕ} {s : Low} {a : Done} {buf : List ℕ} where
  -- ---- an expression behind the node

  module _ (e : a ≡ record { cont = 2; body = 0; lbl = n; low = s }) where
    expr_reads : Reads (statements n) c b s buf → (x : Expr) → At exprs x (drop 2 c) b → ReadsAt exprs c b a buf
    expr_reads h x d = made_reads (made_start e) exprs x c b d h.ready (stmt_room n h) (omega arith)

    pub expr_stmt_reads : get_or c 0 0 ≡ 7 → Reads (statements n) c b s buf → ReadsAt exprs c b a buf
    expr_stmt_reads z h = read_as n z (λ t i. by_kind i) h
      where
        by_kind : {t : Stmt} → Is 7 t → At (statements n) t c b → ReadsAt exprs c b a buf
        by_kind (is_expr {e = x}) d = expr_reads h x (record { spells = in_node d.spells; ok = d.ok.0 })

    pub result_reads : get_or c 0 0 ≡ 6 → (get_or c 1 0 ≡ 0 → ⊥) → Reads (statements n) c b s buf → ReadsAt exprs c b a buf
    result_reads z y h = read_as n z (λ t i. by_kind i) h
      where
        by_kind : {t : Stmt} → Is 6 t → At (statements n) t c b → ReadsAt exprs c b a buf
        by_kind is_return d = absurd (y (count_here d.spells))
        by_kind (is_result {e = x}) d = expr_reads h x (record { spells = in_node d.spells; ok = d.ok.0 })

    module _ {k : Bool} where
      expr_made : (x : Expr) → At exprs x (drop 2 c) b → {r : Done} {buf' : List ℕ} → Goes exprs c b k a buf r buf' → (w : Place) → k ≡ kept s.decls w.section
          → Made (lower_expr x w n s.reg) (2 + length (entry_bytes (flat_expr x))) (length (body_bytes (flat_expr x))) n s buf r buf'
      expr_made x d g w kw = made_as refl refl (omega arith) refl (made_goes (made_start e) exprs x c b d g w kw s.reg (omega arith))

      pub expr_stmt_front : {r : Done} {buf' : List ℕ} → get_or c 0 0 ≡ 7 → Goes exprs c b k a buf r buf' → Front (statements n) c b k n s buf r buf'
      expr_stmt_front {r} {buf'} z g = made_as_kind n z (λ t i. by_kind i)
        where
          by_kind : {t : Stmt} → Is 7 t → At (statements n) t c b → Whole k n s buf r buf' t
          by_kind (is_expr {e = x}) d w kw = made_as refl (omega arith) (omega arith) (omega arith) (expr_made x (record { spells = in_node d.spells; ok = d.ok.0 }) g w kw)

      pub return_front : {r : Done} {buf' : List ℕ} → get_or c 0 0 ≡ 6 → get_or c 1 0 ≡ 0 → Emitted (λ w. push w a.lbl FnRet ∷ []) a.lbl k a buf r buf' → Front (statements n) c b k n s buf r buf'
      return_front {r} {buf'} z y g = made_as_kind n z (λ t i. by_kind i)
        where
          by_kind : {t : Stmt} → Is 6 t → At (statements n) t c b → Whole k n s buf r buf' t
          by_kind is_return d w kw = made_as refl (omega arith) (omega arith) (omega arith) ((rw e at g).made w kw)
          by_kind (is_result {e = x}) d w kw = absurd (omega (arith, y, count_here d.spells))

      -- the result, its register pushed, and the return
      pub result_front : {f r : Done} {buf₁ buf₂ buf₃ : List ℕ} {g₁ : Fields} {q : Done} → get_or c 0 0 ≡ 6 → (get_or c 1 0 ≡ 0 → ⊥) → Goes exprs c b k a buf q buf₁
          → g₁ ≡ fields n 19 0 (prev q.low.reg) 0 0 0 0 → Pushed k q (field_bytes g₁) buf₁ f buf₂ → Emitted (λ w. push w f.lbl FnRet ∷ []) f.lbl k f buf₂ r buf₃
          → Front (statements n) c b k n s buf r buf₃
      result_front {f} {r} {buf₁} {buf₂} {buf₃} {g₁} {q} z y g eg h t = made_as_kind n z (λ t i. by_kind i)
        where
          by_kind : {v : Stmt} → Is 6 v → At (statements n) v c b → Whole k n s buf r buf₃ v
          by_kind is_return d w kw = absurd (y (count_here d.spells))
          by_kind (is_result {e = x}) d w kw =
              let m = expr_made x (record { spells = in_node d.spells; ok = d.ok.0 }) g w kw in
              let o : ℕ → Instr = λ i. instr n (FnStackPush (prev i)) in
              let v = s.reg + expr_regs x in
              let m₂ = made_push m w kw (o q.low.reg) (o v) h refl (ap field_bytes eg) (λ u. ap o (made_reg m v (ap (λ (i : ℕ). s.reg + i) (sym (expr_regs_lem x w n s.reg))) u)) in
              let m₃ = (rw m₂.lbl at t).made w (made_kept m₂ w kw) in
              record {
                cont = m₃.cont ∙ m₂.cont ∙ omega arith;
                body = m₃.body ∙ m₂.body ∙ omega arith;
                lbl = m₃.lbl ∙ omega arith;
                did = did_as (append_assoc (lower_expr x w n s.reg) (push w n (FnStackPush (prev v)) ∷ []) (push w n FnRet ∷ [])) (did_then m₂.did m₃.did);
              }

  -- ---- a name, and what it is assigned

  module _ (e : a ≡ record { cont = 2; body = 1; lbl = n; low = s }) (z : get_or c 0 0 ≡ 8) where
    pub init_reads : (get_or c 1 0 ≡ 0 → ⊥) → Reads (statements n) c b s buf → ReadsAt (rights (get_or b 0 0)) c b a buf
    init_reads y h = read_as n z (λ t i. by_kind i) h
      where
        by_kind : {t : Stmt} → Is 8 t → At (statements n) t c b → ReadsAt (rights (get_or b 0 0)) c b a buf
        by_kind is_var d = absurd (y (count_here d.spells))
        by_kind (is_init {r = r}) d = made_reads (made_start e) (rights (get_or b 0 0)) r c b (init_right n d) h.ready (stmt_room n h) (var_room n z h)

    pub init_front : {k : Bool} {r : Done} {buf' : List ℕ} → (get_or c 1 0 ≡ 0 → ⊥) → Goes (rights (get_or b 0 0)) c b k a buf r buf' → Front (statements n) c b k n s buf r buf'
    init_front {k} {r} {buf'} y g = made_as_kind n z (λ t i. by_kind i)
      where
        by_kind : {t : Stmt} → Is 8 t → At (statements n) t c b → Whole k n s buf r buf' t
        by_kind is_var d w kw = absurd (y (count_here d.spells))
        by_kind (is_init {r = t}) d w kw = made_as (rw (first_body d.spells)) (omega arith) (omega arith) (omega arith) (made_goes (made_start e) (rights (get_or b 0 0)) t c b (init_right n d) g w kw s.reg (omega arith))

    pub var_front : {k : Bool} {r : Done} {g : Fields} {buf' : List ℕ} → get_or c 1 0 ≡ 0 → g ≡ fields n 9 4 (get_or b 0 0) 0 0 0 0 → Pushed k a (field_bytes g) buf r buf' → Front (statements n) c b k n s buf r buf'
    var_front {k} {r} {g} {buf'} y eg h = made_as_kind n z (λ t i. by_kind i)
      where
        by_kind : {t : Stmt} → Is 8 t → At (statements n) t c b → Whole k n s buf r buf' t
        by_kind (is_var {x = x}) d w kw =
            let o = instr n (Stc (One Null) x) in
            made_as refl (omega arith) (omega arith) (omega arith) (made_push (made_start e) w kw o o h refl (ap field_bytes (rw (first_body d.spells) at eg)) (λ u. refl))
        by_kind is_init d w kw = absurd (omega (arith, y, count_here d.spells))
