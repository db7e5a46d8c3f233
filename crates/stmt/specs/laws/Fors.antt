-- What a For goes over, and what stands before and behind its Block.
use Rattle.std.specs.Prelude.{ℕ, ◌+◌, ◌≤◌, ◌≡◌, refl, Bool, List, [], ◌∷◌, length, get_or}
use Rattle.std.proofs.Common.{sym, ap, ◌∙◌, arith}
use Rattle.sifv.specs.Value.{Num, One}
use Rattle.sifv.specs.Slot.{word_of}
use Rattle.opc.specs.Op.{Lt, Jmpt, Binary, Ldn, Ldas, Ldav, Stc, Str, JmpCnd, Incrr, Instr, instr}
use Rattle.opc.specs.Record.{Fields, fields, field_bytes, encode_instr}
use Rattle.ast.specs.Flat.{flat_source, entry_bytes, body_bytes}
use Rattle.ast.specs.Tree.{Exprs, Source, OverName, OverCall, FnCall}
use Rattle.compiler.specs.Lower.{Place, Reg, push, inner, prev, expr_regs, source_name}
use Rattle.emit.specs.declared.Low.{Low}
use Rattle.emit.specs.declared.Done.{Done}
use Rattle.emit.specs.inner.Run.{kept, Ready}
use Rattle.emit.specs.inner.Made.{Made, At, Reads, Front}
use Rattle.emit.specs.laws.Laws.{unrefused, some_place}
use Rattle.emit.specs.laws.Spell.{first_kind, first_body, fits_nodes, fits_bodies}
use Rattle.emit.specs.laws.Places.{made_start, made_ready, made_kept, made_reg, made_push, made_load}
use Rattle.emit.specs.laws.Regs.{expr_regs_lem}
use Rattle.expr.specs.inner.Parts.{exprs}
use Rattle.stmt.specs.inner.Parts.{Emitted, for_head, for_tail, source_text, sources}
use Rattle.stmt.specs.laws.Leaves.{Pushed, Loaded, emit_one}
use Rattle.numeric.specs.Whole.{whole}

-- the bits of 0
zero_word : word_of (Num (whole 0)) ≡ 0
unfolding lib.Ieee.to_bits lib.Ieee.of_int
zero_word = refl

zero_stored : {g : Fields} {n i : ℕ} → g ≡ fields n 9 1 i 0 0 0 0 → (p : ℕ) → field_bytes g ≡ encode_instr (instr n (Stc (One (Num (whole 0))) i)) p
zero_stored {n = n} {i = i} h p = ap field_bytes h ∙ ap (λ (t : ℕ). field_bytes (fields n 9 1 i 0 0 0 t)) (sym zero_word)

-- ---- before the Block

module _ {k : Bool} {p a : Done} {g₁ : Fields} {buf buf₁ : List ℕ} {i : ℕ} (e₁ : g₁ ≡ fields p.lbl 9 1 i 0 0 0 0) (h₁ : Pushed k p (field_bytes g₁) buf a buf₁) where
  pub head₁ : Emitted (λ w. push w p.lbl (Stc (One (Num (whole 0))) i) ∷ []) p.lbl k p buf a buf₁
  head₁ = emit_one p.lbl (Stc (One (Num (whole 0))) i) refl (zero_stored e₁) h₁

  module _ {b : Done} {g₂ : Fields} {buf₂ : List ℕ} {x : ℕ} (e₂ : g₂ ≡ fields p.lbl 6 0 x a.low.reg 0 0 0) (h₂ : Loaded k a (field_bytes g₂) buf₁ b buf₂) where
    pub head₂ : Emitted (λ w. push w p.lbl (Stc (One (Num (whole 0))) i) ∷ (Reg ∷ (push w p.lbl (Ldas x p.low.reg) ∷ []))) p.lbl k p buf b buf₂
    head₂ = record {
      made = λ w kw.
          let m = head₁.made w kw in
          let o : ℕ → Instr = λ q. instr p.lbl (Ldas x q) in
          made_load m w kw (o a.low.reg) (o p.low.reg) h₂ refl (ap field_bytes e₂) (λ z. ap o (made_reg m p.low.reg (omega arith) z));
    }

    module _ {c : Done} {g₃ : Fields} {buf₃ : List ℕ} {r : ℕ} (e₃ : g₃ ≡ fields (p.lbl + 1) 4 0 r i 0 0 0) (h₃ : Pushed k b (field_bytes g₃) buf₂ c buf₃) where
      pub head₃ : Emitted (λ w.
          push w p.lbl (Stc (One (Num (whole 0))) i) ∷ (Reg ∷ (push w p.lbl (Ldas x p.low.reg) ∷ (push (inner w) (p.lbl + 1) (Ldn r i) ∷ [])))) p.lbl k p buf c buf₃
      head₃ = record {
        made = λ w kw.
            let o = instr (p.lbl + 1) (Ldn r i) in
            made_push (head₂.made w kw) (inner w) kw o o h₃ refl (ap field_bytes e₃) (λ z. refl);
      }

      module _ {d : Done} {g₄ : Fields} {buf₄ : List ℕ} (e₄ : g₄ ≡ fields (p.lbl + 1) 7 0 x r c.low.reg 0 0) (h₄ : Loaded k c (field_bytes g₄) buf₃ d buf₄) where
        pub head₄ : Emitted (λ w.
            push w p.lbl (Stc (One (Num (whole 0))) i) ∷ (Reg ∷ (push w p.lbl (Ldas x p.low.reg) ∷
            (push (inner w) (p.lbl + 1) (Ldn r i) ∷ (Reg ∷ (push (inner w) (p.lbl + 1) (Ldav x r (p.low.reg + 1)) ∷ [])))))) p.lbl k p buf d buf₄
        head₄ = record {
          made = λ w kw.
              let m = head₃.made w kw in
              let o : ℕ → Instr = λ q. instr (p.lbl + 1) (Ldav x r q) in
              made_load m (inner w) kw (o c.low.reg) (o (p.low.reg + 1)) h₄ refl (ap field_bytes e₄) (λ z. ap o (made_reg m (p.low.reg + 1) (omega arith) z));
        }

        pub head₅ : {e : Done} {g₅ : Fields} {buf₅ : List ℕ} {v : ℕ} → g₅ ≡ fields (p.lbl + 1) 11 0 c.low.reg v 0 0 0 → Pushed k d (field_bytes g₅) buf₄ e buf₅
            → Emitted (for_head i v x r p.lbl p.low.reg) p.lbl k p buf e buf₅
        head₅ {v = v} e₅ h₅ = record {
          made = λ w kw.
              let m₃ = head₃.made w kw in
              let m = head₄.made w kw in
              let o : ℕ → Instr = λ q. instr (p.lbl + 1) (Str q v) in
              let back : d.low.refused ≡ 0 → c.low.refused ≡ 0 = λ z. unrefused (h₄.3 (inner w) (instr (p.lbl + 1) (Ldav x r c.low.reg)) refl (ap field_bytes e₄) (made_kept m₃ w kw)) z in
              made_push m (inner w) kw (o c.low.reg) (o (p.low.reg + 1)) h₅ refl (ap field_bytes e₅) (λ z. ap o (made_reg m₃ (p.low.reg + 1) (omega arith) (back z)));
        }

-- ---- behind it

module _ {k : Bool} {p a : Done} {g₁ : Fields} {buf buf₁ : List ℕ} {r : ℕ} (e₁ : g₁ ≡ fields p.lbl 14 0 r 0 0 0 0) (h₁ : Pushed k p (field_bytes g₁) buf a buf₁) where
  pub tail₁ : Emitted (λ w. push w p.lbl (Incrr r) ∷ []) p.lbl k p buf a buf₁
  tail₁ = emit_one p.lbl (Incrr r) refl (λ j. ap field_bytes e₁) h₁

  module _ {b : Done} {g₂ : Fields} {buf₂ : List ℕ} {i : ℕ} (e₂ : g₂ ≡ fields p.lbl 11 0 r i 0 0 0) (h₂ : Pushed k a (field_bytes g₂) buf₁ b buf₂) where
    pub tail₂ : Emitted (λ w. push w p.lbl (Incrr r) ∷ (push w p.lbl (Str r i) ∷ [])) p.lbl k p buf b buf₂
    tail₂ = record { made = λ w kw. let o = instr p.lbl (Str r i) in made_push (tail₁.made w kw) w kw o o h₂ refl (ap field_bytes e₂) (λ z. refl) }

    module _ {c : Done} {g₃ : Fields} {buf₃ : List ℕ} {size : ℕ} (e₃ : g₃ ≡ fields p.lbl 1 9 r size b.low.reg 0 0) (h₃ : Loaded k b (field_bytes g₃) buf₂ c buf₃) where
      pub tail₃ : Emitted (λ w. push w p.lbl (Incrr r) ∷ (push w p.lbl (Str r i) ∷ (Reg ∷ (push w p.lbl (Binary Lt r size p.low.reg) ∷ [])))) p.lbl k p buf c buf₃
      tail₃ = record {
        made = λ w kw.
            let m = tail₂.made w kw in
            let o : ℕ → Instr = λ q. instr p.lbl (Binary Lt r size q) in
            made_load m w kw (o b.low.reg) (o p.low.reg) h₃ refl (ap field_bytes e₃) (λ z. ap o (made_reg m p.low.reg (omega arith) z));
      }

      pub tail₄ : {d : Done} {g₄ : Fields} {buf₄ : List ℕ} {l : ℕ} → g₄ ≡ fields p.lbl 12 1 b.low.reg 0 0 0 l → Pushed k c (field_bytes g₄) buf₃ d buf₄
          → Emitted (for_tail i r size l p.lbl p.low.reg) p.lbl k p buf d buf₄
      tail₄ {l = l} e₄ h₄ = record {
        made = λ w kw.
            let m₂ = tail₂.made w kw in
            let m = tail₃.made w kw in
            let o : ℕ → Instr = λ q. instr p.lbl (JmpCnd Jmpt q l) in
            let back : c.low.refused ≡ 0 → b.low.refused ≡ 0 = λ z. unrefused (h₃.3 w (instr p.lbl (Binary Lt r size b.low.reg)) refl (ap field_bytes e₃) (made_kept m₂ w kw)) z in
            made_push m w kw (o b.low.reg) (o p.low.reg) h₄ refl (ap field_bytes e₄) (λ z. ap o (made_reg m₂ p.low.reg (omega arith) (back z)));
      }

-- ---- what it goes over

data SourceKind : ℕ → Source → Type 0 where
  by_name : {a : ℕ} → SourceKind 21 (OverName a)
  by_call : {f : ℕ} {ps : Exprs} → SourceKind 15 (OverCall f ps)

source_kind : {s : Source} {c b : List ℕ} → At sources s c b → SourceKind (get_or c 0 0) s
source_kind {s = OverName a} h = rw (first_kind h.spells) by_name
source_kind {s = OverCall f ps} h = rw (first_kind h.spells) by_call

pub source_node : {s : Source} {c b : List ℕ} → At sources s c b → (2 ≤ length c) × (1 ≤ length b)
source_node {s = OverName a} h = (fits_nodes h.spells, fits_bodies h.spells)
source_node {s = OverCall f ps} h = (omega (arith, fits_nodes h.spells), omega (arith, fits_bodies h.spells))

-- its name
pub source_named : {s : Source} {c b : List ℕ} → At sources s c b → source_text (get_or c 0 0) (get_or b 0 0) ≡ source_name s
source_named {s = OverName a} h = rw (first_kind h.spells) (first_body h.spells)
source_named {s = OverCall f ps} h = rw (first_kind h.spells)

-- a call is an expression
is_call : {n : ℕ} {s : Source} → SourceKind n s → (n ≡ 21 → ⊥) → {c b : List ℕ} → At sources s c b → (f : ℕ) × (ps : Exprs) × (s ≡ OverCall f ps) × At exprs (FnCall f ps) c b
is_call by_name g h = absurd (g refl)
is_call (by_call {f} {ps}) g h = (f, ps, refl, record { spells = h.spells; ok = h.ok })

module _ {c b : List ℕ} {s : Low} {buf : List ℕ} where
  pub source_reads : (get_or c 0 0 ≡ 21 → ⊥) → Reads sources c b s buf → Reads exprs c b s buf
  source_reads g h = let q = is_call (source_kind h.spelt) g h.spelt in record { ready = h.ready; tree = FnCall q.0 q.1; spelt = q.3 }

  pub name_front : {n : ℕ} {k : Bool} {r : Done} → get_or c 0 0 ≡ 21 → r ≡ record { cont = 2; body = 1; lbl = n; low = s } → Front sources c b k n s buf r buf
  name_front {n} {k} {r} g e = record { front = λ t h w kw. by_kind (rw g at (source_kind h)) w }
    where
      by_kind : {t : Source} → SourceKind 21 t → (w : Place) → Made (sources.emits t w n s.reg) (length (entry_bytes (flat_source t))) (length (body_bytes (flat_source t))) n s buf r buf
      by_kind by_name w = made_start e

  module _ {n : ℕ} {k : Bool} {a : Done} {buf₁ : List ℕ} (q : Front exprs c b k n s buf a buf₁) where
    pub call_ready : Reads exprs c b s buf → Ready a.low buf₁
    call_ready h = let w = some_place k s.decls in made_ready (q.front h.tree h.spelt w.0 w.1) h.ready

    pub call_front : {r : Done} {f : Fields} {buf₂ : List ℕ} → (get_or c 0 0 ≡ 21 → ⊥) → f ≡ fields n 11 0 (prev a.low.reg) 0 0 0 0 → Pushed k a (field_bytes f) buf₁ r buf₂ → Front sources c b k n s buf r buf₂
    call_front {r} {f} {buf₂} g e h = record { front = λ t d w kw. by_kind (source_kind d) g d w kw }
      where
        by_kind : {m : ℕ} {t : Source} → SourceKind m t → (m ≡ 21 → ⊥) → At sources t c b → (w : Place) → k ≡ kept s.decls w.section
            → Made (sources.emits t w n s.reg) (length (entry_bytes (flat_source t))) (length (body_bytes (flat_source t))) n s buf r buf₂
        by_kind by_name z d w kw = absurd (z refl)
        by_kind (by_call {f = x} {ps = ps}) z d w kw =
            let m = q.front (FnCall x ps) (record { spells = d.spells; ok = d.ok }) w kw in
            let o : ℕ → Instr = λ i. instr n (Str (prev i) 0) in
            let t = s.reg + expr_regs (FnCall x ps) in
            made_push m w kw (o a.low.reg) (o t) h refl (ap field_bytes e) (λ y. ap o (made_reg m t (ap (λ (i : ℕ). s.reg + i) (sym (expr_regs_lem (FnCall x ps) w n s.reg))) y))
