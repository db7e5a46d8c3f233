-- Right sides: a section for each function.
use Prim.Native.Nat.{ℕ, suc, ◌+◌, ◌^◌, ◌≤◌, ◌<◌}
use mathlib.Core.Path.{◌≡◌, refl, ap, sym, ◌∙◌}
use mathlib.Core.Bool.{Bool, true, false}
use mathlib.Core.List.{List, [], ◌∷◌, ◌++◌, append_assoc}
use native.Mathlib.Omega.{arith}
use mir.Facts.{and_yes}
use lib.Dec.{ltb, eqb}
use lib.ListN.{length, length-drop, drop, get_or}
use lib.Seq.{drop-drop, get_or-drop}
use Rattle.sifv.specs.Value.{One, Bl, Tab}
use Rattle.opc.specs.Op.{Op, Stc, Stn, Str, Ldav, Tbli, instr}
use Rattle.opc.specs.Record.{Fields, fields, field_bytes}
use Rattle.ast.specs.Tree.{Lit, Expr, Expression, Table, Array, ArrayAccess, Items, no_items, more_items}
use Rattle.ast.specs.Structure.{item_count}
use Rattle.ast.specs.Flat.{flat_expr, flat_items, entry_bytes, body_bytes}
use Rattle.ast.specs.Limits.{every_expr, every_items}
use Rattle.compiler.specs.Lower.{Place, prev, push, load, expr_regs, lower_expr, lower_items}
use Rattle.compiler.proofs.laws.Accepted.{regs_in}
use Rattle.emit.specs.declared.Low.{Low}
use Rattle.emit.specs.declared.Done.{Done}
use Rattle.emit.specs.inner.Run.{kept, Ready, PushesOp, Loads}
use Rattle.emit.specs.inner.Literals.{lit_size, value_at}
use Rattle.emit.specs.inner.Made.{Spells, Made, Part, At, Reads, Front, ReadsAt, Goes}
use Rattle.emit.specs.laws.Laws.{some_place}
use Rattle.emit.specs.laws.Spell.{entries_both, bodies_both, in_node, fits_nodes, fits_bodies, first, second_from, first_body}
use Rattle.emit.specs.laws.Regs.{regs_append, expr_regs_lem}
use Rattle.emit.specs.laws.Places.{made_as, made_start, made_ready, made_reg, made_push, made_load, made_reads, made_goes}
use Rattle.expr.specs.inner.Parts.{exprs, stored_parts, rights, item_parts}
use Rattle.expr.proofs.Views.{EKind, kmut, kcall, kasg, kbin, kun, kval, ktext, kname, ktrue, kfalse, as_right, of_right, right_room}
use Rattle.expr.proofs.Views.{only_name, only_tab, only_arr, only_acc, only_exp, only_rest}
use Rattle.expr.proofs.Exprs.{E, B, Makes, first_count, of_stored, Child, one_of, one_made, num_read}

abbrev fit : Expr → Bool
fit e = every_expr (λ x. true) (λ v. ltb v (2 ^ 64)) e

abbrev fits : Items → Bool
fits is = every_items (λ x. true) (λ v. ltb v (2 ^ 64)) is

-- ---- an expression, then its register stored

pub front_ready : {X : Type 0} (P : Part X) {c b : List ℕ} {k : Bool} {n : ℕ} {s : Low} {buf : List ℕ} {a : Done} {buf₁ : List ℕ} → Reads P c b s buf → Front P c b k n s buf a buf₁ → Ready a.low buf₁
front_ready P {k = k} {s = s} r f = let w = some_place k s.decls in made_ready (f.front r.tree r.spelt w.0 w.1) r.ready

pub str_front : {c b : List ℕ} {k : Bool} {n : ℕ} {s : Low} {buf : List ℕ} {a : Done} {buf₁ : List ℕ} → Front exprs c b k n s buf a buf₁
    → {g : Fields} {x : ℕ} {r : Done} {buf₂ : List ℕ} → g ≡ fields n 11 0 (prev a.low.reg) x 0 0 0
    → (r.cont ≡ a.cont) × (r.body ≡ a.body) × (r.lbl ≡ a.lbl) × PushesOp k a.low (field_bytes g) buf₁ r.low buf₂ → Front (stored_parts x) c b k n s buf r buf₂
str_front {n = n} {s = s} {a = a} f {x = x} eg l = record {
  front = λ e h w kw.
      let m = f.front e (of_stored h) w kw in
      let q = s.reg + expr_regs e in
      made_push m w kw (instr n (Str (prev a.low.reg) x)) (instr n (Str (prev q) x)) l refl (ap field_bytes eg)
      (λ z. ap (λ (i : ℕ). instr n (Str (prev i) x)) (made_reg m q (ap (λ (i : ℕ). s.reg + i) (sym (expr_regs_lem e w n s.reg))) z));
}

-- ---- ArrayAccess

module _ {x a : ℕ} {i : Expr} {c b : List ℕ} (h : At (rights x) (ArrayAccess a i) c b) where
  abbrev acc_one : Child exprs c b
  acc_one = one_of exprs i h.spells h.ok

  module _ {n : ℕ} {s : Low} {buf : List ℕ} (rdy : Ready s buf) {p₀ : Done} (e₀ : p₀ ≡ record { cont = 2; body = 1; lbl = n; low = s })
      {k : Bool} {r₁ : Done} {buf₁ : List ℕ} (g : Goes exprs c b k p₀ buf r₁ buf₁) where
    module _ {f : Fields} {r₂ : Done} {buf₂ : List ℕ} (ef : f ≡ fields n 7 0 (get_or b 0 0) (prev r₁.low.reg) r₁.low.reg 0 0)
        (l : (r₂.cont ≡ r₁.cont) × (r₂.body ≡ r₁.body) × (r₂.lbl ≡ r₁.lbl) × Loads k r₁.low (field_bytes f) buf₁ r₂.low buf₂) where
      acc_loaded : (w : Place) → k ≡ kept s.decls w.section
          → Made (lower_expr i w n s.reg ++ load w n (Ldav a (prev (s.reg + expr_regs i)) (s.reg + expr_regs i))) (2 + length (entry_bytes (flat_expr i))) (1 + length (body_bytes (flat_expr i))) n s buf r₂ buf₂
      acc_loaded w kw =
          let m = one_made acc_one rdy e₀ g w kw in
          let q = s.reg + expr_regs i in
          let o : ℕ → Op = λ z. Ldav a (prev z) z in
          made_load m w kw (instr n (o r₁.low.reg)) (instr n (o q)) l refl (ap field_bytes (rw (first_body h.spells) at ef))
          (λ z. ap (λ (j : ℕ). instr n (o j)) (made_reg m q (ap (λ (j : ℕ). s.reg + j) (sym (expr_regs_lem i w n s.reg))) z))

      pub acc_ready : Ready r₂.low buf₂
      acc_ready = let w = some_place k s.decls in made_ready (acc_loaded w.0 w.1) rdy

      pub acc_made : {f₂ : Fields} {r₃ : Done} {buf₃ : List ℕ} → f₂ ≡ fields n 11 0 (prev r₂.low.reg) x 0 0 0
          → (r₃.cont ≡ r₂.cont) × (r₃.body ≡ r₂.body) × (r₃.lbl ≡ r₂.lbl) × PushesOp k r₂.low (field_bytes f₂) buf₂ r₃.low buf₃ → Makes (rights x) (ArrayAccess a i) k n s buf r₃ buf₃
      acc_made eg p w kw =
          let m = acc_loaded w kw in
          let q = s.reg + expr_regs i in
          let E = lower_expr i w n s.reg in
          let L = load w n (Ldav a (prev q) q) in
          made_as (append_assoc E L (push w n (Str q x) ∷ [])) (omega arith) (omega arith) refl
          (made_push m w kw (instr n (Str (prev r₂.low.reg) x)) (instr n (Str q x)) p refl (ap field_bytes eg)
          (λ z. ap (λ (j : ℕ). instr n (Str j x)) (back (made_reg m (q + 1) (omega (arith, regs_append E L, expr_regs_lem i w n s.reg)) z))))
        where
          back : {u v : ℕ} → u ≡ v + 1 → prev u ≡ v
          back e = omega (arith, e)

-- ---- Table

module _ {x : ℕ} {is : Items} {c b : List ℕ} (h : At (rights x) (Table is) c b) where
  pub tab_room : 2 + length (entry_bytes (flat_items is)) ≤ length c
  tab_room = omega (arith, fits_nodes h.spells)

  tab_child : At (item_parts (get_or c 1 0) x) is (drop 2 c) (drop 0 b)
  tab_child = record { spells = in_node h.spells; ok = (first_count h.spells, h.ok) }

  module _ {n : ℕ} {s : Low} {buf : List ℕ} (rdy : Ready s buf) {p₀ : Done} (e₀ : p₀ ≡ record { cont = 2; body = 0; lbl = n; low = s })
      {f : Fields} (ef : f ≡ fields n 9 6 x 0 0 0 0) {k : Bool} {r₁ : Done} {buf₁ : List ℕ}
      (l : (r₁.cont ≡ p₀.cont) × (r₁.body ≡ p₀.body) × (r₁.lbl ≡ p₀.lbl) × PushesOp k p₀.low (field_bytes f) buf r₁.low buf₁) where
    tab_made₁ : (w : Place) → k ≡ kept s.decls w.section → Made (push w n (Stc (Tab []) x) ∷ []) 2 0 n s buf r₁ buf₁
    tab_made₁ w kw = made_push (made_start e₀) w kw (instr n (Stc (Tab []) x)) (instr n (Stc (Tab []) x)) l refl (ap field_bytes ef) (λ z. refl)

    pub tab_cont : r₁.cont ≡ 2
    tab_cont = l.0 ∙ ap (λ (d : Done). d.cont) e₀

    pub tab_reads : ReadsAt (item_parts (get_or c 1 0) x) c b r₁ buf₁
    tab_reads = let w = some_place k s.decls in made_reads (tab_made₁ w.0 w.1) (item_parts (get_or c 1 0) x) is c b tab_child rdy (omega (arith, tab_room)) (omega arith)

    pub tab_made : {r₂ : Done} {buf₂ : List ℕ} → Goes (item_parts (get_or c 1 0) x) c b k r₁ buf₁ r₂ buf₂ → Makes (rights x) (Table is) k n s buf r₂ buf₂
    tab_made g w kw =
        made_as refl (omega arith) (omega arith) refl (made_goes (tab_made₁ w kw) (item_parts (get_or c 1 0) x) is c b tab_child g w kw s.reg (omega arith))

-- ---- Items

no_items_lem : {m : ℕ} (is : Items) → m ≡ item_count is → m ≡ 0 → is ≡ no_items
no_items_lem no_items e z = refl
no_items_lem (more_items k e is) f z = absurd (omega (arith, f, z))

pub items_none : {m x : ℕ} {c b : List ℕ} {k : Bool} {p : Done} {buf : List ℕ} → m ≡ 0 → Goes (item_parts m x) c b k p buf p buf
items_none z = record {
  goes = λ is h w kw. rw (no_items_lem is h.ok.0 z) (record { cont = omega arith; body = omega arith; lbl = refl; did = record { state = refl; buffer = refl } });
}

module _ {m x key : ℕ} {e : Expr} {is : Items} (u v : ℕ) (c b : List ℕ) (h : At (item_parts m x) (more_items key e is) (drop u c) (drop v b)) where
  item_spells : Spells (flat_expr e ++ flat_items is) (drop (u + 2) c) (drop (v + 1) b)
  item_spells = rw (← drop-drop 2 u c, ← drop-drop 1 v b) (in_node h.spells)

  item_first : At exprs e (drop (u + 2) c) (drop (v + 1) b)
  item_first = record { spells = first (flat_expr e) (flat_items is) item_spells; ok = (and_yes (fit e) (fits is) h.ok.1).0 }

  item_rest : {j : ℕ} → m ≡ suc j → At (item_parts j x) is (drop (u + 2 + E e) c) (drop (v + 1 + B e) b)
  item_rest {j} f = record {
    spells = second_from (flat_expr e) (flat_items is) (u + 2) (v + 1) c b item_spells;
    ok = (omega (arith, f, h.ok.0), (and_yes (fit e) (fits is) h.ok.1).1);
  }

  item_room : u ≤ length c → u + 2 + E e ≤ length c
  item_room i = omega (arith, fits_nodes h.spells, length-drop u c, i, entries_both (flat_expr e) (flat_items is))

  item_roomb : v ≤ length b → v + 1 + B e ≤ length b
  item_roomb j = omega (arith, fits_bodies h.spells, length-drop v b, j, bodies_both (flat_expr e) (flat_items is))

  item_key : get_or b v 0 ≡ key
  item_key = ap (λ (t : ℕ). get_or b t 0) (omega arith) ∙ sym (get_or-drop v b 0 0) ∙ first_body h.spells

module _ {m x : ℕ} {c b : List ℕ} {p : Done} {buf : List ℕ} (z : m ≡ 0 → ⊥) (r : ReadsAt (item_parts m x) c b p buf) where
  -- the key and the entry of the Item
  pub items_room : (p.cont + 2 ≤ length c) × (p.body + 1 ≤ length b)
  items_room = by r.tree r.spelt
    where
      by : (is : Items) → At (item_parts m x) is (drop p.cont c) (drop p.body b) → (p.cont + 2 ≤ length c) × (p.body + 1 ≤ length b)
      by no_items a = absurd (z a.ok.0)
      by (more_items key e is) a = (omega (arith, item_room p.cont p.body c b a r.cont), omega (arith, item_roomb p.cont p.body c b a r.body))

-- the Item's expression, pushed under its key, then the others
item_q : (p : Done) (e : Expr) (w : Place) → p.low.reg + expr_regs e ≡ p.low.reg + regs_in (lower_expr e w p.lbl p.low.reg)
item_q p e w = ap (λ (i : ℕ). p.low.reg + i) (sym (expr_regs_lem e w p.lbl p.low.reg))

module _ (m x : ℕ) (c b : List ℕ) (p : Done) {buf : List ℕ} {q₀ : Done} (e₀ : q₀ ≡ record { cont = p.cont + 2; body = p.body + 1; lbl = p.lbl; low = p.low }) where
  pub item_reads : (m ≡ 0 → ⊥) → ReadsAt (item_parts m x) c b p buf → ReadsAt exprs c b q₀ buf
  item_reads z r = by r.tree r.spelt
    where
      by : (is : Items) → At (item_parts m x) is (drop p.cont c) (drop p.body b) → ReadsAt exprs c b q₀ buf
      by no_items a = absurd (z a.ok.0)
      by (more_items key e is) a =
          made_reads (made_start e₀) exprs e c b (item_first p.cont p.body c b a) r.ready
          (omega (arith, item_room p.cont p.body c b a r.cont)) (omega (arith, item_roomb p.cont p.body c b a r.body))

  module _ {k : Bool} {r₁ : Done} {buf₁ : List ℕ} (g₁ : Goes exprs c b k q₀ buf r₁ buf₁) where
    item_made₁ : {key : ℕ} {e : Expr} {is : Items} → At (item_parts m x) (more_items key e is) (drop p.cont c) (drop p.body b) → (w : Place) → k ≡ kept p.low.decls w.section
        → Made (lower_expr e w p.lbl p.low.reg) (p.cont + 2 + E e) (p.body + 1 + B e) p.lbl p.low buf r₁ buf₁
    item_made₁ {key} {e} h w kw = made_goes (made_start e₀) exprs e c b (item_first p.cont p.body c b h) g₁ w kw p.low.reg (omega arith)

    pub item_ready : (m ≡ 0 → ⊥) → ReadsAt (item_parts m x) c b p buf → Ready r₁.low buf₁
    item_ready z r = by r.tree r.spelt
      where
        by : (is : Items) → At (item_parts m x) is (drop p.cont c) (drop p.body b) → Ready r₁.low buf₁
        by no_items a = absurd (z a.ok.0)
        by (more_items key e is) a = let w = some_place k p.low.decls in made_ready (item_made₁ a w.0 w.1) r.ready

    module _ {f : Fields} {r₂ : Done} {buf₂ : List ℕ} (ef : f ≡ fields p.lbl 21 0 x (get_or b p.body 0) (prev r₁.low.reg) 0 0)
        (l : (r₂.cont ≡ r₁.cont) × (r₂.body ≡ r₁.body) × (r₂.lbl ≡ r₁.lbl) × PushesOp k r₁.low (field_bytes f) buf₁ r₂.low buf₂) where
      item_made₂ : {key : ℕ} {e : Expr} {is : Items} → At (item_parts m x) (more_items key e is) (drop p.cont c) (drop p.body b) → (w : Place) → k ≡ kept p.low.decls w.section
          → Made (lower_expr e w p.lbl p.low.reg ++ (push w p.lbl (Tbli x key (prev (p.low.reg + expr_regs e))) ∷ [])) (p.cont + 2 + E e) (p.body + 1 + B e) p.lbl p.low buf r₂ buf₂
      item_made₂ {key} {e} h w kw =
          let m₁ = item_made₁ h w kw in
          let q = p.low.reg + expr_regs e in
          made_push m₁ w kw (instr p.lbl (Tbli x key (prev r₁.low.reg))) (instr p.lbl (Tbli x key (prev q))) l refl
          (ap field_bytes (rw (item_key p.cont p.body c b h) at ef)) (λ z. ap (λ (i : ℕ). instr p.lbl (Tbli x key (prev i))) (made_reg m₁ q (item_q p e w) z))

      pub item_next : {j : ℕ} → m ≡ suc j → ReadsAt (item_parts m x) c b p buf → (p.cont < r₂.cont) × ReadsAt (item_parts j x) c b r₂ buf₂
      item_next {j} z r = by r.tree r.spelt
        where
          by : (is : Items) → At (item_parts m x) is (drop p.cont c) (drop p.body b) → (p.cont < r₂.cont) × ReadsAt (item_parts j x) c b r₂ buf₂
          by no_items a = absurd (omega (arith, z, a.ok.0))
          by (more_items key e is) a =
              let w = some_place k p.low.decls in
              let m₂ = item_made₂ a w.0 w.1 in
              (omega (arith, m₂.cont), made_reads m₂ (item_parts j x) is c b (item_rest p.cont p.body c b a z) r.ready (item_room p.cont p.body c b a r.cont) (item_roomb p.cont p.body c b a r.body))

      pub item_goes : {j : ℕ} {r₃ : Done} {buf₃ : List ℕ} → m ≡ suc j → Goes (item_parts j x) c b k r₂ buf₂ r₃ buf₃ → Goes (item_parts m x) c b k p buf r₃ buf₃
      item_goes {j} {r₃} {buf₃} z g = record { goes = by }
        where
          by : (is : Items) → At (item_parts m x) is (drop p.cont c) (drop p.body b) → (w : Place) → k ≡ kept p.low.decls w.section
              → Made (lower_items is x w p.lbl p.low.reg) (p.cont + length (entry_bytes (flat_items is))) (p.body + length (body_bytes (flat_items is))) p.lbl p.low buf r₃ buf₃
          by no_items a w kw = absurd (omega (arith, z, a.ok.0))
          by (more_items key e is) a w kw =
              let q = p.low.reg + expr_regs e in
              let X = lower_expr e w p.lbl p.low.reg in
              let o = push w p.lbl (Tbli x key (prev q)) ∷ [] in
              made_as (append_assoc X o (lower_items is x w p.lbl q))
              (omega (arith, entries_both (flat_expr e) (flat_items is))) (omega (arith, bodies_both (flat_expr e) (flat_items is))) refl
              (made_goes (item_made₂ a w kw) (item_parts j x) is c b (item_rest p.cont p.body c b a z) g w kw q (item_q p e w ∙ omega (arith, regs_append X o)))

-- ---- which kind is assigned

as_expr : {x : ℕ} {e : Expr} {c b : List ℕ} → At (rights x) (Expression e) c b → At exprs e c b
as_expr h = record { spells = h.spells; ok = h.ok }

module _ {x : ℕ} {c b : List ℕ} {s : Low} {buf : List ℕ} (r : Reads (rights x) c b s buf) where
  pub right_reads : 2 ≤ length c
  right_reads = right_room r.tree r.spelt.spells

  pub arr_asks : get_or c 0 0 ≡ 12 → (a : ℕ) × (ls : List Lit) × At (rights x) (Array a ls) c b
  arr_asks q = only_arr (λ k. At (rights x) k c b → (a : ℕ) × (ls : List Lit) × At (rights x) (Array a ls) c b) (λ a ls h. (a, ls, h)) (as_right r.spelt q) r.spelt

  -- an expression
  pub exp_reads : (get_or c 0 0 ≡ 10 → ⊥) → (get_or c 0 0 ≡ 12 → ⊥) → (get_or c 0 0 ≡ 13 → ⊥) → Reads exprs c b s buf
  exp_reads f g j =
      only_rest (λ k. At (rights x) k c b → Reads exprs c b s buf) f g j (λ e k h. record { ready = r.ready; tree = e; spelt = as_expr h }) (of_right r.spelt) r.spelt

module _ {x : ℕ} {c b : List ℕ} {s : Low} {buf : List ℕ} where
  pub tab_asks : Reads (rights x) c b s buf × (get_or c 0 0 ≡ 10) → (is : Items) × At (rights x) (Table is) c b
  tab_asks (r, q) = only_tab (λ k. At (rights x) k c b → (is : Items) × At (rights x) (Table is) c b) (λ is h. (is, h)) (as_right r.spelt q) r.spelt

  pub acc_asks : Reads (rights x) c b s buf × (get_or c 0 0 ≡ 13) → Child exprs c b
  acc_asks (r, q) = only_acc (λ k. At (rights x) k c b → Child exprs c b) (λ a i h. acc_one h) (as_right r.spelt q) r.spelt

  pub acc_loads : Reads (rights x) c b s buf × (get_or c 0 0 ≡ 13) → {n : ℕ} → Ready s buf → {p₀ : Done} → p₀ ≡ record { cont = 2; body = 1; lbl = n; low = s } → {k : Bool} {r₁ : Done} {buf₁ : List ℕ} → Goes exprs c b k p₀ buf r₁ buf₁
      → {f : Fields} {r₂ : Done} {buf₂ : List ℕ} → f ≡ fields n 7 0 (get_or b 0 0) (prev r₁.low.reg) r₁.low.reg 0 0
      → (r₂.cont ≡ r₁.cont) × (r₂.body ≡ r₁.body) × (r₂.lbl ≡ r₁.lbl) × Loads k r₁.low (field_bytes f) buf₁ r₂.low buf₂ → Ready r₂.low buf₂
  acc_loads (r, q) rdy e₀ g {r₂ = r₂} {buf₂ = buf₂} ef l = only_acc (λ k. At (rights x) k c b → Ready r₂.low buf₂) (λ a i h. acc_ready h rdy e₀ g ef l) (as_right r.spelt q) r.spelt

module _ {x : ℕ} {c b : List ℕ} {k : Bool} {n : ℕ} {s : Low} {buf : List ℕ} {d : Done} {buf' : List ℕ} where
  pub tab_front : get_or c 0 0 ≡ 10 → ((is : Items) → At (rights x) (Table is) c b → Makes (rights x) (Table is) k n s buf d buf') → Front (rights x) c b k n s buf d buf'
  tab_front q f = record { front = λ r h. only_tab (λ r. At (rights x) r c b → Makes (rights x) r k n s buf d buf') f (as_right h q) h }

  pub arr_front : get_or c 0 0 ≡ 12 → ((a : ℕ) (ls : List Lit) → At (rights x) (Array a ls) c b → Makes (rights x) (Array a ls) k n s buf d buf') → Front (rights x) c b k n s buf d buf'
  arr_front q f = record { front = λ r h. only_arr (λ r. At (rights x) r c b → Makes (rights x) r k n s buf d buf') f (as_right h q) h }

  pub acc_front : get_or c 0 0 ≡ 13 → ((a : ℕ) (i : Expr) → At (rights x) (ArrayAccess a i) c b → Makes (rights x) (ArrayAccess a i) k n s buf d buf') → Front (rights x) c b k n s buf d buf'
  acc_front q f = record { front = λ r h. only_acc (λ r. At (rights x) r c b → Makes (rights x) r k n s buf d buf') f (as_right h q) h }

  -- an expression of kind m, from 14 on
  exp_front : {m : ℕ} → 14 ≤ m → get_or c 0 0 ≡ m → ((e : Expr) → EKind m e → At exprs e c b → Makes (rights x) (Expression e) k n s buf d buf') → Front (rights x) c b k n s buf d buf'
  exp_front l q f = record { front = λ r h. only_exp (λ r. At (rights x) r c b → Makes (rights x) r k n s buf d buf') l (λ e j a. f e j (as_expr a)) (as_right h q) h }

  pub name_stores : get_or c 0 0 ≡ 21
      → ((y : ℕ) → y ≡ get_or b 0 0 → (w : Place) → k ≡ kept s.decls w.section → Made (push w n (Stn y x) ∷ []) 2 1 n s buf d buf') → Front (rights x) c b k n s buf d buf'
  name_stores q f = exp_front (omega arith) q (λ e j. only_name (λ e. At exprs e c b → Makes (rights x) (Expression e) k n s buf d buf') (λ y a w kw. f y (sym (first_body a.spells)) w kw) j)

  pub lit_stores : (get_or c 0 0 ≡ 21 → ⊥) → 19 ≤ get_or c 0 0
      → ((w : Place) → k ≡ kept s.decls w.section → Made (push w n (Stc (One (value_at (get_or c 0 0) b 0)) x) ∷ []) 2 (lit_size (get_or c 0 0)) n s buf d buf') → Front (rights x) c b k n s buf d buf'
  lit_stores g l f = record { front = λ r h. only_exp (λ r. At (rights x) r c b → Makes (rights x) r k n s buf d buf') (omega (arith, l)) (λ e j a. by j g l f (as_expr a)) (of_right h) h }
    where
      by : {m : ℕ} {e : Expr} → EKind m e → (m ≡ 21 → ⊥) → 19 ≤ m → ((w : Place) → k ≡ kept s.decls w.section → Made (push w n (Stc (One (value_at m b 0)) x) ∷ []) 2 (lit_size m) n s buf d buf')
          → At exprs e c b → Makes (rights x) (Expression e) k n s buf d buf'
      by kmut g l f h = absurd (omega (arith, l))
      by kcall g l f h = absurd (omega (arith, l))
      by kasg g l f h = absurd (omega (arith, l))
      by kbin g l f h = absurd (omega (arith, l))
      by kun g l f h = absurd (omega (arith, l))
      by kval g l f h = λ w kw. rw (← num_read h) at (f w kw)
      by ktext g l f h = λ w kw. rw (first_body h.spells) at (f w kw)
      by kname g l f h = absurd (g refl)
      by ktrue g l f h = f
      by kfalse g l f h = f

  -- of a truth value alone
  pub bl_stores : 21 < get_or c 0 0
      → ((t : Bool) → t ≡ eqb (get_or c 0 0) 22 → (w : Place) → k ≡ kept s.decls w.section → Made (push w n (Stc (One (Bl t)) x) ∷ []) 2 0 n s buf d buf') → Front (rights x) c b k n s buf d buf'
  bl_stores l f = record { front = λ r h. only_exp (λ r. Makes (rights x) r k n s buf d buf') (omega (arith, l)) (λ e j. high j l f) (of_right h) }
    where
      high : {m : ℕ} {e : Expr} → EKind m e → 21 < m → ((t : Bool) → t ≡ eqb m 22 → (w : Place) → k ≡ kept s.decls w.section → Made (push w n (Stc (One (Bl t)) x) ∷ []) 2 0 n s buf d buf')
          → Makes (rights x) (Expression e) k n s buf d buf'
      high kmut l f = absurd (omega (arith, l))
      high kcall l f = absurd (omega (arith, l))
      high kasg l f = absurd (omega (arith, l))
      high kbin l f = absurd (omega (arith, l))
      high kun l f = absurd (omega (arith, l))
      high kval l f = absurd (omega (arith, l))
      high ktext l f = absurd (omega (arith, l))
      high kname l f = absurd (omega (arith, l))
      high ktrue l f = f true refl
      high kfalse l f = f false refl

  pub expr_stores : (get_or c 0 0 ≡ 10 → ⊥) → (get_or c 0 0 ≡ 12 → ⊥) → (get_or c 0 0 ≡ 13 → ⊥) → get_or c 0 0 < 19
      → Front (stored_parts x) c b k n s buf d buf' → Front (rights x) c b k n s buf d buf'
  expr_stores f₁ f₂ f₃ l g = record {
    front = λ r h. only_rest (λ r. At (rights x) r c b → Makes (rights x) r k n s buf d buf') f₁ f₂ f₃
        (λ e j a. other j l (g.front e (record { spells = a.spells; ok = a.ok }))) (of_right h) h;
  }
    where
      other : {m : ℕ} {e : Expr} → EKind m e → m < 19 → Makes (stored_parts x) e k n s buf d buf' → Makes (rights x) (Expression e) k n s buf d buf'
      other kmut l f = f
      other kcall l f = f
      other kasg l f = f
      other kbin l f = f
      other kun l f = f
      other kval l f = absurd (omega (arith, l))
      other ktext l f = absurd (omega (arith, l))
      other kname l f = absurd (omega (arith, l))
      other ktrue l f = absurd (omega (arith, l))
      other kfalse l f = absurd (omega (arith, l))
