-- Laws of arrays: the items one after the other, and a record with items.
use Rattle.std.specs.Prelude.{ℕ, suc, ◌+◌, ◌*◌, ◌^◌, ◌≤◌, ◌<◌, ◌≡◌, refl, Bool, true, false, cond, List, [], ◌∷◌, ◌++◌, map, T, ltb, length, drop, get_or}
use Rattle.std.proofs.Common.{ap, sym, ◌∙◌, arith, ltb→lt, length-append, length-drop, drop-drop, get_or-drop}
use Rattle.std.proofs.Math.Facts.{and_yes}
use Rattle.lent.specs.Bytes.{be_bytes, splice}
use Rattle.lent.specs.laws.Numbers.{be_value_be_bytes, length_be_bytes}
use Rattle.lent.specs.laws.Parts.{splice_none, splice_append}
use Rattle.sifv.specs.Value.{Single, Arr}
use Rattle.opc.specs.Op.{instr, Stc}
use Rattle.opc.specs.Record.{Fields, fields, field_bytes, item_bytes}
use Rattle.ast.specs.Tree.{Lit, Val, Text, Truth, Array}
use Rattle.ast.specs.Flat.{flat_lit, flat_lits, entry_bytes, body_bytes}
use Rattle.ast.specs.Limits.{every_lit, every_lits}
use Rattle.compiler.specs.Literals.{literal}
use Rattle.compiler.specs.Lower.{Place, push}
use Rattle.emit.specs.declared.Low.{Low}
use Rattle.emit.specs.declared.Done.{Done}
use Rattle.emit.specs.inner.Run.{kept, PushesItems}
use Rattle.emit.specs.inner.Made.{Spells, Made, At}
use Rattle.emit.specs.laws.Laws.{length_items}
use Rattle.emit.specs.laws.Spell.{in_node, fits_nodes, fits_bodies, first_kind, first_body}
use Rattle.expr.specs.inner.Parts.{rights}
use Rattle.emit.specs.inner.Literals.{lit_size, value_at}
use Rattle.expr.specs.inner.Arrays.{items_bytes, Lits}

-- ---- the items

abbrev fit_lit : Lit → Bool
fit_lit l = every_lit (λ x. true) (λ v. ltb v (2 ^ 64)) l

abbrev fit_lits : List Lit → Bool
fit_lits ls = every_lits (λ x. true) (λ v. ltb v (2 ^ 64)) ls

-- what is left of the literals ls: i items are passed, to where the bodies are read
pub record More (ls : List Lit) (n : ℕ) (c b : List ℕ) (keep : Bool) (k : ℕ) (d₀ : List ℕ) (at i : ℕ) (d : List ℕ) : Type 0 where
  pub rest : List Lit
  pub left : i + length rest ≡ n
  pub spells : Spells (flat_lits rest) (drop (2 + 2 * i) c) (drop at b)
  pub fits : T (fit_lits rest)
  pub size : at + length (body_bytes (flat_lits rest)) ≡ 1 + length (body_bytes (flat_lits ls))
  pub within : at ≤ length b
  pub pool : cond keep (splice d (16384 + 16 * (k + i)) (items_bytes rest)) d ≡ cond keep (splice d₀ (16384 + 16 * k) (items_bytes ls)) d₀

pub more_start : (ls : List Lit) (n : ℕ) (c b : List ℕ) (keep : Bool) (k : ℕ) (d : List ℕ) → Lits n ls c b → More ls n c b keep k d 1 0 d
more_start ls n c b keep k d h = record {
  rest = ls;
  left = omega (arith, h.count);
  spells = h.spells;
  fits = h.fits;
  size = refl;
  within = h.some;
  pool = ap (λ (j : ℕ). cond keep (splice d (16384 + 16 * j) (items_bytes ls)) d) none_yet;
}
  where
    none_yet : k + 0 ≡ k
    none_yet = omega arith

pub more_end : {ls : List Lit} {n : ℕ} {c b : List ℕ} {keep : Bool} {k : ℕ} {d₀ : List ℕ} {at i : ℕ} {d : List ℕ} → n ≤ i → More ls n c b keep k d₀ at i d
    → (at ≡ 1 + length (body_bytes (flat_lits ls))) × (d ≡ cond keep (splice d₀ (16384 + 16 * k) (items_bytes ls)) d₀)
more_end {ls} {n} {c} {b} {keep} {k} {d₀} {at} {i} {d} l h = by h.rest h.left h.size h.pool
  where
    none : (t : Bool) (j : ℕ) → cond t (splice d j []) d ≡ d
    none true j = splice_none d j
    none false j = refl

    by : (rs : List Lit) → i + length rs ≡ n → at + length (body_bytes (flat_lits rs)) ≡ 1 + length (body_bytes (flat_lits ls))
        → cond keep (splice d (16384 + 16 * (k + i)) (items_bytes rs)) d ≡ cond keep (splice d₀ (16384 + 16 * k) (items_bytes ls)) d₀
        → (at ≡ 1 + length (body_bytes (flat_lits ls))) × (d ≡ cond keep (splice d₀ (16384 + 16 * k) (items_bytes ls)) d₀)
    by [] e s p = (omega (arith, s), sym (none keep (16384 + 16 * (k + i))) ∙ p)
    by (r ∷ rs) e s p = absurd (omega (arith, e, l))

-- a literal's node
lit_size_lem : (l : Lit) {ns : List _} {c b : List ℕ} → Spells (flat_lit l ∷ ns) c b → lit_size (get_or c 0 0) + length (body_bytes ns) ≡ length (body_bytes (flat_lit l ∷ ns))
lit_size_lem (Val x) {ns} h = rw (first_kind h) (omega (arith, length-append (be_bytes 8 x) (body_bytes ns), length_be_bytes 8 x))
lit_size_lem (Text t) h = rw (first_kind h) (omega arith)
lit_size_lem (Truth true) h = rw (first_kind h) (omega arith)
lit_size_lem (Truth false) h = rw (first_kind h) (omega arith)

lit_next : (l : Lit) {ns : List _} {c b : List ℕ} → Spells (flat_lit l ∷ ns) c b → Spells ns (drop 2 c) (drop (lit_size (get_or c 0 0)) b)
lit_next (Val x) h = rw (first_kind h) (in_node h)
lit_next (Text t) h = rw (first_kind h) (in_node h)
lit_next (Truth true) h = rw (first_kind h) (in_node h)
lit_next (Truth false) h = rw (first_kind h) (in_node h)

lit_value : (l : Lit) {ns : List _} {c b : List ℕ} → Spells (flat_lit l ∷ ns) c b → T (fit_lit l) → value_at (get_or c 0 0) b 0 ≡ literal l
lit_value (Val x) h f = rw (first_kind h, h.bodies, be_value_be_bytes 8 x (ltb→lt x (2 ^ 64) f))
lit_value (Text t) h f = rw (first_kind h, first_body h)
lit_value (Truth true) h f = rw (first_kind h)
lit_value (Truth false) h f = rw (first_kind h)

lit_asks : (l : Lit) {ns : List _} {c b : List ℕ} → Spells (flat_lit l ∷ ns) c b → lit_size (get_or c 0 0) ≤ length b
lit_asks l {ns} {c} h = omega (arith, lit_size_lem l h, fits_bodies h)

lit_entries : (l : Lit) (ls : List Lit) → length (entry_bytes (flat_lits (l ∷ ls))) ≡ 2 + length (entry_bytes (flat_lits ls))
lit_entries (Val x) ls = omega arith
lit_entries (Text t) ls = omega arith
lit_entries (Truth true) ls = omega arith
lit_entries (Truth false) ls = omega arith

pub length_lits : (ls : List Lit) → length (entry_bytes (flat_lits ls)) ≡ 2 * length ls
length_lits [] = omega arith
length_lits (l ∷ ls) = omega (arith, lit_entries l ls, length_lits ls)

size_of : (k n : ℕ) → k ≡ n → lit_size k ≡ lit_size n
size_of k n e = ap lit_size e

-- a turn of the loop
pub record Next (ls : List Lit) (n : ℕ) (c b : List ℕ) (keep : Bool) (k : ℕ) (d₀ : List ℕ) (at i : ℕ) (d : List ℕ) : Type 0 where
  pub entry : 2 + 2 * i + 2 ≤ length c
  pub num : get_or c (2 + 2 * i) 0 ≡ 19 → at + 8 ≤ length b
  pub text : get_or c (2 + 2 * i) 0 ≡ 20 → at < length b
  pub size : at + lit_size (get_or c (2 + 2 * i) 0) ≤ length b
  pub more : (v : Single) (e : List ℕ) → v ≡ value_at (get_or c (2 + 2 * i) 0) b at → e ≡ cond keep (splice d (16384 + 16 * (k + i)) (item_bytes v)) d
      → More ls n c b keep k d₀ (at + lit_size (get_or c (2 + 2 * i) 0)) (i + 1) e

-- the value at a place
value_at_lem : (k : ℕ) (b : List ℕ) (at : ℕ) → value_at k b at ≡ value_at k (drop at b) 0
value_at_lem k b at =
    let t : get_or b at 0 ≡ get_or (drop at b) 0 0 = ap (λ (j : ℕ). get_or b j 0) (omega arith) ∙ sym (get_or-drop at b 0 0) in
    rw t

module _ (ls : List Lit) (n : ℕ) (c b : List ℕ) (keep : Bool) (k : ℕ) (d₀ : List ℕ) (at i : ℕ) (d : List ℕ) (room : keep ≡ true → 16384 + 16 * (k + i) + 16 ≤ length d) where
  put_one : (t : Bool) → (t ≡ true → 16384 + 16 * (k + i) + 16 ≤ length d) → (v : Single) (rs : List Lit) (e : List ℕ) → e ≡ cond t (splice d (16384 + 16 * (k + i)) (item_bytes v)) d
      → cond t (splice e (16384 + 16 * (k + (i + 1))) (items_bytes rs)) e ≡ cond t (splice d (16384 + 16 * (k + i)) (item_bytes v ++ items_bytes rs)) d
  put_one true f v rs e p =
      ap (λ (j : List ℕ). splice j (16384 + 16 * (k + (i + 1))) (items_bytes rs)) p
      ∙ ap (λ (j : ℕ). splice (splice d (16384 + 16 * (k + i)) (item_bytes v)) j (items_bytes rs)) (item_end (k + i) v)
      ∙ sym (splice_append d (16384 + 16 * (k + i)) (item_bytes v) (items_bytes rs) (omega (arith, f refl)))
    where
      item_end : (j : ℕ) (v : Single) → 16384 + 16 * (k + (i + 1)) ≡ 16384 + 16 * (k + i) + length (item_bytes v)
      item_end j v = omega (arith, length_items (v ∷ []), length-append (item_bytes v) [])
  put_one false f v rs e p = p

  by_rest : (rs : List Lit) → i < n → i + length rs ≡ n → Spells (flat_lits rs) (drop (2 + 2 * i) c) (drop at b) → T (fit_lits rs)
      → at + length (body_bytes (flat_lits rs)) ≡ 1 + length (body_bytes (flat_lits ls)) → at ≤ length b
      → cond keep (splice d (16384 + 16 * (k + i)) (items_bytes rs)) d ≡ cond keep (splice d₀ (16384 + 16 * k) (items_bytes ls)) d₀ → 2 + 2 * i ≤ length c
      → Next ls n c b keep k d₀ at i d
  by_rest [] l e s f z w p u = absurd (omega (arith, e, l))
  by_rest (r ∷ rs) l e s f z w p u =
      let kd : get_or c (2 + 2 * i) 0 ≡ get_or (drop (2 + 2 * i) c) 0 0 = ap (λ (j : ℕ). get_or c j 0) (omega arith) ∙ sym (get_or-drop (2 + 2 * i) c 0 0) in
      let ks = size_of (get_or c (2 + 2 * i) 0) (get_or (drop (2 + 2 * i) c) 0 0) kd in
      let ff = and_yes (fit_lit r) (fit_lits rs) f in
      record {
        entry = omega (arith, fits_nodes s, length-drop (2 + 2 * i) c, lit_entries r rs, u);
        num = λ q. omega (arith, lit_asks r s, length-drop at b, w, ks, size_of (get_or c (2 + 2 * i) 0) 19 q);
        text = λ q. omega (arith, lit_asks r s, length-drop at b, w, ks, size_of (get_or c (2 + 2 * i) 0) 20 q);
        size = omega (arith, lit_asks r s, length-drop at b, w, ks);
        more = λ v₁ e₁ ev ed. record {
          rest = rs;
          left = omega (arith, e);
          spells = rw (sp, ← drop-drop 2 (2 + 2 * i) c, ks, ← drop-drop (lit_size (get_or (drop (2 + 2 * i) c) 0 0)) at b) (lit_next r s);
          fits = ff.1;
          size = omega (arith, z, ks, lit_size_lem r s);
          within = omega (arith, lit_asks r s, length-drop at b, w, ks);
          pool = put_one keep room v₁ rs e₁ ed
              ∙ ap (λ (x : Single). cond keep (splice d (16384 + 16 * (k + i)) (item_bytes x ++ items_bytes rs)) d)
              (ev ∙ value_at_lem (get_or c (2 + 2 * i) 0) b at ∙ ap (λ (j : ℕ). value_at j (drop at b) 0) kd ∙ lit_value r s ff.0) ∙ p;
        };
      }
    where
      sp : 2 + 2 * (i + 1) ≡ 2 + 2 * i + 2
      sp = omega arith

  pub next : i < n → 2 + 2 * i ≤ length c → More ls n c b keep k d₀ at i d → Next ls n c b keep k d₀ at i d
  next l u h = by_rest h.rest l h.left h.spells h.fits h.size h.within h.pool u

-- ---- Array

map_length : (ls : List Lit) → length (map literal ls) ≡ length ls
map_length [] = refl
map_length (l ∷ ls) = ap suc (map_length ls)

module _ {x a : ℕ} {ls : List Lit} {c b : List ℕ} (h : At (rights x) (Array a ls) c b) where
  arr_count : get_or c 1 0 ≡ length ls
  arr_count = ap (λ (l : List ℕ). get_or l 1 0) h.spells.nodes

  pub arr_room : 2 ≤ length c
  arr_room = omega (arith, fits_nodes h.spells)

  pub arr_roomb : 1 ≤ length b
  arr_roomb = omega (arith, fits_bodies h.spells)

  pub arr_lits : Lits (get_or c 1 0) ls c b
  arr_lits = record { spells = in_node h.spells; count = arr_count; fits = h.ok; head = arr_room; some = arr_roomb }

  pub arr_made : {k : Bool} {n : ℕ} {s : Low} {f : Fields} {buf : List ℕ} {q : Low} {buf₁ buf₂ : List ℕ} {end : ℕ} {d : Done} → f ≡ fields n 9 5 (get_or b 0 0) 0 0 (get_or c 1 0) s.items
      → PushesItems k s (get_or c 1 0) (field_bytes f) buf q buf₁
      → (end ≡ 1 + length (body_bytes (flat_lits ls))) × (buf₂ ≡ cond (ltb s.recs q.recs) (splice buf₁ (16384 + 16 * s.items) (items_bytes ls)) buf₁)
      → d ≡ record { cont = 2 + 2 * get_or c 1 0; body = end; lbl = n; low = q } → (w : Place) → k ≡ kept s.decls w.section
      → Made (push w n (Stc (Arr (map literal ls)) a) ∷ []) (length (entry_bytes ((rights x).nodes (Array a ls)))) (length (body_bytes ((rights x).nodes (Array a ls)))) n s buf d buf₂
  arr_made {n = n} {s = s} {buf₂ = buf₂} ef p e ed w kw =
      let is = map literal ls in
      let bytes = rw (first_body h.spells, arr_count ∙ sym (map_length ls)) at ef in
      rw ed (record {
        cont = omega (arith, arr_count, length_lits ls);
        body = e.0 ∙ omega arith;
        lbl = refl;
        did = p.did w (instr n (Stc (Arr is) a)) (map_length ls ∙ sym arr_count) (ap field_bytes bytes) kw buf₂ e.1;
      })
