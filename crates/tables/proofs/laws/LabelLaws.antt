-- The laws of the label table. Document 01, "Lowering rules that surprise": "The label table: 0 to 0, then each label to the last index entering it from
-- another label". Where labels never decrease a label is entered once, at the first instruction that carries it; where they do, its last entry counts.
use Rattle.std.specs.Prelude.{◌≡◌, refl, Bool, true, false, cond, not, ◌&&◌, [], ◌∷◌, ℕ, zero, suc, ◌≤◌, ◌<◌, eqb, leb, ltb}
use Rattle.std.proofs.Common.{sym, ap, ◌∙◌, arith, leb-true, ltb-true, ltb-false, eqb-true, eq-eqb, ne_eqb}
use Rattle.std.proofs.Math.Bool.{and-false}
use Rattle.std.proofs.Math.Option.{Option, none, some}
use Rattle.std.proofs.lemmas.Bool.{eqb-false}
use Rattle.sifv.specs.laws.Layout.{and_left, and_right}
use Rattle.opc.specs.Op.{Fn, Jmpa, FnRet, Nop, Instr, instr, label, Code}
use Rattle.tables.specs.Tables.{entered, label_at}
use Rattle.tables.specs.LabelOrder.{labels_ascend, first_at}

-- ---- no entry behind

module _ (l : ℕ) where
  -- a label that is reached is not entered again
  entered_passed : (cs : Code) (n i : ℕ) (o : Option ℕ) → l ≤ n → labels_ascend n cs ≡ true → entered cs l n i o ≡ o
  entered_passed [] n i o h e = refl
  entered_passed (c ∷ cs) n i o h e =
      let k = leb-true n (label c) (and_left (leb n (label c)) (labels_ascend (label c) cs) e) in
      let g : cond (not (eqb (label c) n) && eqb (label c) l) (some i) o ≡ o = by_test (eqb (label c) n) (eqb (label c) l) refl refl k in
      ap (entered cs l (label c) (suc i)) g
      ∙ entered_passed cs (label c) (suc i) o (omega arith) (and_right (leb n (label c)) (labels_ascend (label c) cs) e)
    where
      by_test : (a b : Bool) → eqb (label c) n ≡ a → eqb (label c) l ≡ b → n ≤ label c → cond (not a && b) (some i) o ≡ o
      by_test true b p q k = refl
      by_test false true p q k = absurd (eqb-false (label c) n p (omega (arith, eqb-true (label c) l q)))
      by_test false false p q k = refl

  first_passed : (cs : Code) (n i : ℕ) → l < n → labels_ascend n cs ≡ true → first_at cs l i ≡ none
  first_passed [] n i h e = refl
  first_passed (c ∷ cs) n i h e =
      let k = leb-true n (label c) (and_left (leb n (label c)) (labels_ascend (label c) cs) e) in
      rw (ne_eqb (label c) l (λ q. omega arith))
      (first_passed cs (label c) (suc i) (omega arith) (and_right (leb n (label c)) (labels_ascend (label c) cs) e))

  entered_first : (cs : Code) (n i : ℕ) → n < l → labels_ascend n cs ≡ true → entered cs l n i none ≡ first_at cs l i
  entered_first [] n i h e = refl
  entered_first (c ∷ cs) n i h e =
      by_test (eqb (label c) l) refl (and_right (leb n (label c)) (labels_ascend (label c) cs) e) (entered_first cs (label c) (suc i))
    where
      by_test : (b : Bool) → eqb (label c) l ≡ b → labels_ascend (label c) cs ≡ true → (label c < l → labels_ascend (label c) cs ≡ true → entered cs l (label c) (suc i) none ≡ first_at cs l (suc i))
          → entered cs l (label c) (suc i) (cond (not (eqb (label c) n) && b) (some i) none) ≡ cond b (some i) (first_at cs l (suc i))
      by_test true p a k =
          let q = eqb-true (label c) l p in
          rw (ne_eqb (label c) n (λ r. omega arith)) (entered_passed cs (label c) (suc i) (some i) (omega arith) a)
      by_test false p a k = rw (and-false (not (eqb (label c) n))) (by_order (ltb (label c) l) refl)
        where
          by_order : (b : Bool) → ltb (label c) l ≡ b → entered cs l (label c) (suc i) none ≡ first_at cs l (suc i)
          by_order true q = k (ltb-true (label c) l q) a
          by_order false q =
              let g = ltb-false (label c) l q in
              let f : l < label c = omega (arith, eqb-false (label c) l p) in
              entered_passed cs (label c) (suc i) none g a ∙ sym (first_passed cs (label c) (suc i) f a)

-- ---- the law

-- In code that begins with label 0 and whose labels never decrease, a label goes to the first instruction that carries it, or nowhere.
pub label_first : (c : Instr) (cs : Code) (l : ℕ) → label c ≡ 0 → labels_ascend 0 (c ∷ cs) ≡ true → label_at (c ∷ cs) l ≡ first_at (c ∷ cs) l 0
label_first c cs zero z e =
    rw (eq-eqb (label c) (label c) refl, eq-eqb (label c) 0 z)
    (entered_passed 0 cs (label c) 1 (some 0) (omega arith) (and_right (leb 0 (label c)) (labels_ascend (label c) cs) e))
label_first c cs (suc l) z e =
    rw (eq-eqb (label c) (label c) refl, ne_eqb (label c) (suc l) (λ q. omega arith), ne_eqb (suc l) 0 (λ q. omega arith))
    (entered_first (suc l) cs (label c) 1 (omega arith) (and_right (leb 0 (label c)) (labels_ascend (label c) cs) e))

-- ---- where labels do decrease: the last entry, and not the first

-- label 1 is entered from 0 and from 2
pub entered_twice : label_at (instr 0 Nop ∷ instr 1 Nop ∷ instr 2 Nop ∷ instr 1 Nop ∷ []) 1 ≡ some 3
entered_twice = refl

pub carried_first : first_at (instr 0 Nop ∷ instr 1 Nop ∷ instr 2 Nop ∷ instr 1 Nop ∷ []) 1 0 ≡ some 1
carried_first = refl

-- a declared function with labels of its own, and then code that begins with label 0 again: label 0 goes to that code
pub entered_behind : label_at (instr 0 (Fn 1 []) ∷ instr 1 (Jmpa 2) ∷ instr 2 FnRet ∷ instr 0 Nop ∷ instr 3 Nop ∷ []) 0 ≡ some 3
entered_behind = refl

-- an instruction that follows one of the same label is no entry
pub entered_once : label_at (instr 0 Nop ∷ instr 1 Nop ∷ instr 1 Nop ∷ []) 1 ≡ some 1
entered_once = refl
