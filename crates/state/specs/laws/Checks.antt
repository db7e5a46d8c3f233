-- The check of a state's bytes: one pass of each of its loops, and that its tests accept exactly the accepted states.
use Rattle.std.specs.Prelude.{◌≡◌, Bool, false, cond, not, ◌&&◌, List, ◌∷◌, ◌++◌, reverse, ℕ, zero, suc, ◌+◌, ◌*◌, ◌-◌, ◌≤◌, ◌<◌, ltb, length, take, drop}
use Rattle.std.proofs.Math.Path.{refl, sym, ap}
use Rattle.std.proofs.Common.{ap₂, ◌∙◌, subst, add-one, arith, take-take}
use Rattle.std.proofs.Math.Bool.{true}
use Rattle.std.proofs.Math.Option.{Option, none, some}
use Rattle.std.proofs.Math.Dec.{leb, eqb}
use Rattle.std.proofs.Math.ListN.{get_or, get_elem?}
use Rattle.std.proofs.lemmas.List.{length-reverse}
use borrow.Author.Tests.{leb-true, ltb-true, ltb-false, eqb-true, eqb-false, not-true, le-leb, lt-ltb, le-ltb, eq-eqb, ne_eqb}
use Rattle.lent.specs.Bytes.{be_value, be_bytes, part, splice, same_bytes, AreBytes, Each, none, more}
use Rattle.lent.specs.laws.Each.{each_part}
use Rattle.lent.specs.laws.Parts.{length_part, part_add, part_part, part_replicate}
use Rattle.lent.specs.laws.Numbers.{be_bytes_be_value, be_value_one, be_value_part_lt, splice_be_value}
use Rattle.lent.specs.laws.Same.{same_eq, eq_same}
use Rattle.sifv.specs.Value.{Value}
use Rattle.sifv.specs.Slot.{encode_slot, decode_slot, value_ok, slot_ok}
use Rattle.sifv.specs.laws.Layout.{and_left, and_right, and_both}
use Rattle.sifv.specs.laws.SlotLaws.{slot_back, slot_same, slot_fits}
use Rattle.sifv.specs.inner.Seen.{seen, kind_in}
use Rattle.sifv.specs.laws.Formed.{kind_at_law}
use Rattle.tables.specs.ProgramBytes.{index_word}
use Rattle.vm.specs.Machine.{State}
use Rattle.stored.specs.StateBytes.{below, mark, frame, or_nothing, slots_at, stack_at, frames_at, functions_at, word_index, encode_state, state_ok}
use Rattle.vm_laws.specs.laws.StateLaws.{upto_at, slot_at, slot_none, function_at_lem, function_none, stack_push, frames_push, each_map, each_get, each_reverse, state_accepted}
use Rattle.vm_laws.specs.laws.Kept.{within_all_of, sound_storable}
use Rattle.execute.specs.inner.View.{names_of, view, Canon}
use Rattle.execute.specs.laws.Laying.{canon_neat, get_push, get_out, length_stack, length_frames}
use Rattle.execute.specs.laws.Acts.{kind_none}
use Rattle.state.specs.inner.Fields.{loc_at, mark_of, place_ok, frame_ok, slot_test, stack_test, frame_test, fn_test, slots_ok, stack_ok, frames_ok, fns_ok, state_fields_ok}
use Rattle.state.specs.laws.Marks.{mark_law}
use Rattle.state.specs.laws.Whole.{accepted_start, accepted_mark, a_byte, written_back}
use Rattle.execute.specs.laws.Stacks.{frame_end}
use Rattle.lent.specs.Lists.{zeros, upto}
use Rattle.stored.specs.Storable.{Held}

-- ---- a scan: what is tested so far

pub scan_turn : (t : ℕ → Bool) (i : ℕ) (ok o : Bool) {r : Bool} → ok ≡ upto i t → o ≡ t i → r ≡ (ok && o) → r ≡ upto (i + 1) t
scan_turn t i ok o e f g = g ∙ ap₂ (λ (x y : Bool). x && y) e f ∙ ap (λ (k : ℕ). upto k t) (sym (add-one i))

pub scan_end : (t : ℕ → Bool) (n i : ℕ) (ok : Bool) → ok ≡ upto i t → i ≤ n → n ≤ i → ok ≡ upto n t
scan_end t n i ok e g h = let z : i ≡ n = omega arith in e ∙ ap (λ (k : ℕ). upto k t) z

scan_all : (n : ℕ) (t : ℕ → Bool) → ((k : ℕ) → k < n → t k ≡ true) → upto n t ≡ true
scan_all zero t h = refl
scan_all (suc n) t h = and_both (scan_all n t (λ k q. h k (omega arith))) (h n (omega arith))

-- ---- bytes that are all 0

module _ (b : List ℕ) (at n : ℕ) (e : same_bytes (part b at n) (zeros n) ≡ true) where
  zero_in : (j m : ℕ) → j + m ≤ n → part b (at + j) m ≡ zeros m
  zero_in j m h = sym (part_part b at n j m h) ∙ ap (λ (l : List ℕ). part l j m) (same_eq (part b at n) (zeros n) e) ∙ part_replicate n 0 j m h

-- no function, and no call
pub fns_zero : (b : List ℕ) (n : ℕ) → same_bytes (part b 47200 128) (zeros 128) ≡ true → fns_ok b n ≡ true
unfolding fns_ok
fns_zero b n e = scan_all 64 (fn_test b n) (λ x h. ap (λ (l : List ℕ). leb (be_value l) n) (zero_in b 47200 128 e (x * 2) 2 (omega arith)) ∙ le-leb 0 n (omega arith))

pub frames_zero : (b : List ℕ) (c n : ℕ) → c ≡ 0 → same_bytes (part b 47104 96) (zeros 96) ≡ true → frames_ok b c n ≡ true
unfolding frames_ok
frames_zero b c n z e =
    scan_all 24 (frame_test b c n)
    (λ i h.
    let q : 47104 + i * 4 + 2 ≡ 47104 + (i * 4 + 2) = omega arith in
    ap₂ (λ (t : Bool) (l : List ℕ). frame_ok t (be_value l) n && eqb (be_value (part b (47104 + i * 4 + 2) 2)) 0) (le-ltb i c (omega arith)) (zero_in b 47104 96 e (i * 4) 2 (omega arith))
    ∙ ap (λ (l : List ℕ). eqb (be_value l) 0) (ap (λ (j : ℕ). part b j 2) q ∙ zero_in b 47104 96 e (i * 4 + 2) 2 (omega arith)))

-- ---- stacks read from their bytes: s n is g (n - 1), .., g 0

module _ {A : Type 0} (g : ℕ → A) (s : ℕ → List A) (l : (n : ℕ) → length (s n) ≡ n) (u : (n : ℕ) → s (suc n) ≡ g n ∷ s n) where
  down_get : (n k : ℕ) → get_elem? (reverse (s n)) k ≡ cond (ltb k n) (some (g k)) none
  down_get n k = by_test n (ltb k n) refl
    where
      inside : (n : ℕ) → k < n → get_elem? (reverse (s n)) k ≡ some (g k)
      inside zero h = absurd (omega arith)
      inside (suc n) h =
          ap (λ (x : List A). get_elem? (reverse x) k) (u n)
          ∙ get_push (g n) (s n) k
          ∙ ap (λ (i : ℕ). cond (eqb k i) (some (g n)) (get_elem? (reverse (s n)) k)) (l n)
          ∙ last (eqb k n) refl (inside n)
        where
          last : (t : Bool) → eqb k n ≡ t → (k < n → get_elem? (reverse (s n)) k ≡ some (g k)) → cond t (some (g n)) (get_elem? (reverse (s n)) k) ≡ some (g k)
          last true e f = ap (λ (i : ℕ). some (g i)) (sym (eqb-true k n e))
          last false e f = f (omega (arith, eqb-false k n e))

      by_test : (n : ℕ) (t : Bool) → ltb k n ≡ t → get_elem? (reverse (s n)) k ≡ cond t (some (g k)) none
      by_test n true e = inside n (ltb-true k n e)
      by_test n false e = get_out (reverse (s n)) k (omega (arith, ltb-false k n e, length-reverse (s n), l n))

stack_get : (b : List ℕ) (n k : ℕ) → get_elem? (reverse (stack_at b n)) k ≡ cond (ltb k n) (some (or_nothing (decode_slot (part b (40960 + k * 256) 256)))) none
stack_get b = down_get (λ (k : ℕ). or_nothing (decode_slot (part b (40960 + k * 256) 256))) (stack_at b) (length_stack b) (stack_push b)

frames_get : (b : List ℕ) (n k : ℕ) → get_elem? (reverse (frames_at b n)) k ≡ cond (ltb k n) (some (be_value (part b (47104 + k * 4) 2))) none
frames_get b = down_get (λ (k : ℕ). be_value (part b (47104 + k * 4) 2)) (frames_at b) (length_frames b) (frames_push b)

each_stack : {P : Value → Type 0} (b : List ℕ) (n : ℕ) → ((k : ℕ) → k < n → P (or_nothing (decode_slot (part b (40960 + k * 256) 256)))) → Each P (stack_at b n)
each_stack b zero h = none
each_stack {P} b (suc n) h = subst (Each P) (sym (stack_push b n)) (more (h n (omega arith)) (each_stack b n (λ k q. h k (omega arith))))

each_frames : {P : ℕ → Type 0} (b : List ℕ) (n : ℕ) → ((k : ℕ) → k < n → P (be_value (part b (47104 + k * 4) 2))) → Each P (frames_at b n)
each_frames b zero h = none
each_frames {P} b (suc n) h = subst (Each P) (sym (frames_push b n)) (more (h n (omega arith)) (each_frames b n (λ k q. h k (omega arith))))

-- ---- a slot

slot_of : {c : List ℕ} (v : Option Value) → c ≡ encode_slot v → Held v → slot_ok c ≡ true
unfolding slot_ok
slot_of {c} v e q =
    let d : decode_slot c ≡ v = ap decode_slot e ∙ slot_back v q.0 q.1 in
    and_both (ap value_ok d ∙ q.0) (eq_same (encode_slot (decode_slot c)) c (ap encode_slot d ∙ sym e))

slot_held : (c : List ℕ) → slot_ok c ≡ true → Held (decode_slot c)
unfolding slot_ok
slot_held c e = (and_left (value_ok (decode_slot c)) (same_bytes (encode_slot (decode_slot c)) c) e, slot_fits c)

-- ---- a slot of the value stack: t says whether it lies below the depth

place_of : (b : List ℕ) (at : ℕ) (t : Bool) (x : Value) → part b at 256 ≡ encode_slot (cond t (some x) none) → Held (cond t (some x) none) → place_ok t (get_or b at 0) ≡ true
place_of b at t x e q = go t e q
  where
    kind : (v : Option Value) → part b at 256 ≡ encode_slot v → Held v → get_or b at 0 ≡ kind_in (seen v)
    kind v e q =
        let d : decode_slot (part b at 256) ≡ v = ap decode_slot e ∙ slot_back v q.0 q.1 in
        kind_at_law b at (ap encode_slot d ∙ sym e) refl ∙ ap (λ (w : Option Value). kind_in (seen w)) d

    go : (t : Bool) → part b at 256 ≡ encode_slot (cond t (some x) none) → Held (cond t (some x) none) → place_ok t (get_or b at 0) ≡ true
    go true e q =
        ap not (ne_eqb (get_or b at 0) 0
        (λ z. let y = kind_none (some x) (sym (kind (some x) e q) ∙ z) in let w : ◌≡◌ {A = ℕ} 0 1 = cc in omega arith))
    go false e q = eq-eqb (get_or b at 0) 0 (kind none e q)

-- what it holds below the depth, nothing above
module _ (b : List ℕ) (at : ℕ) (f : slot_ok (part b at 256) ≡ true) where
  place_value : (t : Bool) → place_ok t (get_or b at 0) ≡ true → decode_slot (part b at 256) ≡ cond t (some (or_nothing (decode_slot (part b at 256)))) none
  place_value t e = by_value t e (decode_slot (part b at 256)) (kind_at_law b at (slot_same (part b at 256) f) refl)
    where
      by_value : (t : Bool) → place_ok t (get_or b at 0) ≡ true → (v : Option Value) → get_or b at 0 ≡ kind_in (seen v) → v ≡ cond t (some (or_nothing v)) none
      by_value true e none k = absurd (eqb-false (get_or b at 0) 0 (not-true (eqb (get_or b at 0) 0) e) k)
      by_value true e (some v) k = refl
      by_value false e v k = kind_none v (sym k ∙ eqb-true (get_or b at 0) 0 e)

  place_bytes : (t : Bool) → place_ok t (get_or b at 0) ≡ true → part b at 256 ≡ encode_slot (cond t (some (or_nothing (decode_slot (part b at 256)))) none)
  place_bytes t e = sym (slot_same (part b at 256) f) ∙ ap encode_slot (place_value t e)

  place_held : (t : Bool) → place_ok t (get_or b at 0) ≡ true → Held (cond t (some (or_nothing (decode_slot (part b at 256)))) none)
  place_held t e = subst Held (place_value t e) (slot_held (part b at 256) f)

-- ---- a frame

-- two bytes are the number that they spell
two_bytes : (b : List ℕ) (at : ℕ) → AreBytes b → at + 2 ≤ length b → part b at 2 ≡ be_bytes 2 (be_value (part b at 2))
two_bytes b at a h = sym (ap (λ (k : ℕ). be_bytes k (be_value (part b at 2))) (sym (length_part b at 2 h)) ∙ be_bytes_be_value (each_part at 2 a))

module _ (n : ℕ) (b : List ℕ) (at : ℕ) where
  abbrev pos : ℕ
  pos = be_value (part b at 2)

  frame_of : (t : Bool) → part b at 4 ≡ frame (cond t (some pos) none) → below n (cond t (some pos) none) ≡ true → (frame_ok t pos n && eqb (be_value (part b (at + 2) 2)) 0) ≡ true
  frame_of t e q = and_both (go t e q) (eq-eqb (be_value (part b (at + 2) 2)) 0 (ap be_value (sym (part_part b at 4 2 2 (omega arith)) ∙ ap (λ (c : List ℕ). part c 2 2) e ∙ frame_end (cond t (some pos) none))))
    where
      go : (t : Bool) → part b at 4 ≡ frame (cond t (some pos) none) → below n (cond t (some pos) none) ≡ true → frame_ok t pos n ≡ true
      go true e q = q
      go false e q =
          let z : part b at 2 ≡ zeros 2 = sym (take-take 2 4 (drop at b) (omega arith)) ∙ ap (take 2) e in
          eq-eqb pos 0 (ap be_value z)

  frame_bytes : (t : Bool) → AreBytes b → at + 4 ≤ length b → (frame_ok t pos n && eqb (be_value (part b (at + 2) 2)) 0) ≡ true → part b at 4 ≡ frame (cond t (some pos) none)
  frame_bytes t a h e =
      let q = eqb-true (be_value (part b (at + 2) 2)) 0 (and_right (frame_ok t pos n) (eqb (be_value (part b (at + 2) 2)) 0) e) in
      part_add b at 2 2
      ∙ ap₂ (λ (x y : List ℕ). x ++ y) (two_bytes b at a (omega arith)) (two_bytes b (at + 2) a (omega arith) ∙ ap (be_bytes 2) q)
      ∙ go t (and_left (frame_ok t pos n) (eqb (be_value (part b (at + 2) 2)) 0) e)
    where
      go : (t : Bool) → frame_ok t pos n ≡ true → be_bytes 2 pos ++ be_bytes 2 0 ≡ frame (cond t (some pos) none)
      go true e = refl
      go false e = ap (λ (p : ℕ). be_bytes 2 p ++ be_bytes 2 0) (eqb-true pos 0 e)

-- ---- functions

below_index : (n w : ℕ) → below n (word_index w) ≡ leb w n
below_index n zero = sym (le-leb 0 n (omega arith))
below_index n (suc i) = refl

index_word_lem : (w : ℕ) → index_word (word_index w) ≡ w
index_word_lem zero = refl
index_word_lem (suc i) = refl

-- ---- all fields

-- three regions of slots
slots_of : (b : List ℕ) (i : ℕ) → i < 184 → ((k : ℕ) → k < 96 → slot_ok (part b (0 + k * 256) 256) ≡ true) → ((k : ℕ) → k < 64 → slot_ok (part b (24576 + k * 256) 256) ≡ true)
    → ((k : ℕ) → k < 24 → slot_ok (part b (40960 + k * 256) 256) ≡ true) → slot_test b i ≡ true
slots_of b i h f g j = by_test (ltb i 96) refl (ltb i 160) refl
  where
    by_test : (t : Bool) → ltb i 96 ≡ t → (u : Bool) → ltb i 160 ≡ u → slot_test b i ≡ true
    by_test true e u r = let z : i * 256 ≡ 0 + i * 256 = omega arith in ap (λ (x : ℕ). slot_ok (part b x 256)) z ∙ f i (ltb-true i 96 e)
    by_test false e true r =
        let o = ltb-false i 96 e in
        let w = ltb-true i 160 r in
        let z : i * 256 ≡ 24576 + (i - 96) * 256 = omega arith in ap (λ (x : ℕ). slot_ok (part b x 256)) z ∙ g (i - 96) (omega arith)
    by_test false e false r =
        let w = ltb-false i 160 r in
        let z : i * 256 ≡ 40960 + (i - 160) * 256 = omega arith in ap (λ (x : ℕ). slot_ok (part b x 256)) z ∙ j (i - 160) (omega arith)

module _ (n : ℕ) (b : List ℕ) where
  -- what a run leaves passes the tests
  canon_fields : Canon n b (loc_at b) → mark_of b ≡ be_value (part b 47328 8) → state_fields_ok n b ≡ true
  unfolding slots_ok stack_ok frames_ok fns_ok
  canon_fields c m =
      let h = c.holds in
      let s = c.sound in
      let d = get_or b 47346 0 in
      let e = get_or b 47347 0 in
      let stack : (k : ℕ) → Held (get_elem? (reverse (stack_at b d)) k) = λ k. each_get Held (refl, tt) (each_reverse s.stack_held) k in
      let calls : (k : ℕ) → below n (get_elem? (reverse (frames_at b e)) k) ≡ true =
      λ k. each_get (λ (o : Option ℕ). below n o ≡ true) refl (each_reverse (each_map (λ p q. lt-ltb p n q) s.calls_below)) k in
      let names : (k : ℕ) → k < 64 → slot_ok (part b (24576 + k * 256) 256) ≡ true = λ k q. slot_of (slots_at b 24576 64 k) (h.in_names k q) (s.names_ok.held k) in
      and_both
      (and_both (le-leb d 24 (subst (λ (x : ℕ). x ≤ 24) (length_stack b d) s.stack_max))
      (and_both (le-leb e 24 (subst (λ (x : ℕ). x ≤ 24) (length_frames b e) s.calls_max))
      (and_both (le-leb (be_value (part b 47344 2)) n s.pos_max) (eq_same (part b 47348 12) (zeros 12) h.in_rest))))
      (and_both
      (and_both
      (scan_all 24 (stack_test b d) (λ k q. place_of b (40960 + k * 256) (ltb k d) (or_nothing (decode_slot (part b (40960 + k * 256) 256)))
      (h.in_stack k q ∙ ap encode_slot (stack_get b d k)) (subst Held (stack_get b d k) (stack k))))
      (scan_all 24 (frame_test b e n) (λ k q. frame_of n b (47104 + k * 4) (ltb k e)
      (h.in_calls k q ∙ ap frame (frames_get b e k)) (sym (ap (below n) (frames_get b e k)) ∙ calls k))))
      (and_both
      (and_both
      (scan_all 64 (fn_test b n) (λ x q. sym (below_index n (be_value (part b (47200 + x * 2) 2))) ∙ sym (ap (below n) (function_at_lem b x q)) ∙ s.fns_below x))
      (eq-eqb (mark_of b) (be_value (part b 47328 8)) m))
      (scan_all 184 (slot_test b) (λ i q. slots_of b i q
      (λ k r. slot_of (slots_at b 0 96 k) (h.in_regs k r) (s.regs_held k)) names
      (λ k r. slot_of (get_elem? (reverse (stack_at b d)) k) (h.in_stack k r) (stack k))))))

  -- what the tests say
  record Tested : Type 0 where
    deep : get_or b 47346 0 ≤ 24
    far : get_or b 47347 0 ≤ 24
    ends : be_value (part b 47344 2) ≤ n
    rest : part b 47348 12 ≡ zeros 12
    places : (k : ℕ) → k < 24 → stack_test b (get_or b 47346 0) k ≡ true
    frames : (k : ℕ) → k < 24 → frame_test b (get_or b 47347 0) n k ≡ true
    fns : (x : ℕ) → x < 64 → fn_test b n x ≡ true
    marked : mark_of b ≡ be_value (part b 47328 8)
    slots : (i : ℕ) → i < 184 → slot_test b i ≡ true

  tested : state_fields_ok n b ≡ true → Tested
  unfolding slots_ok stack_ok frames_ok fns_ok
  tested q =
      let d = leb (get_or b 47346 0) 24 in
      let e = leb (get_or b 47347 0) 24 in
      let p = leb (be_value (part b 47344 2)) n in
      let z = same_bytes (part b 47348 12) (zeros 12) in
      let u = stack_ok b (get_or b 47346 0) in
      let v = frames_ok b (get_or b 47347 0) n in
      let w = fns_ok b n in
      let m = eqb (mark_of b) (be_value (part b 47328 8)) in
      let x = slots_ok b in
      let q1 = and_left (d && (e && (p && z))) ((u && v) && ((w && m) && x)) q in
      let q2 = and_right (d && (e && (p && z))) ((u && v) && ((w && m) && x)) q in
      let q3 = and_right d (e && (p && z)) q1 in
      let q4 = and_right e (p && z) q3 in
      let q5 = and_left (u && v) ((w && m) && x) q2 in
      let q6 = and_right (u && v) ((w && m) && x) q2 in
      let q7 = and_left (w && m) x q6 in
      record {
        deep = leb-true (get_or b 47346 0) 24 (and_left d (e && (p && z)) q1);
        far = leb-true (get_or b 47347 0) 24 (and_left e (p && z) q3);
        ends = leb-true (be_value (part b 47344 2)) n (and_left p z q4);
        rest = same_eq (part b 47348 12) (zeros 12) (and_right p z q4);
        places = upto_at 24 (stack_test b (get_or b 47346 0)) (and_left u v q5);
        frames = upto_at 24 (frame_test b (get_or b 47347 0) n) (and_right u v q5);
        fns = upto_at 64 (fn_test b n) (and_left w m q7);
        marked = eqb-true (mark_of b) (be_value (part b 47328 8)) (and_right w m q7);
        slots = upto_at 184 (slot_test b) (and_right (w && m) x q6);
      }

  module _ (o : n ≤ 1024) (a : AreBytes b) (l : 47360 ≤ length b) where
    -- what passes the tests, a run may begin with
    module _ (t : Tested) where
      slot_ok_lem : (at j k : ℕ) → at ≡ j * 256 → j + k < 184 → slot_ok (part b (at + k * 256) 256) ≡ true
      slot_ok_lem at j k e h = let z : at + k * 256 ≡ (j + k) * 256 = omega arith in ap (λ (x : ℕ). slot_ok (part b x 256)) z ∙ t.slots (j + k) h

      region_held : (at j m : ℕ) → at ≡ j * 256 → j + m ≤ 184 → (k : ℕ) → Held (slots_at b at m k)
      region_held at j m e h =
          within_all_of Held m (slots_at b at m) (refl, tt)
          (λ k q. subst Held (sym (slot_at b at m k q)) (slot_held (part b (at + k * 256) 256) (slot_ok_lem at j k e (omega arith))))
          (slot_none b at m)

      region_cells : (at j m : ℕ) → at ≡ j * 256 → j + m ≤ 184 → (k : ℕ) → k < m → part b (at + k * 256) 256 ≡ encode_slot (slots_at b at m k)
      region_cells at j m e h k q = sym (slot_same (part b (at + k * 256) 256) (slot_ok_lem at j k e (omega arith))) ∙ ap encode_slot (sym (slot_at b at m k q))

      place_slot : (k : ℕ) → k < 24 → slot_ok (part b (40960 + k * 256) 256) ≡ true
      place_slot k q = slot_ok_lem 40960 160 k refl (omega arith)

      tested_canon : Canon n b (loc_at b)
      tested_canon =
          let d = get_or b 47346 0 in
          let e = get_or b 47347 0 in
          record {
            holds = record {
              room = l;
              in_regs = region_cells 0 0 96 refl (omega arith);
              in_names = region_cells 24576 96 64 refl (omega arith);
              in_stack = λ k q. place_bytes b (40960 + k * 256) (place_slot k q) (ltb k d) (t.places k q) ∙ ap encode_slot (sym (stack_get b d k));
              in_calls = λ k q. frame_bytes n b (47104 + k * 4) (ltb k e) a (omega arith) (t.frames k q) ∙ ap frame (sym (frames_get b e k));
              in_fns = λ x q.
                  two_bytes b (47200 + x * 2) a (omega arith)
                  ∙ ap (be_bytes 2) (sym (index_word_lem (be_value (part b (47200 + x * 2) 2))) ∙ ap index_word (sym (function_at_lem b x q)));
              in_rest = t.rest;
            };
            sound = record {
              regs_held = region_held 0 0 96 refl (omega arith);
              regs_end = slot_none b 0 96;
              names_ok = record {
                held = region_held 24576 96 64 refl (omega arith);
                ends = slot_none b 24576 64;
              };
              stack_held = each_stack b d (λ k q.
                  subst (λ (u : Bool). Held (cond u (some (or_nothing (decode_slot (part b (40960 + k * 256) 256)))) none)) (lt-ltb k d q)
                  (place_held b (40960 + k * 256) (place_slot k (omega (arith, t.deep))) (ltb k d) (t.places k (omega (arith, t.deep)))));
              stack_max = subst (λ (x : ℕ). x ≤ 24) (sym (length_stack b d)) t.deep;
              calls_below = each_frames b e (λ k q.
                  let f = and_left (frame_ok (ltb k e) (be_value (part b (47104 + k * 4) 2)) n) (eqb (be_value (part b (47104 + k * 4 + 2) 2)) 0) (t.frames k (omega (arith, t.far))) in
                  ltb-true (be_value (part b (47104 + k * 4) 2)) n (sym (ap (λ (u : Bool). frame_ok u (be_value (part b (47104 + k * 4) 2)) n) (lt-ltb k e q)) ∙ f));
              calls_max = subst (λ (x : ℕ). x ≤ 24) (sym (length_frames b e)) t.far;
              fns_below = within_all_of (λ (v : Option ℕ). below n v ≡ true) 64 (functions_at b) refl
                  (λ x q. ap (below n) (function_at_lem b x q) ∙ below_index n (be_value (part b (47200 + x * 2) 2)) ∙ t.fns x q)
                  (function_none b);
              fns_end = function_none b;
              pos_max = t.ends;
            };
            small = o;
          }

    -- and such bytes are the one form of their state
    canon_accepted : Canon n b (loc_at b) → mark_of b ≡ be_value (part b 47328 8) → state_ok n b ≡ true
    canon_accepted c m =
        let s : State = record { machine = view b (loc_at b); count = be_value (part b 47336 8) } in
        let ld = length_stack b (get_or b 47346 0) in
        let lc = length_frames b (get_or b 47347 0) in
        let here : (at w v : ℕ) → at + w ≤ length b → v ≡ be_value (part b at w) → b ≡ splice b at (be_bytes w v) = λ at w v h e. sym (splice_be_value b at w a h) ∙ ap (λ (x : ℕ). splice b at (be_bytes w x)) (sym e) in
        let w : b ≡ encode_state s ++ drop 47360 b =
        written_back b s c.holds (a_byte (length (stack_at b (get_or b 47346 0))) c.sound.stack_max) (a_byte (length (frames_at b (get_or b 47347 0))) c.sound.calls_max)
        (here 47328 8 (mark 0 64 (names_of b)) (omega arith) (sym (mark_law b (canon_neat n b (loc_at b) c).names) ∙ m))
        (here 47336 8 (be_value (part b 47336 8)) (omega arith) refl)
        (here 47344 2 (be_value (part b 47344 2)) (omega arith) refl)
        (here 47346 1 (length (stack_at b (get_or b 47346 0))) (omega arith) (ld ∙ sym (be_value_one b 47346 (omega arith))))
        (here 47347 1 (length (frames_at b (get_or b 47347 0))) (omega arith) (lc ∙ sym (be_value_one b 47347 (omega arith)))) in
        ap (state_ok n) w ∙ state_accepted n s (sound_storable n s o c.sound (be_value_part_lt b 47336 8 a (omega arith))) (drop 47360 b)

    -- the tests accept exactly the accepted states
    pub fields_law : state_fields_ok n b ≡ state_ok n b
    fields_law = both (state_fields_ok n b) (state_ok n b)
        (λ e. canon_accepted (tested_canon (tested e)) (tested e).marked)
        (λ e. canon_fields (accepted_start n b o a l e) (accepted_mark n b o a l e))
      where
        both : (x y : Bool) → (x ≡ true → y ≡ true) → (y ≡ true → x ≡ true) → x ≡ y
        both true y f g = sym (f refl)
        both false true f g = g refl
        both false false f g = refl
