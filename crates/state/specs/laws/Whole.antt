-- A run's bytes and the whole state: accepted bytes hold their machine; written back, they are the state's one form.
use Rattle.std.specs.Prelude.{◌≡◌, refl, true, ℕ, ◌+◌, ◌*◌, ◌/◌, ◌%◌, ◌≤◌, ◌<◌, length, take, drop}
use Rattle.std.proofs.Math.Path.{sym, ap}
use Rattle.std.proofs.Common.{ap₂, ◌∙◌, subst, arith, take-append-drop, drop-drop}
use mathlib.Core.List.{List, [], ◌∷◌, ◌++◌, reverse, append_assoc}
use Rattle.std.proofs.Math.ListN.{get_or, get_elem?}
use Rattle.lent.specs.Bytes.{be_value, be_bytes, part, splice, AreBytes}
use Rattle.lent.specs.laws.Parts.{part_part, part_add, get_d_part, length_splice, splice_append}
use Rattle.lent.specs.laws.Numbers.{length_be_bytes, be_value_be_bytes}
use Rattle.sifv.specs.Slot.{encode_slot}
use Rattle.sifv.specs.laws.Layout.{field_behind}
use Rattle.sifv.specs.laws.SlotLaws.{slot_length}
use Rattle.tables.specs.ProgramBytes.{index_word}
use Rattle.vm.specs.Machine.{Machine, State}
use Rattle.stored.specs.StateBytes.{slots_bytes, frame, mark, encode_state, decode_state, state_ok}
use Rattle.vm_laws.specs.laws.StateLaws.{slot_at, region, state_fields, state_same, length_frame, each_get, each_reverse}
use Rattle.vm_laws.specs.laws.Kept.{accepted_storable, storable_sound}
use Rattle.execute.specs.inner.View.{names_of, view, loc_of, Holds, Canon}
use Rattle.execute.specs.laws.Laying.{cells_each, laid_view, laid_canon, canon_neat, length_stack, length_frames}
use Rattle.execute.specs.declared.Loc.{Loc}
use Rattle.state.specs.inner.Fields.{loc_at, mark_of}
use Rattle.state.specs.laws.Marks.{mark_law}
use Rattle.vm_laws.specs.laws.StateLaws.{mark_fits}
use Rattle.lent.specs.Lists.{zeros, each}
use Rattle.stored.specs.Storable.{Storable, Held}
use Rattle.stored.specs.inner.SoundMachine.{Sound}
use Rattle.sifv.specs.inner.Forms.{Formed}

module _ (n : ℕ) (b : List ℕ) (o : n ≤ 1024) (a : AreBytes b) (l : 47360 ≤ length b) (e : state_ok n b ≡ true) where
  abbrev here : Machine
  here = (decode_state b).machine

  good : Storable n (decode_state b)
  good = accepted_storable n b o a l e

  sound : Sound n (decode_state b).machine
  sound = storable_sound n (decode_state b) good

  whole : encode_state (decode_state b) ++ drop 47360 b ≡ b
  whole = ap (λ (x : List ℕ). x ++ drop 47360 b) (state_same n b e) ∙ take-append-drop 47360 b

  -- accepted bytes hold their machine
  pub accepted_holds : Holds b (decode_state b).machine
  unfolding encode_state
  accepted_holds =
      let s = decode_state b in
      let m = s.machine in
      let f = state_fields n s good in
      let g = sound in
      record {
        room = l;
        in_regs = region 256 96 0 (λ (i : ℕ). encode_slot (m.regs i)) (λ k q. slot_length (m.regs k) (g.regs_held k).0) b
            (ap (λ (x : List ℕ). part x 0 24576) (sym whole) ∙ field_behind f 0 [] (drop 47360 b) (omega arith));
        in_names = region 256 64 24576 (λ (i : ℕ). encode_slot (m.names i)) (λ k q. slot_length (m.names k) (g.names_ok.held k).0) b
            (ap (λ (x : List ℕ). part x 24576 16384) (sym whole) ∙ field_behind f 1 [] (drop 47360 b) (omega arith));
        in_stack = region 256 24 40960 (λ (i : ℕ). encode_slot (get_elem? (reverse m.stack) i)) (λ k q. slot_length (get_elem? (reverse m.stack) k) (each_get Held (refl, tt) (each_reverse g.stack_held) k).0) b
            (ap (λ (x : List ℕ). part x 40960 6144) (sym whole) ∙ field_behind f 2 [] (drop 47360 b) (omega arith));
        in_calls = region 4 24 47104 (λ (i : ℕ). frame (get_elem? (reverse m.calls) i)) (λ k q. length_frame (get_elem? (reverse m.calls) k)) b
            (ap (λ (x : List ℕ). part x 47104 96) (sym whole) ∙ field_behind f 3 [] (drop 47360 b) (omega arith));
        in_fns = region 2 64 47200 (λ (x : ℕ). be_bytes 2 (index_word (m.fns x))) (λ k q. length_be_bytes 2 (index_word (m.fns k))) b
            (ap (λ (x : List ℕ). part x 47200 128) (sym whole) ∙ field_behind f 4 [] (drop 47360 b) (omega arith));
        in_rest = sym (part_part b 47346 14 2 12 (omega arith)) ∙ ap (λ (x : List ℕ). part x 2 12) (ap (λ (x : List ℕ). part x 47346 14) (sym whole) ∙ field_behind f 8 [] (drop 47360 b) (omega arith));
      }

  -- mark, position, depths
  abbrev Small : List ℕ → Machine → Type 0
  Small b m = (part b 47328 8 ≡ be_bytes 8 (mark 0 64 m.names)) × (part b 47346 14 ≡ length m.stack ∷ (length m.calls ∷ zeros 12))

  accepted_small : Small b (decode_state b).machine
  unfolding encode_state
  accepted_small =
      let f = state_fields n (decode_state b) good in (
        ap (λ (x : List ℕ). part x 47328 8) (sym whole) ∙ field_behind f 5 [] (drop 47360 b) (omega arith),
        ap (λ (x : List ℕ). part x 47346 14) (sym whole) ∙ field_behind f 8 [] (drop 47360 b) (omega arith),
      )

  pub accepted_loc : loc_at b ≡ loc_of (decode_state b).machine
  unfolding decode_state
  accepted_loc =
      let q = accepted_small.1 in
      let d = sym (get_d_part b 47346 14 0 0 (omega arith)) ∙ ap (λ (x : List ℕ). get_or x 0 0) q in
      let c = sym (get_d_part b 47346 14 1 0 (omega arith)) ∙ ap (λ (x : List ℕ). get_or x 1 0) q in
      λ i. record { pos = be_value (part b 47344 2); depth = d i; calls = c i }

  -- and a run may begin
  pub accepted_canon : Canon n b (loc_of (decode_state b).machine)
  accepted_canon = laid_canon n (decode_state b).machine b sound o accepted_holds

  -- from where its bytes say
  pub accepted_start : Canon n b (loc_at b)
  accepted_start = subst (Canon n b) (sym accepted_loc) accepted_canon

  -- the machine that they hold
  pub accepted_view : view b (loc_at b) ≡ (decode_state b).machine
  accepted_view = ap (view b) accepted_loc ∙ laid_view n (decode_state b).machine b sound o accepted_holds

  -- the mark is that of the names
  pub accepted_mark : mark_of b ≡ be_value (part b 47328 8)
  unfolding decode_state
  accepted_mark =
      mark_law b (canon_neat n b (loc_at b) accepted_start).names
      ∙ sym (ap be_value accepted_small.0 ∙ be_value_be_bytes 8 (mark 0 64 (names_of b)) (mark_fits (names_of b)))

-- a depth fits its byte
pub a_byte : (k : ℕ) → k ≤ 24 → k < 256
a_byte k h = omega arith

one_byte : (d : ℕ) → d < 256 → be_bytes 1 d ≡ d ∷ []
one_byte d h = let e : d / 1 % 256 ≡ d = omega arith in ap (λ (x : ℕ). x ∷ []) e

regroup : (a b c d e f g h x y z t : List ℕ) → (a ++ (b ++ (c ++ (d ++ e)))) ++ (((((f ++ g) ++ h) ++ x) ++ y) ++ (z ++ t)) ≡ (a ++ (b ++ (c ++ (d ++ (e ++ (f ++ (g ++ (h ++ (x ++ (y ++ z)))))))))) ++ t
regroup a b c d e f g h x y z t = simp append_assoc

-- mark, count, position and depths, written into bytes that hold a machine
pub written_back : (b : List ℕ) (s : State) {b₁ b₂ b₃ b₄ b₅ : List ℕ} → Holds b s.machine → length s.machine.stack < 256 → length s.machine.calls < 256
    → b₁ ≡ splice b 47328 (be_bytes 8 (mark 0 64 s.machine.names)) → b₂ ≡ splice b₁ 47336 (be_bytes 8 s.count) → b₃ ≡ splice b₂ 47344 (be_bytes 2 s.machine.pos)
    → b₄ ≡ splice b₃ 47346 (be_bytes 1 (length s.machine.stack)) → b₅ ≡ splice b₄ 47347 (be_bytes 1 (length s.machine.calls))
    → b₅ ≡ encode_state s ++ drop 47360 b
unfolding encode_state
written_back b s {b₁} {b₂} {b₃} {b₄} {b₅} h d c e1 e2 e3 e4 e5 =
    let m = s.machine in
    let w1 = be_bytes 8 (mark 0 64 m.names) in
    let w2 = be_bytes 8 s.count in
    let w3 = be_bytes 2 m.pos in
    let w4 = be_bytes 1 (length m.stack) in
    let w5 = be_bytes 1 (length m.calls) in
    let r1 = slots_bytes 96 m.regs in
    let r2 = slots_bytes 64 m.names in
    let r3 = slots_bytes 24 (get_elem? (reverse m.stack)) in
    let r4 = each 24 (λ i. frame (get_elem? (reverse m.calls) i)) in
    let r5 = each 64 (λ x. be_bytes 2 (index_word (m.fns x))) in
    let q = h.room in
    let l1 : length b₁ ≡ length b = ap length e1 ∙ length_splice b 47328 w1 (omega arith) in
    let l2 : length b₂ ≡ length b = ap length e2 ∙ length_splice b₁ 47336 w2 (omega arith) ∙ l1 in
    let l3 : length b₃ ≡ length b = ap length e3 ∙ length_splice b₂ 47344 w3 (omega arith) ∙ l2 in
    let j2 : b₂ ≡ splice b 47328 (w1 ++ w2) = e2 ∙ ap (λ (x : List ℕ). splice x 47336 w2) e1 ∙ sym (splice_append b 47328 w1 w2 (omega arith)) in
    let j3 : b₃ ≡ splice b 47328 ((w1 ++ w2) ++ w3) = e3 ∙ ap (λ (x : List ℕ). splice x 47344 w3) j2 ∙ sym (splice_append b 47328 (w1 ++ w2) w3 (omega arith)) in
    let j4 : b₄ ≡ splice b 47328 (((w1 ++ w2) ++ w3) ++ w4) = e4 ∙ ap (λ (x : List ℕ). splice x 47346 w4) j3 ∙ sym (splice_append b 47328 ((w1 ++ w2) ++ w3) w4 (omega arith)) in
    let j5 : b₅ ≡ splice b 47328 ((((w1 ++ w2) ++ w3) ++ w4) ++ w5) = e5 ∙ ap (λ (x : List ℕ). splice x 47347 w5) j4 ∙ sym (splice_append b 47328 (((w1 ++ w2) ++ w3) ++ w4) w5 (omega arith)) in
    let k : take 47328 b ≡ r1 ++ (r2 ++ (r3 ++ (r4 ++ r5))) =
    part_add b 0 24576 22752
    ∙ ap₂ (λ (x y : List ℕ). x ++ y) (cells_each b 0 256 96 (λ (i : ℕ). encode_slot (m.regs i)) h.in_regs)
    (part_add b 24576 16384 6368
    ∙ ap₂ (λ (x y : List ℕ). x ++ y) (cells_each b 24576 256 64 (λ (i : ℕ). encode_slot (m.names i)) h.in_names)
    (part_add b 40960 6144 224
    ∙ ap₂ (λ (x y : List ℕ). x ++ y) (cells_each b 40960 256 24 (λ (i : ℕ). encode_slot (get_elem? (reverse m.stack) i)) h.in_stack)
    (part_add b 47104 96 128
    ∙ ap₂ (λ (x y : List ℕ). x ++ y) (cells_each b 47104 4 24 (λ (i : ℕ). frame (get_elem? (reverse m.calls) i)) h.in_calls)
    (cells_each b 47200 2 64 (λ (x : ℕ). be_bytes 2 (index_word (m.fns x))) h.in_fns)))) in
    let z : drop 20 (drop 47328 b) ≡ zeros 12 ++ drop 47360 b =
    drop-drop 20 47328 b ∙ sym (take-append-drop 12 (drop 47348 b)) ∙ ap₂ (λ (x y : List ℕ). x ++ y) h.in_rest (drop-drop 12 47348 b) in
    j5
    ∙ ap₂ (λ (x y : List ℕ). x ++ (((((w1 ++ w2) ++ w3) ++ w4) ++ w5) ++ y)) k z
    ∙ ap₂ (λ (x y : List ℕ). (r1 ++ (r2 ++ (r3 ++ (r4 ++ r5)))) ++ (((((w1 ++ w2) ++ w3) ++ x) ++ y) ++ (zeros 12 ++ drop 47360 b))) (one_byte (length m.stack) d) (one_byte (length m.calls) c)
    ∙ regroup r1 r2 r3 r4 r5 w1 w2 w3 (length m.stack ∷ []) (length m.calls ∷ []) (zeros 12) (drop 47360 b)

-- what a run leaves in its bytes and its locals, written back
pub run_written : (b : List ℕ) (l : Loc) (k : ℕ) {m : ℕ} {b₁ b₂ b₃ b₄ b₅ : List ℕ} → Holds b (view b l) → l.depth ≤ 24 → l.calls ≤ 24 → m ≡ mark_of b
    → b₁ ≡ splice b 47328 (be_bytes 8 m) → b₂ ≡ splice b₁ 47336 (be_bytes 8 k) → b₃ ≡ splice b₂ 47344 (be_bytes 2 l.pos)
    → b₄ ≡ splice b₃ 47346 (be_bytes 1 l.depth) → b₅ ≡ splice b₄ 47347 (be_bytes 1 l.calls)
    → b₅ ≡ encode_state (record { machine = view b l; count = k }) ++ drop 47360 b
run_written b l k {m} {b₁} {b₂} {b₃} {b₄} {b₅} h d c f e1 e2 e3 e4 e5 =
    let p = length_stack b l.depth in
    let q = length_frames b l.calls in
    written_back b (record { machine = view b l; count = k }) h (subst (λ (x : ℕ). x < 256) (sym p) (a_byte l.depth d)) (subst (λ (x : ℕ). x < 256) (sym q) (a_byte l.calls c))
    (e1 ∙ ap (λ (x : ℕ). splice b 47328 (be_bytes 8 x)) (f ∙ mark_law b formed)) e2 e3
    (e4 ∙ ap (λ (x : ℕ). splice b₃ 47346 (be_bytes 1 x)) (sym p)) (e5 ∙ ap (λ (x : ℕ). splice b₄ 47347 (be_bytes 1 x)) (sym q))
  where
    formed : (x : ℕ) → x < 64 → Formed (part b (24576 + x * 256) 256)
    formed x g = ap encode_slot (sym (slot_at b 24576 64 x g)) ∙ sym (h.in_names x g)
