-- An If's arms, lowered in a loop: what is left of them gives the whole, once the jumps that wait have their target.
use Rattle.std.specs.Prelude.{ℕ, suc, ◌+◌, ◌-◌, ◌*◌, ◌≤◌, ◌<◌, ◌^◌, ◌≡◌, refl, Bool, true, cond, List, [], ◌∷◌, eqb, length}
use Rattle.std.proofs.Common.{ap, ◌∙◌, arith, eqb-true}
use Rattle.std.proofs.lemmas.Bool.{eqb-false}
use Rattle.lent.specs.Bytes.{be_value, be_bytes, part, splice}
use Rattle.opc.specs.Op.{Nop}
use Rattle.compiler.specs.Lower.{push}
use Rattle.emit.specs.declared.Low.{Low}
use Rattle.emit.specs.declared.Done.{Done}
use Rattle.emit.specs.inner.Run.{Ready}
use Rattle.emit.specs.inner.Made.{ReadsAt, Goes}
use Rattle.emit.specs.laws.Laws.{Is, yes, no, is}
use Rattle.stmt.specs.inner.Parts.{Emitted, last_waiting, Waits, targets, written, next_arm, end_label, lists, heads}
use Rattle.stmt.specs.laws.ArmParts.{arms, rests}
use Rattle.stmt.specs.laws.Kinds.{goes_some, goes_ready, goes_cont}
use Rattle.stmt.specs.laws.Ends.{Same, did_same, waits_same}
use Rattle.stmt.specs.laws.Arms.{head_reads, rest_reads, arms_goes, arm_leaves, elif_reads, elif_goes, else_reads, else_asks, else_goes}

-- from p on an arm with n Elifs is to be lowered; at q there are `more` arms left, the first to be read from there
pub record IfLeft (n m : ℕ) (c b : List ℕ) (k : Bool) (p : Done) (buf : List ℕ) (last more : ℕ) (q : Done) (buf' : List ℕ) : Type 0 where
  pub ends : List ℕ
  pub holds : last ≡ last_waiting ends
  pub below : last_waiting ends ≤ q.low.recs
  pub waits : Waits ends buf'
  pub ready : Ready q.low buf'
  pub behind : p.cont ≤ q.cont
  pub arm_left : (j : ℕ) → suc j ≡ more → ReadsAt (arms q.lbl j m) c b q buf' × ((r : Done) (d : List ℕ) → Goes (arms q.lbl j m) c b k q buf' r d → Goes (arms p.lbl n m) c b k p buf r (targets ends r.lbl d))
  pub rest_left : more ≡ 0 → ReadsAt (rests q.lbl more m) c b q buf' × ((r : Done) (d : List ℕ) → Goes (rests q.lbl more m) c b k q buf' r d → Goes (arms p.lbl n m) c b k p buf r (targets ends r.lbl d))

module _ {n m : ℕ} {c b : List ℕ} {k : Bool} {p : Done} {buf : List ℕ} where
  pub if_start : ReadsAt (arms p.lbl n m) c b p buf → IfLeft n m c b k p buf 0 (n + 1) p buf
  if_start h = record {
    ends = [];
    holds = refl;
    below = omega arith;
    waits = tt;
    ready = h.ready;
    behind = omega arith;
    arm_left = λ j e. let z : j ≡ n = omega (arith, e) in rw z (h, λ r d g. g);
    rest_left = λ z. absurd (omega (arith, z));
  }

  module _ {last more : ℕ} {q : Done} {buf₁ : List ℕ} (i : IfLeft n m c b k p buf last more q buf₁) where
    -- the next arm may be read
    pub if_arm_reads : (j : ℕ) → suc j ≡ more → ReadsAt (heads q.lbl last) c b q buf₁
    if_arm_reads j e = head_reads j m last (i.arm_left j e).0

    -- ---- one turn

    module _ (j : ℕ) (sj : suc j ≡ more) {a : Done} {buf₂ : List ℕ} (g : Goes (heads q.lbl last) c b k q buf₁ a buf₂) where
      -- the jumps that wait now
      ends₁ : List ℕ
      ends₁ = cond (written k a.low) ((a.low.recs - 1) ∷ i.ends) i.ends

      leaves : (q.low.recs ≤ a.low.recs) × Same q.low.recs buf₁ buf₂
          × (written k a.low ≡ true → (q.low.recs + 1 ≤ a.low.recs) × (a.low.recs - 1 < 1024) × (be_value (part buf₂ (16 * (a.low.recs - 1) + 8) 8) ≡ last))
      leaves = arm_leaves j m last g (if_arm_reads j sj) (omega (arith, i.holds, i.below, i.ready.records))

      kept_waits : Waits i.ends buf₂
      kept_waits = waits_same i.ends i.below leaves.1 i.waits

      turn_waits : Waits ends₁ buf₂ × (last_waiting ends₁ ≤ a.low.recs) × (cond (written k a.low) a.low.recs last ≡ last_waiting ends₁)
      unfolding ends₁
      turn_waits = by_test (is (written k a.low))
        where
          by_test : Is (written k a.low) → Waits ends₁ buf₂ × (last_waiting ends₁ ≤ a.low.recs) × (cond (written k a.low) a.low.recs last ≡ last_waiting ends₁)
          by_test (yes h) =
              let y = leaves.2 h in
              rw h ((omega (arith, i.below, y.0), y.1, y.2 ∙ i.holds, kept_waits), omega (arith, y.0), omega (arith, y.0))
          by_test (no h) = rw h (kept_waits, omega (arith, i.below, leaves.0), i.holds)

      turn_reads : ReadsAt (rests a.lbl j m) c b a buf₂
      turn_reads = rest_reads j m last g (i.arm_left j sj).0

      turn_goes : (r : Done) (d : List ℕ) → Goes (rests a.lbl j m) c b k a buf₂ r d → Goes (arms p.lbl n m) c b k p buf r (targets ends₁ r.lbl d)
      unfolding ends₁
      turn_goes r d x = by_test (is (written k a.low))
        where
          whole : Goes (arms p.lbl n m) c b k p buf r (targets i.ends r.lbl (cond (written k a.low) (splice d (16 * (a.low.recs - 1) + 8) (be_bytes 8 r.lbl)) d))
          whole = (i.arm_left j sj).1 r _ (arms_goes j m last g i.ready x)

          by_test : Is (written k a.low) → Goes (arms p.lbl n m) c b k p buf r (targets ends₁ r.lbl d)
          by_test (yes h) = rw h (rw h at whole)
          by_test (no h) = rw h (rw h at whole)

      turn_behind : p.cont ≤ a.cont
      turn_behind = let f = if_arm_reads j sj in omega (arith, i.behind, goes_cont (heads q.lbl last) f g)

      -- no arm is left
      turn_last : {last₁ : ℕ} → last₁ ≡ cond (written k a.low) a.low.recs last → j ≡ 0 → IfLeft n m c b k p buf last₁ j a buf₂
      turn_last e z = record {
        ends = ends₁;
        holds = e ∙ turn_waits.2;
        below = turn_waits.1;
        waits = turn_waits.0;
        ready = turn_reads.ready;
        behind = turn_behind;
        arm_left = λ l y. absurd (omega (arith, y, z));
        rest_left = λ y. (turn_reads, turn_goes);
      }

      -- the next arm stands behind its Elif
      turn_next : {last₁ : ℕ} {q₁ : Done} → last₁ ≡ cond (written k a.low) a.low.recs last → (j ≡ 0 → ⊥) → q₁ ≡ record { cont = a.cont + 2; body = a.body + 0; lbl = a.lbl; low = a.low } → IfLeft n m c b k p buf last₁ j q₁ buf₂
      turn_next {last₁} {q₁} e z x =
          let low : q₁.low ≡ a.low = ap (λ (d : Done). d.low) x in
          record {
            ends = ends₁;
            holds = e ∙ turn_waits.2;
            below = omega (arith, ap (λ (s : Low). s.recs) low, turn_waits.1);
            waits = turn_waits.0;
            ready = rw low turn_reads.ready;
            behind = omega (arith, turn_behind, ap (λ (d : Done). d.cont) x);
            arm_left = λ l y. (elif_reads c b a j m z x l y turn_reads, λ r d f. turn_goes r d (elif_goes c b a j m z x l y f));
            rest_left = λ y. absurd (z y);
          }

      -- it is within reach
      pub turn_room : (a.cont ≤ length c) × (a.body ≤ length b)
      turn_room = (turn_reads.cont, turn_reads.body)

      pub if_turn : {last₁ : ℕ} {q₁ : Done} → last₁ ≡ cond (written k a.low) a.low.recs last → q₁ ≡ next_arm j a → IfLeft n m c b k p buf last₁ j q₁ buf₂
      if_turn {last₁} {q₁} e x = by_test (is (eqb j 0))
        where
          by_test : Is (eqb j 0) → IfLeft n m c b k p buf last₁ j q₁ buf₂
          by_test (yes h) =
              let y : q₁ ≡ a = x ∙ ap (λ (z : Bool). cond z a (record { cont = a.cont + 2; body = a.body + 0; lbl = a.lbl; low = a.low })) h in
              rw y (turn_last e (eqb-true j 0 h))
          by_test (no h) =
              turn_next e (eqb-false j 0 h) (x ∙ ap (λ (z : Bool). cond z a (record { cont = a.cont + 2; body = a.body + 0; lbl = a.lbl; low = a.low })) h)

    -- ---- behind the last arm: the else statements and the end

    module _ (z : more ≡ 0) where
      pub if_else_reads : ReadsAt (lists q.lbl m) c b q buf₁
      if_else_reads = else_reads c b q more m z (i.rest_left z).0

      module _ {s : Done} {buf₂ : List ℕ} (g : Goes (lists q.lbl m) c b k q buf₁ s buf₂) where
        pub if_else_asks : Ready s.low buf₂ × (end_label m s.lbl < 2 ^ 64)
        if_else_asks = else_asks c b q more m z g (i.rest_left z).0

        module _ {e : Done} {buf₃ : List ℕ} (f : Emitted (λ w. push w (end_label m s.lbl) Nop ∷ []) (end_label m s.lbl) k s buf₂ e buf₃) where
          last_goes : Goes (rests q.lbl more m) c b k q buf₁ e buf₃
          last_goes = else_goes c b q more m z g f

          -- the jumps still wait
          pub if_waits : (xs : List ℕ) × (last ≡ last_waiting xs) × Waits xs buf₃
          if_waits =
              let r = (i.rest_left z).0 in
              (i.ends, i.holds, waits_same i.ends i.below (did_same r.ready (goes_some (rests q.lbl more m) r last_goes).1.did) i.waits)

          pub if_ready : 40960 ≤ length buf₃
          if_ready = (goes_ready (rests q.lbl more m) (i.rest_left z).0 last_goes).room

          pub if_end : {buf₄ : List ℕ} → ((xs : List ℕ) → last ≡ last_waiting xs → Waits xs buf₃ → buf₄ ≡ targets xs e.lbl buf₃) → Goes (arms p.lbl n m) c b k p buf e buf₄
          unfolding if_waits
          if_end h = rw (h i.ends i.holds if_waits.2) ((i.rest_left z).1 e buf₃ last_goes)
