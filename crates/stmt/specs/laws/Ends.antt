-- Jumps that wait for their target: what events behind them leave as it is.
use Rattle.std.specs.Prelude.{ℕ, ◌+◌, ◌*◌, ◌≤◌, ◌≡◌, refl, List, [], ◌∷◌, length}
use Rattle.std.proofs.Common.{sym, ap, ◌∙◌, arith}
use Rattle.lent.specs.Bytes.{be_value, be_bytes, part, splice}
use Rattle.lent.specs.laws.Parts.{length_part, part_splice, part_splice_before, splice_part}
use Rattle.compiler.specs.Lower.{Event}
use Rattle.emit.specs.declared.Low.{Low}
use Rattle.emit.specs.inner.Run.{step_event, after_events, wrote, Ready, Did}
use Rattle.emit.specs.laws.Laws.{ready_did, step_recs}
use Rattle.emit.specs.laws.Rewrites.{patch_wrote}
use Rattle.stmt.specs.inner.Parts.{last_waiting, Waits, targets}

-- the words before record n are as they were
abbrev pub Same : ℕ → List ℕ → List ℕ → Type 0
Same n buf buf' = (at : ℕ) → at + 8 ≤ 16 * n → part buf' at 8 ≡ part buf at 8

after_grows : (es : List Event) (s : Low) → s.recs ≤ (after_events es s).recs
after_grows [] s = omega arith
after_grows (e ∷ es) s = omega (arith, step_recs e s, after_grows es (step_event e s))

module _ {es : List Event} {s : Low} {buf : List ℕ} {s' : Low} {buf' : List ℕ} where
  pub did_grows : Did es s buf s' buf' → s.recs ≤ s'.recs
  did_grows d = omega (arith, ap (λ (x : Low). x.recs) d.state, after_grows es s)

  pub did_same : Ready s buf → Did es s buf s' buf' → Same s.recs buf buf'
  did_same r d at h =
      let t = part buf at 8 in
      let room : at + 8 ≤ length buf = omega (arith, h, r.records, r.room) in
      let lt : length t ≡ 8 = length_part buf at 8 room in
      let u : buf' ≡ splice (wrote es s buf) at t =
      d.buffer ∙ ap (wrote es s) (sym (splice_part buf at 8 room)) ∙ patch_wrote at t es s buf (omega (arith, h, lt)) r in
      let front : Did es s buf (after_events es s) (wrote es s buf) = record { state = refl; buffer = refl } in
      ap (λ (x : List ℕ). part x at 8) u ∙ part_splice (wrote es s buf) at t 8 lt (omega (arith, h, r.records, (ready_did r front).room))

pub waits_same : (xs : List ℕ) {n : ℕ} {buf buf' : List ℕ} → last_waiting xs ≤ n → Same n buf buf' → Waits xs buf → Waits xs buf'
waits_same [] l s w = tt
waits_same (x ∷ xs) l s w = (w.0, w.1, ap be_value (s (16 * x + 8) (omega (arith, l))) ∙ w.2, waits_same xs (omega (arith, l, w.0)) s w.3)

-- ---- the targets, one after the other

-- what is left of the jumps that wait: at i, in the buffer d
pub record EndsLeft (xs : List ℕ) (l : ℕ) (buf : List ℕ) (i : ℕ) (d : List ℕ) : Type 0 where
  pub ends : List ℕ
  pub last : i ≡ last_waiting ends
  pub waits : Waits ends d
  pub same : targets xs l buf ≡ targets ends l d

pub ends_start : (xs : List ℕ) (l : ℕ) (buf : List ℕ) {i : ℕ} → i ≡ last_waiting xs → Waits xs buf → EndsLeft xs l buf i buf
ends_start xs l buf e w = record { ends = xs; last = e; waits = w; same = refl }

module _ {xs : List ℕ} {l : ℕ} {buf : List ℕ} {i : ℕ} {d : List ℕ} (h : EndsLeft xs l buf i d) where
  -- there is one: the record before i
  pub ends_room : (i ≡ 0 → ⊥) → i ≤ 1024
  ends_room z = by_list h.ends h.last h.waits
    where
      by_list : (ys : List ℕ) → i ≡ last_waiting ys → Waits ys d → i ≤ 1024
      by_list [] e w = absurd (z e)
      by_list (y ∷ ys) e w = omega (arith, e, w.1)

  pub ends_falls : (i ≡ 0 → ⊥) → (at : ℕ) → at + 8 ≡ 16 * i → be_value (part d at 8) + 1 ≤ i
  ends_falls z at q = by_list h.ends h.last h.waits
    where
      by_list : (ys : List ℕ) → i ≡ last_waiting ys → Waits ys d → be_value (part d at 8) + 1 ≤ i
      by_list [] e w = absurd (z e)
      by_list (y ∷ ys) e w =
          let a : at ≡ 16 * y + 8 = omega (arith, e, q) in
          omega (arith, e, w.0, ap (λ (k : ℕ). be_value (part d k 8)) a, w.2)

  pub ends_turn : (i ≡ 0 → ⊥) → (at : ℕ) → at + 8 ≡ 16 * i → 40960 ≤ length d → EndsLeft xs l buf (be_value (part d at 8)) (splice d at (be_bytes 8 l))
  ends_turn z at q r = by_list h.ends h.last h.waits h.same
    where
      by_list : (ys : List ℕ) → i ≡ last_waiting ys → Waits ys d → targets xs l buf ≡ targets ys l d → EndsLeft xs l buf (be_value (part d at 8)) (splice d at (be_bytes 8 l))
      by_list [] e w s = absurd (z e)
      by_list (y ∷ ys) e w s =
          let a : at ≡ 16 * y + 8 = omega (arith, e, q) in
          record {
            ends = ys;
            last = ap (λ (k : ℕ). be_value (part d k 8)) a ∙ w.2;
            waits = waits_same ys w.0 (λ k u. part_splice_before d at (be_bytes 8 l) k 8 (omega (arith, u, a)) (omega (arith, a, w.1, r))) w.3;
            same = s ∙ ap (λ (k : ℕ). targets ys l (splice d k (be_bytes 8 l))) (sym a);
          }

  pub ends_all : i ≡ 0 → d ≡ targets xs l buf
  ends_all z = by_list h.ends h.last h.same
    where
      by_list : (ys : List ℕ) → i ≡ last_waiting ys → targets xs l buf ≡ targets ys l d → d ≡ targets xs l buf
      by_list [] e s = sym s
      by_list (y ∷ ys) e s = absurd (omega (arith, z, e))
