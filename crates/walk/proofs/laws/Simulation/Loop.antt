-- The lowered code of a For does what the walk does.
use Rattle.std.specs.Prelude.{ℕ, zero, suc, ◌+◌, ◌^◌, pred, ◌≤◌, ◌<◌, ◌≡◌, refl, ◌≢◌, Bool, true, false, List, [], ◌∷◌, ◌++◌, ltb, length}
use Rattle.std.proofs.Common.{le_refl, arith, ap, ◌∙◌, lt→ltb, ltb→lt}
use Rattle.std.proofs.Math.Option.{Option, some}
use Rattle.numeric.specs.laws.WholeLaws.{whole_add, whole_lt}
use Rattle.sifv.specs.Value.{Value, One, Num, Bl}
use Rattle.opc.specs.Op.{Lt, Jmpt, Ldn, Ldav, Str, Incrr, Binary, JmpCnd}
use Rattle.tables.specs.Tables.{Program, label_at}
use Rattle.ast.specs.Tree.{OverName}
use Rattle.compiler.specs.Lower.{Place, Event, Reg, push, inner, lower_for}
use Rattle.vm.specs.RuntimeErr.{InvalidIncr}
use Rattle.vm.specs.Operation.{Ok, Names, put, held, array, incr, binary, array_item, full}
use Rattle.vm.specs.Machine.{Goes, loads, branch, step}
use Rattle.walk.specs.Walk.{Walked, pass, passes, sized, walk_for}
use Rattle.walk.specs.laws.Small.{Small, unset, single, entries, items as arrays, small_put, good_item}
use Rattle.walk.proofs.laws.Simulation.Logic.{Exact, Regs, eq_true, eq_false, put_same, put_other, Keep, mk, Run, stay, move, At, here, reg, more, split, Sim, done, halt, Kept, kept_after, sim_after, sim_bind, sim_weaken, sim_load, step_at}
use Rattle.walk.proofs.laws.Simulation.Stmts.{Does}
use Rattle.numeric.specs.Whole.{whole}

-- the number k in a register or under a name
abbrev num : ℕ → Option Value
num k = some (One (Num (whole k)))

incr_num : (k : ℕ) → k < 2 ^ 53 → full InvalidIncr (num k) incr ≡ Ok (One (Num (whole (suc k))))
incr_num k h = let z : k + 1 ≡ suc k = omega arith in ap (λ x. Ok (One (Num x))) (whole_add k 1 (omega arith) (omega arith) ∙ ap whole z)

less_num : (j s : ℕ) → j ≤ 2 ^ 53 → s ≤ 2 ^ 53 → binary Lt (One (Num (whole j))) (One (Num (whole s))) ≡ Ok (One (Bl (ltb j s)))
less_num j s h g = ap (λ b. Ok (One (Bl b))) (whole_lt j s h g)

ltb-true : (m n : ℕ) → m < n → ltb m n ≡ true
ltb-true m n h = eq_true (ltb m n) (lt→ltb m n h)

ltb-false : (m n : ℕ) → n ≤ m → ltb m n ≡ false
ltb-false m n h = eq_false (ltb m n) (λ t. let g : m < n = ltb→lt m n t in omega arith)

-- where the end of a pass goes: back to h while the next index is below the size, and else on
data Back (h q : ℕ) : Bool → ℕ → Type 0 where
  again : Back h q true h
  leave : Back h q false q

back_goes : {b : Bool} {h p x : ℕ} (P : Program) (e : Names) (rs : Regs) → Back h (suc p) b x → branch (mk P p e rs) Jmpt (Ok b) (some h) ≡ Goes (mk P x e rs)
back_goes P e rs again = refl
back_goes P e rs leave = refl

-- the end of a pass: the index is in register r, the size in q, the comparison in c; i is the index name, l the loop's label
abbrev tail : Place → ℕ → ℕ → ℕ → ℕ → ℕ → ℕ → List Event
tail w i r q c m l = push w m (Incrr r) ∷ (push w m (Str r i) ∷ (Reg ∷ (push w m (Binary Lt r q c) ∷ (push w m (JmpCnd Jmpt c l) ∷ []))))

-- from its head on: v is the item name, y the array
abbrev loop : Place → ℕ → ℕ → ℕ → ℕ → ℕ → ℕ → List Event → ℕ → ℕ → List Event
loop w i v y r q c b m l = push w l (Ldn r i) ∷ (Reg ∷ (push w l (Ldav y r (q + 1)) ∷ (push w l (Str (q + 1) v) ∷ (b ++ tail w i r q c m l))))

-- after the pass at index k of s
record Passed (i r q k s : ℕ) (rs : Regs) (e : Names) (u : Unit {0}) (rs₁ : Regs) : Type 0 where
  smalls : Exact e
  index : e i ≡ num (suc k)
  size : rs₁ q ≡ num s
  keep : Keep r rs rs₁

module _ {P : Program} (w : Place) (i v y r q c m l : ℕ) (apart : r < q) (behind : q < c) where
  -- at index k of s
  sim_tail : {p a z b : ℕ} (h k s x : ℕ) → At P p a (tail w i r q c m l) z b → label_at P.code l ≡ some h → Back h z (ltb (suc k) s) x → k < 2 ^ 53 → s ≤ 2 ^ 53
      → (e : Names) (rs : Regs) → rs r ≡ num k → rs q ≡ num s
      → Run P 4 (mk P p e rs) (mk P x (put e i (num (suc k))) (put (put rs r (num (suc k))) c (some (One (Bl (ltb (suc k) s))))))
  sim_tail {p} h k s x (more f₁ _ (more f₂ _ (reg (more f₃ _ (more f₄ _ here))))) t back hk hs e rs gk gs =
      let rs₁ : Regs = put rs r (num (suc k)) in
      let rs₂ : Regs = put rs₁ c (some (One (Bl (ltb (suc k) s)))) in
      let e₁ : Names = put e i (num (suc k)) in
      let ik : rs₁ r ≡ num (suc k) = put_same rs r (num (suc k)) in
      let is : rs₁ q ≡ num s = put_other rs r (num (suc k)) q (omega arith) ∙ gs in
      move {m₁ = mk P (suc p) e rs₁} (step_at P p e rs f₁ ∙ rw gk (ap (loads (mk P p e rs) r) (incr_num k hk)))
      (move {m₁ = mk P (suc (suc p)) e₁ rs₁} (step_at P (suc p) e rs₁ f₂ ∙ rw ik)
      (move {m₁ = mk P (suc (suc (suc p))) e₁ rs₂} (step_at P (suc (suc p)) e₁ rs₁ f₃ ∙ rw (ik, is) (ap (loads (mk P (suc (suc p)) e₁ rs₁) c) (less_num (suc k) s (omega arith) hs)))
      (move {m₁ = mk P x e₁ rs₂} (step_at P (suc (suc (suc p))) e₁ rs₂ f₄ ∙ rw (put_same rs₁ c (some (One (Bl (ltb (suc k) s)))), t) (back_goes P e₁ rs₂ back))
      stay)))

  sim_pass : {p a z d : ℕ} (b : List Event) (f : Names → Walked (Unit {0})) (k s x : ℕ) → Does P (q + 2) l b f → At P p a (loop w i v y r q c b m l) z d → label_at P.code l ≡ some p
      → Back p z (ltb (suc k) s) x → q + 1 < c → k < 2 ^ 53 → s ≤ 2 ^ 53 → (e : Names) (rs : Regs) → Exact e → e i ≡ num k → rs q ≡ num s
      → Sim P (mk P p e rs) x (Passed i r q k s rs) (pass f i v y k e)
  sim_pass {p} b f k s x body (more f₁ _ (reg (more f₂ g₂ (more f₃ _ h)))) t back z hk hs e rs small gi gs =
      let rs₁ : Regs = put rs r (num k) in
      let j = split b h in
      sim_after (move {m₁ = mk P (suc p) e rs₁} (step_at P p e rs f₁ ∙ rw gi) stay)
      (sim_bind (sim_load {w = w} (q + 1) (q + 1) (q + 1) rs₁ (array_item e y (One (Num (whole k)))) (reg (more f₂ g₂ here)) (le_refl (q + 1)) refl small (good_item y (One (Num (whole k))) small) (rw (put_same rs r (num k)))) λ e₁ u rs₂ g.
      sim_after (move {m₁ = mk P (suc (suc (suc p))) (put e₁ v (some u)) rs₂} (step_at P (suc (suc p)) e₁ rs₂ f₃ ∙ rw g.value) stay)
      (sim_bind (body.does j.left (le_refl l) (put e₁ v (some u)) rs₂ (small_put v g.smalls g.small)) λ e₂ o rs₃ a.
      let below : (x : ℕ) → x < q + 1 → x ≢ r → rs₃ x ≡ rs x = λ x h₁ h₂. a.keep x (omega arith) ∙ g.keep x h₁ ∙ put_other rs r (num k) x h₂ in
      let same : (x : ℕ) → x < q + 1 → x ≢ r → put (put rs₃ r (num (suc k))) c (some (One (Bl (ltb (suc k) s)))) x ≡ rs x =
      λ x h₁ h₂. put_other (put rs₃ r (num (suc k))) c (some (One (Bl (ltb (suc k) s)))) x (omega arith) ∙ put_other rs₃ r (num (suc k)) x h₂ ∙ below x h₁ h₂ in
      done (sim_tail p k s x j.right t back hk hs e₂ rs₃ (a.keep r (omega arith) ∙ g.keep r (omega arith) ∙ put_same rs r (num k)) (below q (omega arith) (omega arith) ∙ gs))
      (record { smalls = small_put i a.smalls single; index = put_same e₂ i (num (suc k)); size = same q (omega arith) (omega arith) ∙ gs; keep = λ x h₁. same x (omega arith) (omega arith) })))

  -- the passes from index k on, `rest` of them after the first
  sim_passes : {p a z d : ℕ} (b : List Event) (f : Names → Walked (Unit {0})) (s : ℕ) → Does P (q + 2) l b f → At P p a (loop w i v y r q c b m l) z d → label_at P.code l ≡ some p
      → q + 1 < c → s ≤ 2 ^ 53 → (rest k : ℕ) → pred s ≡ k + rest → (e : Names) (rs : Regs) → Exact e → e i ≡ num k → rs q ≡ num s
      → Sim P (mk P p e rs) z (Kept r rs) (passes f i v y rest k e)
  sim_passes b f s body h t x hs zero k g e rs small gi gs =
      sim_weaken (sim_pass b f k s _ body h t (rw (ltb-false (suc k) s (omega arith)) leave) x (omega arith) hs e rs small gi gs) λ e₁ u rs₁ o. record { smalls = o.smalls; keep = o.keep }
  sim_passes b f s body h t x hs (suc rest) k g e rs small gi gs =
      sim_bind (sim_pass b f k s _ body h t (rw (ltb-true (suc k) s (omega arith)) again) x (omega arith) hs e rs small gi gs) λ e₁ u rs₁ o.
      sim_weaken (sim_passes b f s body h t x hs rest (suc k) (omega arith) e₁ rs₁ o.smalls o.index o.size) (kept_after o.keep (le_refl r))

module _ {P : Program} where
  -- the size, read once
  sim_size : {p z : ℕ} (y r q : ℕ) → r ≤ q → (f : ℕ → Walked (Unit {0})) (e : Names) (rs : Regs) {o : Option Value} → Small (2 ^ 53) o
      → step P (mk P p e rs) ≡ loads (mk P p e rs) q (held y o (λ v. array y v (λ l. Ok (One (Num (whole (length l)))))))
      → ((s : ℕ) → s ≤ 2 ^ 53 → Sim P (mk P (suc p) e (put rs q (num s))) z (Kept r (put rs q (num s))) (f s)) → Sim P (mk P p e rs) z (Kept r rs) (sized e (held y o (λ v. array y v (λ l. Ok l))) f)
  sim_size y r q l f e rs unset h g = halt stay h
  sim_size y r q l f e rs single h g = halt stay h
  sim_size y r q l f e rs entries h g = halt stay h
  sim_size y r q l f e rs (arrays {a = t} z) h g = sim_after (move h stay) (sim_weaken (g (length t) z) (kept_after (λ k d. put_other rs q (num (length t)) k (omega arith)) (le_refl r)))

  pub does_for : (w : Place) (i v y r q c n m : ℕ) (b : List Event) (f : Names → Walked (Unit {0})) → r < q → q + 1 < c → Does P (q + 2) (n + 1) b f
      → Does P r n (lower_for w n i v y r q c [] b m) (walk_for f i v (OverName y))
  does_for w i v y r q c n m b f apart z body = record { does = go }
    where
      go : {p a t d : ℕ} → At P p a (lower_for w n i v y r q c [] b m) t d → a ≤ n → (e : Names) (rs : Regs) → Exact e → Sim P (mk P p e rs) t (Kept r rs) (walk_for f i v (OverName y) e)
      go {p} (reg (more f₁ _ (reg (more f₂ _ (more f₃ g₃ h))))) l e rs small =
          let e₀ : Names = put e i (num 0) in
          let small₀ : Exact e₀ = small_put i small single in
          let t : label_at P.code (n + 1) ≡ some (suc (suc p)) = g₃ (omega arith) in
          sim_after (move {m₁ = mk P (suc p) e₀ rs} (step_at P p e rs f₁) stay)
          (sim_size y r q (omega arith) (λ s. passes f i v y (pred s) 0 e₀) e₀ rs (small₀.small y) (step_at P (suc p) e₀ rs f₂) λ s hs.
          sim_passes (inner w) i v y r q c m (n + 1) apart (omega arith) b f s body (more f₃ g₃ h) t z hs (pred s) 0 (omega arith) e₀ (put rs q (num s)) small₀ (put_same e i (num 0)) (put_same rs q (num s)))
