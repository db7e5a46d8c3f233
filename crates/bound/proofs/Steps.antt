-- The steps of the two passes over the entries: the answer of the whole is the answer so far and that of what is left.
use mathlib.Core.Path.{◌≡◌, refl, sym, ap, subst, ◌∙◌}
use mathlib.Core.Bool.{Bool, true, false, cond, ◌&&◌, ◌||◌}
use mathlib.Core.List.{List, [], ◌∷◌}
use Prim.Native.Nat.{ℕ, zero, suc, ◌+◌, ◌*◌, ◌-◌, ◌/◌, ◌%◌, ◌≤◌, ◌<◌, max}
use native.Mathlib.Nat.{mul-le-mul, mod-add-mod, mod-add-div, mod-eq_of_lt, add-mul-mod_self_left}
use native.Mathlib.Numerals.{add-one}
use native.Mathlib.Omega.{arith}
use lib.Dec.{leb, eqb}
use lib.ListN.{length, get_or, take, drop, length-drop}
use lib.Seq.{drop-cons}
use Rattle.lent.specs.Bytes.{AreBytes, be_value, part}
use Rattle.lent.specs.laws.Parts.{length_part}
use Rattle.ast.specs.File.{node_count, read_tree}
use Rattle.ast.specs.laws.PlainFile.{Accepted, accepted, entries_slice}
use Rattle.ast.specs.inner.Under.{plain_of}
use Rattle.bound.specs.declared.Part.{Part}
use Rattle.bound.specs.inner.BoundOf.{bound_of}
use Rattle.bound.specs.laws.Whole.{file_bound, plain_accepted}
use Rattle.bound.specs.inner.Weights.{stores_one, silent, weight, whole_weight, Forest, forest, cost_of, behind, more, then_forest, forest_times, node, subtree, items_of_entry, longest_entry, of_entries, limit, Counts, counts}

-- ---- the longest array literal

pub longest_next : (l : List ℕ) (i : ℕ) → i + 1 < length l → longest_entry (drop i l) ≡ max (items_of_entry (get_or l i 0) (get_or l (i + 1) 0)) (longest_entry (drop (i + 2) l))
longest_next l i h =
    let two : i + 2 ≡ suc (suc i) = omega arith in
    rw (two, add-one i, drop-cons l i 0 (omega arith), drop-cons l (suc i) 0 (omega arith))

no_entry : (l : List ℕ) → length l ≤ 1 → longest_entry l ≡ 0
no_entry [] h = refl
no_entry (k ∷ []) h = refl
no_entry (k ∷ (c ∷ l)) h = absurd (omega arith)

pub longest_end : (l : List ℕ) (i : ℕ) → length l ≤ i + 1 → longest_entry (drop i l) ≡ 0
longest_end l i h = no_entry (drop i l) (omega (arith, length-drop i l))

at_most : {x y n : ℕ} (b : Bool) → x ≤ n → y ≤ n → cond b x y ≤ n
at_most true h g = h
at_most false h g = g

items_small : (k c : ℕ) → c < 256 → items_of_entry k c < 256
items_small k c h = let z : items_of_entry k c ≤ 255 = at_most (eqb k 12) (omega arith) (omega arith) in omega arith

-- one entry more
pub longest_turn : (es : List ℕ) (most i k c : ℕ) {x r w : ℕ} → i + 1 < length es → k ≡ get_or es i 0 → c ≡ get_or es (i + 1) 0 → x ≡ items_of_entry k c → r ≡ max most x
    → w ≡ max most (longest_entry (drop i es)) → w ≡ max r (longest_entry (drop (i + 2) es))
longest_turn es most i k c {x} h ek ec ex er e = let q : x ≡ items_of_entry (get_or es i 0) (get_or es (i + 1) 0) = rw (ek, ec) at ex in omega (arith, longest_next es i h)

pub longer_small : (most k c : ℕ) {x r : ℕ} → most < 256 → c < 256 → x ≡ items_of_entry k c → r ≡ max most x → r < 256
longer_small most k c h g e q = omega (arith, items_small k c g)

-- ---- a node

pub weight_small : (u k c : ℕ) → weight u k c ≤ 3
weight_small u k c =
    at_most (leb 19 k) (at_most (silent u) (omega arith) (omega arith))
    (at_most (eqb k 17 || eqb k 18) (at_most (stores_one u) (omega arith) (omega arith))
    (at_most (eqb k 1 || (eqb k 2 || eqb k 8)) (at_most (eqb c 0) (omega arith) (omega arith))
    (at_most (eqb k 3) (omega arith)
    (at_most (eqb k 4) (omega arith)
    (at_most (eqb k 13) (omega arith)
    (at_most (leb 10 k && leb k 14) (omega arith) (omega arith)))))))

add_low : (a n : ℕ) → (a + n % limit) % limit ≡ (a + n) % limit
add_low a n = ap (λ (x : ℕ). x % limit) (omega arith) ∙ mod-add-mod n limit a ∙ ap (λ (x : ℕ). x % limit) (omega arith)

loop_low : (l n : ℕ) → (2 + l * (7 + n % limit)) % limit ≡ (2 + l * (7 + n)) % limit
loop_low l n =
    sym (ap (λ (x : ℕ). (2 + l * (7 + x)) % limit) (sym (mod-add-div n limit)) ∙ ap (λ (x : ℕ). x % limit) (parts (n % limit) (n / limit))
    ∙ add-mul-mod_self_left (2 + l * (7 + n % limit)) limit (l * (n / limit)))
  where
    parts : (r q : ℕ) → 2 + l * (7 + (r + limit * q)) ≡ (2 + l * (7 + r)) + limit * (l * q)
    parts r q = omega arith

pub loop_fits : (l n : ℕ) → l < 256 → n < limit → l * (7 + n) ≤ 255 * 281474976710662
loop_fits l n h g = mul-le-mul {n₁ = l} {m₁ = 7 + n} {n₂ = 255} {m₂ = 281474976710662} (omega arith) (omega arith)

whole_low : (l u k c n : ℕ) → whole_weight l u k c (n % limit) % limit ≡ whole_weight l u k c n % limit
whole_low l u k c n = by_test (eqb k 5)
  where
    by_test : (b : Bool) → cond b (2 + l * (7 + n % limit)) (weight u k c + n % limit) % limit ≡ cond b (2 + l * (7 + n)) (weight u k c + n) % limit
    by_test true = loop_low l n
    by_test false = add_low (weight u k c) n

-- ---- subtrees one after the other: r is left of w

pub record Going (w r : Forest) (cost : ℕ) : Type 0 where
  pub small : cost < limit
  pub sum : cost_of w % limit ≡ (cost + cost_of r) % limit
  pub ends : behind w ≡ behind r

pub begins : (w : Forest) → Going w w 0
begins w = record { small = omega arith; sum = ap (λ (x : ℕ). x % limit) (omega arith); ends = refl }

cost_more : (n : ℕ) (x : Forest) → cost_of (more n x) ≡ n + cost_of x
cost_more n (forest m es) = refl

rest_more : (n : ℕ) (x : Forest) → behind (more n x) ≡ behind x
rest_more n (forest m es) = refl

sums : (cost a n : ℕ) → (cost + (a + n)) % limit ≡ ((cost + a % limit) % limit + n) % limit
sums cost a n =
    sym (mod-add-mod (cost + a % limit) limit n ∙ ap (λ (x : ℕ). x % limit) (omega arith) ∙ mod-add-mod a limit (cost + n) ∙ ap (λ (x : ℕ). x % limit) (omega arith))

and_then : {w x : Forest} (g : List ℕ → Forest) {cost : ℕ} {p : Part} → Going w (then_forest x g) cost → Counts x p → Going w (g p.rest.now) ((cost + p.cost) % limit)
and_then {w} g {cost} {p} h (counts {n = a} e) =
    record {
      small = omega arith;
      sum = rw e (h.sum ∙ ap (λ (x : ℕ). (cost + x) % limit) (cost_more a (g p.rest.now)) ∙ sums cost a (cost_of (g p.rest.now)));
      ends = h.ends ∙ rest_more a (g p.rest.now);
    }

-- i of n are gone over
module _ {w : Forest} (f : List ℕ → Forest) (n i : ℕ) {cost : ℕ} where
  pub turn : {es : List ℕ} {p : Part} → i < n → Going w (forest_times f (n - i) es) cost → Counts (f es) p → Going w (forest_times f (n - (i + 1)) p.rest.now) ((cost + p.cost) % limit)
  turn {es} h g c =
      let e : n - i ≡ suc (n - (i + 1)) = omega arith in
      and_then (λ ms. forest_times f (n - (i + 1)) ms) (subst (λ (j : ℕ). Going w (forest_times f j es) cost) e g) c

  pub finish : (p : Part) → p.cost ≡ cost → n ≤ i → Going w (forest_times f (n - i) p.rest.now) cost → Counts w p
  finish p q h g =
      let e : n - i ≡ 0 = omega arith in
      ended w (rw q (subst (λ (j : ℕ). Going w (forest_times f j p.rest.now) cost) e g))
    where
      ended : (w : Forest) → Going w (forest 0 p.rest.now) p.cost → Counts w p
      ended (forest a ms) h = rw h.ends (counts (sym (h.sum ∙ ap (λ (x : ℕ). x % limit) (omega arith) ∙ mod-eq_of_lt h.small)))

-- ---- one subtree

pub stops : (d l u : ℕ) {p : Part} → d ≡ 0 → p.cost ≡ 0 → Counts (subtree d l u p.rest.now) p
stops d l u e c = rw e (counts c)

pub short : (d l u : ℕ) (p : Part) → length p.rest.now < 2 → p.cost ≡ 0 → Counts (subtree d l u p.rest.now) p
short d l u p h c = rw (none d p.rest.now h) (counts c)
  where
    none : (d : ℕ) (es : List ℕ) → length es < 2 → subtree d l u es ≡ forest 0 es
    none zero es g = refl
    none (suc d) [] g = refl
    none (suc d) (k ∷ []) g = refl
    none (suc d) (k ∷ (c ∷ es)) g = absurd (omega arith)

with_node : {x : Forest} {p : Part} (l u k c q : ℕ) → q ≡ whole_weight l u k c p.cost % limit → Counts x p → Counts (node l u k c x) (record { rest = p.rest; cost = q })
with_node l u k c q e (counts {n = a} f) = counts (rw f at e ∙ whole_low l u k c a)

pub goes : (es : List ℕ) (d l u : ℕ) {k c q : ℕ} {p : Part} → 0 < d → 2 ≤ length es → k ≡ get_or es 0 0 → c ≡ get_or es 1 0
    → Counts (forest_times (λ ms. subtree (d - 1) l k ms) c (drop 2 es)) p → q ≡ whole_weight l u k c p.cost % limit → Counts (subtree d l u es) (record { rest = p.rest; cost = q })
goes [] d l u z h ek ec n e = absurd (omega arith)
goes (k' ∷ []) d l u z h ek ec n e = absurd (omega arith)
goes (k' ∷ (c' ∷ es)) zero l u z h ek ec n e = absurd (omega arith)
goes (k' ∷ (c' ∷ es)) (suc d) l u {k} {c} {q} {p} z h ek ec n e =
    let g : suc d - 1 ≡ d = omega arith in
    rw (← ek, ← ec) (with_node l u k c q e (subst (λ (x : ℕ). Counts (forest_times (λ ms. subtree x l k ms) c es) p) g n))

pub counts_small : {x : Forest} {p : Part} → Counts x p → p.cost < limit
counts_small (counts e) = omega arith

counted : {x : Forest} {p : Part} → Counts x p → p.cost ≡ cost_of x % limit
counted (counts e) = e

pub all_counted : (es : List ℕ) {l m : ℕ} {p : Part} → m ≡ longest_entry es → l ≡ max m 1 → Counts (subtree 32 l 0 es) p → p.cost ≡ of_entries es % limit
all_counted es {l} em el h = let e : l ≡ max 1 (longest_entry es) = omega arith in rw e at (counted h)

-- ---- the entries of a file that holds a plain script, as a slice

module _ (f : List ℕ) (o : plain_of (read_tree f) ≡ true) where
  holds : Accepted f
  holds = accepted f (plain_accepted (read_tree f) o)

  pub file_long : 3 ≤ length f
  file_long = holds.long

  module _ (n : ℕ) (en : n ≡ be_value (part f 0 2)) where
    pub entries_end : 3 + get_or f 2 0 + 2 * n ≤ length f
    entries_end = omega (arith, holds.inside, en)

    pub entries_few : length (take (3 + get_or f 2 0 + 2 * n - (3 + get_or f 2 0)) (drop (3 + get_or f 2 0) f)) ≤ 2048
    entries_few = omega (arith, ap length (entries_slice f refl en), length_part f (3 + get_or f 2 0) (2 * node_count f) holds.inside, holds.few_nodes)

    pub file_counted : AreBytes f → {r : ℕ} → r ≡ of_entries (take (3 + get_or f 2 0 + 2 * n - (3 + get_or f 2 0)) (drop (3 + get_or f 2 0) f)) % limit → r ≡ bound_of (read_tree f) % limit
    file_counted a e = e ∙ ap (λ (x : ℕ). x % limit) (ap of_entries (entries_slice f refl en) ∙ file_bound f a o)
