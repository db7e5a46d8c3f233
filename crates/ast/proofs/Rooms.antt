-- The first node of entries with room, and the nodes after it.
use mathlib.Core.Path.{◌≡◌, refl, ap, ◌∙◌}
use mathlib.Core.Bool.{true}
use mathlib.Core.List.{List, [], ◌∷◌}
use Prim.Native.Nat.{ℕ, zero, suc, ◌+◌, ◌*◌, ◌≤◌, ◌<◌, ◌-◌}
use native.Mathlib.Nat.{not-suc-le-zero, add-zero, le_refl}
use native.Mathlib.Omega.{arith}
use lib.Dec.{leb}
use lib.ListN.{length, get_or, take, drop, length-drop}
use lib.Seq.{drop-drop, get_or-drop, take_all}
use borrow.Author.Tests.{leb-true}
use Rattle.ast.specs.Node.{kind_of, body, body_size, node}
use Rattle.ast.specs.File.{nodes_from, between, firsts}
use Rattle.ast.specs.inner.Room.{Room, none, one}
use Rattle.ast.proofs.Scan.{body_bytes}
use Rattle.lent.specs.laws.Truths.{and_left, and_right}
use Rattle.lent.specs.Lists.{all}

abbrev pub size_at : List ℕ → ℕ
size_at c = body_size (body (kind_of (get_or c 0 0)))

-- the first node
pub record First (c b : List ℕ) : Type 0 where
  pub two : 2 ≤ length c
  pub least : 1 ≤ get_or c 0 0
  pub known : get_or c 0 0 < 24
  pub fits : size_at c ≤ length b
  pub rest : Room (drop 2 c) (drop (size_at c) b)
  pub nodes : nodes_from c b ≡ node (kind_of (get_or c 0 0)) (get_or c 1 0) (take (size_at c) b) ∷ nodes_from (drop 2 c) (drop (size_at c) b)

pub first : {c b : List ℕ} → Room c b → 1 ≤ length c → First c b
first none h = absurd (not-suc-le-zero h)
first (one l k f r) h = record { two = omega arith; least = l; known = k; fits = f; rest = r; nodes = refl }

-- the node at place i of the entries and at of the bodies
abbrev pub size_in : List ℕ → ℕ → ℕ
size_in es i = body_size (body (kind_of (get_or es i 0)))

pub record At (es bs : List ℕ) (i at : ℕ) : Type 0 where
  pub known : get_or es i 0 < 24
  pub fits : size_in es i ≤ length (drop at bs)
  pub inside : at + size_in es i ≤ length bs
  pub rest : Room (drop (i + 2) es) (drop (at + size_in es i) bs)
  pub nodes : nodes_from (drop i es) (drop at bs) ≡ node (kind_of (get_or es i 0)) (get_or (drop i es) 1 0) (take (size_in es i) (drop at bs)) ∷ nodes_from (drop (i + 2) es) (drop (at + size_in es i) bs)

pub at_place : (es bs : List ℕ) (i at : ℕ) → Room (drop i es) (drop at bs) → i < length es → at ≤ length bs → At es bs i at
at_place es bs i at r h l =
    let f = first r (rw length-drop (omega arith)) in
    let e : get_or (drop i es) 0 0 ≡ get_or es i 0 = get_or-drop i es 0 0 ∙ ap (λ (j : ℕ). get_or es j 0) (add-zero i) in
    let d = length-drop at bs in
    let fits : size_in es i ≤ length (drop at bs) = rw e at f.fits in
    record {
      known = rw e at f.known;
      fits = fits;
      inside = omega arith;
      rest = rw (← drop-drop 2 i es, ← drop-drop (size_in es i) at bs, ← e) f.rest;
      nodes = rw (← drop-drop 2 i es, ← drop-drop (size_in es i) at bs, ← e) f.nodes;
    }

-- a part of a slice up to its end
pub to_end : (k : ℕ) (l : List ℕ) → take (length l - k) (drop k l) ≡ drop k l
to_end k l = take_all (length l - k) (drop k l) (rw length-drop (le_refl (length l - k)))

-- from the checks: kinds known, and as many bytes as the kinds ask for
pub room_of : (n : ℕ) (c b : List ℕ) → length c ≡ 2 * n → all (between 1 23) (firsts c) ≡ true → body_bytes c ≤ length b → Room c b
room_of zero [] b l k s = none
room_of zero (x ∷ c) b l k s = absurd (omega arith)
room_of (suc n) [] b l k s = none
room_of (suc n) (x ∷ []) b l k s = absurd (omega arith)
room_of (suc n) (x ∷ (y ∷ c)) b l k s =
    let t = and_left (between 1 23 x) (all (between 1 23) (firsts c)) k in
    let d = length-drop (body_size (body (kind_of x))) b in
    one {b = b} (leb-true 1 x (and_left (leb 1 x) (leb x 23) t))
    (omega (arith, leb-true x 23 (and_right (leb 1 x) (leb x 23) t)))
    (omega arith)
    (room_of n c (drop (body_size (body (kind_of x))) b) (omega arith) (and_right (between 1 23 x) (all (between 1 23) (firsts c)) k) (omega arith))
