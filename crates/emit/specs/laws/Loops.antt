-- A list of parts lowered in a loop: the answer of what is left is the answer of the whole.
use Rattle.std.specs.Prelude.{ℕ, ◌≤◌, Bool, List}
use Rattle.std.proofs.Common.{arith}
use Rattle.emit.specs.declared.Done.{Done}
use Rattle.emit.specs.inner.Made.{Part, ReadsAt, Goes}

-- from p on all is to be lowered; at q the rest is left, to be read from there
pub record LoopLeft {X : Type 0} (all rest : Part X) (c b : List ℕ) (k : Bool) (p : Done) (buf : List ℕ) (q : Done) (buf' : List ℕ) : Type 0 where
  pub reads : ReadsAt rest c b q buf'
  pub behind : p.cont ≤ q.cont
  pub goes : (r : Done) (d : List ℕ) → Goes rest c b k q buf' r d → Goes all c b k p buf r d

module _ {X : Type 0} {all : Part X} {c b : List ℕ} {k : Bool} {p : Done} {buf : List ℕ} where
  pub left_start : ReadsAt all c b p buf → LoopLeft all all c b k p buf p buf
  left_start h = record { reads = h; behind = omega arith; goes = λ r d g. g }

  module _ {rest : Part X} {q : Done} {buf₁ : List ℕ} (l : LoopLeft all rest c b k p buf q buf₁) where
    -- one turn leaves less
    pub left_turn : {less : Part X} {a : Done} {buf₂ : List ℕ} → q.cont ≤ a.cont → ReadsAt less c b a buf₂
        → ((r : Done) (d : List ℕ) → Goes less c b k a buf₂ r d → Goes rest c b k q buf₁ r d) → LoopLeft all less c b k p buf a buf₂
    left_turn h r g = record { reads = r; behind = omega (arith, l.behind, h); goes = λ e d x. l.goes e d (g e d x) }

    pub left_end : Goes rest c b k q buf₁ q buf₁ → Goes all c b k p buf q buf₁
    left_end g = l.goes q buf₁ g
