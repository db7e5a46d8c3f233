-- Laws of texts that a writer writes one after the other.
use Rattle.std.specs.Prelude.{◌≡◌, refl, List, [], ◌∷◌, ◌++◌, ℕ, ◌+◌, ◌<◌, length, get_or, take}
use Rattle.std.proofs.Common.{sym, ap, ◌∙◌, subst, add-one, take-suc}
use Rattle.text.specs.declared.Writer.{Writer}
use Rattle.text.specs.inner.Appended.{Appended}
use Rattle.text.specs.laws.PutLaws.{put_none, put_then}

-- the same text
pub appended_as : {v w : Writer} {x y : List ℕ} → y ≡ x → Appended v x w → Appended v y w
appended_as {v} {w} e p = subst (λ (t : List ℕ). Appended v t w) (sym e) p

-- nothing
pub appended_none : (w : Writer) → Appended w [] w
appended_none w = record { same_buffer = refl; put = put_none w.out.now w.at w.within }

-- one text after the other
pub appended_then : {v w x : Writer} {a b : List ℕ} → Appended v a w → Appended w b x → Appended v (a ++ b) x
appended_then {v} p q = record { same_buffer = q.same_buffer ∙ p.same_buffer; put = put_then v.within p.put q.put }

-- a byte more of a list
pub appended_next : {v w x : Writer} (s : List ℕ) (i : ℕ) → i < length s → Appended v (take i s) w → Appended w (get_or s i 0 ∷ []) x → Appended v (take (i + 1) s) x
appended_next s i l p q = appended_as (ap (λ (k : ℕ). take k s) (add-one i) ∙ take-suc s i 0 l) (appended_then p q)
