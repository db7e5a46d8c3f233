-- A row of texts at a place of a buffer, and single values as the program holds them, as text.
use Rattle.std.specs.Prelude.{◌≡◌, List, [], ◌++◌, ℕ, zero, suc, ◌+◌, ◌≤◌, length}
use Rattle.std.proofs.Common.{sym, ap, ap₂, ◌∙◌, add-one, ne_eqb}
use Rattle.sifv.specs.Value.{One}
use Rattle.sifv.specs.Slot.{single_of}
use Rattle.sifv.specs.inner.Seen.{shown, single_seen}
use Rattle.sifv.specs.laws.Laws.{plain_shown}
use Rattle.sifv.specs.declared.SifVal.{SifVal}
use Rattle.text.specs.Text.{single_text}
use Rattle.text.specs.Put.{Put}
use Rattle.text.specs.laws.PutLaws.{put_as, put_then}
use Rattle.text.specs.laws.PutJoined.{row_end}
use Rattle.ops.specs.inner.Told.{literal_told}

-- a loop's turn: one text more of the row that begins at i
pub put_row : {out : List ℕ} {at : ℕ} → at ≤ length out → (t : ℕ → List ℕ) (L : ℕ → ℕ → List ℕ) → ((i : ℕ) → L i zero ≡ []) → ((i n : ℕ) → L i (suc n) ≡ t i ++ L (suc i) n)
    → (i n : ℕ) {out₁ : List ℕ} {r₁ : ℕ} {out₂ : List ℕ} {r₂ : ℕ} → Put out at (L i n) out₁ r₁ → Put out₁ r₁ (t (i + n)) out₂ r₂ → Put out at (L i (n + 1)) out₂ r₂
put_row h t L o m i n p q = put_as (ap (L i) (add-one n) ∙ row_end t L o m i n) (put_then h p q)

-- a single value, as the program holds it
pub item_text : (k w : ℕ) {k' w' : ℕ} {v : SifVal} → v ≡ shown (single_of k w) → k ≡ k' → w ≡ w' → single_text (single_of k' w') ≡ single_text (single_seen v)
item_text k w e p q = ap single_text (sym (ap single_seen e ∙ plain_shown (single_of k w) ∙ ap₂ single_of p q))

pub literal_single : (b : List ℕ) (k n w : ℕ) → (k ≡ 5 → ⊥) → (k ≡ 6 → ⊥) → literal_told b k n w ≡ One (single_of k w)
literal_single b k n w h g = rw (ne_eqb k 5 h, ne_eqb k 6 g)
