-- Laws of lists of texts that are written one by one, at a place of a buffer: items with a separator between, fields of a line, lines.
use Rattle.std.specs.Prelude.{◌≡◌, refl, List, [], ◌∷◌, ◌++◌, map, ℕ, zero, suc, ◌+◌, ◌≤◌, length}
use Rattle.std.proofs.Common.{sym, ap, ap₂, ◌∙◌, append-nil, append_assoc, add-one, zero-add, add-zero, arith}
use Rattle.std.proofs.lemmas.List.{length-map}
use Rattle.text.specs.Text.{ascii, decimal, joined, separator, number_fields, line_of}
use Rattle.text.specs.Put.{Put}
use Rattle.text.specs.laws.PutLaws.{put_as, put_within, put_then}

-- ---- one item more, at the end

pub joined_more : (s a : List ℕ) (l : List (List ℕ)) (b : List ℕ) → joined s (a ∷ (l ++ (b ∷ []))) ≡ joined s (a ∷ l) ++ (s ++ b)
joined_more s a [] b = refl
joined_more s a (c ∷ l) b =
    ap (λ (t : List ℕ). a ++ (s ++ t)) (joined_more s c l b)
    ∙ ap (λ (t : List ℕ). a ++ t) (sym (append_assoc s (joined s (c ∷ l)) (s ++ b)))
    ∙ sym (append_assoc a (s ++ joined s (c ∷ l)) (s ++ b))

pub joined_end : (s : List ℕ) (l : List (List ℕ)) (b : List ℕ) → joined s (l ++ (b ∷ [])) ≡ joined s l ++ (separator s (length l) ++ b)
joined_end s [] b = refl
joined_end s (a ∷ l) b = joined_more s a l b

-- numbers more
pub joined_fields : (a : List ℕ) (l : List (List ℕ)) (ns : List ℕ) → joined (ascii " ") (a ∷ (l ++ map decimal ns)) ≡ joined (ascii " ") (a ∷ l) ++ number_fields ns
joined_fields a l [] = ap (λ (t : List (List ℕ)). joined (ascii " ") (a ∷ t)) (append-nil l) ∙ sym (append-nil (joined (ascii " ") (a ∷ l)))
joined_fields a l (n ∷ ns) =
    ap (λ (t : List (List ℕ)). joined (ascii " ") (a ∷ t)) (sym (append_assoc l (decimal n ∷ []) (map decimal ns)))
    ∙ joined_fields a (l ++ (decimal n ∷ [])) ns
    ∙ ap (λ (t : List ℕ). t ++ number_fields ns) (joined_more (ascii " ") a l (decimal n))
    ∙ append_assoc (joined (ascii " ") (a ∷ l)) (ascii " " ++ decimal n) (number_fields ns)

pub map_end : {A : Type 0} (f : A → List ℕ) (l : List A) (x : A) → map f (l ++ (x ∷ [])) ≡ map f l ++ (f x ∷ [])
map_end f [] x = refl
map_end f (a ∷ l) x = ap (λ (t : List (List ℕ)). f a ∷ t) (map_end f l x)

-- ---- the separator before item i

pub gap_later : (s : List ℕ) (i : ℕ) → (i ≡ 0 → ⊥) → s ≡ separator s i
gap_later s zero n = absurd (n refl)
gap_later s (suc i) n = refl

-- ---- a row of texts t 0, t 1, .., of which L i n are those from i on, n of them

pub row_end : (t : ℕ → List ℕ) (L : ℕ → ℕ → List ℕ) → ((i : ℕ) → L i zero ≡ []) → ((i n : ℕ) → L i (suc n) ≡ t i ++ L (suc i) n)
    → (i n : ℕ) → L i (suc n) ≡ L i n ++ t (i + n)
row_end t L o m i zero = m i zero ∙ ap (λ (r : List ℕ). t i ++ r) (o (suc i)) ∙ append-nil (t i) ∙ ap₂ (λ (r : List ℕ) (k : ℕ). r ++ t k) (sym (o i)) (sym (add-zero i))
row_end t L o m i (suc n) =
    m i (suc n) ∙ ap (λ (r : List ℕ). t i ++ r) (row_end t L o m (suc i) n) ∙ sym (append_assoc (t i) (L (suc i) n) (t (suc i + n)))
    ∙ ap₂ (λ (r : List ℕ) (k : ℕ). r ++ t k) (sym (m i n)) (omega arith)

-- ---- written

module _ {out : List ℕ} {at : ℕ} (h : at ≤ length out) where
  -- three texts, four
  pub put_three : {a b d : List ℕ} {out₁ : List ℕ} {r₁ : ℕ} {out₂ : List ℕ} {r₂ : ℕ} {out₃ : List ℕ} {r₃ : ℕ}
      → Put out at a out₁ r₁ → Put out₁ r₁ b out₂ r₂ → Put out₂ r₂ d out₃ r₃ → Put out at (a ++ (b ++ d)) out₃ r₃
  put_three p q r = put_then h p (put_then (put_within h p) q r)

  pub put_four : {a b d e : List ℕ} {out₁ : List ℕ} {r₁ : ℕ} {out₂ : List ℕ} {r₂ : ℕ} {out₃ : List ℕ} {r₃ : ℕ} {out₄ : List ℕ} {r₄ : ℕ}
      → Put out at a out₁ r₁ → Put out₁ r₁ b out₂ r₂ → Put out₂ r₂ d out₃ r₃ → Put out₃ r₃ e out₄ r₄ → Put out at (a ++ (b ++ (d ++ e))) out₄ r₄
  put_four p q r s = put_three p q (put_then (put_within h (put_then h p q)) r s)

  -- a loop's turn: the separator, if there was an item, and the next item
  pub put_item : (s : List ℕ) (l : List (List ℕ)) {i : ℕ} {b : List ℕ} {out₁ : List ℕ} {r₁ : ℕ} {out₂ : List ℕ} {r₂ : ℕ} {out₃ : List ℕ} {r₃ : ℕ} → i ≡ length l
      → Put out at (joined s l) out₁ r₁ → Put out₁ r₁ (separator s i) out₂ r₂ → Put out₂ r₂ b out₃ r₃ → Put out at (joined s (l ++ (b ∷ []))) out₃ r₃
  put_item s l {b = b} e p q r = put_as (joined_end s l b ∙ ap (λ (k : ℕ). joined s l ++ (separator s k ++ b)) (sym e)) (put_three p q r)

  -- the same of the texts of a list's elements
  pub put_element : {A : Type 0} (f : A → List ℕ) (s : List ℕ) (l l' : List A) (x : A) {i : ℕ} {out₁ : List ℕ} {r₁ : ℕ} {out₂ : List ℕ} {r₂ : ℕ} {out₃ : List ℕ} {r₃ : ℕ}
      → i ≡ length l → l' ≡ l ++ (x ∷ []) → Put out at (joined s (map f l)) out₁ r₁ → Put out₁ r₁ (separator s i) out₂ r₂ → Put out₂ r₂ (f x) out₃ r₃
      → Put out at (joined s (map f l')) out₃ r₃
  put_element f s l l' x e g p q r = put_as (ap (joined s) (ap (map f) g ∙ map_end f l x)) (put_item s (map f l) (e ∙ sym (length-map l f)) p q r)

  -- one field more of a line: the blank and the field
  pub put_field : (a : List ℕ) (l : List (List ℕ)) {b : List ℕ} {out₁ : List ℕ} {r₁ : ℕ} {out₂ : List ℕ} {r₂ : ℕ}
      → Put out at (joined (ascii " ") (a ∷ l)) out₁ r₁ → Put out₁ r₁ (ascii " " ++ b) out₂ r₂ → Put out at (joined (ascii " ") (a ∷ (l ++ (b ∷ [])))) out₂ r₂
  put_field a l {b} p q = put_as (joined_more (ascii " ") a l b) (put_then h p q)

  pub put_fields : (a : List ℕ) (l : List (List ℕ)) (ns : List ℕ) {out₁ : List ℕ} {r₁ : ℕ} {out₂ : List ℕ} {r₂ : ℕ}
      → Put out at (joined (ascii " ") (a ∷ l)) out₁ r₁ → Put out₁ r₁ (number_fields ns) out₂ r₂ → Put out at (joined (ascii " ") (a ∷ (l ++ map decimal ns))) out₂ r₂
  put_fields a l ns p q = put_as (joined_fields a l ns) (put_then h p q)

  -- the line's end
  pub put_end : (fs : List (List ℕ)) {out₁ : List ℕ} {r₁ : ℕ} {out₂ : List ℕ} {r₂ : ℕ}
      → Put out at (joined (ascii " ") fs) out₁ r₁ → Put out₁ r₁ (ascii "\n") out₂ r₂ → Put out at (line_of fs) out₂ r₂
  put_end fs p q = put_then h p q

  -- a loop's turn: one text more of a row
  pub put_turn : (t : ℕ → List ℕ) (L : ℕ → ℕ → List ℕ) → ((i : ℕ) → L i zero ≡ []) → ((i n : ℕ) → L i (suc n) ≡ t i ++ L (suc i) n)
      → (n : ℕ) {out₁ : List ℕ} {r₁ : ℕ} {out₂ : List ℕ} {r₂ : ℕ} → Put out at (L 0 n) out₁ r₁ → Put out₁ r₁ (t n) out₂ r₂ → Put out at (L 0 (n + 1)) out₂ r₂
  put_turn t L o m n p q = put_as (ap (L 0) (add-one n) ∙ row_end t L o m 0 n ∙ ap (λ (k : ℕ). L 0 n ++ t k) (zero-add n)) (put_then h p q)
