-- Laws of lists of texts that a writer writes one by one: items with a separator between, fields of a line, lines.
use Rattle.std.specs.Prelude.{◌≡◌, List, [], ◌∷◌, ◌++◌, map, ℕ, zero, suc, ◌+◌, ◌<◌, length, get_or, take}
use Rattle.std.proofs.Common.{sym, ap, ◌∙◌, append-nil, append_assoc, add-one, zero-add, take-suc}
use Rattle.std.proofs.lemmas.List.{length-map}
use Rattle.text.specs.Text.{ascii, decimal, joined, separator, number_fields}
use Rattle.text.specs.declared.Writer.{Writer}
use Rattle.text.specs.inner.Appended.{Appended}
use Rattle.text.specs.laws.Writing.{appended_as, appended_then}
use Rattle.text.specs.laws.PutJoined.{joined_more, joined_end, joined_fields, map_end, row_end}

numbers_end : (l : List ℕ) (n : ℕ) → number_fields (l ++ (n ∷ [])) ≡ number_fields l ++ (ascii " " ++ decimal n)
numbers_end [] n = append-nil (ascii " " ++ decimal n)
numbers_end (m ∷ l) n =
    ap (λ (t : List ℕ). ascii " " ++ (decimal m ++ t)) (numbers_end l n)
    ∙ ap (λ (t : List ℕ). ascii " " ++ t) (sym (append_assoc (decimal m) (number_fields l) (ascii " " ++ decimal n)))

-- ---- written

-- three texts, four
pub appended_three : {v w x y : Writer} {a b d : List ℕ} → Appended v a w → Appended w b x → Appended x d y → Appended v (a ++ (b ++ d)) y
appended_three p q r = appended_then p (appended_then q r)

pub appended_four : {v w x y z : Writer} {a b d e : List ℕ} → Appended v a w → Appended w b x → Appended x d y → Appended y e z → Appended v (a ++ (b ++ (d ++ e))) z
appended_four p q r s = appended_then p (appended_three q r s)

module _ {v w x : Writer} where
  -- a loop's turn: the separator, if there was an item, and the next item of a list
  pub appended_element : {A : Type 0} (f : A → List ℕ) (s : List ℕ) (l l' : List A) (a : A) {i : ℕ} {y : Writer} → i ≡ length l → l' ≡ l ++ (a ∷ [])
      → Appended v (joined s (map f l)) w → Appended w (separator s i) x → Appended x (f a) y → Appended v (joined s (map f l')) y
  appended_element f s l l' a e g p q r =
      appended_as
      (ap (joined s) (ap (map f) g ∙ map_end f l a) ∙ joined_end s (map f l) (f a) ∙ ap (λ (k : ℕ). joined s (map f l) ++ (separator s k ++ f a)) (length-map l f ∙ sym e))
      (appended_three p q r)

  -- one field more of a line: the blank and the field
  pub appended_field : (a : List ℕ) (l : List (List ℕ)) {b : List ℕ} → Appended v (joined (ascii " ") (a ∷ l)) w → Appended w (ascii " " ++ b) x
      → Appended v (joined (ascii " ") (a ∷ (l ++ (b ∷ [])))) x
  appended_field a l {b} p q = appended_as (joined_more (ascii " ") a l b) (appended_then p q)

  pub appended_fields : (a : List ℕ) (l : List (List ℕ)) (ns : List ℕ) → Appended v (joined (ascii " ") (a ∷ l)) w → Appended w (number_fields ns) x
      → Appended v (joined (ascii " ") (a ∷ (l ++ map decimal ns))) x
  appended_fields a l ns p q = appended_as (joined_fields a l ns) (appended_then p q)

  -- a loop's turn: one number more of a list
  pub appended_number : (ns : List ℕ) (i : ℕ) → i < length ns → Appended v (number_fields (take i ns)) w → Appended w (ascii " " ++ decimal (get_or ns i 0)) x
      → Appended v (number_fields (take (i + 1) ns)) x
  appended_number ns i h p q =
      appended_as (ap number_fields (ap (λ (k : ℕ). take k ns) (add-one i) ∙ take-suc ns i 0 h) ∙ numbers_end (take i ns) (get_or ns i 0)) (appended_then p q)

  -- a loop's turn: one text more of the row that begins at i
  pub appended_row : (t : ℕ → List ℕ) (L : ℕ → ℕ → List ℕ) → ((i : ℕ) → L i zero ≡ []) → ((i n : ℕ) → L i (suc n) ≡ t i ++ L (suc i) n)
      → (i n : ℕ) → Appended v (L i n) w → Appended w (t (i + n)) x → Appended v (L i (n + 1)) x
  appended_row t L o m i n p q = appended_as (ap (L i) (add-one n) ∙ row_end t L o m i n) (appended_then p q)

  -- of the row that begins at 0
  pub appended_turn : (t : ℕ → List ℕ) (L : ℕ → ℕ → List ℕ) → ((i : ℕ) → L i zero ≡ []) → ((i n : ℕ) → L i (suc n) ≡ t i ++ L (suc i) n)
      → (n : ℕ) → Appended v (L 0 n) w → Appended w (t n) x → Appended v (L 0 (n + 1)) x
  appended_turn t L o m n p q = appended_row t L o m 0 n p (appended_as (ap t (zero-add n)) q)
