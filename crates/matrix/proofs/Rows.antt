-- The matrix by its places: each entry is the remainder of the finished row, and a row takes the finished rows before it one after the other.
use mathlib.Core.Path.{◌≡◌, refl, sym, ap, ap₂, ◌∙◌}
use mathlib.Core.List.{List, [], ◌∷◌, reverse, reverse_aux, reverse-reverse}
use Prim.Native.Nat.{ℕ, zero, suc, ◌+◌, pred, ◌≤◌, ◌<◌}
use native.Mathlib.Nat.{not-suc-le-zero, le_of_suc-le-suc, zero-add, suc-add, add-suc}
use native.Mathlib.Decide.{dec_le}
use native.Mathlib.Omega.{arith}
use lib.IntN.{ℤ, pos, ◌-ℤ◌, ◌*ℤ◌}
use lib.ListN.{length, get_or, length-reverse}
use lib.Seq.{ext_get_or}
use Rattle.multipartition.specs.Lists.{list_of}
use Rattle.multipartition.specs.Matrix.{Row, first_row, rest_rows, start_row, factor, next, finish, finished_rows, rows_of, remainder, remainders_of, matrix_of}
use Rattle.multipartition.specs.Moduli.{moduli_of}
use Rattle.multipartition.specs.Plans.{entry_at}
use Rattle.multipartition.proofs.Moduli.{length_moduli}
use Rattle.matrix.specs.Rows.{backward, start_at, row_at, at}

-- ---- backward lists

module _ {A : Type 0} where
  pub length-backward : (f : ℕ → A) (n : ℕ) → length (backward f n) ≡ n
  unfolding backward
  length-backward f zero = refl
  length-backward f (suc n) = ap suc (length-backward f n)

  pub backward-same : (f g : ℕ → A) (n : ℕ) → ((k : ℕ) → k ≤ n → f k ≡ g k) → backward f n ≡ backward g n
  unfolding backward
  backward-same f g zero e = refl
  backward-same f g (suc n) e = ap₂ ◌∷◌ (e (suc n) (omega arith)) (backward-same f g n (λ k l. e k (omega arith)))

  -- turned round, f (i + 1) stands at place i, and then comes what was behind
  turned_past : (f : ℕ → A) (n : ℕ) (behind : List A) (j : ℕ) (d : A) → get_or (reverse_aux (backward f n) behind) (n + j) d ≡ get_or behind j d
  unfolding backward
  turned_past f zero behind j d = ap (λ (k : ℕ). get_or behind k d) (zero-add j)
  turned_past f (suc n) behind j d =
      ap (λ (k : ℕ). get_or (reverse_aux (backward f n) (f (suc n) ∷ behind)) k d) (suc-add n j ∙ sym (add-suc n j))
      ∙ turned_past f n (f (suc n) ∷ behind) (suc j) d

  turned-at : (f : ℕ → A) (n : ℕ) (behind : List A) (i : ℕ) (d : A) → i < n → get_or (reverse_aux (backward f n) behind) i d ≡ f (suc i)
  unfolding backward
  turned-at f zero behind i d l = absurd (not-suc-le-zero l)
  turned-at f (suc n) behind i d l = go (turned-at f n (f (suc n) ∷ behind) i d) (dec_le n i)
    where
      go : (i < n → get_or (reverse_aux (backward f n) (f (suc n) ∷ behind)) i d ≡ f (suc i))
          → Dec (n ≤ i) → get_or (reverse_aux (backward f n) (f (suc n) ∷ behind)) i d ≡ f (suc i)
      go before (yes m) =
          let e : i ≡ n + 0 = omega arith in
          let s : n ≡ i = omega arith in
          ap (λ (k : ℕ). get_or (reverse_aux (backward f n) (f (suc n) ∷ behind)) k d) e
          ∙ turned_past f n (f (suc n) ∷ behind) 0 d
          ∙ ap (λ (k : ℕ). f (suc k)) s
      go before (no m) = before (omega arith)

  -- a list turned round, by the places of the list with one more in front
  pub reverse-backward : (d x : A) (xs : List A) → reverse xs ≡ backward (λ k. get_or (x ∷ xs) k d) (length xs)
  reverse-backward d x xs = ap reverse whole ∙ reverse-reverse (backward f (length xs))
    where
      f : ℕ → A
      f k = get_or (x ∷ xs) k d

      whole : xs ≡ reverse (backward f (length xs))
      whole =
          ext_get_or d xs (reverse (backward f (length xs)))
          (sym (length-reverse (backward f (length xs)) ∙ length-backward f (length xs)))
          (λ i l. sym (turned-at f (length xs) [] i d l))

-- ---- rows by their places

pub finished-backward : (cut modulus : ℕ → ℕ) (n : ℕ)
    → finished_rows (backward cut n) (backward modulus n) ≡ backward (row_at cut modulus) n
unfolding backward finished_rows row_at
finished-backward cut modulus zero = refl
finished-backward cut modulus (suc n) =
    let rows : List Row = finished_rows (backward cut n) (backward modulus n) in
    ap₂ ◌∷◌ (ap (λ (k : ℕ). finish (start_row (k + 2)) (modulus (suc n)) (backward cut n) (backward modulus n) rows) (length-backward cut n))
    (finished-backward cut modulus n)

-- row i takes the finished rows before it
pub row-finish : (cut modulus : ℕ → ℕ) (i : ℕ)
    → finish (start_at i) (modulus i) (backward cut (pred i)) (backward modulus (pred i)) (backward (row_at cut modulus) (pred i)) ≡ row_at cut modulus i
unfolding row_at
row-finish cut modulus i =
    ap (λ (rows : List Row). finish (start_at i) (modulus i) (backward cut (pred i)) (backward modulus (pred i)) rows)
    (sym (finished-backward cut modulus (pred i)))

-- the first of them, which is the last before it, and then the others
pub finish-step : (cut modulus : ℕ → ℕ) (rows : ℕ → Row) (row : Row) (r n : ℕ) → 1 ≤ n
    → finish row r (backward cut n) (backward modulus n) (backward rows n)
    ≡ finish (λ k. row k -ℤ pos (factor r (cut n)) *ℤ rows n k) (next r (cut n) (modulus n))
    (backward cut (pred n)) (backward modulus (pred n)) (backward rows (pred n))
unfolding finish backward
finish-step cut modulus rows row r zero l = absurd (not-suc-le-zero l)
finish-step cut modulus rows row r (suc n) l = refl

pub finish_none : (cut modulus : ℕ → ℕ) (rows : ℕ → Row) (row : Row) (r : ℕ)
    → finish row r (backward cut 0) (backward modulus 0) (backward rows 0) ≡ row
unfolding finish backward
finish_none cut modulus rows row r = refl

-- row i looks at no place past i
pub row_same : (cut cut' modulus modulus' : ℕ → ℕ) (i : ℕ) → ((k : ℕ) → k ≤ i → cut k ≡ cut' k) → ((k : ℕ) → k ≤ i → modulus k ≡ modulus' k)
    → row_at cut modulus i ≡ row_at cut' modulus' i
unfolding row_at
row_same cut cut' modulus modulus' i e f =
    ap (λ (m : ℕ). finish (start_at i) m (backward cut (pred i)) (backward modulus (pred i)) (finished_rows (backward cut (pred i)) (backward modulus (pred i))))
    (f i (omega arith))
    ∙ ap₂ (λ (bs ms : List ℕ). finish (start_at i) (modulus' i) bs ms (finished_rows bs ms))
    (backward-same cut cut' (pred i) (λ k l. e k (omega arith)))
    (backward-same modulus modulus' (pred i) (λ k l. f k (omega arith)))

-- ---- the matrix by its places

first_row_lem : (rows : List Row) (k : ℕ) → first_row rows k ≡ get_or rows 0 (λ c. pos 0) k
first_row_lem [] k = refl
first_row_lem (row ∷ rows) k = refl

rest_row : (rows : List Row) (i : ℕ) → get_or (rest_rows rows) i (λ c. pos 0) ≡ get_or rows (suc i) (λ c. pos 0)
rest_row [] i = refl
rest_row (row ∷ rows) i = refl

rows_at : (b : ℕ) (cuts : List ℕ) (m : ℕ) (moduli : List ℕ) → length moduli ≡ length cuts → (i : ℕ) → i ≤ length cuts
    → get_or (rows_of (b ∷ cuts) (m ∷ moduli)) i (λ c. pos 0) ≡ row_at (at (b ∷ cuts)) (at (m ∷ moduli)) i
unfolding rows_of
rows_at b cuts m moduli e zero l =
    let cut : ℕ → ℕ = at (b ∷ cuts) in
    let modulus : ℕ → ℕ = at (m ∷ moduli) in
    sym (finish_none cut modulus (row_at cut modulus) (start_at 0) (modulus 0)) ∙ row-finish cut modulus 0
rows_at b cuts m moduli e (suc i) l =
    let cut : ℕ → ℕ = at (b ∷ cuts) in
    let modulus : ℕ → ℕ = at (m ∷ moduli) in
    let n : ℕ = length cuts in
    ap₂ (λ (bs ms : List ℕ). get_or (reverse (finished_rows bs ms)) i (λ c. pos 0)) (reverse-backward 0 b cuts)
    (reverse-backward 0 m moduli ∙ ap (backward modulus) e)
    ∙ ap (λ (rows : List Row). get_or (reverse rows) i (λ c. pos 0)) (finished-backward cut modulus n)
    ∙ turned-at (row_at cut modulus) n [] i (λ c. pos 0) l

rows_of-at : (cuts moduli : List ℕ) → length moduli ≡ length cuts → (i : ℕ) → i < length cuts
    → get_or (rows_of cuts moduli) i (λ c. pos 0) ≡ row_at (at cuts) (at moduli) i
rows_of-at [] moduli e i l = absurd (not-suc-le-zero l)
rows_of-at (b ∷ cuts) [] e i l = absurd (omega (arith, e))
rows_of-at (b ∷ cuts) (m ∷ moduli) e i l = rows_at b cuts m moduli (omega (arith, e)) i (omega arith)

list_of-at : (from n : ℕ) (f : ℕ → ℕ) (c : ℕ) → c < n → at (list_of from n f) c ≡ f (from + c)
unfolding list_of
list_of-at from zero f c l = absurd (not-suc-le-zero l)
list_of-at from (suc n) f zero l = ap f (omega arith)
list_of-at from (suc n) f (suc c) l = list_of-at (suc from) n f c (le_of_suc-le-suc l) ∙ ap f (omega arith)

list_of_past : (from n : ℕ) (f : ℕ → ℕ) (c : ℕ) → n ≤ c → at (list_of from n f) c ≡ 0
unfolding list_of
list_of_past from zero f c l = refl
list_of_past from (suc n) f zero l = absurd (not-suc-le-zero l)
list_of_past from (suc n) f (suc c) l = list_of_past (suc from) n f c (le_of_suc-le-suc l)

remainders-at : (d : ℕ) (moduli : List ℕ) (rows : List Row) (i c : ℕ) → i < length moduli → c < d
    → entry_at (remainders_of d moduli rows) i c ≡ remainder (get_or rows i (λ c. pos 0) (suc c)) (at moduli i)
unfolding remainders_of
remainders-at d [] rows i c l b = absurd (not-suc-le-zero l)
remainders-at d (m ∷ moduli) rows zero c l b =
    list_of-at 1 d (λ k. remainder (first_row rows k) m) c b
    ∙ ap (λ (k : ℕ). remainder (first_row rows k) m) (omega arith)
    ∙ ap (λ (z : ℤ). remainder z m) (first_row_lem rows (suc c))
remainders-at d (m ∷ moduli) rows (suc i) c l b =
    remainders-at d moduli (rest_rows rows) i c (le_of_suc-le-suc l) b
    ∙ ap (λ (row : Row). remainder (row (suc c)) (at moduli i)) (rest_row rows i)

remainders_past_row : (d : ℕ) (moduli : List ℕ) (rows : List Row) (i c : ℕ) → length moduli ≤ i → entry_at (remainders_of d moduli rows) i c ≡ 0
unfolding remainders_of
remainders_past_row d [] rows i c l = refl
remainders_past_row d (m ∷ moduli) rows zero c l = absurd (not-suc-le-zero l)
remainders_past_row d (m ∷ moduli) rows (suc i) c l = remainders_past_row d moduli (rest_rows rows) i c (le_of_suc-le-suc l)

remainders_past_column : (d : ℕ) (moduli : List ℕ) (rows : List Row) (i c : ℕ) → d ≤ c → entry_at (remainders_of d moduli rows) i c ≡ 0
unfolding remainders_of
remainders_past_column d [] rows i c l = refl
remainders_past_column d (m ∷ moduli) rows zero c l = list_of_past 1 d (λ k. remainder (first_row rows k) m) c l
remainders_past_column d (m ∷ moduli) rows (suc i) c l = remainders_past_column d moduli (rest_rows rows) i c l

module _ (p : ℕ) (cuts : List ℕ) (i c : ℕ) where
  pub entry_at_lem : i < length cuts → c < length cuts
      → entry_at (matrix_of p cuts) i c ≡ remainder (row_at (at cuts) (at (moduli_of p cuts)) i (suc c)) (at (moduli_of p cuts) i)
  unfolding matrix_of
  entry_at_lem l b =
      remainders-at (length cuts) (moduli_of p cuts) (rows_of cuts (moduli_of p cuts)) i c (omega (arith, length_moduli p cuts)) b
      ∙ ap (λ (row : Row). remainder (row (suc c)) (at (moduli_of p cuts) i)) (rows_of-at cuts (moduli_of p cuts) (length_moduli p cuts) i l)

  pub entry_past_row : length cuts ≤ i → entry_at (matrix_of p cuts) i c ≡ 0
  unfolding matrix_of
  entry_past_row l =
      remainders_past_row (length cuts) (moduli_of p cuts) (rows_of cuts (moduli_of p cuts)) i c (omega (arith, length_moduli p cuts))

  pub entry_past_column : length cuts ≤ c → entry_at (matrix_of p cuts) i c ≡ 0
  unfolding matrix_of
  entry_past_column l = remainders_past_column (length cuts) (moduli_of p cuts) (rows_of cuts (moduli_of p cuts)) i c l
