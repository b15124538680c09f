-- Lists padded with zeros, by their places: five places, and rows of five places one after the other.
use mathlib.Core.Path.{◌≡◌, refl, sym, ap, ◌∙◌}
use mathlib.Core.List.{List, [], ◌∷◌, ◌++◌}
use Prim.Native.Nat.{ℕ, zero, suc, ◌+◌, ◌*◌, ◌/◌, ◌%◌, ◌≤◌, ◌<◌}
use native.Mathlib.Decide.{dec_le}
use native.Mathlib.Omega.{arith}
use lib.ListN.{length, take, set, replicate, length-append, length-replicate, get_or-append, get_or-eq_default}
use lib.Seq.{length-take-le, get_or-take, get_or-append-add, get_or-set_same, get_or-set_other, ext_get_or}
use Rattle.multipartition.specs.Plans.{entry_at}
use Rattle.layout.specs.Plans.{five, flat}
use Rattle.matrix.specs.Rows.{at}

-- ---- zeros behind a list are what is read past its end

pub at_zeros : (n k : ℕ) → at (replicate n 0) k ≡ 0
at_zeros zero k = refl
at_zeros (suc n) zero = refl
at_zeros (suc n) (suc k) = at_zeros n k

pub at-padded : (xs : List ℕ) (n k : ℕ) → at (xs ++ replicate n 0) k ≡ at xs k
at-padded [] n k = at_zeros n k
at-padded (x ∷ xs) n zero = refl
at-padded (x ∷ xs) n (suc k) = at-padded xs n k

-- the first n places of a list that is padded with n zeros
length-padded : (xs : List ℕ) (n : ℕ) → length (take n (xs ++ replicate n 0)) ≡ n
length-padded xs n = length-take-le n (xs ++ replicate n 0) (omega (arith, length-append xs (replicate n 0), length-replicate {A = ℕ} n 0))

padded-at : (xs : List ℕ) (n k : ℕ) → k < n → at (take n (xs ++ replicate n 0)) k ≡ at xs k
padded-at xs n k l = get_or-take n (xs ++ replicate n 0) k 0 l ∙ at-padded xs n k

is-padded : (n : ℕ) (ys xs : List ℕ) → length ys ≡ n → ((k : ℕ) → k < n → at ys k ≡ at xs k) → ys ≡ take n (xs ++ replicate n 0)
is-padded n ys xs e h =
    ext_get_or 0 ys (take n (xs ++ replicate n 0)) (e ∙ sym (length-padded xs n))
    (λ k l. h k (omega (arith, e)) ∙ sym (padded-at xs n k (omega (arith, e))))

-- ---- five places

pub five-at : (xs : List ℕ) (k : ℕ) → k < 5 → at (five xs) k ≡ at xs k
five-at xs k l = padded-at xs 5 k l

pub is_five_lem : (ys xs : List ℕ) → length ys ≡ 5 → ((k : ℕ) → k < 5 → at ys k ≡ at xs k) → ys ≡ five xs
is_five_lem ys xs e h = is-padded 5 ys xs e h

-- ---- rows of five places

flat-at : (rows : List (List ℕ)) (i c : ℕ) → c < 5 → at (flat rows) (i * 5 + c) ≡ entry_at rows i c
unfolding flat
flat-at [] i c l = refl
flat-at (row ∷ rows) zero c l =
    ap (λ (n : ℕ). at (five row ++ flat rows) n) (omega arith)
    ∙ get_or-append (five row) (flat rows) 0 c (omega (arith, length-padded row 5))
    ∙ five-at row c l
flat-at (row ∷ rows) (suc i) c l =
    ap (λ (n : ℕ). at (five row ++ flat rows) n) (omega (arith, length-padded row 5))
    ∙ get_or-append-add (five row) (flat rows) (i * 5 + c) 0
    ∙ flat-at rows i c l

pub is-flat : (ys : List ℕ) (rows : List (List ℕ)) → length ys ≡ 25 → ((n : ℕ) → n < 25 → at ys n ≡ entry_at rows (n / 5) (n % 5))
    → ys ≡ take 25 (flat rows ++ replicate 25 0)
is-flat ys rows e h = is-padded 25 ys (flat rows) e place
  where
    place : (n : ℕ) → n < 25 → at ys n ≡ at (flat rows) n
    place n l = h n l ∙ sym (flat-at rows (n / 5) (n % 5) (omega arith)) ∙ ap (at (flat rows)) (omega arith)

-- ---- a store after places that hold what they should

pub filled_more : (f : ℕ → ℕ) (xs : List ℕ) (n v : ℕ) → n < length xs → ((k : ℕ) → k < n → at xs k ≡ f k) → v ≡ f n
    → (k : ℕ) → k < n + 1 → at (set xs n v) k ≡ f k
filled_more f xs n v l h e k b = go (dec_le n k)
  where
    go : Dec (n ≤ k) → at (set xs n v) k ≡ f k
    go (yes m) = let s : k ≡ n = omega arith in rw s (get_or-set_same xs n v 0 l ∙ e)
    go (no m) = get_or-set_other xs n k v 0 (λ (s : k ≡ n). m (omega arith)) ∙ h k (omega arith)

-- the first k of five places hold the numbers, all of them, and the others zero
pub five_of_filled : (places numbers : List ℕ) (k : ℕ) → length places ≡ 5 → length numbers ≤ k
    → ((i : ℕ) → i < k → at places i ≡ at numbers i) → ((i : ℕ) → k ≤ i → at places i ≡ 0) → places ≡ five numbers
five_of_filled places numbers k e l before past = is_five_lem places numbers e (λ i m. go i (dec_le k i))
  where
    go : (i : ℕ) → Dec (k ≤ i) → at places i ≡ at numbers i
    go i (yes m) = past i m ∙ sym (get_or-eq_default numbers 0 {n = i} (omega arith))
    go i (no m) = before i (omega arith)
