-- The laws of the list of divisors. All follow from where a divisor stands in it: after as many entries as there are
-- smaller divisors.
use mathlib.Core.Path.{◌≡◌, refl, sym, ◌∙◌, ap, subst}
use mathlib.Core.Logic.{◌⊎◌, inl, inr}
use mathlib.Core.List.{List, [], ◌∷◌, ◌++◌, append-nil}
use Prim.Native.Nat.{ℕ, zero, suc, ◌+◌, ◌-◌, ◌/◌, ◌%◌, ◌≤◌, ◌<◌, ◌∣◌}
use native.Mathlib.Nat.{eq-or-lt_of_le, not-suc-le-zero, le_of_suc-le-suc, le_refl, le_antisymm, le_of_dvd, pos_of_dvd_of_pos, dvd_of_mod-eq-zero, mod-eq-zero_of_dvd, mul-div_cancel', mul-le-mul, mul-le-mul_left, mul-lt-mul_of_pos_right, lt_of_not-le}
use native.Mathlib.Decide.{dec_le, dec_lt, dec_dvd}
use native.Mathlib.Omega.{arith}
use lib.ListN.{length, get_or, length-append, get_or-append}
use lib.Seq.{get_or-append_seam}
use borrow.Author.Tests.{eq-eqb, ne_eqb, le-leb, lt-leb}
use Rattle.numbers.specs.Divisors.{divisors_to, divisors_of, divisors_answer}
use Rattle.numbers.proofs.Divides.{quotient_pos}

-- ---- one number more

pub divisors_to-zero : (n : ℕ) → divisors_to n zero ≡ []
unfolding divisors_to
divisors_to-zero n = refl

pub divisors_to-dvd : (n v : ℕ) → suc v ∣ n → divisors_to n (suc v) ≡ divisors_to n v ++ (suc v ∷ [])
unfolding divisors_to
divisors_to-dvd n v d = rw (eq-eqb (n % suc v) 0 (mod-eq-zero_of_dvd (suc v) d))

pub divisors_to-not-dvd : (n v : ℕ) → ¬ (suc v ∣ n) → divisors_to n (suc v) ≡ divisors_to n v
unfolding divisors_to
divisors_to-not-dvd n v d = rw (ne_eqb (n % suc v) 0 (λ e. d (dvd_of_mod-eq-zero (suc v) e))) (append-nil (divisors_to n v))

-- ---- how many divisors of n are at most v

length-dvd : (n v : ℕ) → suc v ∣ n → length (divisors_to n (suc v)) ≡ suc (length (divisors_to n v))
length-dvd n v d = omega (arith, ap length (divisors_to-dvd n v d), length-append (divisors_to n v) (suc v ∷ []))

-- at most one more
length-step : (n v : ℕ) → (length (divisors_to n v) ≤ length (divisors_to n (suc v))) × (length (divisors_to n (suc v)) ≤ suc (length (divisors_to n v)))
length-step n v = go (dec_dvd (suc v) n)
  where
    go : Dec (suc v ∣ n) → (length (divisors_to n v) ≤ length (divisors_to n (suc v))) × (length (divisors_to n (suc v)) ≤ suc (length (divisors_to n v)))
    go (yes d) = (omega (arith, length-dvd n v d), omega (arith, length-dvd n v d))
    go (no q) = (omega (arith, ap length (divisors_to-not-dvd n v q)), omega (arith, ap length (divisors_to-not-dvd n v q)))

pub length-divisors_to-le : (n v : ℕ) → length (divisors_to n v) ≤ v
length-divisors_to-le n zero = omega (arith, ap length (divisors_to-zero n))
length-divisors_to-le n (suc v) = omega (arith, (length-step n v).1, length-divisors_to-le n v)

pub length-divisors_to_mono : (n v w : ℕ) → v ≤ w → length (divisors_to n v) ≤ length (divisors_to n w)
length-divisors_to_mono n v zero h = subst (λ (k : ℕ). length (divisors_to n v) ≤ length (divisors_to n k)) (omega arith) (le_refl (length (divisors_to n v)))
length-divisors_to_mono n v (suc w) h = go (λ l. length-divisors_to_mono n v w l) (eq-or-lt_of_le h)
  where
    go : (v ≤ w → length (divisors_to n v) ≤ length (divisors_to n w)) → (v ≡ suc w) ⊎ (v < suc w) → length (divisors_to n v) ≤ length (divisors_to n (suc w))
    go below (inl e) = omega (arith, ap (λ (k : ℕ). length (divisors_to n k)) e)
    go below (inr l) = omega (arith, below (le_of_suc-le-suc l), (length-step n w).0)

-- fewer below a divisor than up to it
pub length-divisors_to-lt : (n v d : ℕ) → v < d → d ∣ n → length (divisors_to n v) < length (divisors_to n d)
length-divisors_to-lt n v zero h d = absurd (not-suc-le-zero h)
length-divisors_to-lt n v (suc w) h d = omega (arith, length-dvd n w d, length-divisors_to_mono n v w (le_of_suc-le-suc h))

-- the list stays as it is over numbers that do not divide n
pub divisors_to_none : (n v w : ℕ) → v ≤ w → ((e : ℕ) → v < e → e ≤ w → ¬ (e ∣ n)) → divisors_to n w ≡ divisors_to n v
divisors_to_none n v zero h none = ap (divisors_to n) (omega arith)
divisors_to_none n v (suc w) h none = go (λ l. divisors_to_none n v w l (λ e low high. none e low (omega arith))) (eq-or-lt_of_le h)
  where
    go : (v ≤ w → divisors_to n w ≡ divisors_to n v) → (v ≡ suc w) ⊎ (v < suc w) → divisors_to n (suc w) ≡ divisors_to n v
    go below (inl e) = ap (divisors_to n) (sym e)
    go below (inr l) = divisors_to-not-dvd n w (none (suc w) l (le_refl (suc w))) ∙ below (le_of_suc-le-suc l)

-- no divisor of n is above n
pub divisors_to_all : (n v : ℕ) → zero < n → n ≤ v → divisors_to n v ≡ divisors_to n n
divisors_to_all n v hn h = divisors_to_none n n v h (λ e low high d. omega (arith, le_of_dvd hn d))

-- ---- the entries

-- d is an entry of divisors_to n w, after i others
pub record Entry (n w i d : ℕ) : Type 0 where
  pub positive : zero < d
  pub within : d ≤ w
  pub divides : d ∣ n
  pub place : length (divisors_to n (d - 1)) ≡ i

pub entry_at_lem : (n w i : ℕ) → i < length (divisors_to n w) → Entry n w i (get_or (divisors_to n w) i 0)
entry_at_lem n zero i h = absurd (omega (arith, ap length (divisors_to-zero n)))
entry_at_lem n (suc w) i h = go (λ l. entry_at_lem n w i l) (dec_dvd (suc w) n)
  where
    wider : {d : ℕ} → Entry n w i d → Entry n (suc w) i d
    wider e = record { positive = e.positive; within = omega (arith, e.within); divides = e.divides; place = e.place }

    last : suc w ∣ n → i ≡ length (divisors_to n w) → Entry n (suc w) i (suc w)
    last d e =
        record { positive = omega arith; within = le_refl (suc w); divides = d; place = ap (λ (k : ℕ). length (divisors_to n k)) (omega arith) ∙ sym e }

    pick : suc w ∣ n → (i < length (divisors_to n w) → Entry n w i (get_or (divisors_to n w) i 0)) → Dec (i < length (divisors_to n w))
        → Entry n (suc w) i (get_or (divisors_to n w ++ (suc w ∷ [])) i 0)
    pick d below (yes l) = rw (get_or-append (divisors_to n w) (suc w ∷ []) 0 i l) (wider (below l))
    pick d below (no q) =
        let e : i ≡ length (divisors_to n w) = omega (arith, length-dvd n w d) in
        subst (λ (x : ℕ). Entry n (suc w) i x)
        (sym (ap (λ (k : ℕ). get_or (divisors_to n w ++ (suc w ∷ [])) k 0) e ∙ get_or-append_seam (divisors_to n w) (suc w) [] 0))
        (last d e)

    go : (i < length (divisors_to n w) → Entry n w i (get_or (divisors_to n w) i 0)) → Dec (suc w ∣ n) → Entry n (suc w) i (get_or (divisors_to n (suc w)) i 0)
    go below (yes d) = rw (divisors_to-dvd n w d) (pick d below (dec_lt i (length (divisors_to n w))))
    go below (no q) = rw (divisors_to-not-dvd n w q) (wider (below (omega (arith, ap length (divisors_to-not-dvd n w q)))))

-- w is the least divisor of n above v
pub record Next (n v w : ℕ) : Type 0 where
  pub above : v < w
  pub divides : w ∣ n
  pub least : (e : ℕ) → v < e → e ∣ n → w ≤ e

-- the entry after the divisors up to v is the least divisor above v
pub entry_next : (n w v i : ℕ) → i < length (divisors_to n w) → i ≡ length (divisors_to n v) → Next n v (get_or (divisors_to n w) i 0)
entry_next n w v i h e = record { above = above; divides = E.divides; least = least }
  where
    d : ℕ
    d = get_or (divisors_to n w) i 0

    E : Entry n w i d
    E = entry_at_lem n w i h

    above : v < d
    above =
        lt_of_not-le
        (λ (q : d ≤ v). omega (arith, E.place, length-divisors_to-lt n (d - 1) d (omega (arith, E.positive)) E.divides, length-divisors_to_mono n d v q))

    least : (x : ℕ) → v < x → x ∣ n → d ≤ x
    least x l xn = go (dec_le d x)
      where
        go : Dec (d ≤ x) → d ≤ x
        go (yes q) = q
        go (no q) = absurd (omega (arith, E.place, length-divisors_to-lt n v x l xn, length-divisors_to_mono n x (d - 1) (omega arith)))

pub divisors_to-next : (n v w : ℕ) → Next n v w → divisors_to n w ≡ divisors_to n v ++ (w ∷ [])
divisors_to-next n v zero N = absurd (not-suc-le-zero N.above)
divisors_to-next n v (suc w) N =
    divisors_to-dvd n w N.divides
    ∙ ap (λ (xs : List ℕ). xs ++ (suc w ∷ [])) (divisors_to_none n v w (omega (arith, N.above)) (λ e low high d. omega (arith, N.least e low d)))

-- ---- the list of all divisors: each entry is one, each stands in it, and they rise

pub dvd_of_entry : (n i : ℕ) → i < length (divisors_of n) → get_or (divisors_of n) i 0 ∣ n
unfolding divisors_of
dvd_of_entry n i h = (entry_at_lem n n i h).divides

pub entry_pos : (n i : ℕ) → i < length (divisors_of n) → zero < get_or (divisors_of n) i 0
unfolding divisors_of
entry_pos n i h = (entry_at_lem n n i h).positive

pub entry-le : (n i : ℕ) → i < length (divisors_of n) → get_or (divisors_of n) i 0 ≤ n
unfolding divisors_of
entry-le n i h = (entry_at_lem n n i h).within

pub entry_of-dvd : (n b : ℕ) → zero < n → b ∣ n → (i : ℕ) × (i < length (divisors_of n)) × (get_or (divisors_of n) i 0 ≡ b)
unfolding divisors_of
entry_of-dvd n b hn d =
    let hb : zero < b = pos_of_dvd_of_pos d hn in
    let i : ℕ = length (divisors_to n (b - 1)) in
    let inside : i < length (divisors_to n n) =
    omega (arith, length-divisors_to-lt n (b - 1) b (omega arith) d, length-divisors_to_mono n b n (le_of_dvd hn d)) in
    let N : Next n (b - 1) (get_or (divisors_to n n) i 0) = entry_next n n (b - 1) i inside refl in
    (i, inside, le_antisymm (N.least b (omega arith) d) (omega (arith, N.above)))

pub divisors-rising : (n i j : ℕ) → i < j → j < length (divisors_of n) → get_or (divisors_of n) i 0 < get_or (divisors_of n) j 0
unfolding divisors_of
divisors-rising n i j l h =
    let x : ℕ = get_or (divisors_to n n) i 0 in
    let y : ℕ = get_or (divisors_to n n) j 0 in
    let X : Entry n n i x = entry_at_lem n n i (omega arith) in
    let Y : Entry n n j y = entry_at_lem n n j h in
    lt_of_not-le (λ (q : y ≤ x). omega (arith, X.place, Y.place, length-divisors_to_mono n (y - 1) (x - 1) (omega arith)))

-- ---- at most 127 of them up to 4096

-- the entry at i is above i
pub lt_entry : (n i : ℕ) → i < length (divisors_of n) → i < get_or (divisors_of n) i 0
unfolding divisors_of
lt_entry n i h =
    let d : ℕ = get_or (divisors_to n n) i 0 in
    let E : Entry n n i d = entry_at_lem n n i h in
    omega (arith, E.place, E.positive, length-divisors_to-le n (d - 1))

quotient-lt : (n a b : ℕ) → zero < n → a ∣ n → b ∣ n → a < b → n / b < n / a
quotient-lt n a b hn da db l =
    lt_of_not-le
    (λ (q : n / a ≤ n / b). omega (arith, mul-div_cancel' a da, mul-div_cancel' b db, mul-le-mul_left a q, mul-lt-mul_of_pos_right l (quotient_pos b hn db)))

-- and its cofactor is at least the number of entries from i on
pub cofactor-ge : (n t i : ℕ) → zero < n → i + suc t ≡ length (divisors_of n) → t < n / get_or (divisors_of n) i 0
cofactor-ge n zero i hn e = quotient_pos (get_or (divisors_of n) i 0) hn (dvd_of_entry n i (omega arith))
cofactor-ge n (suc t) i hn e =
    omega (
      arith,
      cofactor-ge n t (suc i) hn (omega arith),
      quotient-lt n (get_or (divisors_of n) i 0) (get_or (divisors_of n) (suc i) 0) hn (dvd_of_entry n i (omega arith)) (dvd_of_entry n (suc i) (omega arith))
          (divisors-rising n i (suc i) (omega arith) (omega arith)),
    )

-- with 128 entries, the entry at 64 would be at least 65 and its cofactor at least 64
pub length-divisors_of-le : (n : ℕ) → n ≤ 4096 → length (divisors_of n) ≤ 127
length-divisors_of-le n h = go (dec_le (length (divisors_of n)) 127)
  where
    go : Dec (length (divisors_of n) ≤ 127) → length (divisors_of n) ≤ 127
    go (yes q) = q
    go (no q) =
        let d : ℕ = get_or (divisors_of n) 64 0 in
        let inside : 64 < length (divisors_of n) = omega arith in
        let hn : zero < n = omega (arith, entry_pos n 64 inside, entry-le n 64 inside) in
        let low : 65 ≤ d = lt_entry n 64 inside in
        let high : 64 ≤ n / d = omega (arith, cofactor-ge n (length (divisors_of n) - 65) 64 hn (omega arith)) in
        absurd (omega (arith, mul-le-mul low high, mul-div_cancel' d (dvd_of_entry n 64 inside)))

-- ---- the answer of `divisors`, up to 4096 and above

pub divisors_answer-zero : divisors_answer 0 ≡ []
unfolding divisors_answer divisors_of divisors_to
divisors_answer-zero = refl

pub divisors_answer_above : (n : ℕ) → 4096 < n → divisors_answer n ≡ []
unfolding divisors_answer
divisors_answer_above n h = rw (lt-leb n 4096 h)

pub divisors_answer_inside : (n : ℕ) → n ≤ 4096 → divisors_answer n ≡ divisors_of n
unfolding divisors_answer
divisors_answer_inside n h = rw (le-leb n 4096 h)
