-- The moduli from the last dimension to the first: a modulus is what its cut shares with what the later ones leave of p.
use mathlib.Core.Path.{◌≡◌, refl, sym, ap, ◌∙◌, subst}
use mathlib.Core.List.{List, [], ◌∷◌}
use Prim.Native.Nat.{ℕ, zero, suc, ◌/◌, ◌≤◌, ◌<◌, ◌∣◌}
use native.Mathlib.Nat.{not-suc-le-zero, le_of_suc-le-suc, mul_comm, div-one, div-div-eq-div-mul, div-eq_of_eq-mul_right, dvd-mul_left, dvd_trans}
use native.Mathlib.Decide.{dec_le}
use native.Mathlib.Omega.{arith}
use lib.ListN.{length, drop, set, replicate, length-set, drop_of_length-le, get_or-eq_default}
use lib.Seq.{drop-cons, get_or-set_same, get_or-set_other}
use Rattle.numbers.specs.Gcd.{gcd}
use Rattle.numbers.specs.Products.{product}
use Rattle.numbers.proofs.Gcd.{gcd-dvd_left, gcd-one, gcd_pos, gcd_split, gcd-rest_pos, gcd-mul}
use Rattle.multipartition.specs.Moduli.{moduli_of}
use Rattle.multipartition.proofs.Moduli.{length_moduli}
use Rattle.layout.specs.Plans.{five}
use Rattle.matrix.specs.Rows.{at}
use Rattle.matrix.proofs.Padding.{at_zeros, is_five_lem}

-- what the moduli from place k on leave of p
abbrev pub left_of : ℕ → List ℕ → ℕ → ℕ
left_of p cuts k = p / gcd p (product (drop k cuts))

pub modulus-at : (p : ℕ) (cuts : List ℕ) → zero < p → (k : ℕ) → k < length cuts
    → at (moduli_of p cuts) k ≡ gcd (left_of p cuts (suc k)) (at cuts k)
unfolding moduli_of
modulus-at p [] hp k l = absurd (not-suc-le-zero l)
modulus-at p (b ∷ cuts) hp zero l =
    div-eq_of_eq-mul_right (gcd_pos p (product cuts) hp) (ap (gcd p) (mul_comm b (product cuts)) ∙ gcd-mul p (product cuts) b)
modulus-at p (b ∷ cuts) hp (suc k) l = modulus-at p cuts hp k (le_of_suc-le-suc l)

pub left_step : (p : ℕ) (cuts : List ℕ) (k : ℕ) → k < length cuts
    → left_of p cuts (suc k) / gcd (left_of p cuts (suc k)) (at cuts k) ≡ left_of p cuts k
left_step p cuts k l =
    let n : ℕ = product (drop (suc k) cuts) in
    let b : ℕ = at cuts k in
    div-div-eq-div-mul p (gcd p n) (gcd (p / gcd p n) b)
    ∙ ap (λ (x : ℕ). p / x) (sym (gcd-mul p n b))
    ∙ ap (λ (x : ℕ). p / gcd p x) (mul_comm n b ∙ ap product (sym (drop-cons cuts k 0 l)))

-- each modulus divides p
pub modulus-dvd : (p : ℕ) (cuts : List ℕ) → zero < p → (k : ℕ) → k < length cuts → at (moduli_of p cuts) k ∣ p
modulus-dvd p cuts hp k l =
    let n : ℕ = product (drop (suc k) cuts) in
    rw (modulus-at p cuts hp k l)
    (dvd_trans (gcd (p / gcd p n) (at cuts k)) (gcd-dvd_left (p / gcd p n) (at cuts k))
    (subst (λ (x : ℕ). p / gcd p n ∣ x) (gcd_split p n) (dvd-mul_left (p / gcd p n) (gcd p n))))

-- ---- the moduli from place i on are written, and the places before are zero

pub record Written (p : ℕ) (cuts : List ℕ) (i : ℕ) (moduli : List ℕ) (left : ℕ) : Type 0 where
  pub long : length moduli ≡ 5
  pub leaves : left ≡ left_of p cuts i
  pub before : (k : ℕ) → k < i → at moduli k ≡ 0
  pub from : (k : ℕ) → i ≤ k → at moduli k ≡ at (moduli_of p cuts) k

module _ (p : ℕ) (cuts : List ℕ) where
  pub written_none : (i : ℕ) → i ≡ length cuts → Written p cuts i (replicate 5 0) p
  written_none i e = record {
    long = refl;
    leaves = sym (ap (λ (bs : List ℕ). p / gcd p (product bs)) (drop_of_length-le cuts {i = i} (omega arith)) ∙ ap (λ (n : ℕ). p / n) (gcd-one p) ∙ div-one p);
    before = λ k l. at_zeros 5 k;
    from = λ k l. at_zeros 5 k ∙ sym (get_or-eq_default (moduli_of p cuts) 0 {n = k} (omega (arith, length_moduli p cuts)));
  }

  pub written_more : (i j : ℕ) (moduli : List ℕ) (left m : ℕ) → zero < p → j ≡ suc i → j ≤ length cuts → j ≤ 5 → Written p cuts j moduli left
      → m ≡ gcd left (at cuts i) → Written p cuts i (set moduli i m) (left / m)
  written_more i j moduli left m hp s l b w e = record {
    long = length-set moduli i m ∙ w.long;
    leaves = ap (λ (n : ℕ). left / n) e ∙ ap (λ (n : ℕ). n / gcd n (at cuts i)) left_after ∙ left_step p cuts i (omega arith);
    before = λ k h. get_or-set_other moduli i k m 0 (λ (t : k ≡ i). omega arith) ∙ w.before k (omega arith);
    from = λ k h. place k h (dec_le (suc i) k);
  }
    where
      left_after : left ≡ left_of p cuts (suc i)
      left_after = w.leaves ∙ ap (left_of p cuts) s

      place : (k : ℕ) → i ≤ k → Dec (suc i ≤ k) → at (set moduli i m) k ≡ at (moduli_of p cuts) k
      place k h (yes past) = get_or-set_other moduli i k m 0 (λ (t : k ≡ i). omega arith) ∙ w.from k (omega arith)
      place k h (no here) =
          let t : k ≡ i = omega arith in
          rw t
          (get_or-set_same moduli i m 0 (omega (arith, w.long))
          ∙ e
          ∙ ap (λ (n : ℕ). gcd n (at cuts i)) left_after
          ∙ sym (modulus-at p cuts hp i (omega arith)))

  -- what is left is never 0
  pub written_pos : (i : ℕ) (moduli : List ℕ) (left b : ℕ) → zero < p → Written p cuts i moduli left → zero < gcd left b
  written_pos i moduli left b hp w = gcd_pos left b (rw w.leaves (gcd-rest_pos p (product (drop i cuts)) hp))

  pub written_all : (moduli : List ℕ) (left : ℕ) → Written p cuts 0 moduli left → moduli ≡ five (moduli_of p cuts)
  written_all moduli left w = is_five_lem moduli (moduli_of p cuts) w.long (λ k l. w.from k (omega arith))
