-- The places of the matrix one after the other: the rows modulo p, and then their remainders.
use mathlib.Core.Path.{◌≡◌, refl, sym, ap, ap₂, ◌∙◌}
use mathlib.Core.Bool.{or-true}
use mathlib.Core.List.{List}
use Prim.Native.Nat.{ℕ, suc, ◌+◌, ◌*◌, ◌/◌, ◌%◌, ◌≤◌, ◌<◌}
use native.Mathlib.Nat.{pos_of_dvd_of_pos}
use native.Mathlib.Decide.{dec_le}
use native.Mathlib.Omega.{arith}
use borrow.Author.Tests.{le-leb, lt-leb}
use lib.ListN.{length, set, replicate, length-set}
use lib.Seq.{get_or-set_same, get_or-set_other}
use Rattle.multipartition.specs.Moduli.{moduli_of}
use Rattle.multipartition.specs.Matrix.{Row, remainder, matrix_of}
use Rattle.multipartition.specs.Plans.{entry_at}
use Rattle.multipartition.specs.WholeNumbers.{Stands}
use Rattle.multipartition.proofs.WholeNumbers.{stands-dvd, stands-remainder}
use Rattle.layout.specs.Plans.{five}
use Rattle.matrix.specs.Rows.{row_at, at, Dividing, Finished, Before, reduced_at}
use Rattle.matrix.proofs.Padding.{five-at}
use Rattle.matrix.proofs.Moduli.{modulus-dvd}
use Rattle.matrix.proofs.Rows.{row_same, entry_at_lem, entry_past_row, entry_past_column}

module _ (p : ℕ) (cuts moduli : List ℕ) where
  pub finished_none : Finished p cuts moduli (replicate 25 0) 0
  finished_none = record { long = refl; stands = λ i c l b. absurd (omega arith); small = λ k l. absurd (omega arith) }

  pub finished_more : (rows : List ℕ) (i c v : ℕ) → i < 5 → c < 5 → Finished p cuts moduli rows (i * 5 + c)
      → Stands p (row_at (at cuts) (at moduli) i (suc c)) v → v ≤ 4096 → Finished p cuts moduli (set rows (i * 5 + c) v) (i * 5 + (c + 1))
  finished_more rows i c v li lc f e b = record {
    long = length-set rows n v ∙ f.long;
    stands = λ k m h l. stand k m h l (dec_le n (k * 5 + m));
    small = λ k l. low k l (dec_le n k);
  }
    where
      n : ℕ
      n = i * 5 + c

      here : at (set rows n v) n ≡ v
      here = get_or-set_same rows n v 0 (omega (arith, f.long))

      stand : (k m : ℕ) → m < 5 → k * 5 + m < i * 5 + (c + 1) → Dec (n ≤ k * 5 + m)
          → Stands p (row_at (at cuts) (at moduli) k (suc m)) (at (set rows n v) (k * 5 + m))
      stand k m h l (yes q) =
          let row : k ≡ i = omega arith in
          let column : m ≡ c = omega arith in
          rw (row, column, here) e
      stand k m h l (no q) =
          rw (get_or-set_other rows n (k * 5 + m) v 0 (λ (s : k * 5 + m ≡ n). q (omega arith))) (f.stands k m h (omega arith))

      low : (k : ℕ) → k < i * 5 + (c + 1) → Dec (n ≤ k) → at (set rows n v) k ≤ 4096
      low k l (yes q) = let s : k ≡ n = omega arith in rw (s, here) b
      low k l (no q) = rw (get_or-set_other rows n k v 0 (λ (s : k ≡ n). q (omega arith))) (f.small k (omega arith))

  -- from the start of row i to its column c
  pub before_column : {rows' rows : List ℕ} {i c : ℕ} → Before p cuts moduli rows' i 0 → c < 5 → Finished p cuts moduli rows (i * 5 + c) → Before p cuts moduli rows i c
  before_column b l f = record { p_low = b.p_low; p_high = b.p_high; row = b.row; column = l; divides = b.divides; finished = f }

-- ---- a place of the matrix by the code's tests

module _ (moduli rows : List ℕ) (d n : ℕ) where
  pub reduced_past_row : d ≤ n / 5 → reduced_at moduli rows d n ≡ 0
  unfolding reduced_at
  reduced_past_row l = rw (le-leb d (n / 5) l)

  pub reduced_past_column : d ≤ n % 5 → reduced_at moduli rows d n ≡ 0
  unfolding reduced_at
  reduced_past_column l = rw (le-leb d (n % 5) l, or-true)

  pub reduced_inside : n / 5 < d → n % 5 < d → reduced_at moduli rows d n ≡ at rows n % at moduli (n / 5)
  unfolding reduced_at
  reduced_inside l m = rw (lt-leb d (n / 5) l, lt-leb d (n % 5) m)

-- ---- the array of the moduli

module _ (p : ℕ) (cuts moduli : List ℕ) (d : ℕ) (hp : 1 ≤ p) (ld : d ≤ 5) (length_cuts : length cuts ≡ d) (e : moduli ≡ five (moduli_of p cuts)) where
  modulus : (k : ℕ) → k < 5 → at moduli k ≡ at (moduli_of p cuts) k
  modulus k l = ap (λ (ms : List ℕ). at ms k) e ∙ five-at (moduli_of p cuts) k l

  pub dividing : Dividing p moduli d
  dividing k l = rw (modulus k (omega arith)) (modulus-dvd p cuts hp k (omega (arith, length_cuts)))

  -- the remainder of what stands at a place is the matrix's entry
  pub entry_reduced : (rows : List ℕ) → Finished p cuts moduli rows (d * 5) → (i c : ℕ) → i < d → c < d
      → at rows (i * 5 + c) % at moduli i ≡ entry_at (matrix_of p cuts) i c
  entry_reduced rows f i c li lc =
      sym
      (entry_at_lem p cuts i c (omega (arith, length_cuts)) (omega (arith, length_cuts))
      ∙ ap₂ (λ (row : Row) (m : ℕ). remainder (row (suc c)) m) same_row (sym (modulus i (omega arith)))
      ∙ stands-remainder (at moduli i) (row_at (at cuts) (at moduli) i (suc c)) (at rows (i * 5 + c))
      (pos_of_dvd_of_pos (dividing i li) hp)
      (stands-dvd (at moduli i) p (row_at (at cuts) (at moduli) i (suc c)) (at rows (i * 5 + c)) (dividing i li)
      (f.stands i c (omega arith) (omega arith))))
    where
      same_row : row_at (at cuts) (at (moduli_of p cuts)) i ≡ row_at (at cuts) (at moduli) i
      same_row =
          row_same (at cuts) (at cuts) (at (moduli_of p cuts)) (at moduli) i
          (λ k l. refl)
          (λ k l. sym (modulus k (omega arith)))

  pub reduced_entry : (rows : List ℕ) → Finished p cuts moduli rows (d * 5) → (n : ℕ) → reduced_at moduli rows d n ≡ entry_at (matrix_of p cuts) (n / 5) (n % 5)
  reduced_entry rows f n = go (dec_le d (n / 5)) (dec_le d (n % 5))
    where
      go : Dec (d ≤ n / 5) → Dec (d ≤ n % 5) → reduced_at moduli rows d n ≡ entry_at (matrix_of p cuts) (n / 5) (n % 5)
      go (yes l) _ = reduced_past_row moduli rows d n l ∙ sym (entry_past_row p cuts (n / 5) (n % 5) (omega (arith, length_cuts)))
      go (no _) (yes l) = reduced_past_column moduli rows d n l ∙ sym (entry_past_column p cuts (n / 5) (n % 5) (omega (arith, length_cuts)))
      go (no l) (no m) =
          reduced_inside moduli rows d n (omega arith) (omega arith)
          ∙ ap (λ (k : ℕ). at rows k % at moduli (n / 5)) (omega arith)
          ∙ entry_reduced rows f (n / 5) (n % 5) (omega arith) (omega arith)
