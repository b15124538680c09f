-- How a row of the code takes the rows before it: modulo p, one row after the other, its column c stands for column c of the row of whole numbers.
use mathlib.Core.Path.{◌≡◌, refl, sym, ap, ap₂, ◌∙◌, subst}
use mathlib.Core.List.{List}
use Prim.Native.Nat.{ℕ, zero, suc, pred, ◌+◌, ◌-◌, ◌*◌, ◌%◌, ◌≤◌, ◌<◌}
use native.Mathlib.Nat.{mod-lt, mod-mod, dvd_refl}
use native.Mathlib.Omega.{arith}
use lib.IntN.{ℤ, pos, ◌-ℤ◌, ◌*ℤ◌}
use Rattle.numbers.proofs.Congruence.{Congruent, congruent-add, congruent_cancel-add, add_multiple}
use Rattle.numbers.proofs.Sums.{same_yes, same_no}
use Rattle.multipartition.specs.Matrix.{Row, finish}
use Rattle.multipartition.specs.WholeNumbers.{Stands}
use Rattle.multipartition.proofs.WholeNumbers.{stands-nat, stands-take, stands_congruent}
use Rattle.matrix.specs.Rows.{backward, start_at, row_at, r_after, at, Multipliers, Before}
use Rattle.matrix.proofs.Rows.{row-finish, finish-step, finish_none}
use Rattle.matrix.proofs.Multiplying.{r_none, r_more, multiplier_is}

-- ---- "Row i starts with 1 in column 1 and in column i, else 0"

pub start_first : (i c : ℕ) → c ≡ 0 → start_at i (suc c) ≡ pos 1
start_first zero c e = ap pos (same_yes (suc c) 1 (omega arith))
start_first (suc i) c e = ap pos (ap₂ ◌+◌ (same_no (suc c) (i + 2) (λ s. omega arith)) (same_yes (suc c) 1 (omega arith)))

pub start_own : (i c : ℕ) → (c ≡ 0 → ⊥) → c ≡ i → start_at i (suc c) ≡ pos 1
start_own zero c h e = absurd (h e)
start_own (suc i) c h e = ap pos (ap₂ ◌+◌ (same_yes (suc c) (i + 2) (omega arith)) (same_no (suc c) 1 (λ s. h (omega arith))))

pub start-else : (i c : ℕ) → (c ≡ 0 → ⊥) → (c ≡ i → ⊥) → start_at i (suc c) ≡ pos 0
start-else zero c h g = ap pos (same_no (suc c) 1 (λ s. h (omega arith)))
start-else (suc i) c h g = ap pos (ap₂ ◌+◌ (same_no (suc c) (i + 2) (λ s. g (omega arith))) (same_no (suc c) 1 (λ s. h (omega arith))))

-- ---- what stands for a difference, below p

pub stands_less : (p : ℕ) (u v : ℤ) (t x y : ℕ) → zero < p → Stands p u x → Stands p v y → Stands p (u -ℤ pos t *ℤ v) ((x + (p - t * y % p)) % p)
stands_less p u v t x y hp e f =
    stands_congruent p (u -ℤ pos t *ℤ v) (x + (p - 1) * (t * y)) ((x + (p - w)) % p)
    (congruent_cancel-add p w (x + (p - 1) * (t * y)) (x + (p - w)) around ∙ sym (mod-mod (x + (p - w)) p))
    (stands-take p (p - 1) (rw whole (dvd_refl p)) u v t x y e f)
  where
    w : ℕ
    w = t * y % p

    whole : p - 1 + 1 ≡ p
    whole = omega arith

    low : w < p
    low = mod-lt (t * y) hp

    around : Congruent p (w + (x + (p - 1) * (t * y))) (w + (x + (p - w)))
    around =
        congruent-add p w (t * y) (x + (p - 1) * (t * y)) (x + (p - 1) * (t * y)) (mod-mod (t * y) p) refl
        ∙ ap (λ (n : ℕ). n % p) (omega (arith, ap (λ (n : ℕ). n * (t * y)) whole))
        ∙ add_multiple p x (t * y)
        ∙ sym (add_multiple p x 1)
        ∙ ap (λ (n : ℕ). n % p) (omega (arith, low))

-- ---- the rows from j - 1 down to 1 are still to be taken

-- a row that takes the finished rows from n down to 1
abbrev pub takes : List ℕ → List ℕ → Row → ℕ → ℕ → Row
takes cuts moduli row r n = finish row r (backward (at cuts) n) (backward (at moduli) n) (backward (row_at (at cuts) (at moduli)) n)

pub record Taking (p : ℕ) (cuts moduli : List ℕ) (i c x j : ℕ) : Type 0 where
  pub row : Row
  pub rest : takes cuts moduli row (r_after (at cuts) (at moduli) i (i - j)) (pred j) ≡ row_at (at cuts) (at moduli) i
  pub stands : Stands p (row (suc c)) x

module _ {p : ℕ} {cuts moduli : List ℕ} {i c x : ℕ} where
  pub taking_none : start_at i (suc c) ≡ pos x → Taking p cuts moduli i c x i
  taking_none e = record {
    row = start_at i;
    rest =
        ap (λ (r : ℕ). takes cuts moduli (start_at i) r (pred i)) (r_none (at cuts) (at moduli) i)
        ∙ row-finish (at cuts) (at moduli) i;
    stands = rw e (stands-nat p x);
  }

  module _ {j : ℕ} (w : Taking p cuts moduli i c x j) where
    r : ℕ
    r = r_after (at cuts) (at moduli) i (i - j)

    pub taking_more : {rows : List ℕ} (ts : List ℕ) → Before p cuts moduli rows i c → Multipliers cuts moduli ts i → (k : ℕ) → j ≡ suc k → 1 ≤ k → j ≤ i
        → Taking p cuts moduli i c ((x + (p - at ts k * at rows (k * 5 + c) % p)) % p) k
    unfolding r
    taking_more {rows = rows} ts b m k s l h = record {
      row = λ n. w.row n -ℤ pos (at ts k) *ℤ row_at (at cuts) (at moduli) k n;
      rest =
          ap₂ (λ (t u : ℕ). takes cuts moduli (λ n. w.row n -ℤ pos t *ℤ row_at (at cuts) (at moduli) k n) u (pred k))
          ((m k l (omega arith)).0 ∙ multiplier_is (at cuts) (at moduli) i j k s)
          (r_more (at cuts) (at moduli) i j k s h)
          ∙ sym (finish-step (at cuts) (at moduli) (row_at (at cuts) (at moduli)) w.row r k l)
          ∙ ap (takes cuts moduli w.row r) (sym (ap pred s))
          ∙ w.rest;
      stands =
          stands_less p (w.row (suc c)) (row_at (at cuts) (at moduli) k (suc c)) (at ts k) x (at rows (k * 5 + c)) b.p_low w.stands
          (b.finished.stands k c b.column (omega arith));
    }

    pub taking_all : j ≤ 1 → Stands p (row_at (at cuts) (at moduli) i (suc c)) x
    unfolding r
    taking_all l =
        subst (λ (row : Row). Stands p (row (suc c)) x)
        (sym (finish_none (at cuts) (at moduli) (row_at (at cuts) (at moduli)) w.row r) ∙ ap (takes cuts moduli w.row r) (omega arith) ∙ w.rest)
        w.stands
