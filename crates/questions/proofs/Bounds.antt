-- The bounds of a plan in shape, and of a position inside its grid.
use mathlib.Core.Path.{◌≡◌}
use mathlib.Core.List.{List}
use Prim.Native.Nat.{ℕ, zero, suc, ◌+◌, ◌*◌, ◌^◌, ◌≤◌, ◌<◌}
use native.Mathlib.Nat.{le_refl, le_trans, mul-le-mul}
use native.Mathlib.Numerals.{add-one}
use native.Mathlib.Omega.{arith}
use lib.ListN.{get_or, take, drop}
use lib.Seq.{get_or-drop}
use Rattle.std.specs.List.{zip, sum_by}
use Rattle.numbers.specs.Products.{product}
use Rattle.multipartition.specs.Owners.{times}
use Rattle.layout.specs.declared.Plan.{Plan}
use Rattle.layout.specs.Shaped.{entry_of, Shaped}
use Rattle.layout.specs.Positions.{InGrid}
use Rattle.layout.proofs.Lists.{product_front, factor-le}
use Rattle.layout.proofs.Owners.{times_none, times-add-one}
use Rattle.questions.specs.Bounds.{Reduced, Small}
use Rattle.questions.proofs.Rows.{times_as_sum}

pub reduced_of_shaped : (plan : Plan) → Shaped plan → Reduced plan.d plan.moduli plan.matrix
reduced_of_shaped plan s =
    record {
      few = s.d_high;
      long = s.moduli_long;
      modulus_low = s.modulus_low;
      product_high = omega (arith, s.moduli_product, s.p_high);
      entry_below = s.entry_below;
    }

pub small_of_in_grid : (plan : Plan) (position : List ℕ) → Shaped plan → InGrid plan position → Small plan.d position
small_of_in_grid plan position s g =
    record { few = s.d_high; below = λ k l. omega (arith, g.below k l, s.cut_high k l) }

module _ (d : ℕ) (moduli matrix : List ℕ) (h : Reduced d moduli matrix) where
  pub modulus_high : (i : ℕ) → i < d → get_or moduli i 0 ≤ 4096
  modulus_high i l = le_trans (factor-le moduli d h.long h.modulus_low i l) h.product_high

  pub small_row : (i : ℕ) → i < d → Small d (drop (i * 5) matrix)
  small_row i l =
      record {
        few = h.few;
        below = λ j m. rw (get_or-drop (i * 5) matrix j 0) (omega (arith, h.entry_below i j l m, modulus_high i l));
      }

  pub front_high : (i : ℕ) → i ≤ d → product (take i moduli) ≤ 4096
  front_high i l = le_trans (product_front moduli d h.long h.modulus_low i l) h.product_high

-- row i times a position, one column more at a time
pub row-add-one : (i : ℕ) (matrix position : List ℕ) (j : ℕ)
    → times (take (j + 1) (drop (i * 5) matrix)) position ≡ times (take j (drop (i * 5) matrix)) position + entry_of matrix i j * get_or position j 0
row-add-one i matrix position j = rw (times-add-one (drop (i * 5) matrix) position j, get_or-drop (i * 5) matrix j 0)

module _ (d i : ℕ) (matrix position : List ℕ) (r : Small d (drop (i * 5) matrix)) (p : Small d position) where
  pub term_high : (j : ℕ) → j < d → entry_of matrix i j * get_or position j 0 ≤ 16769025
  term_high j l =
      let a : entry_of matrix i j ≤ 4095 = omega (arith, r.below j l, get_or-drop (i * 5) matrix j 0) in
      let b : get_or position j 0 ≤ 4095 = omega (arith, p.below j l) in
      mul-le-mul a b

  pub times_high : (j : ℕ) → j ≤ d → times (take j (drop (i * 5) matrix)) position ≤ j * 16769025
  times_high zero l = rw (times_none (drop (i * 5) matrix) position) (omega arith)
  times_high (suc j) l =
      rw (← add-one j, row-add-one i matrix position j) (omega (arith, times_high j (omega arith), term_high j (omega arith)))

-- and their sum 32 bits
pub row_fits : (d : ℕ) (moduli matrix position : List ℕ) → Reduced d moduli matrix → Small d position → (i : ℕ) → i < d
    → sum_by (λ p. p.0 * p.1) (zip (take d (drop (i * 5) matrix)) position) < 2 ^ 32
row_fits d moduli matrix position h p i l =
    omega (
      arith,
      times_as_sum (take d (drop (i * 5) matrix)) position,
      times_high d i matrix position (small_row d moduli matrix h i l) p d (le_refl d),
      h.few,
    )
