-- The rows of the matrix times a position, in natural numbers. `neg` stands for -1: every modulus that a row is looked at with divides
-- neg + 1 (as p divides p - 1 + 1), so that taking x away is adding neg * x.
-- Lists run from dimension d down to 2; dimension 1 has its own argument. Only the list of cuts is taken apart by clauses, the others are read
-- by `first` and `rest`, so that no statement speaks of lengths.
use mathlib.Core.Path.{◌≡◌, sym, ap, ◌∙◌, subst, subst⁻¹}
use mathlib.Core.List.{List, [], ◌∷◌}
use Prim.Native.Nat.{ℕ, zero, ◌+◌, ◌*◌, ◌/◌, ◌%◌, ◌<◌, ◌∣◌}
use native.Mathlib.Nat.{mul-one, mul_assoc, mul_left_comm, div-mul_cancel, pos_of_dvd_of_pos}
use native.Mathlib.Nat.{dvd_trans, dvd-mul_right, mul-dvd-mul_right, dvd_of_mul-dvd-mul_right}
use Rattle.numbers.specs.Gcd.{gcd}
use Rattle.numbers.specs.Products.{product}
use Rattle.numbers.specs.Sums.{same}
use Rattle.numbers.proofs.Gcd.{gcd-dvd_left, gcd-dvd_right, gcd_pos, gcd_split, gcd-rest_pos, gauss}
use Rattle.multipartition.specs.Lists.{first, rest}
use Rattle.multipartition.specs.Matrix.{factor, next}
use Rattle.multipartition.proofs.Moduli.{remains, moduli_down, others_down, EvenDown, even_remains}

-- what is taken from a later row in all, where r is its modulus and the rows of the dimensions have the values ys
unfoldable pub taken : ℕ → List ℕ → List ℕ → List ℕ → ℕ
taken r [] moduli ys = 0
taken r (b ∷ cuts) moduli ys = taken (next r b (first moduli)) cuts (rest moduli) (rest ys) + factor r b * first ys

-- what r has become when dimension 1 is reached
unfoldable pub reached : ℕ → List ℕ → List ℕ → ℕ
reached r [] moduli = r
reached r (b ∷ cuts) moduli = reached (next r b (first moduli)) cuts (rest moduli)

-- the rows times the position (i1, x)
unfoldable pub values : ℕ → ℕ → List ℕ → List ℕ → List ℕ → List ℕ
values neg i1 [] moduli x = []
values neg i1 (b ∷ cuts) moduli x =
    (first x + (i1 + neg * taken (first moduli) cuts (rest moduli) (values neg i1 cuts (rest moduli) (rest x))))
    ∷ values neg i1 cuts (rest moduli) (rest x)

-- 1 if the values ys have the remainders cs, else 0
unfoldable pub hits : List ℕ → List ℕ → List ℕ → List ℕ → ℕ
hits [] moduli cs ys = 1
hits (b ∷ cuts) moduli cs ys = hits cuts (rest moduli) (rest cs) (rest ys) * same (first ys % first moduli) (first cs)

-- every modulus divides its cut
unfoldable pub Dividing : List ℕ → List ℕ → Type 0
Dividing [] moduli = Unit {0}
Dividing (b ∷ cuts) moduli = (first moduli ∣ b) × Dividing cuts (rest moduli)

-- the coordinates cs are below their moduli
unfoldable pub Below : List ℕ → List ℕ → List ℕ → Type 0
Below [] moduli cs = Unit {0}
Below (b ∷ cuts) moduli cs = (first cs < first moduli) × Below cuts (rest moduli) (rest cs)

-- every modulus divides its cut
pub moduli_down_dividing : (p : ℕ) (cuts : List ℕ) → Dividing cuts (moduli_down p cuts)
unfolding moduli_down Dividing
moduli_down_dividing p [] = tt
moduli_down_dividing p (b ∷ cuts) = (gcd-dvd_right p b, moduli_down_dividing (remains p b) cuts)

pub next_pos : (r b m : ℕ) → zero < r → zero < next r b m
next_pos r b m l = pos_of_dvd_of_pos (gcd-dvd_right (factor r b * m) r) l

-- ---- for even cuts, what r has become at dimension 1 divides its cut

-- one dimension: if r times p divides the product of the cuts, this stays so for the next r and for what remains of p
next-dvd : (r p b n : ℕ) → zero < p → zero < r → p ∣ n → r * p ∣ b * n → next r b (gcd p b) * remains p b ∣ n
next-dvd r p b n lp lr d e =
    dvd_trans (next r b m * p') (mul-dvd-mul_right (next r b m) (gcd-dvd_left (factor r b * m) r) p')
    (subst⁻¹ (λ (x : ℕ). x ∣ n) whole served)
  where
    m : ℕ
    m = gcd p b

    p' : ℕ
    p' = remains p b

    -- n is q times p
    q : ℕ
    q = n / p

    over : b * n ≡ b * q * p
    over = ap (λ (x : ℕ). b * x) (sym (div-mul_cancel p d)) ∙ sym (mul_assoc b q p)

    r_divides : r ∣ b * q
    r_divides = dvd_of_mul-dvd-mul_right r lp (subst (λ (x : ℕ). r * p ∣ x) over e)

    served : factor r b * p ∣ n
    served = subst (λ (x : ℕ). factor r b * p ∣ x) (div-mul_cancel p d) (mul-dvd-mul_right (factor r b) (gauss r b q lr r_divides) p)

    whole : factor r b * m * p' ≡ factor r b * p
    whole = mul_assoc (factor r b) m p' ∙ ap (λ (x : ℕ). factor r b * x) (gcd_split p b)

reached-dvd : (r p b1 : ℕ) (cuts : List ℕ) → zero < p → zero < r → EvenDown p b1 cuts → r * p ∣ b1 * product cuts
    → reached r cuts (moduli_down p cuts) ∣ b1
unfolding moduli_down others_down reached
reached-dvd r p b1 [] lp lr even d = dvd_trans r (dvd-mul_right r p) (subst (λ (n : ℕ). r * p ∣ n) (mul-one b1) d)
reached-dvd r p b1 (b ∷ cuts) lp lr even d =
    reached-dvd (next r b (gcd p b)) (remains p b) b1 cuts (gcd-rest_pos p b lp) (next_pos r b (gcd p b) lr) (even_remains p b1 b cuts lp even)
    (next-dvd r p b (b1 * product cuts) lp lr (even 0) (subst (λ (n : ℕ). r * p ∣ n) (mul_left_comm b1 b (product cuts)) d))

-- "r begins as mi"
pub modulus_reached-dvd : (p b1 b : ℕ) (cuts : List ℕ) → zero < p → EvenDown p b1 (b ∷ cuts)
    → reached (gcd p b) cuts (moduli_down (remains p b) cuts) ∣ b1
unfolding others_down
modulus_reached-dvd p b1 b cuts l even =
    reached-dvd (gcd p b) (remains p b) b1 cuts (gcd-rest_pos p b l) (gcd_pos p b l) (even_remains p b1 b cuts l even)
    (subst⁻¹ (λ (n : ℕ). n ∣ b1 * product cuts) (gcd_split p b) (even 0))
