-- The side of a diagonal layout: it is the s with s to the power d - 1 equal to p, and the test of the extents says whether its cuts fit.
use mathlib.Core.Path.{◌≡◌, refl, sym, ap, ◌∙◌, subst, subst⁻¹}
use mathlib.Core.Logic.{◌≢◌, ◌⊎◌, inl, inr, ⊎_elim, ◌↔◌}
use mathlib.Core.Bool.{true, false}
use mathlib.Core.List.{List, [], ◌∷◌}
use Prim.Native.Nat.{ℕ, zero, suc, ◌+◌, ◌-◌, ◌*◌, ◌^◌, ◌≤◌, ◌<◌}
use native.Mathlib.Nat.{pow-lt-pow_left, pow-succ', pow-zero, mul-one, zero-mul, one-le-pow, le-mul_of_pos_right, mul-le-mul, eq-or-lt_of_le}
use native.Mathlib.Decide.{dec_lt}
use native.Mathlib.Omega.{arith}
use lib.Dec.{leb, eqb}
use lib.ListN.{length, get_or, replicate, length-replicate, get_or-replicate}
use Rattle.std.specs.Prelude.{Option, None, Some}
use Rattle.std.proofs.lemmas.Option.{none-some, same_Some}
use Rattle.multipartition.specs.Cuts.{Fits}
use Rattle.multipartition.specs.Lists.{first_such}
use Rattle.multipartition.specs.Plans.{between}
use Rattle.multipartition.proofs.Tests.{and_iff, all_below-true_iff, eqb_iff, leb_iff, between-true_iff, by_cond}
use Rattle.multipartition.proofs.Fitting.{fits-thickness}
use Rattle.multipartition.proofs.Searches.{first_such_low, first_such_passes, first_such_only}
use Rattle.diagonal.specs.Diagonal.{is_side, side_of, suits, suited_side, side_fits}

-- ---- powers

pub power-one : (s : ℕ) → s ^ 1 ≡ s
power-one s = pow-succ' s 0 ∙ ap (λ (m : ℕ). s * m) (pow-zero s) ∙ mul-one s

pub square : (s : ℕ) → s ^ 2 ≡ s * s
square s = pow-succ' s 1 ∙ ap (λ (m : ℕ). s * m) (power-one s)

pub pow_injective : (n a b : ℕ) → a ^ suc n ≡ b ^ suc n → a ≡ b
pow_injective n a b e = go (dec_lt a b) (dec_lt b a)
  where
    some : suc n ≢ zero
    some q = omega arith

    go : Dec (a < b) → Dec (b < a) → a ≡ b
    go (yes l) m = absurd (omega (arith, pow-lt-pow_left l some, e))
    go (no l) (yes m) = absurd (omega (arith, pow-lt-pow_left m some, e))
    go (no l) (no m) = omega arith

pub side-le : (n s : ℕ) → zero < s → s ≤ s ^ suc n
side-le n s l = subst⁻¹ (λ (m : ℕ). s ≤ m) (pow-succ' s n) (le-mul_of_pos_right s (one-le-pow n s l))

pow_positive : (n s : ℕ) → zero < s ^ suc n → zero < s
pow_positive n zero l = absurd (omega (arith, subst (λ (m : ℕ). zero < m) (pow-succ' zero n ∙ zero-mul (zero ^ n)) l))
pow_positive n (suc s) l = omega arith

-- ---- the side, for d = n + 2

pub side_low : (d p : ℕ) → zero < side_of d p
unfolding side_of
side_low d p = first_such_low (is_side d p) 1 p

module _ (n p : ℕ) where
  side_iff : (s : ℕ) → (is_side (suc (suc n)) p s ≡ true) ↔ (s ^ suc n ≡ p)
  unfolding is_side
  side_iff s =
      let less : suc (suc n) - 1 ≡ suc n = omega arith in
      subst⁻¹ (λ (k : ℕ). (eqb (s ^ k) p ≡ true) ↔ (s ^ suc n ≡ p)) less (eqb_iff (s ^ suc n) p)

  pub side_power : side_of (suc (suc n)) p ≤ p → side_of (suc (suc n)) p ^ suc n ≡ p
  unfolding side_of
  side_power l = (side_iff (first_such (is_side (suc (suc n)) p) 1 p)).0 (first_such_passes (is_side (suc (suc n)) p) 1 p (omega arith))

  pub side_is : (s : ℕ) → zero < p → s ^ suc n ≡ p → side_of (suc (suc n)) p ≡ s
  unfolding side_of
  side_is s l e =
      let low : zero < s = pow_positive n s (subst⁻¹ (λ (m : ℕ). zero < m) e l) in
      let high : s ≤ p = subst (λ (m : ℕ). s ≤ m) e (side-le n s low) in
      first_such_only (is_side (suc (suc n)) p) 1 p s (λ i f. pow_injective n i s ((side_iff i).0 f ∙ sym e)) low (omega arith) ((side_iff s).1 e)

-- ---- where p and d suit the layout

-- the test's clauses
pub record Suited (d p : ℕ) : Type 0 where
  pub low : 2 ≤ d
  pub high : d ≤ 3
  pub side_high : side_of d p ≤ p

pub suits_facts : (d p : ℕ) → (suits d p ≡ true) ↔ Suited d p
unfolding suits
suits_facts d p =
    let both = and_iff (between 2 3 d) (leb (side_of d p) p) (between-true_iff 2 3 d) (leb_iff (side_of d p) p) in (
      (λ e. let h = both.0 e in record { low = h.0.0; high = h.0.1; side_high = h.1 }),
      λ h. both.1 ((h.low, h.high), h.side_high),
    )

-- for d = n + 2
pub suits_of : (n p s : ℕ) → n ≤ 1 → zero < p → s ^ suc n ≡ p → suits (suc (suc n)) p ≡ true
suits_of n p s few l e =
    let low : zero < s = pow_positive n s (subst⁻¹ (λ (m : ℕ). zero < m) e l) in
    (suits_facts (suc (suc n)) p).1
    (record {
      low = omega arith;
      high = omega arith;
      side_high = subst⁻¹ (λ (m : ℕ). m ≤ p) (side_is n p s l e) (subst (λ (m : ℕ). s ≤ m) e (side-le n s low));
    })

-- "p or d doesn't suit the layout" unless d = 2, or "d = 3 and p = s·s"
pub suits_iff : (d p : ℕ) → zero < p → (suits d p ≡ true) ↔ ((d ≡ 2) ⊎ ((d ≡ 3) × ((s : ℕ) × (p ≡ s * s))))
suits_iff d p l = ((λ e. told ((suits_facts d p).0 e)), ⊎_elim (λ two. of-2 two) (λ three. of-3 three.0 three.1.0 three.1.1))
  where
    told : Suited d p → (d ≡ 2) ⊎ ((d ≡ 3) × ((s : ℕ) × (p ≡ s * s)))
    told h = ⊎_elim (λ (two : 2 ≡ d). inl (sym two)) (λ m. let three : d ≡ 3 = omega (arith, h.high) in inr (three, (side_of d p, square_is three))) (eq-or-lt_of_le h.low)
      where
        square_is : d ≡ 3 → p ≡ side_of d p * side_of d p
        square_is three =
            subst⁻¹ (λ (k : ℕ). p ≡ side_of k p * side_of k p) three
            (sym (side_power 1 p (subst (λ (k : ℕ). side_of k p ≤ p) three h.side_high)) ∙ square (side_of 3 p))

    of-2 : d ≡ 2 → suits d p ≡ true
    of-2 two = subst⁻¹ (λ (k : ℕ). suits k p ≡ true) two (suits_of 0 p p (omega arith) l (power-one p))

    of-3 : d ≡ 3 → (s : ℕ) → p ≡ s * s → suits d p ≡ true
    of-3 three s e = subst⁻¹ (λ (k : ℕ). suits k p ≡ true) three (suits_of 1 p s (omega arith) l (square s ∙ sym e))

-- ---- the side that the code finds

pub unsuited : (d p : ℕ) → (suits d p ≡ true → ⊥) → None ≡ suited_side d p
unsuited d p h = by_cond (λ (m : Option ℕ). None ≡ m) (suits d p) (Some (side_of d p)) None (λ e. absurd (h e)) (λ e. refl)

-- for d = n + 2, which is 2 or 3
suited_is : (n p s : ℕ) → n ≤ 1 → zero < p → s ^ suc n ≡ p → suited_side (suc (suc n)) p ≡ Some s
suited_is n p s few l e = rw (suits_of n p s few l e) (ap Some (side_is n p s l e))

-- p cuts each way for d = 2
pub suited-2 : (p : ℕ) → zero < p → suited_side 2 p ≡ Some p
suited-2 p l = suited_is 0 p p (omega arith) l (power-one p)

-- what the side says
pub suited_none : (d p : ℕ) → None ≡ suited_side d p → suits d p ≡ false
suited_none d p =
    by_cond (λ (m : Option ℕ). None ≡ m → suits d p ≡ false) (suits d p) (Some (side_of d p)) None (λ e h. absurd (none-some _ h)) (λ e h. e)

pub suited_some : (d p s : ℕ) → Some s ≡ suited_side d p → (suits d p ≡ true) × (s ≡ side_of d p)
suited_some d p s =
    by_cond (λ (m : Option ℕ). Some s ≡ m → (suits d p ≡ true) × (s ≡ side_of d p)) (suits d p) (Some (side_of d p)) None
    (λ e h. (e, same_Some _ _ h)) (λ e h. absurd (none-some _ (sym h)))

-- ---- the square root

-- of at most 4,096 it is at most 64
pub root_high : (p s : ℕ) → p ≤ 4096 → s * s ≤ p → s ≤ 64
root_high p s high l = go (dec_lt 64 s)
  where
    go : Dec (64 < s) → s ≤ 64
    go (yes m) = let large : 65 * 65 ≤ s * s = mul-le-mul m m in absurd (omega arith)
    go (no n) = omega arith

pub square_fits : (s : ℕ) → s ≤ 72 → s * s < 2 ^ 32
square_fits s h = let high : s * s ≤ 72 * 72 = mul-le-mul h h in omega arith

pub root-found : (p s : ℕ) → 1 ≤ p → s * s ≡ p → Some s ≡ suited_side 3 p
root-found p s l e = sym (suited_is 1 p s (omega arith) l (square s ∙ e))

-- s is the last number whose square is at most p
pub root_none : (p s : ℕ) → s * s < p → p < (s + 1) * (s + 1) → None ≡ suited_side 3 p
root_none p s below above =
    unsuited 3 p (λ suit. not_root (side_of 3 p) (sym (square (side_of 3 p)) ∙ side_power 1 p ((suits_facts 3 p).0 suit).side_high))
  where
    not_root : (i : ℕ) → i * i ≢ p
    not_root i e = go (dec_lt s i)
      where
        go : Dec (s < i) → ⊥
        go (yes l) =
            let m : s + 1 ≤ i = omega arith in
            let large : (s + 1) * (s + 1) ≤ i * i = mul-le-mul m m in
            omega (arith, large, e)
        go (no n) =
            let m : i ≤ s = omega arith in
            let small : i * i ≤ s * s = mul-le-mul m m in
            omega (arith, small, e)

-- ---- the cuts fit

pub fits_of_side : (s : ℕ) (extents least : List ℕ) → zero < s → length least ≡ length extents → side_fits s extents least ≡ true
    → Fits extents least (replicate (length extents) s)
unfolding side_fits
fits_of_side s extents least l many e =
    all_fit extents least many
    (λ k m. (leb_iff (s * get_or least k 0) (get_or extents k 0)).0 ((all_below-true_iff (length extents) (λ k. leb (s * get_or least k 0) (get_or extents k 0))).0 e k m))
  where
    all_fit : (extents least : List ℕ) → length least ≡ length extents → ((k : ℕ) → k < length extents → s * get_or least k 0 ≤ get_or extents k 0)
        → Fits extents least (replicate (length extents) s)
    all_fit [] [] e h = tt
    all_fit [] (t ∷ least) e h = absurd (omega arith)
    all_fit (n ∷ extents) [] e h = absurd (omega arith)
    all_fit (n ∷ extents) (t ∷ least) e h = (l, h 0 (omega arith), all_fit extents least (omega arith) (λ k m. h (suc k) (omega arith)))

pub side_of_fits : (s : ℕ) (extents least : List ℕ) → Fits extents least (replicate (length extents) s) → side_fits s extents least ≡ true
unfolding side_fits
side_of_fits s extents least fits =
    (all_below-true_iff (length extents) (λ k. leb (s * get_or least k 0) (get_or extents k 0))).1
    (λ k l. (leb_iff (s * get_or least k 0) (get_or extents k 0)).1
    (subst (λ (b : ℕ). b * get_or least k 0 ≤ get_or extents k 0) (get_or-replicate (length extents) k s 0 l)
    (fits-thickness extents least (replicate (length extents) s) fits k (subst⁻¹ (λ (m : ℕ). k < m) (length-replicate (length extents) s) l))))
