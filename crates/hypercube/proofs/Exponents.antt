-- The exponent of a number of processors: 4 to its power is p, the search for it goes from number to number, and the side says whether there is one.
use mathlib.Core.Path.{◌≡◌, refl, sym, ap, ◌∙◌, subst}
use mathlib.Core.Logic.{◌≢◌, ◌↔◌}
use mathlib.Core.Bool.{Bool, true, false, cond}
use Prim.Native.Nat.{ℕ, zero, suc, ◌+◌, ◌*◌, ◌-◌, ◌^◌, ◌≤◌, ◌<◌}
use native.Mathlib.Nat.{pow-le-pow_right, pow-suc, pow-succ', one-le-pow}
use native.Mathlib.Decide.{dec_lt}
use native.Mathlib.Omega.{arith}
use borrow.Author.Tests.{ne_eqb, le-leb, lt-leb, leb-true}
use lib.Dec.{leb}
use Rattle.std.specs.Prelude.{Option, Some, None, unwrap_or, option_map}
use Rattle.multipartition.specs.Lists.{first_such}
use Rattle.multipartition.proofs.Searches.{first_such-next, first_such_passes, first_such_only}
use Rattle.multipartition.proofs.Tests.{eqb_iff}
use Rattle.hypercube.specs.Hypercube.{is_exponent, exponent_of, side_of}

-- ---- powers of 4 and of 2

pub power-next : (b e : ℕ) → b ^ (e + 1) ≡ b ^ e * b
power-next b e = let next : e + 1 ≡ suc e = omega arith in ap (λ (n : ℕ). b ^ n) next ∙ pow-suc b e

pub powers_high : (e : ℕ) → e ≤ 6 → (4 ^ e ≤ 4096) × (2 ^ e ≤ 64)
powers_high e h =
    let two : zero < 2 = omega arith in
    let four : zero < 4 = omega arith in
    (pow-le-pow_right four h, pow-le-pow_right two h)

four_rises : (a b : ℕ) → a < b → 4 ^ a < 4 ^ b
four_rises a b l =
    let four : zero < 4 = omega arith in
    omega (arith, pow-succ' 4 a, one-le-pow a 4 four, pow-le-pow_right four l)

four_injective : (a b : ℕ) → 4 ^ a ≡ 4 ^ b → a ≡ b
four_injective a b e = go (dec_lt a b) (dec_lt b a)
  where
    go : Dec (a < b) → Dec (b < a) → a ≡ b
    go (yes l) m = absurd (omega (arith, four_rises a b l, e))
    go (no l) (yes m) = absurd (omega (arith, four_rises b a m, e))
    go (no l) (no m) = omega arith

-- ---- the exponent

module _ (p : ℕ) where
  is_exponent_iff : (e : ℕ) → (is_exponent p e ≡ true) ↔ (4 ^ e ≡ p)
  unfolding is_exponent
  is_exponent_iff e = eqb_iff (4 ^ e) p

  pub exponent_iff : (e : ℕ) → e ≤ 6 → (exponent_of p ≡ e) ↔ (4 ^ e ≡ p)
  unfolding exponent_of
  exponent_iff e h = (
    λ q. let below : first_such (is_exponent p) 0 7 < 0 + 7 = omega (arith, q) in
        (is_exponent_iff e).0 (ap (is_exponent p) (sym q) ∙ first_such_passes (is_exponent p) 0 7 below),
    λ q. first_such_only (is_exponent p) 0 7 e (λ i f. four_injective i e ((is_exponent_iff i).0 f ∙ sym q)) (omega arith) (omega arith) ((is_exponent_iff e).1 q),
  )

  -- ---- the search, number by number

  -- the exponent is found from e on
  abbrev pub From : ℕ → Type 0
  From e = exponent_of p ≡ first_such (is_exponent p) e (7 - e)

  pub from_start : From 0
  unfolding exponent_of
  from_start = refl

  pub from_next : (e : ℕ) → e < 7 → 4 ^ e ≢ p → From e → From (e + 1)
  unfolding is_exponent
  from_next e l n h =
      let left : 7 - e ≡ suc (7 - (e + 1)) = omega arith in
      h ∙ ap (first_such (is_exponent p) e) left ∙ first_such-next (is_exponent p) e (7 - (e + 1)) (ne_eqb (4 ^ e) p n)

  pub from_end : (e : ℕ) → e ≡ 7 → From e → exponent_of p ≡ e
  unfolding first_such
  from_end e q h = subst From q h ∙ sym q

-- ---- the side, 2 to the power of the exponent

module _ (p : ℕ) where
  pub a_side : (e : ℕ) → e ≤ 6 → exponent_of p ≡ e → side_of p ≡ Some (2 ^ e)
  unfolding side_of
  a_side e h q = rw (q, le-leb e 6 h)

  pub no_side : (e : ℕ) → e ≡ 7 → exponent_of p ≡ e → side_of p ≡ None
  unfolding side_of
  no_side e h q = rw (q, lt-leb e 6 (omega (arith, h)))

  -- there is a side just where there is an exponent
  pub unsuited_lem : side_of p ≡ None → leb (exponent_of p) 6 ≡ false
  unfolding side_of
  unsuited_lem h = go (leb (exponent_of p) 6) h
    where
      go : (b : Bool) → cond b (Some (2 ^ exponent_of p)) None ≡ None → b ≡ false
      go true e = let clash : ◌≡◌ {A = ℕ} 0 1 = ap (λ (o : Option ℕ). unwrap_or (option_map (λ _. 0) o) 1) e in absurd (omega (arith, clash))
      go false e = refl

  pub suited_lem : (side : ℕ) → side_of p ≡ Some side → (exponent_of p ≤ 6) × (side ≡ 2 ^ exponent_of p)
  unfolding side_of
  suited_lem side h = go (leb (exponent_of p) 6) refl h
    where
      go : (b : Bool) → leb (exponent_of p) 6 ≡ b → cond b (Some (2 ^ exponent_of p)) None ≡ Some side → (exponent_of p ≤ 6) × (side ≡ 2 ^ exponent_of p)
      go true l e = (leb-true (exponent_of p) 6 l, sym (ap (λ (o : Option ℕ). unwrap_or o 0) e))
      go false l e = let clash : ◌≡◌ {A = ℕ} 1 0 = ap (λ (o : Option ℕ). unwrap_or (option_map (λ _. 0) o) 1) e in absurd (omega (arith, clash))
