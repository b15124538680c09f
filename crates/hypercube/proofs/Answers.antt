-- The answer by the checks that a call passes or fails; and what it says, in the words of document 02, request c: the hypercube's owners are
-- processors, one bit apart or two at a common face.
use mathlib.Core.Path.{◌≡◌, refl, sym, ap, ◌∙◌, subst, subst₂}
use mathlib.Core.Bool.{Bool, true, false, not}
use mathlib.Core.Logic.{inl, inr, ◌↔◌}
use mathlib.Core.List.{List, [], ◌∷◌}
use Prim.Native.Nat.{ℕ, zero, ◌+◌, ◌*◌, ◌%◌, ◌^◌, ◌≤◌, ◌<◌}
use native.Mathlib.Nat.{one-le-pow}
use native.Mathlib.Omega.{arith}
use borrow.Author.Tests.{leb-true, le-leb, not-false}
use lib.Dec.{leb}
use lib.ListN.{get_or}
use Rattle.std.specs.Prelude.{Some, None}
use Rattle.multipartition.specs.Plans.{between}
use Rattle.multipartition.specs.Answers.{answered, refused}
use Rattle.multipartition.specs.Tiles.{Inside, is_inside}
use Rattle.multipartition.specs.Rivals.{Face}
use Rattle.multipartition.proofs.Tests.{between-true_iff}
use Rattle.multipartition.proofs.Answers.{FirstFails, checked_passed, checked_refused, answers_iff}
use Rattle.multipartition.proofs.Tiles.{inside_of_test, test_of_inside}
use Rattle.hypercube.specs.Hypercube.{gray, hypercube_cuts, hypercube_owner, bits_apart, bits_along, exponent_of, side_of, hypercube_checks, hypercube_answer}
use Rattle.hypercube.proofs.Exponents.{powers_high, exponent_iff, unsuited_lem, suited_lem}
use Rattle.hypercube.proofs.Hypercube.{hypercube_owner_below, hypercube_faces}

-- ---- the checks of the code, one after the other

module _ (p : ℕ) (x : List ℕ) where
  first_fails_lem : (number place : ℕ) → FirstFails (hypercube_checks p x) number place → hypercube_answer p x ≡ refused number place
  unfolding hypercube_answer
  first_fails_lem = checked_refused (hypercube_checks p x) (answered (hypercube_owner (exponent_of p) x))

  pub refused-2 : between 1 4096 p ≡ false → hypercube_answer p x ≡ refused 2 0
  refused-2 e = first_fails_lem 2 0 (inl (ap not e, refl, refl))

  module _ (p-in : between 1 4096 p ≡ true) where
    pub refused-12 : side_of p ≡ None → hypercube_answer p x ≡ refused 12 0
    refused-12 e = first_fails_lem 12 0 (inr (ap not p-in, inl (ap not (unsuited_lem p e), refl, refl)))

    module _ (side : ℕ) (e : side_of p ≡ Some side) where
      suits : not (leb (exponent_of p) 6) ≡ false
      suits = ap not (le-leb (exponent_of p) 6 (suited_lem p side e).0)

      pub side_high : side ≤ 64
      side_high = omega (arith, (suited_lem p side e).1, (powers_high (exponent_of p) (suited_lem p side e).0).1)

      inside_is : (b : Bool) → is_inside (side ∷ side ∷ side ∷ []) x ≡ b → not (is_inside (hypercube_cuts (exponent_of p)) x) ≡ not b
      unfolding hypercube_cuts
      inside_is b i = ap not (ap (λ (n : ℕ). is_inside (n ∷ n ∷ n ∷ []) x) (sym (suited_lem p side e).1) ∙ i)

      pub refused_8 : is_inside (side ∷ side ∷ side ∷ []) x ≡ false → hypercube_answer p x ≡ refused 8 0
      refused_8 o = first_fails_lem 8 0 (inr (ap not p-in, inr (suits, inl (inside_is false o, refl, refl))))

      pub owned : is_inside (side ∷ side ∷ side ∷ []) x ≡ true
          → hypercube_answer p x ≡ answered (gray ((get_or x 1 0 + get_or x 2 0) % side) * side + gray ((get_or x 0 0 + get_or x 2 0) % side))
      unfolding hypercube_answer hypercube_owner
      owned i =
          checked_passed (hypercube_checks p x) (answered (hypercube_owner (exponent_of p) x)) (ap not p-in, (suits, (inside_is true i, tt)))
          ∙ ap (λ (n : ℕ). answered (gray ((get_or x 1 0 + get_or x 2 0) % n) * n + gray ((get_or x 0 0 + get_or x 2 0) % n))) (sym (suited_lem p side e).1)

-- ---- what an answer says

module _ (p : ℕ) where
  hypercube-told : (x : List ℕ) (q : ℕ) → hypercube_answer p x ≡ answered q
      → (exponent_of p ≤ 6) × (4 ^ exponent_of p ≡ p) × Inside (hypercube_cuts (exponent_of p)) x × (hypercube_owner (exponent_of p) x ≡ q)
  unfolding hypercube_answer
  hypercube-told x q e =
      let h = (answers_iff (hypercube_checks p x) (hypercube_owner (exponent_of p) x) q).0 e in
      let small = leb-true (exponent_of p) 6 (not-false (leb (exponent_of p) 6) h.0.1.0) in (
        small,
        (exponent_iff p (exponent_of p) small).0 refl,
        inside_of_test (hypercube_cuts (exponent_of p)) x (not-false (is_inside (hypercube_cuts (exponent_of p)) x) h.0.1.1.0),
        h.1,
      )

  -- the owner of any position inside, where p is 4 to the power e
  hypercube_of : (e : ℕ) (x : List ℕ) → e ≤ 6 → 4 ^ e ≡ p → Inside (hypercube_cuts e) x → hypercube_answer p x ≡ answered (hypercube_owner e x)
  unfolding hypercube_answer
  hypercube_of e x small q w =
      let found : exponent_of p ≡ e = (exponent_iff p e small).1 q in
      let four : zero < 4 = omega arith in
      rw (
        (between-true_iff 1 4096 p).1 (subst (λ (m : ℕ). 1 ≤ m) q (one-le-pow e 4 four), subst (λ (m : ℕ). m ≤ 4096) q (powers_high e small).0),
        found,
        le-leb e 6 small,
        test_of_inside (hypercube_cuts e) x w,
      )

  -- what it takes for a position to be answered, and with which owner
  pub hypercube_answered : (x : List ℕ) (q : ℕ)
      → (hypercube_answer p x ≡ answered q) ↔ ((e : ℕ) × (e ≤ 6) × (4 ^ e ≡ p) × Inside (hypercube_cuts e) x × (hypercube_owner e x ≡ q))
  hypercube_answered x q = (
    (λ a. let h = hypercube-told x q a in (exponent_of p, h.0, h.1, h.2, h.3)),
    λ h. hypercube_of h.0 x h.1 h.2 h.3 ∙ ap answered h.4,
  )

  -- an owner is a processor
  pub hypercube_answer_below : (x : List ℕ) (q : ℕ) → hypercube_answer p x ≡ answered q → q < p
  hypercube_answer_below x q a =
      let h = hypercube-told x q a in
      subst₂ (λ (r m : ℕ). r < m) h.3 h.1 (hypercube_owner_below (exponent_of p) x)

  -- "owners of hypercube tiles with a common face along i1 or along i2 differ in just one bit and along i3 in just two"
  pub hypercube_answer_faces : (x y : List ℕ) (q r : ℕ) → hypercube_answer p x ≡ answered q → hypercube_answer p y ≡ answered r → (face : Face x y)
      → bits_apart q r ≡ bits_along face.dimension
  hypercube_answer_faces x y q r a b face =
      let h = hypercube-told x q a in
      let k = hypercube-told y r b in
      subst₂ (λ (m n : ℕ). bits_apart m n ≡ bits_along face.dimension) h.3 k.3 (hypercube_faces (exponent_of p) h.0 x y h.2 k.2 face)
