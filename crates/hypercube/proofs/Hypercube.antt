-- The hypercube layout: its owners are processors, and tiles with a common face have owners one bit apart, or two. An owner is two digits in
-- radix 2 to the power e, and a step raises one of the two sums, or both, by one.
use mathlib.Core.Path.{◌≡◌, refl, sym, ap, ap₂, ◌∙◌, subst}
use mathlib.Core.Logic.{◌≢◌, ⊎_elim}
use mathlib.Core.List.{List}
use Prim.Native.Nat.{ℕ, zero, suc, ◌+◌, ◌*◌, ◌%◌, ◌^◌, ◌≤◌, ◌<◌}
use native.Mathlib.Nat.{mod-lt, mod-le, add-mod-mod, mul-le-mul, lt_of_le_of_lt, pow-suc}
use native.Mathlib.Omega.{arith}
use lib.Arith.{digits_lt}
use lib.Pow.{pow_pos}
use lib.ListN.{get_or, get_or-eq_default}
use Rattle.multipartition.specs.Tiles.{Inside}
use Rattle.multipartition.specs.Rivals.{Face}
use Rattle.multipartition.proofs.Tiles.{inside-length, inside_below}
use Rattle.hypercube.specs.Hypercube.{gray, hypercube_cuts, hypercube_owner, bits_apart, bits_along}
use Rattle.hypercube.proofs.GrayCode.{apart_self, apart_comm, apart_block, gray_below, gray-next}

-- the sums that are coded: in the upper bits and in the lower
abbrev upper : ℕ → List ℕ → ℕ
upper e x = (get_or x 1 0 + get_or x 2 0) % 2 ^ e

abbrev lower : ℕ → List ℕ → ℕ
lower e x = (get_or x 0 0 + get_or x 2 0) % 2 ^ e

coded_below : (e m : ℕ) → gray (m % 2 ^ e) < 2 ^ e
coded_below e m = gray_below e (m % 2 ^ e) (mod-lt m (pow_pos e))

four-pow : (e : ℕ) → 2 ^ e * 2 ^ e ≡ 4 ^ e
four-pow zero = refl
four-pow (suc e) = ap₂ ◌*◌ (pow-suc 2 e) (pow-suc 2 e) ∙ omega (arith, four-pow e) ∙ sym (pow-suc 4 e)

-- every owner is a processor
pub hypercube_owner_below : (e : ℕ) (x : List ℕ) → hypercube_owner e x < 4 ^ e
unfolding hypercube_owner
hypercube_owner_below e x =
    subst (λ (p : ℕ). gray (upper e x) * 2 ^ e + gray (lower e x) < p) (four-pow e)
    (digits_lt (coded_below e (get_or x 1 0 + get_or x 2 0)) (coded_below e (get_or x 0 0 + get_or x 2 0)))

-- ---- common faces

owners_apart : (e : ℕ) (x y : List ℕ)
    → bits_apart (hypercube_owner e x) (hypercube_owner e y) ≡ bits_apart (gray (upper e x)) (gray (upper e y)) + bits_apart (gray (lower e x)) (gray (lower e y))
unfolding hypercube_owner
owners_apart e x y =
    apart_block e (gray (upper e x)) (gray (upper e y)) (gray (lower e x)) (gray (lower e y))
    (coded_below e (get_or x 0 0 + get_or x 2 0)) (coded_below e (get_or y 0 0 + get_or y 2 0))

-- a sum that stays, and one that goes up by one
stays : (e m n : ℕ) → m ≡ n → bits_apart (gray (m % 2 ^ e)) (gray (n % 2 ^ e)) ≡ 0
stays e m n q = ap (λ (k : ℕ). bits_apart (gray (m % 2 ^ e)) (gray (k % 2 ^ e))) (sym q) ∙ apart_self (gray (m % 2 ^ e))

code_moves : (e m n : ℕ) → 1 ≤ e → e ≤ 6 → n ≡ suc m → bits_apart (gray (m % 2 ^ e)) (gray (n % 2 ^ e)) ≡ 1
code_moves e m n low high q =
    ap (λ (k : ℕ). bits_apart (gray (m % 2 ^ e)) (gray k)) (ap (λ (k : ℕ). k % 2 ^ e) q ∙ next) ∙ gray-next e (m % 2 ^ e) low high (mod-lt m (pow_pos e))
  where
    next : suc m % 2 ^ e ≡ suc (m % 2 ^ e) % 2 ^ e
    next = ap (λ (k : ℕ). k % 2 ^ e) one ∙ sym (add-mod-mod 1 m (2 ^ e)) ∙ ap (λ (k : ℕ). k % 2 ^ e) (sym (one_more (m % 2 ^ e)))
      where
        one_more : (k : ℕ) → suc k ≡ 1 + k
        one_more k = omega arith

        one : suc m ≡ 1 + m
        one = one_more m

-- a grid with room for a step is cut
cut_deep : (e i : ℕ) → suc i < 2 ^ e → 1 ≤ e
cut_deep zero i l = absurd (omega arith)
cut_deep (suc e) i l = omega arith

-- y is one step up from x along k
face_up : (e : ℕ) → e ≤ 6 → (x y : List ℕ) → Inside (hypercube_cuts e) y → (k : ℕ) → ((j : ℕ) → j ≢ k → get_or x j 0 ≡ get_or y j 0)
    → get_or y k 0 ≡ suc (get_or x k 0) → bits_apart (hypercube_owner e x) (hypercube_owner e y) ≡ bits_along k
unfolding hypercube_cuts bits_along
face_up e high x y w zero h q =
    owners_apart e x y
    ∙ ap₂ ◌+◌ (stays e (get_or x 1 0 + get_or x 2 0) (get_or y 1 0 + get_or y 2 0) (ap₂ ◌+◌ (h 1 (λ f. absurd (omega arith))) (h 2 (λ f. absurd (omega arith)))))
    (code_moves e (get_or x 0 0 + get_or x 2 0) (get_or y 0 0 + get_or y 2 0) deep high (omega (arith, h 2 (λ f. absurd (omega arith)))))
  where
    deep : 1 ≤ e
    deep = cut_deep e (get_or x 0 0) (subst (λ (n : ℕ). n < 2 ^ e) q (inside_below (hypercube_cuts e) y w 0 (omega arith)))
face_up e high x y w (suc zero) h q =
    owners_apart e x y
    ∙ ap₂ ◌+◌ (code_moves e (get_or x 1 0 + get_or x 2 0) (get_or y 1 0 + get_or y 2 0) deep high (omega (arith, h 2 (λ f. absurd (omega arith)))))
    (stays e (get_or x 0 0 + get_or x 2 0) (get_or y 0 0 + get_or y 2 0) (ap₂ ◌+◌ (h 0 (λ f. absurd (omega arith))) (h 2 (λ f. absurd (omega arith)))))
  where
    deep : 1 ≤ e
    deep = cut_deep e (get_or x 1 0) (subst (λ (n : ℕ). n < 2 ^ e) q (inside_below (hypercube_cuts e) y w 1 (omega arith)))
face_up e high x y w (suc (suc zero)) h q =
    owners_apart e x y
    ∙ ap₂ ◌+◌ (code_moves e (get_or x 1 0 + get_or x 2 0) (get_or y 1 0 + get_or y 2 0) deep high (omega (arith, h 1 (λ f. absurd (omega arith)))))
    (code_moves e (get_or x 0 0 + get_or x 2 0) (get_or y 0 0 + get_or y 2 0) deep high (omega (arith, h 0 (λ f. absurd (omega arith)))))
  where
    deep : 1 ≤ e
    deep = cut_deep e (get_or x 2 0) (subst (λ (n : ℕ). n < 2 ^ e) q (inside_below (hypercube_cuts e) y w 2 (omega arith)))
face_up e high x y w (suc (suc (suc k))) h q =
    let none : get_or y (suc (suc (suc k))) 0 ≡ 0 = get_or-eq_default y 0 (omega (arith, inside-length (hypercube_cuts e) y w)) in
    absurd (omega (arith, none, q))

-- "owners of hypercube tiles with a common face along i1 or along i2 differ in just one bit and along i3 in just two"
pub hypercube_faces : (e : ℕ) → e ≤ 6 → (x y : List ℕ) → Inside (hypercube_cuts e) x → Inside (hypercube_cuts e) y → (face : Face x y)
    → bits_apart (hypercube_owner e x) (hypercube_owner e y) ≡ bits_along face.dimension
hypercube_faces e high x y w v face =
    ⊎_elim (λ q. face_up e high x y v face.dimension face.elsewhere q)
    (λ q. apart_comm (hypercube_owner e x) (hypercube_owner e y) ∙ face_up e high y x w face.dimension (λ j n. sym (face.elsewhere j n)) q)
    face.by_one

-- ---- bounds: a code of a sum of two coordinates, and that code times the side

pub code_small : (n m code : ℕ) → code ≡ gray (n % m) → n < 128 → code < 128
code_small n m code e l = subst (λ (c : ℕ). c < 128) (sym e) (gray_below 7 (n % m) (lt_of_le_of_lt (mod-le n m) l))

pub upper_small : (side code : ℕ) → side ≤ 64 → code < 128 → code * side ≤ 8128
upper_small side code h l = let most : code ≤ 127 = omega arith in mul-le-mul most h
