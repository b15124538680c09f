-- The highest dimension's slab: its tiles of one processor are counted by peeling the lower dimensions off one after another. Each leaves
-- the same question for one dimension fewer, times a constant, so that the count depends on no coordinate and on no slab number.
use mathlib.Core.Path.{◌≡◌, sym, ap, ◌∙◌}
use mathlib.Core.List.{List, [], ◌∷◌}
use Prim.Native.Nat.{ℕ, zero, ◌+◌, ◌*◌, ◌/◌, ◌%◌, ◌<◌, ◌∣◌}
use native.Mathlib.Nat.{add_assoc, add_right_comm, one-mul, mul-one, mul-zero, mul_assoc, mul_left_comm, mod-lt, mod-eq_of_lt, div-mul_cancel}
use native.Mathlib.Decide.{ℕ_discrete}
use Rattle.numbers.specs.Gcd.{gcd}
use Rattle.numbers.specs.Sums.{sum, same}
use Rattle.numbers.proofs.Gcd.{gcd-dvd_left, gcd-dvd_right}
use Rattle.numbers.proofs.Lcm.{lcm}
use Rattle.numbers.proofs.Congruence.{Congruent}
use Rattle.numbers.proofs.Sums.{same_yes, same_no, sum-mul_left}
use Rattle.numbers.proofs.Residues as residues
use Rattle.numbers.proofs.Residues.{count_residue, count_joint, count_joint_none}
use Rattle.multipartition.specs.Lists.{first, rest}
use Rattle.multipartition.specs.Matrix.{factor, next}
use Rattle.multipartition.proofs.GridSums.{sum_cong, total, total_ext, total-mul_left, total-swap}
use Rattle.multipartition.proofs.Rows.{taken, reached, values, hits, Dividing, Below, next_pos}

-- how many places of a dimension of cut b and modulus m answer, where r is what is left of a later modulus
abbrev share : ℕ → ℕ → ℕ → ℕ
share r b m = b / lcm m (gcd r b)

-- how many of b consecutive numbers, from y on, have the remainder e by m and solve a ~ c + t * _ modulo r, with t = r / gcd r b
joint-count : (b m r y a c e : ℕ) → m ∣ b → zero < r → e < m
    → sum b (λ i. same ((i + y) % m) e * same (a % r) ((c + factor r b * (i + y)) % r))
    ≡ share r b m * same (a % next r b m) ((c + factor r b * e) % next r b m)
unfolding residues.joint
joint-count b m r y a c e d l h =
    sum_cong b (λ i z. ap (λ (n : ℕ). same ((i + y) % m) n * same (a % r) ((c + factor r b * (i + y)) % r)) (sym (mod-eq_of_lt h)))
    ∙ go (ℕ_discrete (a % next r b m) ((c + factor r b * e) % next r b m))
  where
    count : ℕ
    count = sum b (λ i. residues.joint m r (factor r b) a c e (i + y))

    split : factor r b * gcd r b ≡ r
    split = div-mul_cancel (gcd r b) (gcd-dvd_left r b)

    go : Dec (Congruent (next r b m) a (c + factor r b * e)) → count ≡ share r b m * same (a % next r b m) ((c + factor r b * e) % next r b m)
    go (yes f) =
        count_joint b m (gcd r b) (factor r b) r y a c e d (gcd-dvd_right r b) split l f
        ∙ sym (ap (λ (n : ℕ). share r b m * n) (same_yes (a % next r b m) ((c + factor r b * e) % next r b m) f) ∙ mul-one (share r b m))
    go (no f) =
        count_joint_none b m (gcd r b) (factor r b) r y a c e split f
        ∙ sym (ap (λ (n : ℕ). share r b m * n) (same_no (a % next r b m) ((c + factor r b * e) % next r b m) f) ∙ mul-zero (share r b m))

-- how many positions (i1, x) have rows with the remainders cs, and i1 + s congruent to c and what is taken, modulo r
abbrev pub asked : ℕ → ℕ → List ℕ → List ℕ → List ℕ → ℕ → ℕ → ℕ → ℕ
asked neg b1 cuts moduli cs r c s =
    sum b1 (λ i1. total cuts (λ x.
    hits cuts moduli cs (values neg i1 cuts moduli x) * same ((i1 + s) % r) ((c + taken r cuts moduli (values neg i1 cuts moduli x)) % r)))

-- the answer but for dimension 1
unfoldable pub shares : ℕ → List ℕ → List ℕ → ℕ
shares r [] moduli = 1
shares r (b ∷ cuts) moduli = share r b (first moduli) * shares (next r b (first moduli)) cuts (rest moduli)

-- the dimension of cut b, at a fixed position in those below it, whose rows' indicator is h
one_dimension : (b m r y a c q e h : ℕ) → m ∣ b → zero < r → e < m
    → sum b (λ i. h * same ((i + y) % m) e * same (a % r) ((c + (q + factor r b * (i + y))) % r))
    ≡ share r b m * (h * same (a % next r b m) ((c + factor r b * e + q) % next r b m))
one_dimension b m r y a c q e h d l k =
    sum_cong b (λ i z.
    mul_assoc h (same ((i + y) % m) e) (same (a % r) ((c + (q + factor r b * (i + y))) % r))
    ∙ ap (λ (n : ℕ). h * (same ((i + y) % m) e * same (a % r) (n % r))) (sym (add_assoc c q (factor r b * (i + y)))))
    ∙ sum-mul_left b h (λ i. same ((i + y) % m) e * same (a % r) ((c + q + factor r b * (i + y)) % r))
    ∙ ap (λ (n : ℕ). h * n) (joint-count b m r y a (c + q) e d l k)
    ∙ mul_left_comm h (share r b m) (same (a % next r b m) ((c + q + factor r b * e) % next r b m))
    ∙ ap (λ (n : ℕ). share r b m * (h * same (a % next r b m) (n % next r b m))) (add_right_comm c q (factor r b * e))

peel-one : (neg b1 b : ℕ) (cuts moduli cs : List ℕ) (r c s : ℕ) → first moduli ∣ b → zero < r → first cs < first moduli
    → asked neg b1 (b ∷ cuts) moduli cs r c s
    ≡ share r b (first moduli) * asked neg b1 cuts (rest moduli) (rest cs) (next r b (first moduli)) (c + factor r b * first cs) s
unfolding total values hits taken
peel-one neg b1 b cuts moduli cs r c s d l k =
    sum_cong b1 (λ i1 z.
    total-swap b cuts (λ i x. term i1 (i ∷ x))
    ∙ total_ext cuts (λ x w.
    one_dimension b m r (i1 + neg * taken m cuts (rest moduli) (below i1 x)) (i1 + s) c
    (taken (next r b m) cuts (rest moduli) (below i1 x)) (first cs) (hits cuts (rest moduli) (rest cs) (below i1 x)) d l k)
    ∙ total-mul_left cuts (share r b m) (λ x. peeled i1 x))
    ∙ sum-mul_left b1 (share r b m) (λ i1. total cuts (λ x. peeled i1 x))
  where
    m : ℕ
    m = first moduli

    below : ℕ → List ℕ → List ℕ
    below i1 x = values neg i1 cuts (rest moduli) x

    term : ℕ → List ℕ → ℕ
    term i1 x =
        hits (b ∷ cuts) moduli cs (values neg i1 (b ∷ cuts) moduli x)
        * same ((i1 + s) % r) ((c + taken r (b ∷ cuts) moduli (values neg i1 (b ∷ cuts) moduli x)) % r)

    peeled : ℕ → List ℕ → ℕ
    peeled i1 x =
        hits cuts (rest moduli) (rest cs) (below i1 x)
        * same ((i1 + s) % next r b m) ((c + factor r b * first cs + taken (next r b m) cuts (rest moduli) (below i1 x)) % next r b m)

-- all dimensions: the answer does not depend on cs, c and s
pub peel : (neg b1 : ℕ) (cuts moduli cs : List ℕ) (r c s : ℕ) → Dividing cuts moduli → Below cuts moduli cs → zero < r → reached r cuts moduli ∣ b1
    → asked neg b1 cuts moduli cs r c s ≡ shares r cuts moduli * (b1 / reached r cuts moduli)
unfolding total values hits taken reached shares Dividing Below
peel neg b1 [] moduli cs r c s d k l e =
    sum_cong b1 (λ i1 z. one-mul (same ((i1 + s) % r) ((c + 0) % r)))
    ∙ count_residue b1 r s ((c + 0) % r) e (mod-lt (c + 0) l)
    ∙ sym (one-mul (b1 / r))
peel neg b1 (b ∷ cuts) moduli cs r c s d k l e =
    peel-one neg b1 b cuts moduli cs r c s d.0 l k.0
    ∙ ap (λ (n : ℕ). share r b (first moduli) * n)
    (peel neg b1 cuts (rest moduli) (rest cs) r' (c + factor r b * first cs) s d.1 k.1 (next_pos r b (first moduli) l) e)
    ∙ sym (mul_assoc (share r b (first moduli)) (shares r' cuts (rest moduli)) (b1 / reached r' cuts (rest moduli)))
  where
    r' : ℕ
    r' = next r b (first moduli)
