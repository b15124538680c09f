-- Every processor owns exactly one tile of each slab of a diagonal layout, for every number of dimensions together.
use mathlib.Core.Path.{◌≡◌, refl, sym, ap, ap₂, ◌∙◌, subst, subst⁻¹}
use mathlib.Core.Logic.{⊎_elim}
use mathlib.Core.List.{List, [], ◌∷◌, ◌++◌}
use Prim.Native.Nat.{ℕ, zero, suc, ◌+◌, ◌-◌, ◌*◌, ◌%◌, ◌^◌, ◌<◌, ◌∣◌}
use native.Mathlib.Nat.{zero-mul, mul-zero, mul-one, mod-lt, mod-eq_of_lt, pow-zero, pow-succ', dvd_refl, div_self, not-suc-le-zero, le_of_suc-le-suc, eq-or-lt_of_le}
use native.Mathlib.Numerals.{add-one}
use native.Mathlib.Decide.{ℕ_discrete}
use native.Mathlib.Omega.{arith}
use lib.ListN.{length, get_or, replicate, replicate-append-replicate, length-replicate, get_or-replicate, get_or-append}
use lib.Seq.{get_or-append_seam}
use Rattle.numbers.specs.Products.{product}
use Rattle.numbers.specs.Sums.{sum, same}
use Rattle.numbers.proofs.Sums.{same_yes, same_no, sum-mul_left}
use Rattle.numbers.proofs.Residues.{count_residue}
use Rattle.multipartition.specs.Lists.{first, rest}
use Rattle.multipartition.specs.MixedRadix.{number_from, digits_of}
use Rattle.multipartition.specs.Tiles.{Inside}
use Rattle.multipartition.specs.Rivals.{held}
use Rattle.multipartition.proofs.MixedRadix.{Positive, digits_inside, digits_of_number, number_of_digits, length_digits}
use Rattle.multipartition.proofs.Tiles.{inside-length, inside_below}
use Rattle.multipartition.proofs.Evenness.{negated}
use Rattle.multipartition.proofs.GridSums.{sum_cong, same_iff, sum_pick, total, total_ext, total-mul_left, total-swap, held_total}
use Rattle.diagonal.specs.Diagonal.{diagonal_cuts, diagonal_owner}
use Rattle.diagonal.proofs.Owners.{shifted, diagonal_owner_lem}

-- ---- s, n times

pub product-replicate : (n s : ℕ) → product (replicate n s) ≡ s ^ n
product-replicate zero s = sym (pow-zero s)
product-replicate (suc n) s = ap (λ (m : ℕ). s * m) (product-replicate n s) ∙ sym (pow-succ' s n)

pub positive-replicate : (n s : ℕ) → zero < s → Positive (replicate n s)
unfolding Positive
positive-replicate zero s l = tt
positive-replicate (suc n) s l = (l, positive-replicate n s l)

-- ---- coordinates that agree

-- 1 if the lists are equal, else 0
unfoldable agree : List ℕ → List ℕ → ℕ
agree [] qs = 1
agree (c ∷ cs) qs = same c (first qs) * agree cs (rest qs)

agree_yes : (cs : List ℕ) → agree cs cs ≡ 1
unfolding agree
agree_yes [] = refl
agree_yes (c ∷ cs) = ap₂ ◌*◌ (same_yes c c refl) (agree_yes cs)

agree_no : (cs qs : List ℕ) → length cs ≡ length qs → (cs ≡ qs → ⊥) → agree cs qs ≡ 0
unfolding agree
agree_no [] [] e n = absurd (n refl)
agree_no [] (q ∷ qs) e n = absurd (omega arith)
agree_no (c ∷ cs) [] e n = absurd (omega arith)
agree_no (c ∷ cs) (q ∷ qs) e n = go (λ m. agree_no cs qs (omega arith) m) (ℕ_discrete c q)
  where
    go : ((cs ≡ qs → ⊥) → agree cs qs ≡ 0) → Dec (c ≡ q) → same c q * agree cs qs ≡ 0
    go later (yes f) = ap (λ (m : ℕ). same c q * m) (later (λ g. n (ap₂ ◌∷◌ f g))) ∙ mul-zero (same c q)
    go later (no f) = ap (λ (m : ℕ). m * agree cs qs) (same_no c q f) ∙ zero-mul (agree cs qs)

-- a number is q just if its digits are q's
agree_number : (bases cs : List ℕ) (q : ℕ) → Positive bases → Inside bases cs → q < product bases
    → same (number_from 0 bases cs) q ≡ agree cs (digits_of bases q)
agree_number bases cs q h w l = go (ℕ_discrete (number_from 0 bases cs) q)
  where
    go : Dec (number_from 0 bases cs ≡ q) → same (number_from 0 bases cs) q ≡ agree cs (digits_of bases q)
    go (yes e) =
        same_yes (number_from 0 bases cs) q e
        ∙ sym (agree_yes cs)
        ∙ ap (agree cs) (sym (digits_of_number bases cs h w) ∙ ap (digits_of bases) e)
    go (no n) =
        same_no (number_from 0 bases cs) q n
        ∙ sym (agree_no cs (digits_of bases q) (inside-length bases cs w ∙ sym (length_digits bases q))
        (λ e. n (ap (number_from 0 bases) e ∙ number_of_digits bases q h l)))

shifted_inside : (n s w : ℕ) (x : List ℕ) → zero < s → length x ≡ n → Inside (replicate n s) (shifted s w x)
unfolding shifted Inside
shifted_inside zero s w [] l e = tt
shifted_inside zero s w (i ∷ x) l e = absurd (omega arith)
shifted_inside (suc n) s w [] l e = absurd (omega arith)
shifted_inside (suc n) s w (i ∷ x) l e = (mod-lt (i + w) l, shifted_inside n s w x l (omega arith))

-- ---- the dimensions before d, with w the same for all of them

count_shifted : (s w c : ℕ) → c < s → sum s (λ i. same ((i + w) % s) c) ≡ 1
count_shifted s w c l = count_residue s s w c (dvd_refl s) l ∙ div_self (omega arith)

-- exactly one x has given coordinates
total_agree : (n s w : ℕ) (qs : List ℕ) → Inside (replicate n s) qs → total (replicate n s) (λ x. agree (shifted s w x) qs) ≡ 1
unfolding total agree shifted Inside
total_agree zero s w qs h = refl
total_agree (suc n) s w [] h = absurd h
total_agree (suc n) s w (q ∷ qs) h =
    sum_cong s (λ i l.
    total-mul_left (replicate n s) (same ((i + w) % s) q) (λ x. agree (shifted s w x) qs)
    ∙ ap (λ (m : ℕ). same ((i + w) % s) q * m) (total_agree n s w qs h.1)
    ∙ mul-one (same ((i + w) % s) q))
    ∙ count_shifted s w q h.0

-- and its place k is v just if coordinate k is v plus w
total_agree_slab : (n s w k v : ℕ) (qs : List ℕ) → Inside (replicate n s) qs → k < n → v < s
    → total (replicate n s) (λ x. same (get_or x k 0) v * agree (shifted s w x) qs) ≡ same ((v + w) % s) (get_or qs k 0)
unfolding total agree shifted Inside
total_agree_slab zero s w k v qs h l m = absurd (not-suc-le-zero l)
total_agree_slab (suc n) s w k v [] h l m = absurd h
total_agree_slab (suc n) s w zero v (q ∷ qs) h l m =
    sum_cong s (λ i b.
    total-mul_left (replicate n s) (same i v) (λ x. same ((i + w) % s) q * agree (shifted s w x) qs)
    ∙ ap (λ (y : ℕ). same i v * y)
    (total-mul_left (replicate n s) (same ((i + w) % s) q) (λ x. agree (shifted s w x) qs)
    ∙ ap (λ (y : ℕ). same ((i + w) % s) q * y) (total_agree n s w qs h.1)
    ∙ mul-one (same ((i + w) % s) q)))
    ∙ sum_pick s v (λ i. same ((i + w) % s) q) m
total_agree_slab (suc n) s w (suc k) v (q ∷ qs) h l m =
    sum_cong s (λ i b.
    total_ext (replicate n s) (λ x o. turn (same (get_or x k 0) v) (same ((i + w) % s) q) (agree (shifted s w x) qs))
    ∙ total-mul_left (replicate n s) (same ((i + w) % s) q) (λ x. same (get_or x k 0) v * agree (shifted s w x) qs)
    ∙ ap (λ (y : ℕ). same ((i + w) % s) q * y) (total_agree_slab n s w k v qs h.1 (le_of_suc-le-suc l) m)
    ∙ swap (same ((i + w) % s) q) (same ((v + w) % s) (get_or qs k 0)))
    ∙ sum-mul_left s (same ((v + w) % s) (get_or qs k 0)) (λ i. same ((i + w) % s) q)
    ∙ ap (λ (y : ℕ). same ((v + w) % s) (get_or qs k 0) * y) (count_shifted s w q h.0)
    ∙ mul-one (same ((v + w) % s) (get_or qs k 0))
  where
    turn : (a b c : ℕ) → a * (b * c) ≡ b * (a * c)
    turn a b c = omega arith

    swap : (a b : ℕ) → a * b ≡ b * a
    swap a b = omega arith

-- ---- dimension d

-- v less z is c just if z plus c is v
difference_iff : (s v z c : ℕ) → v < s → c < s → same ((v + (s - 1) * z) % s) c ≡ same ((z + c) % s) v
difference_iff s v z c l m =
    negated (s - 1) s v z c whole m
    ∙ same_iff (v % s) ((c + z) % s) ((z + c) % s) v (λ e. turned ∙ sym e ∙ mod-eq_of_lt l) (λ e. mod-eq_of_lt l ∙ sym e ∙ turned)
  where
    whole : s ∣ s - 1 + 1
    whole = let all : s - 1 + 1 ≡ s = omega arith in subst⁻¹ (λ (n : ℕ). s ∣ n) all (dvd_refl s)

    turned : (z + c) % s ≡ (c + z) % s
    turned = ap (λ (n : ℕ). n % s) (omega arith)

count_difference : (s v c : ℕ) → v < s → c < s → sum s (λ z. same ((v + (s - 1) * z) % s) c) ≡ 1
count_difference s v c l m = sum_cong s (λ z b. difference_iff s v z c l m) ∙ count_shifted s c v l

-- the last dimension's sum stands innermost
total_last : (cuts : List ℕ) (b : ℕ) (f : List ℕ → ℕ) → total (cuts ++ (b ∷ [])) f ≡ total cuts (λ x. sum b (λ z. f (x ++ (z ∷ []))))
unfolding total
total_last [] b f = refl
total_last (c ∷ cuts) b f = sum_cong c (λ i l. total_last cuts b (λ x. f (i ∷ x)))

-- ---- the theorem

module _ (n s : ℕ) (positive : zero < s) (v q : ℕ) (inside : v < s) (below : q < s ^ n) where
  qs : List ℕ
  qs = digits_of (replicate n s) q

  qs_inside : Inside (replicate n s) qs
  unfolding qs
  qs_inside = digits_inside (replicate n s) q (positive-replicate n s positive)

  owned : (x : List ℕ) (z : ℕ) → length x ≡ n → same (diagonal_owner (suc n) s (x ++ (z ∷ []))) q ≡ agree (shifted s ((s - 1) * z) x) qs
  unfolding qs
  owned x z e =
      ap (λ (m : ℕ). same m q) (diagonal_owner_lem n s z x e)
      ∙ agree_number (replicate n s) (shifted s ((s - 1) * z) x) q (positive-replicate n s positive) (shifted_inside n s ((s - 1) * z) x positive e)
      (subst⁻¹ (λ (m : ℕ). q < m) (product-replicate n s) below)

  -- the tiles of a slab, with the place in dimension d outermost
  by_last : (k : ℕ) → held (diagonal_cuts (suc n) s) (diagonal_owner (suc n) s) k v q
      ≡ sum s (λ z. total (replicate n s) (λ x. same (get_or (x ++ (z ∷ [])) k 0) v * agree (shifted s ((s - 1) * z) x) qs))
  by_last k =
      held_total (diagonal_cuts (suc n) s) (diagonal_owner (suc n) s) k v q
      ∙ ap (λ (cuts : List ℕ). total cuts hit) (sym last)
      ∙ total_last (replicate n s) s hit
      ∙ sym (total-swap s (replicate n s) (λ z x. hit (x ++ (z ∷ []))))
      ∙ sum_cong s (λ z b. total_ext (replicate n s) (λ x w.
      ap (λ (m : ℕ). same (get_or (x ++ (z ∷ [])) k 0) v * m) (owned x z (inside-length (replicate n s) x w ∙ length-replicate n s))))
    where
      hit : List ℕ → ℕ
      hit x = same (get_or x k 0) v * same (diagonal_owner (suc n) s x) q

      last : replicate n s ++ (s ∷ []) ≡ replicate (suc n) s
      last = replicate-append-replicate n 1 s ∙ ap (λ (m : ℕ). replicate m s) (add-one n)

  -- a slab of dimension d
  held_last : held (diagonal_cuts (suc n) s) (diagonal_owner (suc n) s) n v q ≡ 1
  held_last =
      by_last n
      ∙ sum_cong s (λ z b.
      total_ext (replicate n s) (λ x w. ap (λ (m : ℕ). same m v * agree (shifted s ((s - 1) * z) x) qs) (at_last x z (inside-length (replicate n s) x w ∙ length-replicate n s)))
      ∙ total-mul_left (replicate n s) (same z v) (λ x. agree (shifted s ((s - 1) * z) x) qs)
      ∙ ap (λ (m : ℕ). same z v * m) (total_agree n s ((s - 1) * z) qs qs_inside))
      ∙ sum_pick s v (λ z. 1) inside
    where
      at_last : (x : List ℕ) (z : ℕ) → length x ≡ n → get_or (x ++ (z ∷ [])) n 0 ≡ z
      at_last x z e = ap (λ (m : ℕ). get_or (x ++ (z ∷ [])) m 0) (sym e) ∙ get_or-append_seam x z [] 0

  -- a slab of a dimension before d
  held_before : (k : ℕ) → k < n → held (diagonal_cuts (suc n) s) (diagonal_owner (suc n) s) k v q ≡ 1
  held_before k l =
      by_last k
      ∙ sum_cong s (λ z b.
      total_ext (replicate n s) (λ x w. ap (λ (m : ℕ). same m v * agree (shifted s ((s - 1) * z) x) qs) (at_before x z (inside-length (replicate n s) x w ∙ length-replicate n s)))
      ∙ total_agree_slab n s ((s - 1) * z) k v qs qs_inside l inside)
      ∙ count_difference s v (get_or qs k 0) inside coordinate
    where
      at_before : (x : List ℕ) (z : ℕ) → length x ≡ n → get_or (x ++ (z ∷ [])) k 0 ≡ get_or x k 0
      at_before x z e = get_or-append x (z ∷ []) 0 k (omega arith)

      coordinate : get_or qs k 0 < s
      coordinate =
          subst (λ (m : ℕ). get_or qs k 0 < m) (get_or-replicate n k s 0 l)
          (inside_below (replicate n s) qs qs_inside k (subst⁻¹ (λ (m : ℕ). k < m) (length-replicate n s) l))

  -- every processor owns exactly one tile of each slab
  pub diagonal-held : (k : ℕ) → k < suc n → held (diagonal_cuts (suc n) s) (diagonal_owner (suc n) s) k v q ≡ 1
  diagonal-held k l =
      ⊎_elim (λ (e : k ≡ n). ap (λ (m : ℕ). held (diagonal_cuts (suc n) s) (diagonal_owner (suc n) s) m v q) e ∙ held_last)
      (λ h. held_before k h) (eq-or-lt_of_le (le_of_suc-le-suc l))
