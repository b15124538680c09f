-- The divisors of f * m, f prime, from those of m: they are the divisors of m and f times these, merged.
-- `Merging` is the state of the merge when the divisors up to `last` are written; its laws are a start, a step and an end.
use mathlib.Core.Path.{◌≡◌, refl, sym, ◌∙◌, ap, subst}
use mathlib.Core.Logic.{◌⊎◌, inl, inr}
use mathlib.Core.List.{List, [], ◌∷◌, ◌++◌}
use Prim.Native.Nat.{ℕ, zero, ◌+◌, ◌*◌, ◌/◌, min, ◌≤◌, ◌<◌, ◌∣◌, zero-le}
use native.Mathlib.Nat.{dvd_refl, dvd_trans, dvd-mul_left, dvd_of_mul-dvd-mul_left, mul-dvd-mul_left, mul-div_cancel', mul-le-mul_left, mul-pos, div-one, div-eq_of_eq-mul_right, div-lt_iff_lt-mul, le-div_iff_mul-le, div-mul-le_self, div-le_of_le-mul, mul-div-le, zero-div, le_of_dvd}
use native.Mathlib.Decide.{dec_le, dec_lt, ℕ_discrete}
use native.Mathlib.Omega.{arith}
use lib.ListN.{length, get_or, drop, length-append, length-drop}
use lib.Seq.{get_or-drop, drop-drop}
use Rattle.numbers.specs.Gcd.{gcd}
use Rattle.numbers.specs.Sums.{same}
use Rattle.numbers.specs.LeastFactor.{Prime}
use Rattle.numbers.specs.Divisors.{divisors_to, divisors_of}
use Rattle.numbers.proofs.Gcd.{gauss, gcd-dvd_left, gcd-dvd_right, gcd_pos}
use Rattle.numbers.proofs.Sums.{same_yes, same_no}
use Rattle.numbers.proofs.Divisors.{Next, entry_next, divisors_to-zero, divisors_to-next, divisors_to_none, length-divisors_to_mono, length-divisors_to-lt, length-divisors_of-le}

factor_pos : {f : ℕ} → Prime f → zero < f
factor_pos F = omega (arith, F.above_one)

-- ---- a divisor of f * m divides m, or is f times a divisor of m

pub dvd_prime-mul : (f m e : ℕ) → Prime f → zero < e → e ∣ f * m → (e ∣ m) ⊎ ((f ∣ e) × (e / f ∣ m))
dvd_prime-mul f m e F he d = go (dec_lt 1 (gcd e f))
  where
    go : Dec (1 < gcd e f) → (e ∣ m) ⊎ ((f ∣ e) × (e / f ∣ m))
    go (yes l) =
        let shared : f ∣ e = subst (λ (g : ℕ). g ∣ e) (F.only (gcd e f) l (gcd-dvd_right e f)) (gcd-dvd_left e f) in
        inr (shared, dvd_of_mul-dvd-mul_left (e / f) (factor_pos F) (rw (mul-div_cancel' f shared) d))
    go (no q) =
        let one : gcd e f ≡ 1 = omega (arith, gcd_pos e f he) in
        inl (subst (λ (x : ℕ). x ∣ m) (ap (λ (g : ℕ). e / g) one ∙ div-one e) (gauss e f m he d))

-- ---- how far the two runs have come

-- going on to w, which is not past the next divisor c, passes c if w is c
length-next : (m v w c : ℕ) → Next m v c → v ≤ w → w ≤ c → length (divisors_to m w) ≡ length (divisors_to m v) + same c w
length-next m v w c N low high = go (ℕ_discrete c w)
  where
    go : Dec (c ≡ w) → length (divisors_to m w) ≡ length (divisors_to m v) + same c w
    go (yes e) =
        ap (λ (x : ℕ). length (divisors_to m x)) (sym e) ∙ ap length (divisors_to-next m v c N) ∙ length-append (divisors_to m v) (c ∷ [])
        ∙ ap (λ (x : ℕ). length (divisors_to m v) + x) (sym (same_yes c w e))
    go (no q) =
        omega (arith, ap length (divisors_to_none m v w low (λ e l h d. q (omega (arith, N.least e l d)))), same_no c w q)

same-mul : (f d w : ℕ) → zero < f → w ≤ f * d → same (f * d) w ≡ same d (w / f)
same-mul f d w hf h = go (ℕ_discrete d (w / f))
  where
    go : Dec (d ≡ w / f) → same (f * d) w ≡ same d (w / f)
    go (yes e) = same_yes (f * d) w (omega (arith, ap (λ (x : ℕ). f * x) e, mul-div-le w f)) ∙ sym (same_yes d (w / f) e)
    go (no q) = same_no (f * d) w (λ e. q (sym (div-eq_of_eq-mul_right hf (sym e)))) ∙ sym (same_no d (w / f) q)

-- 1 has one divisor
pub divisors_of-one : divisors_of 1 ≡ 1 ∷ []
unfolding divisors_of divisors_to
divisors_of-one = refl

-- a list without an entry
empty : (l : List ℕ) → length l ≡ 0 → l ≡ []
empty [] e = refl
empty (x ∷ xs) e = absurd (omega arith)

-- the first entry of a list, where there is one, by either number for none
get_or-some : (l : List ℕ) (x y : ℕ) → 0 < length l → get_or l 0 x ≡ get_or l 0 y
get_or-some [] x y h = absurd (omega arith)
get_or-some (z ∷ l) x y h = refl

get_or-none : (l : List ℕ) (x : ℕ) → length l ≡ 0 → get_or l 0 x ≡ x
get_or-none l x e = ap (λ (k : List ℕ). get_or k 0 x) (empty l e)

-- ---- the merge

-- The divisors of f * m up to `last` are written. Of the divisors of m those above `last` are left, and of them times f, by what is multiplied,
-- those above `last` too.
pub record Merging (f m last : ℕ) (kept times merged : List ℕ) : Type 0 where
  pub within : last ≤ f * m
  pub first : kept ≡ drop (length (divisors_to m last)) (divisors_of m)
  pub second : times ≡ drop (length (divisors_to m (last / f))) (divisors_of m)
  pub written : merged ≡ divisors_to (f * m) last

pub merging_start : (f m : ℕ) → Merging f m 0 (divisors_of m) (divisors_of m) []
merging_start f m =
    record {
      within = zero-le;
      first = sym (ap (λ (k : ℕ). drop k (divisors_of m)) (ap length (divisors_to-zero m)));
      second = sym (ap (λ (k : ℕ). drop k (divisors_of m)) (ap (λ (x : ℕ). length (divisors_to m x)) (zero-div f) ∙ ap length (divisors_to-zero m)));
      written = sym (divisors_to-zero (f * m));
    }

pub merging_end : (f m last : ℕ) (kept times merged : List ℕ) → Merging f m last kept times merged → f * m ≤ last → merged ≡ divisors_of (f * m)
unfolding divisors_of
merging_end f m last kept times merged S h = S.written ∙ ap (divisors_to (f * m)) (omega (arith, S.within))

-- a turn of the merge, before the last divisor is written
pub record Turn (f m last : ℕ) (kept times merged : List ℕ) : Type 0 where
  pub prime : Prime f
  pub positive : zero < m
  pub small : f * m ≤ 4096
  pub state : Merging f m last kept times merged
  pub less : last < f * m

module _ {f m last : ℕ} {kept times merged : List ℕ} (T : Turn f m last kept times merged) where
  -- ---- how many are left, and there is room for one more

  -- places in the list of divisors
  abbrev i : ℕ
  i = length (divisors_to m last)

  abbrev j : ℕ
  j = length (divisors_to m (last / f))

  second_inside : j < length (divisors_of m)
  unfolding divisors_of
  second_inside =
      let low : last < m * f = omega (arith, T.less) in
      omega (arith, length-divisors_to-lt m (last / f) m ((div-lt_iff_lt-mul (factor_pos T.prime)).1 low) (dvd_refl m))

  pub times_left : 0 < length times
  times_left = omega (arith, second_inside, ap length T.state.second, length-drop j (divisors_of m))

  pub room : length merged < 128
  unfolding divisors_of
  room =
      omega
      (arith, ap length T.state.written, length-divisors_to-lt (f * m) last (f * m) T.less (dvd_refl (f * m)), length-divisors_of-le (f * m) T.small)

  -- ---- the next divisor of each run

  head_first : get_or kept 0 0 ≡ get_or (divisors_of m) i 0
  head_first = ap (λ (l : List ℕ). get_or l 0 0) T.state.first ∙ get_or-drop i (divisors_of m) 0 0 ∙ ap (λ (k : ℕ). get_or (divisors_of m) k 0) {x = i + 0} {y = i} (omega arith)

  head_second : get_or times 0 0 ≡ get_or (divisors_of m) j 0
  head_second = ap (λ (l : List ℕ). get_or l 0 0) T.state.second ∙ get_or-drop j (divisors_of m) 0 0 ∙ ap (λ (k : ℕ). get_or (divisors_of m) k 0) {x = j + 0} {y = j} (omega arith)

  -- that of the first run, where there is one
  next_of_first : 0 < length kept → Next m last (get_or kept 0 0)
  unfolding divisors_of
  next_of_first l =
      rw head_first (entry_next m m last i (omega (arith, ap length T.state.first, length-drop i (divisors_of m))) refl)

  none_of_first : length kept ≡ 0 → (e : ℕ) → last < e → ¬ (e ∣ m)
  unfolding divisors_of
  none_of_first n e l d =
      omega (
        arith,
        ap length T.state.first,
        length-drop i (divisors_of m),
        length-divisors_to-lt m last e l d,
        length-divisors_to_mono m e m (le_of_dvd T.positive d),
      )

  second-next : Next m (last / f) (get_or times 0 0)
  unfolding divisors_of
  second-next = rw head_second (entry_next m m (last / f) j second_inside refl)

  pub product_le : f * get_or times 0 0 ≤ 4096
  product_le = omega (arith, T.small, mul-le-mul_left f (le_of_dvd T.positive second-next.divides))

  -- the next divisor of m times f is the least such above `last`
  times_above : last < f * get_or times 0 0
  times_above = omega (arith, (div-lt_iff_lt-mul {k = f} {x = last} {y = get_or times 0 0} (factor_pos T.prime)).0 second-next.above)

  times_least : (e : ℕ) → last < e → f ∣ e → e / f ∣ m → f * get_or times 0 0 ≤ e
  times_least e l fe d =
      let whole : f * (e / f) ≡ e = mul-div_cancel' f fe in
      let past : last / f < e / f = (div-lt_iff_lt-mul (factor_pos T.prime)).1 (omega arith) in
      omega (arith, mul-le-mul_left f (second-next.least (e / f) past d))

  -- w is the smaller of the two
  module _ (w : ℕ) (smaller : w ≡ min (get_or kept 0 (f * get_or times 0 0)) (f * get_or times 0 0)) where
    pub merging-next : Next (f * m) last w
    merging-next = go (dec_lt 0 (length kept))
      where
        a : ℕ
        a = get_or kept 0 0

        b : ℕ
        b = f * get_or times 0 0

        times-dvd : b ∣ f * m
        times-dvd = mul-dvd-mul_left (get_or times 0 0) f second-next.divides

        least : w ≤ b → ((e : ℕ) → last < e → e ∣ m → w ≤ e) → (e : ℕ) → last < e → e ∣ f * m → w ≤ e
        least wb first e l d = pick (dvd_prime-mul f m e T.prime (omega arith) d)
          where
            pick : (e ∣ m) ⊎ ((f ∣ e) × (e / f ∣ m)) → w ≤ e
            pick (inl em) = first e l em
            pick (inr (fe, em)) = omega (arith, times_least e l fe em)

        go : Dec (0 < length kept) → Next (f * m) last w
        go (yes some) =
            let N = next_of_first some in
            let e : w ≡ min a b = smaller ∙ ap (λ (x : ℕ). min x b) (get_or-some kept b 0 some) in
            record {
              above = omega (arith, N.above, times_above);
              divides = either e (dec_le a b);
              least = least (omega arith) (λ x l d. omega (arith, N.least x l d));
            }
          where
            either : w ≡ min a b → Dec (a ≤ b) → w ∣ f * m
            either e (yes l) = subst (λ (x : ℕ). x ∣ f * m) (omega arith) (dvd_trans a (next_of_first some).divides (dvd-mul_left m f))
            either e (no q) = subst (λ (x : ℕ). x ∣ f * m) (omega arith) times-dvd
        go (no q) =
            let z : length kept ≡ 0 = omega arith in
            let e : w ≡ b = omega (arith, smaller, get_or-none kept b z) in
            record {
              above = omega (arith, times_above);
              divides = subst (λ (x : ℕ). x ∣ f * m) (sym e) times-dvd;
              least = least (omega arith) (λ x l d. absurd (none_of_first z x l d));
            }

    pub merging-step : Merging f m w (drop (same (get_or kept 0 0) w) kept) (drop (same (f * get_or times 0 0) w) times) (merged ++ (w ∷ []))
    merging-step =
        record {
          within = le_of_dvd (mul-pos (factor_pos T.prime) T.positive) merging-next.divides;
          first = ap (drop (same a w)) T.state.first ∙ drop-drop (same a w) (length (divisors_to m last)) (divisors_of m) ∙ ap (λ (k : ℕ). drop k (divisors_of m)) (first (dec_lt 0 (length kept)));
          second = ap (drop (same (f * d) w)) T.state.second ∙ drop-drop (same (f * d) w) (length (divisors_to m (last / f))) (divisors_of m) ∙ ap (λ (k : ℕ). drop k (divisors_of m)) second;
          written = ap (λ (l : List ℕ). l ++ (w ∷ [])) T.state.written ∙ sym (divisors_to-next (f * m) last w merging-next);
        }
      where
        a : ℕ
        a = get_or kept 0 0

        d : ℕ
        d = get_or times 0 0

        above : last < w
        above = merging-next.above

        w_le : w ≤ f * d
        w_le = merging-next.least (f * d) times_above (mul-dvd-mul_left d f second-next.divides)

        first : Dec (0 < length kept) → length (divisors_to m last) + same a w ≡ length (divisors_to m w)
        first (yes some) =
            let N = next_of_first some in
            let w-le-a : w ≤ a = merging-next.least a N.above (dvd_trans a N.divides (dvd-mul_left m f)) in
            omega (arith, length-next m last w a N (omega (arith, above)) w-le-a)
        first (no q) =
            let z : length kept ≡ 0 = omega arith in
            omega (
              arith,
              same_no a w (λ e. omega (arith, above, ap (λ (l : List ℕ). get_or l 0 0) (empty kept z))),
              ap length (divisors_to_none m last w (omega (arith, above)) (λ e l q k. none_of_first z e l k)),
            )

        second : length (divisors_to m (last / f)) + same (f * d) w ≡ length (divisors_to m (w / f))
        second =
            let low : last / f ≤ w / f = (le-div_iff_mul-le (factor_pos T.prime)).1 (omega (arith, div-mul-le_self last f, above)) in
            let high : w / f ≤ d = div-le_of_le-mul f w_le in
            omega (arith, length-next m (last / f) (w / f) d second-next low high, same-mul f d w (factor_pos T.prime) w_le)
