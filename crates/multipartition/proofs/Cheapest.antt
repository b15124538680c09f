-- The law of `cheapest_within`: it answers the even cuts within `most` that precede all others, and nothing where no cuts within `most` are even.
-- The cuts within `most` are those of the enumeration, and what is chosen among lists is one of them and precedes each.
use mathlib.Core.Path.{◌≡◌, refl, sym, ◌∙◌, ap, subst, subst⁻¹}
use mathlib.Core.Logic.{◌⊎◌, inl, inr, ⊎_elim, ◌↔◌}
use mathlib.Core.Bool.{Bool, true, false, cond}
use mathlib.Core.List.{List, [], ◌∷◌, ◌++◌, map}
use mathlib.Core.Option.{Option, none, some}
use Prim.Native.Nat.{ℕ, zero, suc, ◌+◌, ◌%◌, ◌≤◌, ◌<◌}
use native.Mathlib.Nat.{dvd_of_mod-eq-zero, mod-eq-zero_of_dvd, eq-or-lt_of_le}
use native.Mathlib.Omega.{arith}
use borrow.Author.Tests.{eqb-true, eq-eqb}
use lib.Dec.{eqb}
use lib.ListN.{length}
use Rattle.numbers.specs.Products.{product, without}
use Rattle.multipartition.specs.Lists.{all_below, starting_with, those}
use Rattle.multipartition.specs.Cuts.{Even, is_even, Within, cuts_within, cost_of, Precedes, precedes, preferred, chosen, cheapest_within}
use Rattle.multipartition.proofs.Tests.{false-not-true, all_below-true_iff}
use Rattle.multipartition.proofs.Order.{precedes-true, precedes_refl, precedes_trans, precedes_antisymm, precedes_total, precedes-le}

-- What an answer must be: even cuts within `most` that precede all others; or nothing, where no cuts within `most` are even.
abbrev pub Cheapest : ℕ → List ℕ → List ℕ → Option (List ℕ) → Type 0
Cheapest p most weights none = (v : List ℕ) → Within most v → Even p v → ⊥
Cheapest p most weights (some u) = Within most u × Even p u × ((v : List ℕ) → Within most v → Even p v → Precedes weights u v)

-- the test of evenness
pub is_even-true : (p : ℕ) (v : List ℕ) → (is_even p v ≡ true) ↔ Even p v
unfolding is_even
is_even-true p v = (
  (λ e k h. dvd_of_mod-eq-zero p (eqb-true (product (without k v) % p) 0 (all.0 e k h))),
  λ even. all.1 (λ k h. eq-eqb (product (without k v) % p) 0 (mod-eq-zero_of_dvd p (even k h))),
)
  where
    all : (all_below (length v) (λ k. eqb (product (without k v) % p) 0) ≡ true) ↔ ((k : ℕ) → k < length v → eqb (product (without k v) % p) 0 ≡ true)
    all = all_below-true_iff (length v) (λ k. eqb (product (without k v) % p) 0)

-- ---- members of a list of lists

-- v is one of xs
abbrev pub In : List ℕ → List (List ℕ) → Type 0
In v [] = ⊥
In v (x ∷ xs) = (v ≡ x) ⊎ In v xs

in-append : (v : List ℕ) (xs ys : List (List ℕ)) → In v (xs ++ ys) ↔ (In v xs ⊎ In v ys)
in-append v [] ys = (inr, ⊎_elim (λ h. absurd h) (λ h. h))
in-append v (x ∷ xs) ys = (
  ⊎_elim (λ q. inl (inl q)) (λ h. ⊎_elim (λ k. inl (inr k)) inr ((in-append v xs ys).0 h)),
  ⊎_elim (⊎_elim inl (λ h. inr ((in-append v xs ys).1 (inl h)))) (λ h. inr ((in-append v xs ys).1 (inr h))),
)

-- v begins with b, and its rest is one of xs
abbrev Begins : ℕ → List (List ℕ) → List ℕ → Type 0
Begins b xs [] = ⊥
Begins b xs (c ∷ v) = (c ≡ b) × In v xs

begins_of_in : (b : ℕ) (v : List ℕ) (xs : List (List ℕ)) → In v (map (λ x. b ∷ x) xs) → Begins b xs v
begins_of_in b v [] h = absurd h
begins_of_in b v (x ∷ xs) (inl q) = subst⁻¹ (λ (z : List ℕ). Begins b (x ∷ xs) z) q (refl, inl refl)
begins_of_in b v (x ∷ xs) (inr h) = more v (begins_of_in b v xs h)
  where
    more : (v : List ℕ) → Begins b xs v → Begins b (x ∷ xs) v
    more [] k = absurd k
    more (c ∷ v) k = (k.0, inr k.1)

in-map-cons : (b : ℕ) (v : List ℕ) (xs : List (List ℕ)) → In v xs → In (b ∷ v) (map (λ x. b ∷ x) xs)
in-map-cons b v [] h = absurd h
in-map-cons b v (x ∷ xs) (inl q) = inl (ap (λ (z : List ℕ). b ∷ z) q)
in-map-cons b v (x ∷ xs) (inr h) = inr (in-map-cons b v xs h)

-- v begins with one of n numbers, the first of them `from`, and its rest is one of xs
abbrev Starts : ℕ → ℕ → List (List ℕ) → List ℕ → Type 0
Starts from n xs [] = ⊥
Starts from n xs (c ∷ v) = (from ≤ c) × (c < from + n) × In v xs

starts_of_in : (from n : ℕ) (xs : List (List ℕ)) (v : List ℕ) → In v (starting_with from n xs) → Starts from n xs v
unfolding starting_with
starts_of_in from zero xs v h = absurd h
starts_of_in from (suc n) xs v h =
    ⊎_elim (λ i. here v (begins_of_in from v xs i)) (λ i. later v (starts_of_in (suc from) n xs v i))
    ((in-append v (map (λ x. from ∷ x) xs) (starting_with (suc from) n xs)).0 h)
  where
    here : (v : List ℕ) → Begins from xs v → Starts from (suc n) xs v
    here [] j = absurd j
    here (c ∷ v) j = let e = j.0 in (omega arith, omega arith, j.1)

    later : (v : List ℕ) → Starts (suc from) n xs v → Starts from (suc n) xs v
    later [] j = absurd j
    later (c ∷ v) j = (omega arith, omega arith, j.2)

in-starting_with : (from n : ℕ) (xs : List (List ℕ)) (c : ℕ) (v : List ℕ) → from ≤ c → c < from + n → In v xs → In (c ∷ v) (starting_with from n xs)
unfolding starting_with
in-starting_with from zero xs c v low high i = absurd (omega arith)
in-starting_with from (suc n) xs c v low high i =
    (in-append (c ∷ v) (map (λ x. from ∷ x) xs) (starting_with (suc from) n xs)).1
    (⊎_elim (λ (q : from ≡ c). inl (subst (λ (j : ℕ). In (j ∷ v) (map (λ x. from ∷ x) xs)) q (in-map-cons from v xs i)))
    (λ l. inr (in-starting_with (suc from) n xs c v l (omega arith) i)) (eq-or-lt_of_le low))

-- the enumeration has the cuts within `most`
in-cuts_within : (most v : List ℕ) → Within most v → In v (cuts_within most)
unfolding cuts_within
in-cuts_within [] [] h = inl refl
in-cuts_within [] (c ∷ v) h = absurd h
in-cuts_within (n ∷ most) [] h = absurd h
in-cuts_within (n ∷ most) (c ∷ v) h = in-starting_with 1 n (cuts_within most) c v h.0 (omega arith) (in-cuts_within most v h.2)

-- and no others
within_of_in : (most v : List ℕ) → In v (cuts_within most) → Within most v
unfolding cuts_within
within_of_in [] v (inl q) = subst⁻¹ (λ (z : List ℕ). Within [] z) q tt
within_of_in [] v (inr h) = absurd h
within_of_in (n ∷ most) v h = first v (starts_of_in 1 n (cuts_within most) v h) (λ u i. within_of_in most u i)
  where
    first : (v : List ℕ) → Starts 1 n (cuts_within most) v → ((u : List ℕ) → In u (cuts_within most) → Within most u) → Within (n ∷ most) v
    first [] j rest = absurd j
    first (c ∷ v) j rest = (j.0, omega arith, rest v j.2)

-- those that pass a test
pub those_in : (test : List ℕ → Bool) (v : List ℕ) (xs : List (List ℕ)) → In v (those test xs) ↔ (In v xs × (test v ≡ true))
unfolding those
those_in test v [] = ((λ h. absurd h), λ h. absurd h.0)
those_in test v (x ∷ xs) = go (test x) refl (those_in test v xs)
  where
    go : (t : Bool) → test x ≡ t → In v (those test xs) ↔ (In v xs × (test v ≡ true)) →
        In v (cond t (x ∷ those test xs) (those test xs)) ↔ (((v ≡ x) ⊎ In v xs) × (test v ≡ true))
    go true e i = (
      ⊎_elim (λ (q : v ≡ x). (inl q, ap test q ∙ e)) (λ h. (inr (i.0 h).0, (i.0 h).1)),
      λ h. ⊎_elim inl (λ k. inr (i.1 (k, h.1))) h.0,
    )
    go false e i = (
      (λ h. (inr (i.0 h).0, (i.0 h).1)),
      λ h. ⊎_elim (λ (q : v ≡ x). absurd (false-not-true (sym e ∙ ap test (sym q) ∙ h.1))) (λ k. i.1 (k, h.1)) h.0,
    )

-- ---- what is chosen among lists

-- o is the one of xs that precedes all of them
abbrev Chosen : List ℕ → List (List ℕ) → Option (List ℕ) → Type 0
Chosen weights xs none = (v : List ℕ) → In v xs → ⊥
Chosen weights xs (some u) = In u xs × ((v : List ℕ) → In v xs → Precedes weights u v)

preferred-chosen : (weights x : List ℕ) (xs : List (List ℕ)) (o : Option (List ℕ)) → Chosen weights xs o → Chosen weights (x ∷ xs) (preferred weights x o)
unfolding preferred
preferred-chosen weights x xs none c =
    (inl refl, λ v. ⊎_elim (λ (q : v ≡ x). subst⁻¹ (λ (z : List ℕ). Precedes weights x z) q (precedes_refl weights x)) (λ h. absurd (c v h)))
preferred-chosen weights x xs (some u) c = go (precedes weights x u) refl
  where
    go : (t : Bool) → precedes weights x u ≡ t → Chosen weights (x ∷ xs) (some (cond t x u))
    go true e = (
      inl refl,
      λ v. ⊎_elim (λ (q : v ≡ x). subst⁻¹ (λ (z : List ℕ). Precedes weights x z) q (precedes_refl weights x))
          (λ h. precedes_trans weights x u v ((precedes-true weights x u).0 e) (c.1 v h)),
    )
    go false e =
        (inr c.0, λ v. ⊎_elim (λ (q : v ≡ x). subst⁻¹ (λ (z : List ℕ). Precedes weights u z) q later) (c.1 v))
      where
        later : Precedes weights u x
        later = ⊎_elim (λ h. absurd (false-not-true (sym e ∙ (precedes-true weights x u).1 h))) (λ h. h) (precedes_total weights x u)

chosen_meets : (weights : List ℕ) (xs : List (List ℕ)) → Chosen weights xs (chosen weights xs)
unfolding chosen
chosen_meets weights [] = λ v h. h
chosen_meets weights (x ∷ xs) = preferred-chosen weights x xs (chosen weights xs) (chosen_meets weights xs)

-- ---- the law

cheapest_of-chosen : (p : ℕ) (most weights : List ℕ) (o : Option (List ℕ)) → Chosen weights (those (is_even p) (cuts_within most)) o → Cheapest p most weights o
cheapest_of-chosen p most weights o c = go o c
  where
    member : (v : List ℕ) → Within most v → Even p v → In v (those (is_even p) (cuts_within most))
    member v f e = (those_in (is_even p) v (cuts_within most)).1 (in-cuts_within most v f, (is_even-true p v).1 e)

    go : (o : Option (List ℕ)) → Chosen weights (those (is_even p) (cuts_within most)) o → Cheapest p most weights o
    go none c = λ v f e. c v (member v f e)
    go (some u) c =
        let i = (those_in (is_even p) u (cuts_within most)).0 c.0 in
        (within_of_in most u i.0, (is_even-true p u).0 i.1, λ v f e. c.1 v (member v f e))

-- `cheapest_within` answers as it must
pub cheapest_meets : (p : ℕ) (most weights : List ℕ) → Cheapest p most weights (cheapest_within p most weights)
unfolding cheapest_within
cheapest_meets p most weights =
    cheapest_of-chosen p most weights (chosen weights (those (is_even p) (cuts_within most))) (chosen_meets weights (those (is_even p) (cuts_within most)))

cheapest_unique : (p : ℕ) (most weights : List ℕ) (o q : Option (List ℕ)) → Cheapest p most weights o → Cheapest p most weights q → o ≡ q
cheapest_unique p most weights none none h k = refl
cheapest_unique p most weights none (some v) h k = absurd (h v k.0 k.1)
cheapest_unique p most weights (some u) none h k = absurd (k u h.0 h.1)
cheapest_unique p most weights (some u) (some v) h k = ap some (precedes_antisymm weights u v (h.2 v k.0 k.1) (k.2 u h.0 h.1))

-- and nothing else is as it must be
pub cheapest_only : (p : ℕ) (most weights : List ℕ) (o : Option (List ℕ)) → Cheapest p most weights o → cheapest_within p most weights ≡ o
cheapest_only p most weights o h = cheapest_unique p most weights (cheapest_within p most weights) o (cheapest_meets p most weights) h

-- the law by which others use `cheapest_within`
pub cheapest_law : (p : ℕ) (most weights : List ℕ) (o : Option (List ℕ)) → (cheapest_within p most weights ≡ o) ↔ Cheapest p most weights o
cheapest_law p most weights o =
    ((λ e. subst (λ (q : Option (List ℕ)). Cheapest p most weights q) e (cheapest_meets p most weights)), cheapest_only p most weights o)

pub cheapest_within_lem : (p : ℕ) (most weights u : List ℕ) → cheapest_within p most weights ≡ some u → Within most u
cheapest_within_lem p most weights u e = ((cheapest_law p most weights (some u)).0 e).0

pub cheapest_even : (p : ℕ) (most weights u : List ℕ) → cheapest_within p most weights ≡ some u → Even p u
cheapest_even p most weights u e = ((cheapest_law p most weights (some u)).0 e).1

pub cheapest-precedes : (p : ℕ) (most weights u v : List ℕ) → cheapest_within p most weights ≡ some u → Within most v → Even p v → Precedes weights u v
cheapest-precedes p most weights u v e f even = ((cheapest_law p most weights (some u)).0 e).2 v f even

-- no even cuts within `most` are cheaper than those that it answers
pub cheapest-le : (p : ℕ) (most weights u v : List ℕ) → cheapest_within p most weights ≡ some u → Within most v → Even p v → cost_of weights u ≤ cost_of weights v
cheapest-le p most weights u v e f even = precedes-le weights u v (cheapest-precedes p most weights u v e f even)

-- it answers nothing only where no cuts within `most` are even: refusal 5
pub cheapest_none : (p : ℕ) (most weights v : List ℕ) → cheapest_within p most weights ≡ none → Within most v → Even p v → ⊥
cheapest_none p most weights v e f even = (cheapest_law p most weights none).0 e v f even
