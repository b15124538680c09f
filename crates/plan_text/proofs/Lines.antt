-- The lines of a printed plan: a line of the neighbours processor by processor, and the lines of the neighbours by the cut.
use mathlib.Core.Path.{◌≡◌, refl, sym, ap, ◌∙◌}
use mathlib.Core.Bool.{true}
use mathlib.Core.List.{List, [], ◌∷◌, ◌++◌, map, append_assoc, append-nil}
use mathlib.Core.Option.{Option, none, some}
use Prim.Native.Nat.{ℕ, zero, suc, ◌+◌, ◌-◌, ◌≤◌}
use native.Mathlib.Numerals.{add-one}
use native.Mathlib.Omega.{arith}
use lib.ListN.{get_or}
use borrow.Author.Tests.{eq-eqb, ne_eqb}
use Rattle.numerals.specs.Words.{bytes_of}
use Rattle.numerals.specs.Decimal.{decimal}
use Rattle.numerals.specs.Lines.{line_of}
use Rattle.numerals.proofs.Lines.{followed, line-followed}
use Rattle.multipartition.specs.Lists.{list_of}
use Rattle.multipartition.specs.Plans.{Layout}
use Rattle.multipartition.specs.Neighbours.{next_owner, neighbour_at}
use Rattle.plan_text.specs.PlanText.{joined, processors, or_none, up_line}

-- ---- texts one after the other

pub joined_none : (f : ℕ → List ℕ) → joined 0 f ≡ []
unfolding joined
joined_none f = refl

pub joined-add-one : (n : ℕ) (f : ℕ → List ℕ) → joined (n + 1) f ≡ joined n f ++ f n
unfolding joined
joined-add-one n f = ap (λ (k : ℕ). joined k f) (add-one n)

-- ---- a line of numbers f 0, f 1, ..

pub followed_none : (f : ℕ → ℕ) → followed (list_of 1 0 f) ≡ []
unfolding list_of
followed_none f = refl

pub followed_more : (from n : ℕ) (f : ℕ → ℕ) → followed (list_of from (suc n) f) ≡ followed (list_of from n f) ++ (32 ∷ decimal (f (from + n)))
unfolding list_of
followed_more from zero f =
    let e : from + 0 ≡ from = omega arith in
    ap (λ (t : List ℕ). 32 ∷ t) (append-nil (decimal (f from))) ∙ ap (λ (m : ℕ). 32 ∷ decimal (f m)) (sym e)
followed_more from (suc n) f =
    let e : suc from + n ≡ from + suc n = omega arith in
    ap (λ (t : List ℕ). 32 ∷ (decimal (f from) ++ t)) (followed_more (suc from) n f)
    ∙ ap (λ (m : ℕ). 32 ∷ (decimal (f from) ++ (followed (list_of (suc from) n f) ++ (32 ∷ decimal (f m))))) e
    ∙ ap (λ (t : List ℕ). 32 ∷ t) (sym (append_assoc (decimal (f from)) (followed (list_of (suc from) n f)) (32 ∷ decimal (f (from + suc n)))))

-- the line of n + 1 numbers: the first, the others, and the newline
pub line_first : (n : ℕ) (f : ℕ → ℕ) → line_of (list_of 0 (suc n) f) ≡ decimal (f 0) ++ (followed (list_of 1 n f) ++ (10 ∷ []))
unfolding list_of
line_first n f = line-followed (f 0) (list_of 1 n f)

-- ---- the line of dimension k, counted from 0, by its cut

processors_none : (g : ℕ → Option ℕ) → ((q : ℕ) → g q ≡ none) → (from n : ℕ) → processors (map g (list_of from n (λ q. q))) ≡ []
unfolding processors list_of
processors_none g e from zero = refl
processors_none g e from (suc n) = rw (e from) (processors_none g e (suc from) n)

processors_some : (g : ℕ → Option ℕ) (f : ℕ → ℕ) → ((q : ℕ) → g q ≡ some (f q)) → (from n : ℕ)
    → processors (map g (list_of from n (λ q. q))) ≡ list_of from n f
unfolding processors list_of
processors_some g f e from zero = refl
processors_some g f e from (suc n) = rw (e from) (ap (λ (l : List ℕ). f from ∷ l) (processors_some g f e (suc from) n))

or_none_some : (n : ℕ) (f : ℕ → ℕ) → 1 ≤ n → or_none (list_of 0 n f) ≡ line_of (list_of 0 n f)
unfolding list_of
or_none_some zero f h = absurd (omega arith)
or_none_some (suc n) f h = refl

module _ (plan : Layout) (k : ℕ) where
  neighbour : ℕ → ℕ → Option ℕ
  neighbour j q = neighbour_at plan.cuts plan.moduli plan.matrix j true q

  up_by : (numbers : List ℕ) → processors (map (neighbour k) (list_of 0 plan.p (λ q. q))) ≡ numbers
      → up_line plan (suc k) ≡ bytes_of "up " ++ (decimal (suc k) ++ (32 ∷ or_none numbers))
  unfolding up_line neighbour
  up_by numbers e =
      let back : suc k - 1 ≡ k = omega arith in
      ap (λ (j : ℕ). bytes_of "up " ++ (decimal (suc k) ++ (32 ∷ or_none (processors (map (neighbour j) (list_of 0 plan.p (λ q. q))))))) back
      ∙ ap (λ (l : List ℕ). bytes_of "up " ++ (decimal (suc k) ++ (32 ∷ or_none l))) e

  pub up_none : get_or plan.cuts k 0 ≡ 1 → up_line plan (suc k) ≡ bytes_of "up " ++ (decimal (suc k) ++ (32 ∷ bytes_of "none\n"))
  unfolding neighbour neighbour_at
  up_none e = up_by [] (processors_none (neighbour k) (λ q. rw (eq-eqb _ _ e)) 0 plan.p)

  pub up-processors : 1 ≤ plan.p → (get_or plan.cuts k 0 ≡ 1 → ⊥)
      → up_line plan (suc k) ≡ bytes_of "up " ++ (decimal (suc k) ++ (32 ∷ line_of (list_of 0 plan.p (next_owner plan.moduli plan.matrix k true))))
  unfolding neighbour neighbour_at
  up-processors h e =
      let next = next_owner plan.moduli plan.matrix k true in
      up_by (list_of 0 plan.p next) (processors_some (neighbour k) next (λ q. rw (ne_eqb _ _ e)) 0 plan.p)
      ∙ ap (λ (t : List ℕ). bytes_of "up " ++ (decimal (suc k) ++ (32 ∷ t))) (or_none_some plan.p next h)
