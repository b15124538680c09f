-- The job of a line: the numbers after d in three parts.
use mathlib.Core.Path.{◌≡◌, ap, ◌∙◌}
use mathlib.Core.List.{List}
use mathlib.Core.Logic.{◌⊎◌, inl, inr, ◌↔◌, ⊎_elim}
use Prim.Native.Nat.{ℕ, ◌-◌, ◌*◌, ◌≤◌, ◌<◌, min}
use native.Mathlib.Omega.{arith}
use lib.ListN.{length, take, drop, get_or, length-take, length-drop, drop_of_length-le}
use lib.Seq.{take_all}
use Rattle.numerals.proofs.Decimal.{lt_or-le}
use Rattle.multipartition.specs.Plans.{least_of, job_with}
use Rattle.multipartition.proofs.Jobs.{least_many_iff}
use Rattle.plan.specs.Prints.{job_of_line}

-- "refusal 3 means neither 2·d nor 3·d after d"
pub parts_iff : (d : ℕ) (numbers : List ℕ)
    → ((length (take d numbers) ≡ d) × (length (take d (drop d numbers)) ≡ d) × (length (least_of d (drop d (drop d numbers))) ≡ d))
    ↔ ((length numbers ≡ 2 * d) ⊎ (length numbers ≡ 3 * d))
parts_iff d numbers = (there, ⊎_elim two three)
  where
    first : length (take d numbers) ≡ min d (length numbers)
    first = length-take d numbers

    others : length (drop d numbers) ≡ length numbers - d
    others = length-drop d numbers

    second : length (take d (drop d numbers)) ≡ min d (length (drop d numbers))
    second = length-take d (drop d numbers)

    third : length (drop d (drop d numbers)) ≡ length (drop d numbers) - d
    third = length-drop d (drop d numbers)

    many : (length (least_of d (drop d (drop d numbers))) ≡ d) ↔ ((length (drop d (drop d numbers)) ≡ 0) ⊎ (length (drop d (drop d numbers)) ≡ d))
    many = least_many_iff d (drop d (drop d numbers))

    there : (length (take d numbers) ≡ d) × (length (take d (drop d numbers)) ≡ d) × (length (least_of d (drop d (drop d numbers))) ≡ d)
        → (length numbers ≡ 2 * d) ⊎ (length numbers ≡ 3 * d)
    there h =
        ⊎_elim
        (λ e. inl (omega (arith, h.0, h.1, e, first, others, second, third)))
        (λ e. inr (omega (arith, h.0, h.1, e, first, others, second, third)))
        (many.0 h.2)

    two : length numbers ≡ 2 * d → (length (take d numbers) ≡ d) × (length (take d (drop d numbers)) ≡ d) × (length (least_of d (drop d (drop d numbers))) ≡ d)
    two e = (omega (arith, first), omega (arith, others, second), many.1 (inl (omega (arith, others, third))))

    three : length numbers ≡ 3 * d → (length (take d numbers) ≡ d) × (length (take d (drop d numbers)) ≡ d) × (length (least_of d (drop d (drop d numbers))) ≡ d)
    three e = (omega (arith, first), omega (arith, others, second), many.1 (inr (omega (arith, others, third))))

-- a part, cut where there are so many numbers
pub take_lesser : (d : ℕ) (numbers : List ℕ) → take (min d (length numbers)) numbers ≡ take d numbers
take_lesser d numbers = ⊎_elim shorter longer (lt_or-le d (length numbers))
  where
    shorter : d < length numbers → take (min d (length numbers)) numbers ≡ take d numbers
    shorter h = let e : min d (length numbers) ≡ d = omega arith in ap (λ (n : ℕ). take n numbers) e

    longer : length numbers ≤ d → take (min d (length numbers)) numbers ≡ take d numbers
    longer h = take_all (min d (length numbers)) numbers (omega arith) ∙ rw (take_all d numbers h)

drop_lesser : (d : ℕ) (numbers : List ℕ) → drop (min d (length numbers)) numbers ≡ drop d numbers
drop_lesser d numbers = ⊎_elim shorter longer (lt_or-le d (length numbers))
  where
    shorter : d < length numbers → drop (min d (length numbers)) numbers ≡ drop d numbers
    shorter h = let e : min d (length numbers) ≡ d = omega arith in ap (λ (n : ℕ). drop n numbers) e

    longer : length numbers ≤ d → drop (min d (length numbers)) numbers ≡ drop d numbers
    longer h =
        let some : length numbers ≤ min d (length numbers) = omega arith in
        drop_of_length-le numbers some ∙ rw (drop_of_length-le numbers h)

-- the job of parts that are cut where there are so many numbers
pub job_of_parts : (p d : ℕ) (numbers extents others weights least : List ℕ) (first second : ℕ)
    → first ≡ min d (length numbers) → extents ≡ take first numbers → others ≡ drop first numbers
    → second ≡ min d (length others) → weights ≡ take second others → least ≡ drop second others
    → job_with p d extents weights least ≡ job_of_line p d numbers
unfolding job_of_line
job_of_parts p d numbers extents others weights least first second f e o s w l =
    same
    (e ∙ ap (λ (n : ℕ). take n numbers) f ∙ take_lesser d numbers)
    (w ∙ ap (λ (n : ℕ). take n others) s ∙ take_lesser d others ∙ ap (take d) behind)
    (l ∙ ap (λ (n : ℕ). drop n others) s ∙ drop_lesser d others ∙ ap (drop d) behind)
  where
    behind : others ≡ drop d numbers
    behind = o ∙ ap (λ (n : ℕ). drop n numbers) f ∙ drop_lesser d numbers

    same : {extents extents' weights weights' given given' : List ℕ} → extents ≡ extents' → weights ≡ weights' → given ≡ given'
        → job_with p d extents weights given ≡ job_with p d extents' weights' given'
    same e w g = λ i. job_with p d (e i) (w i) (g i)

-- the job of the numbers that are read
pub job_of_read : (ns a b c : List ℕ) → a ≡ ns → b ≡ ns → c ≡ ns
    → job_of_line (get_or a 0 0) (get_or b 1 0) (take (length c - 2) (drop 2 c)) ≡ job_of_line (get_or ns 0 0) (get_or ns 1 0) (drop 2 ns)
job_of_read ns a b c e f g = rw (e, f, g, take_all (length ns - 2) (drop 2 ns) (omega (arith, length-drop 2 ns)))
