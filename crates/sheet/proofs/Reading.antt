-- What a page that is answered holds, and that the tiles per processor are exact for the planner's and diagonal plans.
use mathlib.Core.Path.{◌≡◌, refl, sym, ap, ◌∙◌, subst, subst⁻¹}
use mathlib.Core.Bool.{true}
use mathlib.Core.List.{List, [], ◌∷◌, ◌++◌}
use mathlib.Core.Logic.{◌↔◌}
use Prim.Native.Nat.{ℕ, ◌+◌, ◌-◌, ◌*◌, ◌/◌, ◌%◌, ◌≤◌, ◌<◌, ◌∣◌}
use native.Mathlib.Nat.{div-mul_cancel}
use native.Mathlib.Omega.{arith}
use borrow.Author.Tests.{leb-true, le-leb, lt-ltb, le-ltb, eqb-true, eq-eqb, not-false}
use lib.Dec.{leb, eqb}
use lib.ListN.{length}
use Rattle.multipartition.specs.Answers.{answered, Check}
use Rattle.multipartition.specs.Jobs.{plan_answer}
use Rattle.multipartition.specs.Plans.{Job, Layout, tiles_of, between, in_shape}
use Rattle.multipartition.specs.Questions.{extent_of, cut_of, owner_by, shape_check, dimension_check, range_check, length_check, slab_answer}
use Rattle.multipartition.specs.Slabs.{slab_start, slab_end}
use Rattle.multipartition.proofs.Answers.{answers_iff}
use Rattle.multipartition.proofs.BothWays.{slab_answered}
use Rattle.multipartition.proofs.Plans.{in_shape_iff}
use Rattle.multipartition.proofs.Tests.{between-true_iff}
use Rattle.multipartition.proofs.Tiles.{lt-length}
use Rattle.layout.specs.declared.Plan.{Plan}
use Rattle.layout.specs.Plans.{layout_of, plan_of}
use Rattle.layout.proofs.Plans.{layout_of-plan}
use Rattle.planner.proofs.Answers.{plan_sized}
use Rattle.diagonal.specs.Diagonal.{diagonal_answer}
use Rattle.diagonal.proofs.Answers.{diagonal_answer_sized}
use Rattle.rivals.specs.Demand3.{owner_in, EvenPlan}
use Rattle.rivals.proofs.EvenPlans.{held-ext, owner_by_lem}
use Rattle.rivals.proofs.Demand3.{planner_even}
use Rattle.rivals.proofs.DiagonalPlans.{diagonal_even}
use Rattle.sheet.specs.Lines.{blanks, slab_line}
use Rattle.sheet.specs.Pages.{tiles_each, sheet_line, sheet_page, sheet_answer, Fits}
use Rattle.sheet.specs.Reading.{line_in, PageOf, ExactShare}
use Rattle.sheet.proofs.Outcomes.{each_high}
use Rattle.sheet.proofs.Pages.{length-sheet_line, length_lines, line_at}

-- ---- what it takes for a page to be answered

-- a question that passes the checks
pub record Asked (plan : Layout) (k page places : ℕ) : Type 0 where
  pub shape : in_shape plan ≡ true
  pub dimension : between 1 plan.d k ≡ true
  pub page_within : page ≤ (cut_of plan k - 1) / 50
  pub page_long : places ≡ 3650

module _ (plan : Layout) (k page : ℕ) (caption : List ℕ) (places : ℕ) where
  pub sheet_answered : (bytes : List ℕ) → (sheet_answer plan k page caption places ≡ answered bytes) ↔ (Asked plan k page places × (sheet_page plan k page caption ≡ bytes))
  unfolding sheet_answer
  sheet_answered bytes = (there, back)
    where
      checks : List Check
      checks = shape_check plan ∷ dimension_check plan k ∷ range_check (leb page ((cut_of plan k - 1) / 50)) ∷ length_check (eqb places 3650) ∷ []

      there : sheet_answer plan k page caption places ≡ answered bytes → Asked plan k page places × (sheet_page plan k page caption ≡ bytes)
      there e =
          let h = (answers_iff checks (sheet_page plan k page caption) bytes).0 e in (
            record {
              shape = not-false (in_shape plan) h.0.0;
              dimension = not-false (between 1 plan.d k) h.0.1.0;
              page_within = leb-true _ _ (not-false (leb page ((cut_of plan k - 1) / 50)) h.0.1.1.0);
              page_long = eqb-true _ _ (not-false (eqb places 3650) h.0.1.1.1.0);
            },
            h.1,
          )

      back : Asked plan k page places × (sheet_page plan k page caption ≡ bytes) → sheet_answer plan k page caption places ≡ answered bytes
      back (asked, e) = rw (asked.shape, asked.dimension, le-leb _ _ asked.page_within, eq-eqb _ _ asked.page_long) (ap answered e)

-- ---- a dimension of a plan in shape

module _ (plan : Layout) (k : ℕ) (shape : in_shape plan ≡ true) (dimension : between 1 plan.d k ≡ true) where
  in_d : k - 1 < plan.d
  in_d = let bounds = (between-true_iff 1 plan.d k).0 dimension in omega (arith, bounds.0, bounds.1)

  fits : Fits (extent_of plan k) (cut_of plan k) (tiles_each plan k)
  fits =
      let facts = (in_shape_iff plan).0 shape in
      let cut = facts.cut_range (k - 1) in_d in
      record {
        extent_high = (facts.extent_range (k - 1) in_d).1;
        cut_low = cut.0;
        cut_high = cut.2;
        cut_fits = cut.1;
        share_high = omega (arith, each_high plan k, facts.tiles_high);
      }

-- ---- the page

-- a slab's line, and a blank one
slab_line-at : (n b share : ℕ) (caption : List ℕ) (s at first after : ℕ) → at ≡ s → s < b → slab_start n b s ≡ first → slab_end n b s ≡ after
    → sheet_line n b share caption at ≡ slab_line s first after share caption
unfolding sheet_line
slab_line-at n b share caption s at first after e l f a = rw (e, lt-ltb s b l, f, a)

blank_line-at : (n b share : ℕ) (caption : List ℕ) (at : ℕ) → b ≤ at → sheet_line n b share caption at ≡ blanks 72
unfolding sheet_line
blank_line-at n b share caption at l = rw (le-ltb at b l)

pub page_of : (plan : Layout) (k page : ℕ) (caption : List ℕ) (places : ℕ) (bytes : List ℕ) → sheet_answer plan k page caption places ≡ answered bytes
    → PageOf plan k page caption bytes
unfolding sheet_page
page_of plan k page caption places bytes e =
    record {
      long = ap length (sym same) ∙ length_lines line columns (page * 50) 50;
      has_slab = omega (arith, asked.page_within, fit.cut_low);
      slab_line_lem = λ s first after on e'.
          let h = (slab_answered plan k s (first, after)).0 e' in
          let at : page * 50 + s % 50 ≡ s = omega (arith, on) in
          here (s % 50) (omega arith)
          ∙ ap (λ (l : List ℕ). l ++ (10 ∷ []))
          (slab_line-at n b share caption s (page * 50 + s % 50) first after at h.2 (ap (λ (ends : ℕ × ℕ). ends.0) h.3) (ap (λ (ends : ℕ × ℕ). ends.1) h.3));
      blank_line = λ i l past. here i l ∙ ap (λ (l : List ℕ). l ++ (10 ∷ [])) (blank_line-at n b share caption (page * 50 + i) past);
    }
  where
    n : ℕ
    n = extent_of plan k

    b : ℕ
    b = cut_of plan k

    share : ℕ
    share = tiles_each plan k

    asked : Asked plan k page places
    asked = ((sheet_answered plan k page caption places bytes).0 e).0

    same : sheet_page plan k page caption ≡ bytes
    same = ((sheet_answered plan k page caption places bytes).0 e).1

    fit : Fits n b share
    fit = fits plan k asked.shape asked.dimension

    line : ℕ → List ℕ
    line = sheet_line n b share caption

    columns : (s : ℕ) → length (line s) ≡ 72
    columns = length-sheet_line n b share fit caption

    here : (i : ℕ) → i < 50 → line_in bytes i ≡ line (page * 50 + i) ++ (10 ∷ [])
    here i l = ap (λ (t : List ℕ). line_in t i) (sym same) ∙ line_at line columns (page * 50) 50 i l

-- every slab stands on a page that is answered
pub slab_on_page : (plan : Layout) (k s : ℕ) (ends : ℕ × ℕ) (caption : List ℕ) → slab_answer plan k s ≡ answered ends
    → sheet_answer plan k (s / 50) caption 3650 ≡ answered (sheet_page plan k (s / 50) caption)
slab_on_page plan k s ends caption e =
    let h = (slab_answered plan k s ends).0 e in
    (sheet_answered plan k (s / 50) caption 3650 (sheet_page plan k (s / 50) caption)).1
    (record { shape = h.0; dimension = h.1; page_within = omega (arith, h.2); page_long = refl }, refl)

-- ---- the tiles per processor of even plans: the planner's and diagonal ones

pub even_share : (job : Job) (plan : Plan) → EvenPlan job plan → (k : ℕ) → between 1 (layout_of plan).d k ≡ true → ExactShare (layout_of plan) k
unfolding tiles_each
even_share job plan even k dimension =
    record {
      exact = div-mul_cancel (cut_of layout k * layout.p) (subst⁻¹ (λ (n : ℕ). cut_of layout k * n ∣ tiles_of layout) p_is (even.share_exact (k - 1) in_cuts));
      owned = λ s q l m.
          sym (held-ext layout.cuts (owner_in plan) (owner_by layout) (k - 1) s q (λ x w. owner_by_lem job plan even.holds_job even.is_in_shape x w))
          ∙ even.shares (k - 1) s q in_cuts l (subst (λ (n : ℕ). q < n) p_is m)
          ∙ ap (λ (n : ℕ). tiles_of layout / (cut_of layout k * n)) (sym p_is);
    }
  where
    layout : Layout
    layout = layout_of plan

    p_is : layout.p ≡ job.p
    p_is = ap (λ (j : Job). j.p) even.holds_job

    in_cuts : k - 1 < length layout.cuts
    in_cuts = lt-length layout.cuts (k - 1) (fits layout k even.is_in_shape dimension).cut_low

-- the same of what `plan_job` and `diagonal_job` answer
module _ (job : Job) (layout : Layout) (k : ℕ) (dimension : between 1 layout.d k ≡ true) where
  share_of_lem : layout_of (plan_of layout) ≡ layout → EvenPlan job (plan_of layout) → ExactShare layout k
  share_of_lem same even =
      subst (λ (plan : Layout). ExactShare plan k) same
      (even_share job (plan_of layout) even k (subst⁻¹ (λ (plan : Layout). between 1 plan.d k ≡ true) same dimension))

  pub planner_share : plan_answer job ≡ answered layout → ExactShare layout k
  planner_share made = share_of_lem (layout_of-plan layout (plan_sized job layout made)) (planner_even job layout made)

  pub diagonal_share : diagonal_answer job ≡ answered layout → ExactShare layout k
  diagonal_share made = share_of_lem (layout_of-plan layout (diagonal_answer_sized job layout made)) (diagonal_even job layout made)
