-- What the program writes, by what the reader answers.
use Rattle.std.specs.Prelude.{◌≡◌, refl, ℕ, Option, Result, Ok, Err, List, [], length, get_or, drop}
use mathlib.Core.Path.{ap, subst}
use Rattle.arrayvec.specs.ArrayVec.{ArrayVec}
use Rattle.numerals.specs.Output.{Written}
use Rattle.numerals.proofs.Written.{written_nothing, written_as}
use Rattle.multipartition.specs.Answers.{Answer, answered}
use Rattle.multipartition.specs.Jobs.{plan_answer}
use Rattle.refusals.specs.declared.Refusal.{Refusal}
use Rattle.refusals.specs.Told.{told, told_by, turned_back, maybe, number_of, place_of}
use Rattle.layout.specs.declared.Plan.{Plan}
use Rattle.job_text.specs.Told.{Reads}
use Rattle.planner.specs.Planned as planner
use Rattle.refused_share.specs.Shares.{share_answer}
use Rattle.plan_text.specs.PlanText.{refused_text, answer_text}
use Rattle.plan_text.specs.Told.{text_answer, Hands}
use Rattle.plan.specs.ShareText.{share_text}
use Rattle.plan.specs.Prints.{job_of_line, program_answer, Answers}
use Rattle.plan.specs.Printed.{planned_answer}
use Rattle.plan.proofs.Planned.{planned_answer_lem}

module _ {input lent list lent' : List ℕ} {printed : Result ℕ Refusal} where
  pub answers_unreadable : (r : Refusal) → Reads input (Err r) → Hands (text_answer (refused_text (number_of r) (place_of r)) (length lent)) printed lent list
      → Answers input (record { printed = printed; told = 0 }) lent list lent' lent'
  unfolding program_answer answer_text share_text
  answers_unreadable r reads h = record {
    printed = refused_text (number_of r) (place_of r);
    told = [];
    right = record { read = turned_back r; finds = reads; prints = refl; tells = refl };
    handed = h;
    written = written_nothing lent' 0;
  }

  pub answers_numbers : {list' : List ℕ} {told_bytes : ℕ} (numbers : ArrayVec ℕ) (planned : Result Plan Refusal) (share : Result (Option ℕ) Refusal)
      → Reads input (Ok numbers)
      → told planned ≡ planner.planned_answer (plan_answer (job_of_line (get_or numbers.items 0 0) (get_or numbers.items 1 0) (drop 2 numbers.items)))
      → told_by maybe share ≡ share_answer (job_of_line (get_or numbers.items 0 0) (get_or numbers.items 1 0) (drop 2 numbers.items))
      → Hands (planned_answer planned (length lent)) printed lent list → Written lent' 0 (share_text (told_by maybe share)) list' told_bytes
      → Answers input (record { printed = printed; told = told_bytes }) lent list lent' list'
  unfolding program_answer
  answers_numbers numbers planned share reads planned_is share_is h w = record {
    printed = answer_text (program_answer plan_answer (answered numbers.items));
    told = share_text (program_answer share_answer (answered numbers.items));
    right = record { read = answered numbers.items; finds = reads; prints = refl; tells = refl };
    handed = subst (λ (a : Answer (List ℕ)). Hands a printed lent list) (planned_answer_lem _ planned (length lent) planned_is) h;
    written = written_as (ap share_text share_is) w;
  }
