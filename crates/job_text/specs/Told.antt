-- What the answer of `read_job` says.
use Rattle.std.specs.Prelude.{Result, List, ℕ}
use Rattle.arrayvec.specs.ArrayVec.{ArrayVec}
use Rattle.refusals.specs.declared.Refusal.{Refusal}
use Rattle.refusals.specs.Told.{told_by}
use Rattle.multipartition.specs.Answers.{Answer}
use Rattle.job_text.specs.Readable.{Finds}

-- the numbers of the line, or the refusal
abbrev pub told : Result (ArrayVec ℕ) Refusal → Answer (List ℕ)
told = told_by (λ numbers. numbers.items)

-- the answer to a text: it says what is found there
abbrev pub Reads : List ℕ → Result (ArrayVec ℕ) Refusal → Type 0
Reads text result = Finds text (told result)
