-- What the program writes for an input (document 01, "The printed plan"; document 02, request j, for standard error).
use Rattle.std.specs.Prelude.{◌≡◌, List, ◌++◌, ℕ, length, get_or, take, drop}
use Rattle.numerals.specs.Output.{Written}
use Rattle.multipartition.specs.Answers.{Answer, answered, refused}
use Rattle.multipartition.specs.Plans.{Job, job_with}
use Rattle.multipartition.specs.Jobs.{plan_answer}
use Rattle.refused_share.specs.Shares.{share_answer}
use Rattle.job_text.specs.Readable.{Finds}
use Rattle.plan_text.specs.PlanText.{answer_text}
use Rattle.plan_text.specs.Told.{text_answer, Hands}
use Rattle.plan.specs.ShareText.{share_text}
use Rattle.plan.specs.declared.Texts.{Texts}
use Rattle.plan.specs.declared.Counts.{Counts}

-- The job of a line is "p, d, the extents, the weights"; document 02, request g: "The text line may end with d thicknesses". Of the numbers after d the
-- first d are the extents, the next d the weights, and all others the thicknesses, so that "refusal 3 means neither 2·d nor 3·d after d".
unfoldable pub job_of_line : ℕ → ℕ → List ℕ → Job
job_of_line p d numbers = job_with p d (take d numbers) (take d (drop d numbers)) (drop d (drop d numbers))

-- the answer to what is asked of the job of a text. "The text is checked before all else": "after the text come the job checks".
unfoldable pub program_answer : {A : Type 0} → (Job → Answer A) → Answer (List ℕ) → Answer A
program_answer ask (answered numbers) = ask (job_of_line (get_or numbers 0 0) (get_or numbers 1 0) (drop 2 numbers))
program_answer ask (refused number place) = refused number place

-- what is written for an input: the bytes for standard output, and those for standard error
pub record Prints (input printed told : List ℕ) : Type 0 where
  pub read : Answer (List ℕ)
  pub finds : Finds input read
  pub prints : printed ≡ answer_text (program_answer plan_answer read)
  pub tells : told ≡ share_text (program_answer share_answer read)

-- the first is handed over in one lent list, the second written into another, as far as that has room
pub record Answers (input : List ℕ) (texts : Texts) (lent list lent' list' : List ℕ) : Type 0 where
  pub printed : List ℕ
  pub told : List ℕ
  pub right : Prints input printed told
  pub handed : Hands (text_answer printed (length lent)) texts.printed lent list
  pub written : Written lent' 0 told list' texts.told

-- all of a text stands at the front of a lent list, and so many bytes it has
pub record InFront (bytes lent list : List ℕ) (count : ℕ) : Type 0 where
  pub held : list ≡ bytes ++ drop (length bytes) lent
  pub counted : count ≡ length bytes

-- THE PROGRAM between what it reads and what it writes. `read` is read until its list of `places` places is full or the input ends, so that it
-- is the front of the input. Whatever the whole input is, what is written for it stands at the front of the two other lists, all of it.
pub record Runs (places : ℕ) (read lent list lent' list' : List ℕ) (counts : Counts) : Type 0 where
  pub printed : List ℕ
  pub told : List ℕ
  pub right : (input : List ℕ) → take places input ≡ read → Prints input printed told
  pub output : InFront printed lent list counts.printed
  pub error : InFront told lent' list' counts.told
