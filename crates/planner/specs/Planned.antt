-- What the planner answers (document 01, "Where each call turns back").
use Rattle.std.specs.Prelude.{[], ◌∷◌, List}
use Rattle.multipartition.specs.Answers.{Answer, answered, refused, Check, checked}
use Rattle.multipartition.specs.Jobs.{dimensions_check, processors_check, lengths_check, extents_check, least_check, job_checks}
use Rattle.multipartition.specs.Plans.{Job, Layout}
use Rattle.layout.specs.declared.Plan.{Plan}
use Rattle.layout.specs.Plans.{plan_of}
use Rattle.planner.specs.declared.jobs.PassedJob.{PassedJob}
use Rattle.planner.specs.Asked.{asked}

-- an answer, with the plan by value; "a refusal carries its number and a place (0 unless named)"
abbrev pub planned_answer : Answer Layout → Answer Plan
planned_answer (answered layout) = answered (plan_of layout)
planned_answer (refused number place) = refused number place

-- the lines 1 and 2 of the table
abbrev pub size_checks : Job → List Check
size_checks job = dimensions_check job.d ∷ processors_check job.p ∷ []

-- the lines 3 and 4, and 13
abbrev pub list_checks : Job → List Check
list_checks job = lengths_check job ∷ extents_check job ∷ least_check job ∷ []

-- a job that passes them all
abbrev pub job_answer : Job → Answer Job
job_answer job = checked (job_checks job) (answered job)

-- the same of a job that passes the lines 1 and 2
abbrev pub lists_answer : Job → Answer Job
lists_answer job = checked (list_checks job) (answered job)

-- the job that passed
abbrev pub passed_job : PassedJob → Job
passed_job passed = asked passed.job
