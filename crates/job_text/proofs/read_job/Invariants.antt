-- `job_text::read_job` meets its contract. The invariant: what is found from here on is what is found in the whole text.
use mathlib.Core.Path.{◌≡◌}
use lib.ListN.{drop}
use Rattle.job_text.specs.Machine.{read_from, read_line}
use Rattle.job_text.specs.Readings.{state_of}
use Rattle.job_text.proofs.read_job.Given as goal

abbrev pub invariant-loop-i : goal.invariant-loop-i
invariant-loop-i l = read_from (state_of l.reading) l.i (drop l.i l.text) ≡ read_line l.text
