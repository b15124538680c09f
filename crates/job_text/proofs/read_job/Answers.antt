use Rattle.std.specs.Prelude.{◌≡◌, None, Err}
use mathlib.Core.Path.{sym, ap, ◌∙◌}
use Prim.Native.Nat.{ℕ, ◌+◌}
use lib.ListN.{length}
use native.Mathlib.Omega.{arith}
use borrow.Author.Rules.{rules}
use Rattle.multipartition.specs.Answers.{answered, refused}
use Rattle.refusals.specs.declared.Refusal.TheVariants as R
use Rattle.job_text.specs.Machine.{State, at_end, read_from, read_line}
use Rattle.job_text.specs.Readings.{state_of}
use Rattle.job_text.proofs.Finds.{finds_iff_reads}
use Rattle.job_text.proofs.Readings.{astray_byte, no_byte, unfinished}
use Rattle.job_text.specs.declared.Reading.{Reading}
use Rattle.job_text.proofs.read_job.Goals as goal

pub loop-i-init : goal.loop-i-init
unfolding read_line
loop-i-init c = ap (λ (s : State). read_from s 0 c.args.text.now) c.start-reading.ensures

pub returns-in_err-reading : goal.returns-in_err-reading
returns-in_err-reading c =
    let text = c.args.text.now in
    let i = c.loop-i.i in
    let same : c.from_residual.result ≡ Err (R.Text (i + 1)) = search rules in
    let lost : c.take_byte.result ≡ None = search rules in
    rw same
    ((finds_iff_reads text (refused 10 (i + 1))).1 (sym c.loop-i.invariant ∙ astray_byte c.loop-i.reading text i c.loop-i-test.true lost c.take_byte.ensures))

pub returns-in_default : goal.returns-in_default
returns-in_default c =
    let text = c.args.text.now in
    let r = c.loop-i.reading in
    let i = c.loop-i.i in
    let end : i ≡ length text = omega (arith, c.loop-i-test.false, c.loop-i.auto.i-end) in
    (finds_iff_reads text (refused 10 (length text + 1))).1
    (sym c.loop-i.invariant ∙ no_byte (state_of r) text i c.loop-i-test.false ∙ unfinished r i c.in_default.not-Finished ∙ ap (λ (k : ℕ). refused 10 (k + 1)) end)

pub returns : goal.returns
returns c =
    let text = c.args.text.now in
    let r = c.loop-i.reading in
    let i = c.loop-i.i in
    (finds_iff_reads text (answered c.in-Finished.numbers.items)).1
    (sym c.loop-i.invariant ∙ no_byte (state_of r) text i c.loop-i-test.false ∙ ap (λ (q : Reading). at_end (state_of q) i) c.in-Finished.is)
