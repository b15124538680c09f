-- `slabs_of` meets its contract.
use Rattle.std.proofs.Common.{rules, arith, ◌≡◌, refl, sym, ◌∙◌, Err, ◌≤◌, ◌<◌}
use borrow.Author.Tests.{le-leb, lt-leb, eq-eqb}
use lib.ListN.{length}
use Rattle.multipartition.specs.Answers.{answered, checked}
use Rattle.layout.specs.Plans.{layout_of}
use Rattle.probes.specs.Probes.{slabs_into, probes_answer}
use Rattle.probes.proofs.Falls.{no_fall_iff}
use Rattle.probes.proofs.Outcomes.{line_checks, turned_back, passed, fall_none, fall_some}
use Rattle.probes.proofs.Ranges.{all_within_iff}
use Rattle.tiles.proofs.Along.{answers-refused}
use Rattle.probes.proofs.slabs_of.Goals as goal
use Rattle.probes.proofs.slabs_of.Goals.{In_ok-along}

pub returns-in_err-along : goal.returns-in_err-along
returns-in_err-along c =
    let a = c.args in
    let back : c.from_residual.result ≡ Err c.in_err-along.field-0.0 = search rules in
    rw back (answers-refused _ a.slabs.now _ (turned_back a.plan a.dimension a.elements.now a.slabs.now c.in_err-along.ensures))

-- once the plan has the dimension, the answer is that of the other checks
asked : (c : In_ok-along) → let along = c.in_ok-along.along in let elements = c.args.elements.now in let lent = c.args.slabs.now in
    probes_answer (layout_of c.args.plan) c.args.dimension elements lent
    ≡ checked (line_checks along.extent elements lent) (answered (slabs_into along.extent along.cut elements lent))
asked c =
    let along = c.in_ok-along.along in
    passed c.args.plan c.args.dimension c.args.elements.now c.args.slabs.now along.extent along.cut c.in_ok-along.ensures

pub returns-then-not-all_within : goal.returns-then-not-all_within
returns-then-not-all_within c =
    rw (
      asked (goal.at.returns-then-not-all_within c).In_ok-along,
      sym c.all_within.ensures ∙ c.if-not-all_within.true,
    )
    (record { told = refl; held = refl })

pub returns-then-slabs-elements : goal.returns-then-slabs-elements
returns-then-slabs-elements c =
    let a = c.args in
    let short : length a.slabs.now < length a.elements.now = omega (arith, c.if-slabs-elements.true) in
    rw (
      asked (goal.at.returns-then-slabs-elements c).In_ok-along,
      sym c.all_within.ensures ∙ c.if-not-all_within.false,
      lt-leb _ _ short,
    )
    (record { told = refl; held = refl })

pub returns-in-Some : goal.returns-in-Some
returns-in-Some c =
    let a = c.args in
    let falls = fall_some a.elements.now c.in-Some.place c.in-Some.ensures in
    let room : length a.elements.now ≤ length a.slabs.now = omega (arith, c.if-slabs-elements.false) in
    rw (
      asked (goal.at.returns-in-Some c).In_ok-along,
      sym c.all_within.ensures ∙ c.if-not-all_within.false,
      le-leb _ _ room,
      falls.1,
      falls.0,
    )
    (record { told = refl; held = refl })

pub fill-requires : goal.fill-requires
fill-requires c =
    let elements = c.args.elements.now in (
      record {
        within = (all_within_iff _ elements).0 (sym c.all_within.ensures ∙ c.if-not-all_within.false);
        rises = (no_fall_iff elements).0 (fall_none elements c.in_default.ensures);
      },
      omega (arith, c.if-slabs-elements.false),
    )

pub returns : goal.returns
returns c =
    let a = c.args in
    let long : length a.elements.now ≤ length a.slabs.now = omega (arith, c.if-slabs-elements.false) in
    rw (
      asked (goal.at.returns c).In_ok-along,
      sym c.all_within.ensures ∙ c.if-not-all_within.false,
      le-leb _ _ long,
      eq-eqb _ _ (fall_none a.elements.now c.in_default.ensures),
      c.fill.ensures,
    )
    (record { told = refl; held = refl })
