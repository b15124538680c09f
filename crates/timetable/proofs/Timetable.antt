-- What the timetable promises (document 02, request b), for every plan in shape, whoever made it: what is sent after a step is what is expected
-- before the next, and the lengths of a step add up. The neighbour question's laws carry the first, the slabs' edges the second.
use mathlib.Core.Path.{◌≡◌, refl, sym, ap, ◌∙◌, subst, subst⁻¹}
use mathlib.Core.Logic.{◌↔◌, ◌≢◌}
use mathlib.Core.Bool.{Bool, true, false, not, cond}
use mathlib.Core.List.{List}
use mathlib.Core.Option.{Option, none, some, some-injective, none-ne-some, some-ne-none}
use Prim.Native.Nat.{ℕ, suc, ◌-◌, ◌*◌, ◌/◌, ◌≤◌, ◌<◌, ◌∣◌}
use native.Mathlib.Nat.{le_trans}
use native.Mathlib.Decide.{ℕ_discrete}
use native.Mathlib.Omega.{arith}
use borrow.Author.Tests.{eqb-false, eq-eqb, ne_eqb}
use lib.Dec.{eqb}
use lib.ListN.{length, get_or, set}
use Rattle.numbers.specs.Sums.{sum}
use Rattle.numbers.proofs.Sums.{sum_term-le}
use Rattle.multipartition.specs.Answers.{answered}
use Rattle.multipartition.specs.Jobs.{plan_answer}
use Rattle.multipartition.specs.Neighbours.{next_owner}
use Rattle.multipartition.specs.Plans.{Job, Layout, tiles_of, in_shape, InShape}
use Rattle.multipartition.specs.Questions.{cut_of, owner_by}
use Rattle.multipartition.specs.Rivals.{held}
use Rattle.multipartition.specs.Tiles.{Inside, one_step_on}
use Rattle.multipartition.proofs.GridSums.{sum_cong}
use Rattle.multipartition.proofs.Neighbours.{neighbour_some, next_owner_below}
use Rattle.multipartition.proofs.Plans.{in_shape_iff, in_shape_moduli_positive, in_shape_owner_below, in_shape_neighbour_owns, in_shape_neighbour-returns}
use Rattle.multipartition.proofs.Tiles.{lt-length, step_up, step_down}
use Rattle.layout.specs.declared.Plan.{Plan}
use Rattle.layout.specs.Plans.{layout_of, plan_of}
use Rattle.layout.proofs.Places.{extents_length, cuts_length}
use Rattle.layout.proofs.Plans.{layout_of-plan}
use Rattle.layout.proofs.Shaped.{shaped}
use Rattle.planner.proofs.Answers.{plan_sized}
use Rattle.diagonal.specs.Diagonal.{diagonal_answer}
use Rattle.diagonal.proofs.Answers.{diagonal_answer_sized}
use Rattle.rivals.specs.Demand3.{owner_in, EvenPlan}
use Rattle.rivals.proofs.EvenPlans.{held-ext, owner_by_lem}
use Rattle.rivals.proofs.Demand3.{planner_even}
use Rattle.rivals.proofs.DiagonalPlans.{diagonal_even}
use Rattle.timetable.specs.Timetable.{neighbour_by, other_extents, slab_visited, faces_at, Message, message_with, length_of, sends_after, expects_before, Visit, visit_of, timetable_answer, Asked, Sends, Expects, sent_in}
use Rattle.timetable.proofs.Faces.{Cut, held_faces_move, held_faces-add_up}
use Rattle.timetable.proofs.Answers.{timetable_answered}

-- ---- steps and slabs

slab_visited_below : (b : ℕ) (up : Bool) (s : ℕ) → s < b → slab_visited b up s < b
slab_visited_below b true s l = l
slab_visited_below b false s l = omega arith

-- from the slab of one step to that of the next is one step in the sweep's direction
next_slab : (cuts : List ℕ) (k : ℕ) (up : Bool) (s : ℕ) (x : List ℕ) → suc s < get_or cuts k 0 → get_or x k 0 ≡ slab_visited (get_or cuts k 0) up s
    → one_step_on cuts k up x ≡ some (set x k (slab_visited (get_or cuts k 0) up (suc s)))
next_slab cuts k true s x l e = step_up cuts x k s e l
next_slab cuts k false s x l e = let next : get_or cuts k 0 - 1 - s ≡ suc (get_or cuts k 0 - 1 - suc s) = omega arith in step_down cuts x k (get_or cuts k 0 - 1 - suc s) (e ∙ next)

-- a list has a place whose number is above another
within : (l : List ℕ) (k n : ℕ) → n < get_or l k 0 → k < length l
within l k n h = lt-length l k (omega arith)

-- ---- messages

message_some : (o : Option ℕ) (n r m : ℕ) → message_with o n ≡ some (r, m) → (o ≡ some r) × (n ≡ m)
message_some none n r m e = absurd (none-ne-some (r, m) e)
message_some (some q) n r m e =
    let pair : ◌≡◌ {A = ℕ × ℕ} (q, n) (r, m) = some-injective (q, n) (r, m) e in
    (ap (λ (x : ℕ × ℕ). some x.0) pair, ap (λ (x : ℕ × ℕ). x.1) pair)

-- a message is none where the test says so
message_unless : (t : Bool) (message : Message) (r n : ℕ) → cond t none message ≡ some (r, n) → (t ≡ false) × (message ≡ some (r, n))
message_unless true message r n e = absurd (none-ne-some (r, n) e)
message_unless false message r n e = (refl, e)

length_unless : (t : Bool) (o : Option ℕ) (n : ℕ) → length_of (cond t none (message_with o n)) ≤ n
length_unless true o n = omega arith
length_unless false none n = omega arith
length_unless false (some r) n = omega arith

-- where a neighbour is there unless a = b, the message is none just if a = b
none_iff : (a b : ℕ) (o : Option ℕ) (r n : ℕ) → (a ≢ b → o ≡ some r) → (cond (eqb a b) none (message_with o n) ≡ none) ↔ (a ≡ b)
none_iff a b o r n h = (λ e. go (ℕ_discrete a b) e, λ e. rw (eq-eqb a b e))
  where
    go : Dec (a ≡ b) → cond (eqb a b) none (message_with o n) ≡ none → a ≡ b
    go (yes z) e = z
    go (no z) e = absurd (some-ne-none (r, n) (sym (rw (ne_eqb a b z, h z)) ∙ e))

-- ---- any plan in shape

module _ (plan : Layout) (shape : in_shape plan ≡ true) (k : ℕ) where
  facts : InShape plan
  facts = (in_shape_iff plan).0 shape

  -- along a cut dimension the neighbour is a processor
  neighbour_by_below : (up : Bool) (q r : ℕ) → cut_of plan k ≢ 1 → neighbour_by plan k up q ≡ some r → r < plan.p
  neighbour_by_below up q r cut e =
      subst (λ (n : ℕ). n < plan.p) named
      (subst (λ (n : ℕ). next_owner plan.moduli plan.matrix (k - 1) up q < n) facts.moduli_product
      (next_owner_below plan.moduli plan.matrix (in_shape_moduli_positive plan shape) (k - 1) up q))
    where
      named : next_owner plan.moduli plan.matrix (k - 1) up q ≡ r
      named =
          some-injective (next_owner plan.moduli plan.matrix (k - 1) up q) r
          (sym (neighbour_some plan.cuts plan.moduli plan.matrix (k - 1) up q cut) ∙ e)

  -- What q holds in the slab of a step, its neighbour in the sweep's direction holds in the slab of the next.
  faces_move : (up : Bool) (s q r : ℕ) → suc s < cut_of plan k → q < plan.p → neighbour_by plan k up q ≡ some r
      → faces_at plan k up s q ≡ faces_at plan k up (suc s) r
  unfolding faces_at
  faces_move up s q r l lq e =
      held_faces_move plan.extents plan.cuts (owner_by plan) (k - 1) v w q r
      (slab_visited_below (cut_of plan k) up s (omega arith)) (slab_visited_below (cut_of plan k) up (suc s) l)
      (λ x inside at. (λ own. there x inside at own, λ own. back x inside at own))
    where
      v : ℕ
      v = slab_visited (cut_of plan k) up s

      w : ℕ
      w = slab_visited (cut_of plan k) up (suc s)

      onward : (x : List ℕ) → Inside plan.cuts x → get_or x (k - 1) 0 ≡ v → neighbour_by plan k up (owner_by plan x) ≡ some (owner_by plan (set x (k - 1) w))
      onward x inside at =
          in_shape_neighbour_owns plan shape (k - 1) up x (set x (k - 1) w) (within plan.cuts (k - 1) (suc s) l) inside
          (next_slab plan.cuts (k - 1) up s x l at)

      there : (x : List ℕ) → Inside plan.cuts x → get_or x (k - 1) 0 ≡ v → owner_by plan x ≡ q → owner_by plan (set x (k - 1) w) ≡ r
      there x inside at own =
          some-injective (owner_by plan (set x (k - 1) w)) r (sym (onward x inside at) ∙ ap (neighbour_by plan k up) own ∙ e)

      back : (x : List ℕ) → Inside plan.cuts x → get_or x (k - 1) 0 ≡ v → owner_by plan (set x (k - 1) w) ≡ r → owner_by plan x ≡ q
      back x inside at own =
          some-injective (owner_by plan x) q
          (sym (in_shape_neighbour-returns plan shape (k - 1) up (owner_by plan x) (owner_by plan (set x (k - 1) w)) (in_shape_owner_below plan shape x) (onward x inside at))
          ∙ ap (neighbour_by plan k (not up)) own
          ∙ in_shape_neighbour-returns plan shape (k - 1) up q r lq e)

  -- In every slab that is visited the faces of all processors add up to the product of the other extents.
  faces-add_up : length plan.extents ≡ plan.d → length plan.cuts ≡ plan.d → (up : Bool) (s : ℕ) → s < cut_of plan k
      → sum plan.p (faces_at plan k up s) ≡ other_extents plan k
  unfolding faces_at
  faces-add_up extents_many cuts_many up s l =
      held_faces-add_up plan.extents plan.cuts (owner_by plan) (k - 1) plan.p (slab_visited (cut_of plan k) up s)
      (λ x inside. in_shape_owner_below plan shape x) (extents_many ∙ sym cuts_many) cut (within plan.cuts (k - 1) s l)
      (slab_visited_below (cut_of plan k) up s l)
    where
      cut : Cut plan.extents plan.cuts
      cut j m = let range = facts.cut_range j (subst (λ (n : ℕ). j < n) cuts_many m) in (range.0, range.1)

-- ---- what the timetable answers

-- the same question about another step and processor
asked_of : (plan : Layout) (k s q s' q' : ℕ) → Asked plan k s q → s' < cut_of plan k → q' < plan.p → Asked plan k s' q'
asked_of plan k s q s' q' asked ls lq = record {
  shape = asked.shape;
  dimension = asked.dimension;
  extents_fit = asked.extents_fit;
  step_below = ls;
  processor_below = lq;
}

not-not : (up : Bool) → not (not up) ≡ up
not-not true = refl
not-not false = refl

-- "what a processor sends after a step is exactly what its receiver expects before the next", and the receiver names the sender
pub sent_iff_expected : (plan : Layout) (k : ℕ) (up : Bool) (s q r n : ℕ) → Sends plan k up s q r n ↔ Expects plan k up (suc s) r q n
unfolding visit_of sends_after expects_before
sent_iff_expected plan k up s q r n = (there, back)
  where
    there : Sends plan k up s q r n → Expects plan k up (suc s) r q n
    there (visit, e, sends) =
        let answer = (timetable_answered plan k up s q visit).0 e in
        let asked = answer.0 in
        let sent : sends_after plan k up s q ≡ some (r, n) = ap (λ (v : Visit). v.sends) answer.1 ∙ sends in
        let parts = message_unless (eqb (suc s) (cut_of plan k)) (message_with (neighbour_by plan k up q) (faces_at plan k up s q)) r n sent in
        let message = message_some (neighbour_by plan k up q) (faces_at plan k up s q) r n parts.1 in
        let more : suc s < cut_of plan k = omega (arith, eqb-false (suc s) (cut_of plan k) parts.0, asked.step_below) in
        let cut : cut_of plan k ≢ 1 = λ z. absurd (omega arith) in
        let below : r < plan.p = neighbour_by_below plan asked.shape k up q r cut message.0 in
        let returns : neighbour_by plan k (not up) r ≡ some q = in_shape_neighbour-returns plan asked.shape (k - 1) up q r asked.processor_below message.0 in
        let length-is : faces_at plan k up (suc s) r ≡ n = sym (faces_move plan asked.shape k up s q r more asked.processor_below message.0) ∙ message.1 in (
          visit_of plan k up (suc s) r,
          (timetable_answered plan k up (suc s) r (visit_of plan k up (suc s) r)).1 (asked_of plan k s q (suc s) r asked more below, refl),
          rw (ne_eqb (suc s) 0 (λ z. absurd (omega arith)), returns, length-is),
        )

    back : Expects plan k up (suc s) r q n → Sends plan k up s q r n
    back (visit, e, expects) =
        let answer = (timetable_answered plan k up (suc s) r visit).0 e in
        let asked = answer.0 in
        let expected : expects_before plan k up (suc s) r ≡ some (q, n) = ap (λ (v : Visit). v.expects) answer.1 ∙ expects in
        let parts = message_unless (eqb (suc s) 0) (message_with (neighbour_by plan k (not up) r) (faces_at plan k up (suc s) r)) q n expected in
        let message = message_some (neighbour_by plan k (not up) r) (faces_at plan k up (suc s) r) q n parts.1 in
        let cut : cut_of plan k ≢ 1 = λ z. absurd (omega (arith, asked.step_below)) in
        let below : q < plan.p = neighbour_by_below plan asked.shape k (not up) r q cut message.0 in
        let forth : neighbour_by plan k up q ≡ some r =
        subst (λ (u : Bool). neighbour_by plan k u q ≡ some r) (not-not up)
        (in_shape_neighbour-returns plan asked.shape (k - 1) (not up) r q asked.processor_below message.0) in
        let length-is : faces_at plan k up s q ≡ n = faces_move plan asked.shape k up s q r asked.step_below below forth ∙ message.1 in (
          visit_of plan k up s q,
          (timetable_answered plan k up s q (visit_of plan k up s q)).1 (asked_of plan k (suc s) r s q asked (omega (arith, asked.step_below)) below, refl),
          rw (ne_eqb (suc s) (cut_of plan k) (λ z. absurd (omega (arith, asked.step_below))), forth, length-is),
        )

module _ (plan : Layout) (k : ℕ) (up : Bool) (s q : ℕ) (visit : Visit) (e : timetable_answer plan k up s q ≡ answered visit) where
  answer : Asked plan k s q × (visit_of plan k up s q ≡ visit)
  answer = (timetable_answered plan k up s q visit).0 e

  pub asked : Asked plan k s q
  asked = answer.0

  -- with another slab the dimension is cut, and every processor has a neighbour
  neighbour_there : (dir : Bool) (r : ℕ) → cut_of plan k ≢ 1 → neighbour_by plan k dir r ≡ some (next_owner plan.moduli plan.matrix (k - 1) dir r)
  neighbour_there dir r cut = neighbour_some plan.cuts plan.moduli plan.matrix (k - 1) dir r cut

  -- "After the last step nothing is sent", and in no other case
  pub sends_none_iff : (visit.sends ≡ none) ↔ (suc s ≡ cut_of plan k)
  unfolding visit_of sends_after
  sends_none_iff =
      subst (λ (v : Visit). (v.sends ≡ none) ↔ (suc s ≡ cut_of plan k)) answer.1
      (none_iff (suc s) (cut_of plan k) (neighbour_by plan k up q) (next_owner plan.moduli plan.matrix (k - 1) up q) (faces_at plan k up s q)
      (λ more. neighbour_there up q (λ one. more (omega (arith, asked.step_below)))))

  -- "before step 0 nothing is expected", and in no other case
  pub expects_none_iff : (visit.expects ≡ none) ↔ (s ≡ 0)
  unfolding visit_of expects_before
  expects_none_iff =
      subst (λ (v : Visit). (v.expects ≡ none) ↔ (s ≡ 0)) answer.1
      (none_iff s 0 (neighbour_by plan k (not up) q) (next_owner plan.moduli plan.matrix (k - 1) (not up) q) (faces_at plan k up s q)
      (λ more. neighbour_there (not up) q (λ one. more (omega (arith, asked.step_below)))))

  -- unless it is the last step, every processor sends its faces
  sent-length : suc s ≢ cut_of plan k → (r : ℕ) → r < plan.p → sent_in (timetable_answer plan k up s r) ≡ faces_at plan k up s r
  unfolding visit_of sends_after
  sent-length more r l =
      ap sent_in ((timetable_answered plan k up s r (visit_of plan k up s r)).1 (asked_of plan k s q s r asked asked.step_below l, refl))
      ∙ rw (ne_eqb (suc s) (cut_of plan k) more, neighbour_there up r (λ z. more (omega (arith, asked.step_below))))

  -- "the slab visited, how many tiles that processor works on"
  pub slab_is : visit.slab ≡ slab_visited (cut_of plan k) up s
  unfolding visit_of
  slab_is = sym (ap (λ (v : Visit). v.slab) answer.1)

  pub tiles_are-held : visit.tiles ≡ held plan.cuts (owner_by plan) (k - 1) visit.slab q
  unfolding visit_of
  tiles_are-held = subst (λ (v : Visit). v.tiles ≡ held plan.cuts (owner_by plan) (k - 1) v.slab q) answer.1 refl

-- ---- plans by value: their lists have d numbers each

module _ (plan : Plan) (k : ℕ) (up : Bool) (s q : ℕ) (visit : Visit) (e : timetable_answer (layout_of plan) k up s q ≡ answered visit) where
  asked_here : Asked (layout_of plan) k s q
  asked_here = asked (layout_of plan) k up s q visit e

  slab_faces-add_up : sum (layout_of plan).p (faces_at (layout_of plan) k up s) ≡ other_extents (layout_of plan) k
  unfolding layout_of
  slab_faces-add_up =
      let facts = shaped plan asked_here.shape in
      faces-add_up (layout_of plan) asked_here.shape k (extents_length plan facts) (cuts_length plan facts) up s asked_here.step_below

  -- "except after the last step the lengths of one step add up to the product of the other extents": where one processor is answered, all are
  pub lengths-add_up : suc s ≢ cut_of (layout_of plan) k
      → sum plan.p (λ r. sent_in (timetable_answer (layout_of plan) k up s r)) ≡ other_extents (layout_of plan) k
  unfolding layout_of
  lengths-add_up more =
      sum_cong plan.p (λ r l. sent-length (layout_of plan) k up s q visit e more r l) ∙ slab_faces-add_up

  faces_fit : faces_at (layout_of plan) k up s q ≤ other_extents (layout_of plan) k
  faces_fit =
      subst (λ (n : ℕ). faces_at (layout_of plan) k up s q ≤ n) slab_faces-add_up
      (sum_term-le (layout_of plan).p q (faces_at (layout_of plan) k up s) asked_here.processor_below)

  -- no message has more than 4,294,967,295 elements
  pub lengths_fit : (length_of visit.sends ≤ 4294967295) × (length_of visit.expects ≤ 4294967295)
  unfolding visit_of sends_after expects_before
  lengths_fit =
      let faces : ℕ = faces_at (layout_of plan) k up s q in
      let short : faces ≤ 4294967295 = le_trans faces_fit asked_here.extents_fit in
      subst (λ (v : Visit). (length_of v.sends ≤ 4294967295) × (length_of v.expects ≤ 4294967295))
      ((timetable_answered (layout_of plan) k up s q visit).0 e).1 (
        le_trans (length_unless (eqb (suc s) (cut_of (layout_of plan) k)) (neighbour_by (layout_of plan) k up q) faces) short,
        le_trans (length_unless (eqb s 0) (neighbour_by (layout_of plan) k (not up) q) faces) short,
      )

-- ---- even plans: the planner's and diagonal ones

-- "every processor owns exactly tiles / (bk · p) tiles of each slab": so many it works on in every step, and the share is not rounded
pub even_tiles : (job : Job) (plan : Plan) → EvenPlan job plan → (k : ℕ) (up : Bool) (s q : ℕ) (visit : Visit)
    → timetable_answer (layout_of plan) k up s q ≡ answered visit
    → (visit.tiles ≡ tiles_of (layout_of plan) / (cut_of (layout_of plan) k * (layout_of plan).p))
    × (cut_of (layout_of plan) k * (layout_of plan).p ∣ tiles_of (layout_of plan))
even_tiles job plan even k up s q visit e = (
  tiles_are-held layout k up s q visit e
      ∙ ap (λ (v : ℕ). held layout.cuts (owner_by layout) (k - 1) v q) (slab_is layout k up s q visit e)
      ∙ sym (held-ext layout.cuts (owner_in plan) (owner_by layout) (k - 1) (slab_visited (cut_of layout k) up s) q
      (λ x w. owner_by_lem job plan even.holds_job even.is_in_shape x w))
      ∙ even.shares (k - 1) (slab_visited (cut_of layout k) up s) q in_cuts
      (slab_visited_below (cut_of layout k) up s here.step_below) (subst (λ (n : ℕ). q < n) p_is here.processor_below)
      ∙ ap (λ (n : ℕ). tiles_of layout / (cut_of layout k * n)) (sym p_is),
  subst⁻¹ (λ (n : ℕ). cut_of layout k * n ∣ tiles_of layout) p_is (even.share_exact (k - 1) in_cuts),
)
  where
    layout : Layout
    layout = layout_of plan

    here : Asked layout k s q
    here = asked layout k up s q visit e

    p_is : layout.p ≡ job.p
    p_is = ap (λ (j : Job). j.p) even.holds_job

    in_cuts : k - 1 < length layout.cuts
    in_cuts = within layout.cuts (k - 1) s here.step_below

-- the same of a plan by value, as `plan_job` answers it and as `diagonal_job` answers it
module _ (job : Job) (layout : Layout) (k : ℕ) (up : Bool) (s q : ℕ) (visit : Visit) (e : timetable_answer (layout_of (plan_of layout)) k up s q ≡ answered visit) where
  abbrev Share : Layout → Type 0
  Share plan = (visit.tiles ≡ tiles_of plan / (cut_of plan k * plan.p)) × (cut_of plan k * plan.p ∣ tiles_of plan)

  pub planner_tiles : plan_answer job ≡ answered layout → Share layout
  planner_tiles made =
      subst Share (layout_of-plan layout (plan_sized job layout made)) (even_tiles job (plan_of layout) (planner_even job layout made) k up s q visit e)

  pub diagonal_tiles : diagonal_answer job ≡ answered layout → Share layout
  diagonal_tiles made =
      subst Share (layout_of-plan layout (diagonal_answer_sized job layout made)) (even_tiles job (plan_of layout) (diagonal_even job layout made) k up s q visit e)
