-- The sweep timetable (document 02, request b). A question numbers dimensions from 1, slabs, steps and processors from 0; true is up.
use Rattle.std.specs.Prelude.{Bool, true, false, not, cond, ◌&&◌, [], ◌∷◌, ◌≡◌, ℕ, suc, ◌-◌, ◌≤◌, ◌<◌, leb, ltb, eqb}
use Rattle.std.proofs.Math.Option.{Option, none, some}
use Rattle.numbers.specs.Products.{product, without}
use Rattle.multipartition.specs.Answers.{Answer, answered, refused, Check, checked}
use Rattle.multipartition.specs.Neighbours.{neighbour_at}
use Rattle.multipartition.specs.Plans.{Layout, between, in_shape}
use Rattle.multipartition.specs.Questions.{cut_of, shape_check, dimension_check, range_check, owner_by}
use Rattle.multipartition.specs.Rivals.{held}
use Rattle.timetable.specs.Faces.{faces_held}

-- the neighbour of processor q along dimension k, as the neighbour question answers
abbrev pub neighbour_by : Layout → ℕ → Bool → ℕ → Option ℕ
neighbour_by plan k = neighbour_at plan.cuts plan.moduli plan.matrix (k - 1)

-- "the product of the other extents"
abbrev pub other_extents : Layout → ℕ → ℕ
other_extents plan k = product (without (k - 1) plan.extents)

-- "Step s visits slab s going up and slab bk − 1 − s going down.": b is the number of slabs
abbrev pub slab_visited : ℕ → Bool → ℕ → ℕ
slab_visited b true s = s
slab_visited b false s = b - 1 - s

-- the sum of processor q's own faces in the slab that step s visits
unfoldable pub faces_at : Layout → ℕ → Bool → ℕ → ℕ → ℕ
faces_at plan k up s q = faces_held plan.extents plan.cuts (owner_by plan) (k - 1) (slab_visited (cut_of plan k) up s) q

-- a processor with the length in elements of the message to it or from it; none is "no processor, length 0"
abbrev pub Message : Type 0
Message = Option (ℕ × ℕ)

abbrev pub message_with : Option ℕ → ℕ → Message
message_with none length = none
message_with (some processor) length = some (processor, length)

abbrev pub length_of : Message → ℕ
length_of none = 0
length_of (some (processor, length)) = length

-- "A processor sends to its neighbour along that dimension in the sweep's direction"; "a message is the sum of the sender's faces in that slab":
-- q is the sender, and the slab the one that it has visited. "After the last step nothing is sent".
unfoldable pub sends_after : Layout → ℕ → Bool → ℕ → ℕ → Message
sends_after plan k up s q = cond (eqb (suc s) (cut_of plan k)) none (message_with (neighbour_by plan k up q) (faces_at plan k up s q))

-- It "receives from its neighbour in the opposite one"; "The length expected is the sum of the receiver's own faces in the slab it is about to
-- visit": q is the receiver, and the slab the one of this step. "before step 0 nothing is expected".
unfoldable pub expects_before : Layout → ℕ → Bool → ℕ → ℕ → Message
expects_before plan k up s q = cond (eqb s 0) none (message_with (neighbour_by plan k (not up) q) (faces_at plan k up s q))

-- "it gives the slab visited, how many tiles that processor works on, the processor it sends to afterwards with the message length in elements,
-- and the processor it receives from beforehand with the length it expects"
pub record Visit : Type 0 where
  pub slab : ℕ
  pub tiles : ℕ
  pub sends : Message
  pub expects : Message

unfoldable pub visit_of : Layout → ℕ → Bool → ℕ → ℕ → Visit
visit_of plan k up s q = record {
  slab = slab_visited (cut_of plan k) up s;
  tiles = held plan.cuts (owner_by plan) (k - 1) (slab_visited (cut_of plan k) up s) q;
  sends = sends_after plan k up s q;
  expects = expects_before plan k up s q;
}

-- "11, the product of the other extents is above 4,294,967,295"
abbrev pub other_extents_check : Layout → ℕ → Check
other_extents_check plan k = record { fails = not (leb (other_extents plan k) 4294967295); number = 11; place = 0 }

-- "For a plan, a dimension, a direction, a step and a processor": 11 comes "after 7 and before 8; a step not below bk is an 8"
unfoldable pub timetable_answer : Layout → ℕ → Bool → ℕ → ℕ → Answer Visit
timetable_answer plan k up s q =
    checked (shape_check plan ∷ dimension_check plan k ∷ other_extents_check plan k ∷ range_check (ltb s (cut_of plan k) && ltb q plan.p) ∷ [])
    (answered (visit_of plan k up s q))

-- ---- what the answers say

-- a question that passes the checks
pub record Asked (plan : Layout) (k s q : ℕ) : Type 0 where
  pub shape : in_shape plan ≡ true
  pub dimension : between 1 plan.d k ≡ true
  pub extents_fit : other_extents plan k ≤ 4294967295
  pub step_below : s < cut_of plan k
  pub processor_below : q < plan.p

-- processor q is answered that after step s it sends r a message of n elements
abbrev pub Sends : Layout → ℕ → Bool → ℕ → ℕ → ℕ → ℕ → Type 0
Sends plan k up s q r n = (visit : Visit) × (timetable_answer plan k up s q ≡ answered visit) × (visit.sends ≡ some (r, n))

-- processor q is answered that before step s it expects from r a message of n elements
abbrev pub Expects : Layout → ℕ → Bool → ℕ → ℕ → ℕ → ℕ → Type 0
Expects plan k up s q r n = (visit : Visit) × (timetable_answer plan k up s q ≡ answered visit) × (visit.expects ≡ some (r, n))

-- the length that an answer says is sent; none is 0
abbrev pub sent_in : Answer Visit → ℕ
sent_in (answered visit) = length_of visit.sends
sent_in (refused number place) = 0
